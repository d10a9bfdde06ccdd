-- The strips that a list of naming parities changes are those of document 02's update.
-- Assumes nothing.
use mathlib.Core.Path.{◌≡◌, refl, sym, ap, ap₂, ◌∙◌, subst}
use mathlib.Core.Bool.{Bool, true, false}
use mathlib.Core.Logic.{◌⊎◌, inl, inr}
use mathlib.Core.List.{List}
use Prim.Native.Nat.{ℕ, ◌+◌, ◌-◌, ◌*◌, ◌/◌, ◌%◌, ◌≤◌, ◌<◌}
use native.Mathlib.Nat.{add-zero, div-add-mod'}
use native.Mathlib.Numerals.{add-one}
use native.Mathlib.Omega.{arith}
use lib.Dec.{T, eqb}
use lib.ListN.{length, get_or, set, take}
use Rattle.std.specs.Prelude.{if◌then◌else◌}
use Rattle.gf2.specs.Sets.{has, ◌⊕◌, over}
use Rattle.gf2.proofs.Tests.{dec, T-ext, eqb_in, eqb_out, eqb_sym, if_true, if_false}
use Rattle.gf2.proofs.Xor.{⊕-zero, zero-⊕, ⊕_if}
use Rattle.gf2.proofs.Sums.{over_cong, over_zero, over-at}
use Rattle.flat.specs.Lists.{count as count_of}
use Rattle.flat.specs.Cards.{Code, disks, column}
use Rattle.flat.specs.Strips.{byte_of}
use Rattle.flat.specs.Checks.{row}
use Rattle.flat.proofs.Lists.{tabulate_cong}
use Rattle.flat.proofs.Quantifiers.{has-set}
use Rattle.flat.proofs.Positions.{places, strip-within, strips-apart}
use Rattle.flat.proofs.Words.{by-disk}
use Rattle.strip_blocks.specs.Totals.{total}
use Rattle.strip_blocks.proofs.Placed.{Placed, placed-none, placed_other, placed_skip, placed-more, placed-length, placed-strips, placed-sums}
use Rattle.strip_updates.specs.Changes.{from, share, shares, changed}
use Rattle.strip_updates.proofs.Shares.{from_in, from_out, share_in, share_out}
use Rattle.updating.specs.Updating.{change, updated, naming}
use Rattle.updating.proofs.Rows.{row-has_data, row-has-parity}
use Rattle.updater.specs.Names.{names}

-- byte p as one of the strip of disk i
share-strip : (L : ℕ) (f : ℕ → ℕ) (i p : ℕ) → p % L < L → share (from 0 L) f (i * L) p ≡ (if eqb i (p / L) then f (p % L) else 0)
share-strip L f i p h = go (dec (eqb i (p / L)))
  where
    whole : p / L * L + p % L ≡ p
    whole = div-add-mod' p L

    go : T (eqb i (p / L)) ⊎ (T (eqb i (p / L)) → ⊥) → share (from 0 L) f (i * L) p ≡ (if eqb i (p / L) then f (p % L) else 0)
    go (inl t) =
        let e : i * L ≡ p / L * L = ap (λ (x : ℕ). x * L) (eqb_out i (p / L) t) in
        let r : p - i * L ≡ p % L = omega (arith, whole) in
        share_in (from 0 L) f (i * L) p (omega (arith, whole)) (from_in 0 L (p - i * L) (omega arith) (omega (arith, whole))) ∙ ap f r
        ∙ sym (if_true (eqb i (p / L)) (f (p % L)) 0 t)
    go (inr g) =
        share_out (from 0 L) f (i * L) p (λ k u. apart (strips-apart i (p / L) L (λ e. g (eqb_in e))) k (from_out 0 L (p - i * L) u).1)
        ∙ sym (if_false (eqb i (p / L)) (f (p % L)) 0 g)
      where
        apart : (i * L + L ≤ p / L * L) ⊎ (p / L * L + L ≤ i * L) → i * L ≤ p → p - i * L < 0 + L → ⊥
        apart (inl a) k m = omega (arith, whole)
        apart (inr a) k m = omega (arith, whole)

module _ (C : Code) (d : ℕ) where
  pub names-has : (j : ℕ) → j < C.m → has (names C d) j ≡ has (column C j) d
  unfolding names
  names-has j l = has-set C.m (λ j. has (column C j) d) j l

  -- data disk d, and the parities that name it, are row d
  row-sum : (v : ℕ) → d < C.k → (i : ℕ) → i < disks C
      → (if eqb d i then v else 0) ⊕ over C.m (names C d) (λ j. if eqb (C.k + j) i then v else 0) ≡ (if has (row C d) i then v else 0)
  unfolding disks
  row-sum v l = by-disk C (λ i. i < disks C → both i ≡ (if has (row C d) i then v else 0)) data_disk parity-disk
    where
      both : ℕ → ℕ
      both i = (if eqb d i then v else 0) ⊕ over C.m (names C d) (λ j. if eqb (C.k + j) i then v else 0)

      same : (i j : ℕ) → eqb (C.k + i) (C.k + j) ≡ eqb j i
      same i j =
          T-ext (λ (t : T (eqb (C.k + i) (C.k + j))). eqb_in {a = j} {b = i} (let e = eqb_out (C.k + i) (C.k + j) t in omega arith))
          (λ (t : T (eqb j i)). eqb_in {a = C.k + i} {b = C.k + j} (let e = eqb_out j i t in omega arith))

      data_disk : (i : ℕ) → i < C.k → i < disks C → both i ≡ (if has (row C d) i then v else 0)
      data_disk i h m =
          ap (λ (x : ℕ). (if eqb d i then v else 0) ⊕ x)
          (over_cong C.m (names C d) (λ j. if eqb (C.k + j) i then v else 0) (λ j. 0)
          (λ j k u. if_false (eqb (C.k + j) i) v 0 (λ t. let e = eqb_out (C.k + j) i t in omega arith)) ∙ over_zero C.m (names C d))
          ∙ ⊕-zero (if eqb d i then v else 0) ∙ ap (λ (b : Bool). if b then v else 0) (eqb_sym d i ∙ sym (row-has_data C d i h))

      parity-disk : (j : ℕ) → C.k + j < disks C → both (C.k + j) ≡ (if has (row C d) (C.k + j) then v else 0)
      parity-disk j m =
          let h : j < C.m = omega arith in
          ap₂ ◌⊕◌ (if_false (eqb d (C.k + j)) v 0 (λ t. let e = eqb_out d (C.k + j) t in omega arith))
          (over_cong C.m (names C d) (λ i. if eqb (C.k + i) (C.k + j) then v else 0) (λ i. if eqb j i then v else 0)
          (λ i k u. ap (λ (b : Bool). if b then v else 0) (same i j))
          ∙ over-at C.m (names C d) j v h)
          ∙ zero-⊕ (if has (names C d) j then v else 0) ∙ ap (λ (b : Bool). if b then v else 0) (names-has j h ∙ sym (row-has-parity C d j h))

  -- where the list has the places of the naming parities
  pub changed_updated : (L : ℕ) (xs ys new stripe after : List ℕ) → d < C.k → length stripe ≡ disks C * L → ys ≡ xs
      → ((f : ℕ → ℕ) → total (length xs) (λ i. f (get_or xs i 0)) ≡ over C.m (names C d) (λ j. f ((C.k + j) * L)))
      → after ≡ changed (from 0 L) (d * L) ys (length ys) new stripe → after ≡ updated C L d new stripe
  unfolding changed updated change byte_of
  changed_updated L xs ys new stripe after l e given same turn =
      turn
      ∙ ap (λ (at : List ℕ). changed (from 0 L) (d * L) at (length at) new stripe) given
      ∙ tabulate_cong (length stripe) (λ p. get_or stripe p 0 ⊕ shares (from 0 L) f (d * L) xs (length xs) p)
      (λ p. if has (row C d) (p / L) then get_or stripe p 0 ⊕ f (p % L) else get_or stripe p 0)
      (λ p h. let q = places (disks C) L p (subst (λ (x : ℕ). p < x) e h) in
      ap (λ (x : ℕ). get_or stripe p 0 ⊕ x)
      (ap₂ ◌⊕◌ (share-strip L f d p q.1)
      (same (λ a. share (from 0 L) f a p)
      ∙ over_cong C.m (names C d) (λ j. share (from 0 L) f ((C.k + j) * L) p) (λ j. if eqb (C.k + j) (p / L) then f (p % L) else 0)
      (λ j m u. share-strip L f (C.k + j) p q.1))
      ∙ row-sum (f (p % L)) l (p / L) q.0)
      ∙ ⊕_if (has (row C d) (p / L)) (get_or stripe p 0) (f (p % L)))
    where
      f : ℕ → ℕ
      f = change L d new stripe

-- ---- where the strips of data disk d and of the parity disks lie

module _ (C : Code) (d L n : ℕ) (size : n ≡ disks C * L) where
  pub own_inside : d < C.k → d * L + L ≤ n
  unfolding disks
  own_inside h = omega (arith, size, strip-within d (disks C) L (omega arith))

  module _ (xs ys : List ℕ) (given : ys ≡ xs) (strips : (i : ℕ) → i < length xs → (j : ℕ) × (j < C.m) × (get_or xs i 0 ≡ (C.k + j) * L)) where
    pub parities_inside : (i : ℕ) → i < length ys → get_or ys i 0 + L ≤ n
    unfolding disks
    parities_inside i h =
        let p = strips i (omega (arith, ap length given)) in
        omega (arith, ap (λ (at : List ℕ). get_or at i 0) given, p.2, size, strip-within (C.k + p.0) (disks C) L (omega (arith, p.1)))

    pub parities_apart : d < C.k → (i : ℕ) → i < length ys → (get_or ys i 0 + L ≤ d * L) ⊎ (d * L + L ≤ get_or ys i 0)
    parities_apart l i h =
        let p = strips i (omega (arith, ap length given)) in
        inr (omega (arith, ap (λ (at : List ℕ). get_or at i 0) given, p.2, strip-within d (C.k + p.0) L (omega arith)))

-- ---- the list of the naming parities among the first j

module _ (C : Code) (d L : ℕ) where
  abbrev pub Named : ℕ → List ℕ → ℕ → Type 0
  Named j at count = Placed (names C d) C.m 16 (λ i. (C.k + i) * L) j at count × (count ≡ count_of j (λ i. has (column C i) d))

  pub named_none : (at : List ℕ) → length at ≡ 16 → Named 0 at 0
  unfolding count_of
  named_none at e = (placed-none (names C d) C.m 16 (λ i. (C.k + i) * L) at e, refl)

  -- parity disk j is looked at: its place is written after those so far, and counted if it names the disk
  module _ (j : ℕ) (at : List ℕ) (count : ℕ) (r : Named j at count) (l : j < C.m) (x : ℕ) (place : x ≡ (C.k + j) * L) where
    pub named_more : C.m ≤ 16 → has (column C j) d ≡ true → Named (j + 1) (set at count x) (count + 1)
    unfolding count_of
    named_more few e = rw place (
      placed-more (names C d) C.m 16 (λ i. (C.k + i) * L) j at count r.0 l few (names-has C d j l ∙ e),
      rw (add-one j, e) (ap (λ (n : ℕ). n + 1) r.1),
    )

    pub named_skip : has (column C j) d ≡ false → Named (j + 1) (set at count x) count
    unfolding count_of
    named_skip e = (
      placed_skip (names C d) C.m 16 (λ i. (C.k + i) * L) j (set at count x) count
          (placed_other (names C d) C.m 16 (λ i. (C.k + i) * L) j at count x r.0) (names-has C d j l ∙ e),
      rw (add-one j, e) (r.1 ∙ sym (add-zero (count_of j (λ i. has (column C i) d)))),
    )

  -- all of them, by themselves
  module _ (j : ℕ) (at : List ℕ) (count : ℕ) (r : Named j at count) (e : j ≡ C.m) (few : C.m ≤ 16) where
    pub named_count : length (take count at) ≡ naming C d
    unfolding naming
    named_count =
        placed-length (names C d) C.m 16 (λ i. (C.k + i) * L) j at count r.0 (omega arith) ∙ r.1
        ∙ ap (λ (n : ℕ). count_of n (λ i. has (column C i) d)) e

    pub named_strips : (i : ℕ) → i < length (take count at) → (x : ℕ) × (x < C.m) × (get_or (take count at) i 0 ≡ (C.k + x) * L)
    named_strips i h = let p = placed-strips (names C d) C.m 16 (λ i. (C.k + i) * L) j at count r.0 (omega arith) i h in (p.0, p.1, p.3)

    pub named_sums : (f : ℕ → ℕ) → total (length (take count at)) (λ i. f (get_or (take count at) i 0)) ≡ over C.m (names C d) (λ i. f ((C.k + i) * L))
    named_sums f =
        placed-sums (names C d) C.m 16 (λ i. (C.k + i) * L) j at count r.0 (omega arith) f
        ∙ ap (λ (n : ℕ). over n (names C d) (λ i. f ((C.k + i) * L))) e
