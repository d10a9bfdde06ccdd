-- The table of weights: an entry out of an earlier one, which disks its places name, and that a set's rank out of it is the rank.
-- Assumes nothing.
use mathlib.Core.Path.{◌≡◌, refl, sym, ap, ap₂, ◌∙◌, subst}
use mathlib.Core.Logic.{◌⊎◌, inl, inr, ⊎_elim, ◌≢◌}
use mathlib.Core.List.{List}
use Prim.Native.Nat.{ℕ, zero, suc, ◌+◌, ◌-◌, ◌*◌, ◌/◌, ◌%◌, ◌^◌, ◌≤◌, ◌<◌}
use native.Mathlib.Nat.{mod-lt, zero-lt-suc, div-eq_of_lt}
use native.Mathlib.Numerals.{add-one}
use native.Mathlib.Omega.{arith}
use lib.Dec.{T}
use lib.ListN.{length, get_or, set, replicate, get_or-eq_default}
use lib.Seq.{ext_get_or}
use lib.Pow.{pow_pos, pow_mono, shr_lt}
use Rattle.gf2.specs.Sets.{has}
use Rattle.gf2.proofs.Tests.{below_or}
use Rattle.gf2.proofs.Bits.{not-has, bit_above}
use Rattle.gf2.proofs.Made.{add_power}
use Rattle.flat.specs.Lists.{tabulate}
use Rattle.flat.proofs.Lists.{length-tabulate, get_d_tabulate, length-padded, get_d_padded, fill_none, fill_more}
use Rattle.wear.specs.Wear.{sum_over}
use Rattle.wear.proofs.Sums.{over_empty, over-plus, over_fun, over_parts, over-most}
use Rattle.least_wear.specs.Forms.{entry_of, places_for, table_to, Table, rank_in, TableRanks}
use Rattle.least_wear.proofs.Ranks.{rank_is}

-- ---- places

places-none : places_for 0 ≡ 0
unfolding places_for
places-none = refl

places-next : (i : ℕ) → places_for (suc i) ≡ 256 * (i / 8) + 2 * 2 ^ (i % 8)
unfolding places_for
places-next i = refl

-- n - 1 is 8 * q + r
places_is : (n : ℕ) → 1 ≤ n → places_for n ≡ 256 * ((n - 1) / 8) + 2 * 2 ^ ((n - 1) % 8)
places_is n one = let e : n ≡ suc (n - 1) = omega arith in ap places_for e ∙ places-next (n - 1)

pub half-few : (i : ℕ) → (1 ≤ 2 ^ (i % 8)) × (2 ^ (i % 8) ≤ 128)
half-few i = (pow_pos (i % 8), pow_mono {i = i % 8} {j = 7} (let h : i % 8 < 8 = mod-lt i (zero-lt-suc 7) in omega arith))

pub places-most : (n : ℕ) → n ≤ 32 → places_for n ≤ 1024
places-most zero h = omega (arith, places-none)
places-most (suc i) h = omega (arith, places-next i, (half-few i).1)

-- ---- entries

-- the definition, opened once
pub rank_in_lem : (table : List ℕ) (E : ℕ)
    → rank_in table E
    ≡ (get_or table (E % 256) 0 + get_or table (256 + E / 256 % 256) 0 + get_or table (512 + E / 65536 % 256) 0 + get_or table (768 + E / 16777216) 0) * 2 ^ 32 + E
unfolding rank_in
rank_in_lem table E = refl

module _ (weight : ℕ → ℕ) where
  -- the weight of a set of eight disks
  abbrev eight : ℕ → ℕ → ℕ
  eight j E = sum_over 8 E (λ i. weight (8 * j + i))

  entry-is : (p : ℕ) → entry_of weight p ≡ eight (p / 256) (p % 256)
  unfolding entry_of
  entry-is p = refl

  pub entry-none : (p : ℕ) → p % 256 ≡ 0 → entry_of weight p ≡ 0
  entry-none p e = entry-is p ∙ ap (eight (p / 256)) e ∙ over_empty 8 (λ i. weight (8 * (p / 256) + i))

  -- with disk r of the eight, out of that without it
  entry_with : (q r b : ℕ) → r < 8 → b < 2 ^ r → entry_of weight (256 * q + 2 ^ r + b) ≡ entry_of weight (256 * q + b) + weight (8 * q + r)
  entry_with q r b l h =
      let most : 2 ^ r ≤ 128 = pow_mono {i = r} {j = 7} (omega arith) in
      let lacks : T (has b r) → ⊥ = not-has b r (bit_above r b r h (omega arith)) in
      let with-q : (256 * q + 2 ^ r + b) / 256 ≡ q = omega arith in
      let with-c : (256 * q + 2 ^ r + b) % 256 ≡ b + 2 ^ r = omega arith in
      let q-is : (256 * q + b) / 256 ≡ q = omega arith in
      let c-is : (256 * q + b) % 256 ≡ b = omega arith in
      entry-is (256 * q + 2 ^ r + b) ∙ ap₂ eight with-q (with-c ∙ add_power r b h)
      ∙ over-plus 8 (λ j. weight (8 * q + j)) b r l lacks
      ∙ ap (λ (x : ℕ). x + weight (8 * q + r)) (sym (entry-is (256 * q + b) ∙ ap₂ eight q-is c-is))

  -- ---- the table

  pub table_empty : replicate 1024 0 ≡ table_to weight (places_for 0)
  unfolding table_to places_for
  table_empty = fill_none 1024 (entry_of weight)

  pub table_more : (p v : ℕ) (out : List ℕ) → p < 1024 → out ≡ table_to weight p → v ≡ entry_of weight p → set out p v ≡ table_to weight (p + 1)
  unfolding table_to
  table_more p v out l e h = fill_more 1024 p v (entry_of weight) out l e h

  pub table_before : (end p : ℕ) → p < end → get_or (table_to weight end) p 0 ≡ entry_of weight p
  unfolding table_to
  table_before end p l = get_d_padded 1024 p (tabulate end (entry_of weight)) ∙ get_d_tabulate end (entry_of weight) p l

  table-after : (end p : ℕ) → end ≤ p → get_or (table_to weight end) p 0 ≡ 0
  unfolding table_to
  table-after end p l =
      let filled = tabulate end (entry_of weight) in
      get_d_padded 1024 p filled ∙ get_or-eq_default filled 0 (let e = length-tabulate end (entry_of weight) in omega arith)

  pub table-long : (end : ℕ) → end ≤ 1024 → length (table_to weight end) ≡ 1024
  unfolding table_to
  table-long end l = length-padded 1024 (tabulate end (entry_of weight)) (omega (arith, length-tabulate end (entry_of weight)))

  pub table-small : ((i : ℕ) → weight i ≤ 522273) → (end p : ℕ) → get_or (table_to weight end) p 0 < 2 ^ 24
  table-small h end p =
      ⊎_elim
      (λ l. omega (arith, table_before end p l, entry-is p, over-most 8 522273 (p % 256) (λ i. weight (8 * (p / 256) + i)) (λ i m. h (8 * (p / 256) + i))))
      (λ l. omega (arith, table-after end p l))
      (below_or p end)

  pub table_fits : ((i : ℕ) → weight i ≤ 522273) → (end : ℕ) (table : List ℕ) → end ≤ 1024 → table ≡ table_to weight end → Table table
  table_fits h end table l e = (ap length e ∙ table-long end l, λ p. subst (λ (t : List ℕ). get_or t p 0 < 2 ^ 24) (sym e) (table-small h end p))

  -- an entry of 0 stands there already
  pub table_skip : (p : ℕ) → p < 1024 → entry_of weight p ≡ 0 → table_to weight p ≡ table_to weight (p + 1)
  table_skip p l e =
      ext_get_or 0 (table_to weight p) (table_to weight (p + 1)) (table-long p (omega arith) ∙ sym (table-long (p + 1) (omega arith)))
      (λ i h. ⊎_elim (λ m. table_before p i m ∙ sym (table_before (p + 1) i (omega arith)))
      (λ m. table-after p i m
      ∙ ⊎_elim (λ k. let q : i ≡ p = omega arith in sym (table_before (p + 1) i k ∙ ap (entry_of weight) q ∙ e))
      (λ k. sym (table-after (p + 1) i k)) (below_or i (p + 1)))
      (below_or i p))

  -- ---- one more disk

  -- before disk i, the sets of its eight without it are there
  disk-first : (i : ℕ) → i < 32 → table_to weight (places_for i) ≡ table_to weight (256 * (i / 8) + 2 ^ (i % 8))
  disk-first zero h = ap (table_to weight) places-none ∙ table_skip 0 (omega arith) (entry-none 0 refl)
  disk-first (suc i) h = go (two (suc i % 8))
    where
      two : (r : ℕ) → (r ≡ 0) ⊎ (r ≢ 0)
      two zero = inl refl
      two (suc r) = inr (λ e. omega arith)

      go : (suc i % 8 ≡ 0) ⊎ (suc i % 8 ≢ 0) → table_to weight (places_for (suc i)) ≡ table_to weight (256 * (suc i / 8) + 2 ^ (suc i % 8))
      go (inl e) =
          let r : i % 8 ≡ 7 = omega arith in
          let at = 256 * (suc i / 8) in
          let p : places_for (suc i) ≡ at = omega (arith, places-next i, ap (λ (x : ℕ). 2 ^ x) r) in
          let q : at + 1 ≡ at + 2 ^ (suc i % 8) = ap (λ (x : ℕ). at + 2 ^ x) (sym e) in
          ap (table_to weight) p ∙ table_skip at (omega arith) (entry-none at (omega arith)) ∙ ap (table_to weight) q
      go (inr f) =
          let r : suc i % 8 ≡ suc (i % 8) = lemma f in
          let p : places_for (suc i) ≡ 256 * (suc i / 8) + 2 ^ (suc i % 8) = omega (arith, places-next i, ap (λ (x : ℕ). 2 ^ x) r) in
          ap (table_to weight) p
        where
          lemma : suc i % 8 ≢ 0 → suc i % 8 ≡ suc (i % 8)
          lemma g = ⊎_elim (λ l. let z : suc i % 8 ≡ suc (i % 8) = omega arith in z) (λ l. absurd (g (omega arith))) (below_or (i % 8) 7)

  -- the code's way to say where they end
  pub disk-begun : (i at half : ℕ) (table : List ℕ) → i < 32 → at ≡ 256 * (i / 8) → half ≡ 2 ^ (i % 8) → table ≡ table_to weight (places_for i)
      → table ≡ table_to weight (at + half + 0)
  disk-begun i at half table l e f is =
      let p : 256 * (i / 8) + 2 ^ (i % 8) ≡ at + half + 0 = omega arith in
      is ∙ disk-first i l ∙ ap (table_to weight) p

  -- the next set with it
  pub disk-more : (i at half b d v : ℕ) (table : List ℕ) → i < 32 → at ≡ 256 * (i / 8) → half ≡ 2 ^ (i % 8) → b < half
      → table ≡ table_to weight (at + half + b) → v ≡ get_or table (at + b) 0 + weight d → d ≡ i
      → set table (at + half + b) v ≡ table_to weight (at + half + (b + 1))
  disk-more i at half b d v table h e f l is v-is d-is =
      let r : i % 8 < 8 = mod-lt i (zero-lt-suc 7) in
      let p : at + half + b ≡ 256 * (i / 8) + 2 ^ (i % 8) + b = omega arith in
      let q : at + b ≡ 256 * (i / 8) + b = omega arith in
      let own : d ≡ 8 * (i / 8) + i % 8 = omega arith in
      let next : at + half + b + 1 ≡ at + half + (b + 1) = omega arith in
      let old : get_or table (at + b) 0 ≡ entry_of weight (at + b) =
      ap (λ (t : List ℕ). get_or t (at + b) 0) is ∙ table_before (at + half + b) (at + b) (omega arith) in
      let new : v ≡ entry_of weight (at + half + b) =
      omega (
        arith,
        v-is,
        old,
        ap weight own,
        ap (entry_of weight) p,
        ap (entry_of weight) q,
        entry_with (i / 8) (i % 8) b r (omega arith),
      ) in
      table_more (at + half + b) v table (omega (arith, (half-few i).1)) is new ∙ ap (table_to weight) next

  -- and all of them
  pub disk-all : (i at half b : ℕ) → at ≡ 256 * (i / 8) → half ≡ 2 ^ (i % 8) → b ≡ half → table_to weight (at + half + b) ≡ table_to weight (places_for (i + 1))
  disk-all i at half b e f g =
      let p : at + half + b ≡ places_for (i + 1) = omega (arith, places-next i, ap places_for (add-one i)) in
      ap (table_to weight) p

  -- ---- ranks

  -- past the places there are no disks
  past_places : (n j x E : ℕ) → 1 ≤ n → E < 2 ^ n → x ≡ E / 2 ^ (8 * j) % 256 → places_for n ≤ 256 * j + x → x ≡ 0
  past_places n j x E one l e h =
      let q = (n - 1) / 8 in
      let r = (n - 1) % 8 in
      let is = places_is n one in
      let most = half-few (n - 1) in
      let few : x < 256 = subst (λ (y : ℕ). y < 256) (sym e) (mod-lt (E / 2 ^ (8 * j)) (zero-lt-suc 255)) in
      ⊎_elim (λ m. absurd (omega arith))
      (λ m. ⊎_elim
      (λ k. let n-is : n ≡ suc r + 8 * j = omega arith in
      let low : E / 2 ^ (8 * j) < 2 ^ suc r = shr_lt (suc r) (8 * j) (subst (λ (y : ℕ). E < 2 ^ y) n-is l) in
      absurd (omega arith))
      (λ k. let wide : 2 ^ n ≤ 2 ^ (8 * j) = pow_mono (let z : n ≤ 8 * j = omega arith in z) in
      let none : E / 2 ^ (8 * j) ≡ 0 = div-eq_of_lt (omega arith) in
      omega arith)
      (below_or j (suc q)))
      (below_or j q)

  -- byte j of a set of disks below n, where it stands in the table
  table-byte : (n E : ℕ) → 1 ≤ n → E < 2 ^ n → (j x p : ℕ) → x ≡ E / 2 ^ (8 * j) % 256 → p ≡ 256 * j + x
      → get_or (table_to weight (places_for n)) p 0 ≡ eight j x
  table-byte n E one l j x p e at =
      let few : x < 256 = subst (λ (y : ℕ). y < 256) (sym e) (mod-lt (E / 2 ^ (8 * j)) (zero-lt-suc 255)) in
      let q : p / 256 ≡ j = omega arith in
      let r : p % 256 ≡ x = omega arith in
      ⊎_elim (λ m. table_before (places_for n) p m ∙ entry-is p ∙ ap₂ eight q r)
      (λ m. table-after (places_for n) p m
      ∙ sym (ap (eight j) (past_places n j x E one l e (omega arith)) ∙ over_empty 8 (λ i. weight (8 * j + i))))
      (below_or p (places_for n))

  -- four bytes
  eights : (E : ℕ)
      → sum_over 32 E weight ≡ eight 0 (E % 256) + eight 1 (E / 256 % 256) + eight 2 (E / 65536 % 256) + eight 3 (E / 16777216)
  eights E =
      let second = E / 256 in
      let third = second / 256 in
      let e : third ≡ E / 65536 = omega arith in
      let f : third / 256 ≡ E / 16777216 = omega arith in
      omega (
        arith,
        over_parts 8 24 E weight,
        over_fun 8 (E % 256) weight (λ i. weight (8 * 0 + i)) (λ i l. let z : i ≡ 8 * 0 + i = omega arith in ap weight z),
        over_parts 8 16 second (λ i. weight (8 + i)),
        over_parts 8 8 third (λ i. weight (8 + (8 + i))),
        over_fun 8 (third % 256) (λ i. weight (8 + (8 + i))) (λ i. weight (8 * 2 + i)) (λ i l. let z : 8 + (8 + i) ≡ 8 * 2 + i = omega arith in ap weight z),
        over_fun 8 (third / 256) (λ i. weight (8 + (8 + (8 + i)))) (λ i. weight (8 * 3 + i))
            (λ i l. let z : 8 + (8 + (8 + i)) ≡ 8 * 3 + i = omega arith in ap weight z),
        ap (λ (x : ℕ). eight 2 (x % 256)) e,
        ap (eight 3) f,
      )

-- the table of no disk
pub none_fits : Table (replicate 1024 0)
none_fits = table_fits (λ i. 0) (λ i. omega arith) (places_for 0) (replicate 1024 0) (places-most 0 (omega arith)) (table_empty (λ i. 0))

pub table_ranks : TableRanks
table_ranks weight n E one h l =
    let wide : 2 ^ n ≤ 2 ^ 32 = pow_mono h in
    let at = table-byte weight n E one l in
    let a = at 0 (E % 256) (E % 256) (omega arith) (omega arith) in
    let b = at 1 (E / 256 % 256) (256 + E / 256 % 256) refl refl in
    let c = at 2 (E / 65536 % 256) (512 + E / 65536 % 256) refl refl in
    let d = at 3 (E / 16777216) (768 + E / 16777216) (omega arith) refl in
    omega (arith, a, b, c, d, eights weight E, rank_is weight E, rank_in_lem (table_to weight (places_for n)) E)
