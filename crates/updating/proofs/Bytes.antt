-- The bytes of an updated stripe: which change, and that an encoded stripe stays one.
-- Assumes nothing.
use mathlib.Core.Path.{◌≡◌, refl, sym, ap, ap₂, ◌∙◌, subst}
use mathlib.Core.Bool.{Bool, true, false}
use mathlib.Core.Logic.{◌⊎◌, inl, inr, ⊎_elim, ◌≢◌, ◌↔◌}
use mathlib.Core.List.{List}
use Prim.Native.Nat.{ℕ, ◌+◌, ◌*◌, ◌/◌, ◌%◌, ◌<◌}
use native.Mathlib.Omega.{arith}
use lib.Arith.{digits_div, digits_mod}
use lib.Dec.{T, eqb}
use lib.ListN.{length, get_or}
use lib.Seq.{ext_get_or}
use Rattle.std.specs.Prelude.{if◌then◌else◌}
use Rattle.gf2.specs.Sets.{has, ◌⊕◌}
use Rattle.gf2.proofs.Tests.{dec, eqb_in, eqb_out, if_true, if_false}
use Rattle.gf2.proofs.Xor.{⊕-zero, ⊕_self, ⊕_comm, ⊕-back, ⊕_if}
use Rattle.flat.specs.Lists.{tabulate, put}
use Rattle.flat.specs.Cards.{Code, disks}
use Rattle.flat.specs.Strips.{byte_of, encoded}
use Rattle.flat.specs.Checks.{row}
use Rattle.flat.proofs.Lists.{length-tabulate}
use Rattle.flat.proofs.Positions.{places, at_place, byte_at, byte_put, encoded-byte, length-encoded}
use Rattle.flat.proofs.Words.{holds_cong, holds-⊕}
use Rattle.updating.specs.Updating.{change, updated}
use Rattle.updating.specs.Theorems.{UpdateXors, UpdateWrites, UpdateChanges, UpdateEncodes, UpdateKeepsLength}
use Rattle.updating.proofs.Rows.{row-own, row-holds}

-- ---- the change

module _ (L d : ℕ) (new stripe : List ℕ) (t : ℕ) where
  -- it makes the old byte the new one, whichever of them comes first in it
  change_makes : byte_of L stripe t d ⊕ change L d new stripe t ≡ get_or new t 0
  unfolding change
  change_makes = cc (⊕-back (byte_of L stripe t d) (get_or new t 0), ⊕_comm (byte_of L stripe t d) (get_or new t 0))

  pub change-is : change L d new stripe t ≡ byte_of L stripe t d ⊕ get_or new t 0
  change-is = sym (⊕-back (byte_of L stripe t d) (change L d new stripe t)) ∙ ap (λ (x : ℕ). byte_of L stripe t d ⊕ x) change_makes

-- ---- the bytes of the stripe

module _ (C : Code) (L d : ℕ) (new stripe : List ℕ) where
  pub update-length : length (updated C L d new stripe) ≡ length stripe
  unfolding updated
  update-length =
      length-tabulate (length stripe) (λ p. if has (row C d) (p / L) then get_or stripe p 0 ⊕ change L d new stripe (p % L) else get_or stripe p 0)

  module _ (e : length stripe ≡ disks C * L) where
    pub updated-byte : (t i : ℕ) → t < L → i < disks C
        → byte_of L (updated C L d new stripe) t i
        ≡ (if has (row C d) i then byte_of L stripe t i ⊕ change L d new stripe t else byte_of L stripe t i)
    unfolding updated byte_of
    updated-byte t i h l =
        let x = get_or stripe (i * L + t) 0 in
        ap (λ (n : ℕ). byte_of L (tabulate n by) t i) e ∙ byte_at (disks C) L by t i h l
        ∙ ap₂ (λ (u j : ℕ). if has (row C d) j then x ⊕ change L d new stripe u else x) (digits_mod i h) (digits_div i h)
      where
        by : ℕ → ℕ
        by p = if has (row C d) (p / L) then get_or stripe p 0 ⊕ change L d new stripe (p % L) else get_or stripe p 0

    pub update-byte : d < C.k → (t : ℕ) → t < L → byte_of L (updated C L d new stripe) t d ≡ get_or new t 0
    unfolding disks
    update-byte l t h =
        updated-byte t d h (omega arith) ∙ if_true (has (row C d) d) _ _ (row-own C d l) ∙ change_makes L d new stripe t

    -- which bytes change
    pub changes : (i t : ℕ) → i < disks C → t < L
        → (byte_of L (updated C L d new stripe) t i ≢ byte_of L stripe t i) ↔ ((get_or new t 0 ≢ byte_of L stripe t d) × T (has (row C d) i))
    changes i t l h = (
      λ ne. (
        λ q. ne (updated-byte t i h l ∙ same q (has (row C d) i)),
        ⊎_elim (λ u. u) (λ f. absurd (ne (updated-byte t i h l ∙ if_false (has (row C d) i) _ _ f))) (dec (has (row C d) i)),
      ),
      λ (ne, u) q. ne (sym (change_makes L d new stripe t)
          ∙ ap (λ (x : ℕ). byte_of L stripe t d ⊕ x)
          (zero_of (byte_of L stripe t i) (change L d new stripe t) (sym (if_true (has (row C d) i) _ _ u) ∙ sym (updated-byte t i h l) ∙ q))
          ∙ ⊕-zero (byte_of L stripe t d)),
    )
      where
        zero_of : (x y : ℕ) → x ⊕ y ≡ x → y ≡ 0
        zero_of x y q = sym (⊕-back x y) ∙ ap (λ (z : ℕ). x ⊕ z) q ∙ ⊕_self x

        same : get_or new t 0 ≡ byte_of L stripe t d → (b : Bool)
            → (if b then byte_of L stripe t i ⊕ change L d new stripe t else byte_of L stripe t i) ≡ byte_of L stripe t i
        same q true =
            ap (λ (x : ℕ). byte_of L stripe t i ⊕ x) (zero_of (byte_of L stripe t d) (change L d new stripe t) (change_makes L d new stripe t ∙ q))
            ∙ ⊕-zero (byte_of L stripe t i)
        same q false = refl

    -- ---- encoding afresh

    module _ (l : d < C.k) (long : length new ≡ L) (fixed : encoded C L stripe ≡ stripe) where
      abbrev again : List ℕ
      again = put stripe (d * L) new

      again-byte : (t i : ℕ) → t < L → byte_of L again t i ≡ (if eqb i d then get_or new t 0 else byte_of L stripe t i)
      unfolding disks
      again-byte t i h = byte_put (disks C) L d new stripe t i (omega arith) long (omega arith) h

      fresh-byte : (t i : ℕ) → t < L → i < disks C → byte_of L (updated C L d new stripe) t i ≡ byte_of L (encoded C L again) t i
      fresh-byte t i h m =
          updated-byte t i h m ∙ sym (⊕_if (has (row C d) i) (byte_of L stripe t i) x)
          ∙ ap₂ ◌⊕◌ (sym (ap (λ (s : List ℕ). byte_of L s t i) fixed) ∙ encoded-byte C L stripe t i h m) (sym (row-holds C d x i l m))
          ∙ sym (holds-⊕ C (byte_of L stripe t) (λ j. if eqb d j then x else 0) i)
          ∙ holds_cong C (λ j. byte_of L stripe t j ⊕ (if eqb d j then x else 0)) (byte_of L again t) i (λ j n. disk j (dec (eqb j d)) ∙ sym (again-byte t j h))
          ∙ sym (encoded-byte C L again t i h m)
        where
          x : ℕ
          x = change L d new stripe t

          disk : (j : ℕ) → T (eqb j d) ⊎ (T (eqb j d) → ⊥)
              → byte_of L stripe t j ⊕ (if eqb d j then x else 0) ≡ (if eqb j d then get_or new t 0 else byte_of L stripe t j)
          disk j (inl u) =
              let q = eqb_out j d u in
              ap₂ (λ (i : ℕ) (y : ℕ). byte_of L stripe t i ⊕ y) q (if_true (eqb d j) x 0 (eqb_in (sym q))) ∙ change_makes L d new stripe t
              ∙ sym (if_true (eqb j d) (get_or new t 0) (byte_of L stripe t j) u)
          disk j (inr f) =
              ap (λ (y : ℕ). byte_of L stripe t j ⊕ y) (if_false (eqb d j) x 0 (λ u. f (eqb_in (sym (eqb_out d j u))))) ∙ ⊕-zero (byte_of L stripe t j)
              ∙ sym (if_false (eqb j d) (get_or new t 0) (byte_of L stripe t j) f)

      pub afresh : updated C L d new stripe ≡ encoded C L again
      afresh =
          ext_get_or 0 (updated C L d new stripe) (encoded C L again) (update-length ∙ e ∙ sym (length-encoded C L again))
          (λ p b. let q = places (disks C) L p (subst (λ (x : ℕ). p < x) (update-length ∙ e) b) in
          at_place L (updated C L d new stripe) p ∙ fresh-byte (p % L) (p / L) q.1 q.0 ∙ sym (at_place L (encoded C L again) p))

pub update_xors : UpdateXors
update_xors C L d i t new stripe e l h = rw (sym (change-is L d new stripe t)) (updated-byte C L d new stripe e t i h l)

pub update_writes : UpdateWrites
update_writes C L d t new stripe l e h = update-byte C L d new stripe e l t h

pub update-changes : UpdateChanges
update-changes C L d i t new stripe l e m h =
    rw (update-byte C L d new stripe e l t h) (changes C L d new stripe e i t m h)

pub update-encodes : UpdateEncodes
update-encodes C L d new stripe l e long fixed = afresh C L d new stripe e l long fixed

pub update-keeps-length : UpdateKeepsLength
update-keeps-length = update-length
