-- The call's report at each way out, in the words of the code.
-- Assumes nothing.
use mathlib.Core.Path.{◌≡◌, sym, ap, ap₂, ◌∙◌, subst}
use mathlib.Core.Bool.{Bool, true, false, not}
use mathlib.Core.Logic.{◌≢◌}
use mathlib.Core.List.{List, [], ◌∷◌}
use Prim.Native.Nat.{ℕ, ◌%◌, ◌^◌, ◌≤◌, ◌<◌}
use native.Mathlib.Omega.{arith}
use borrow.Author.Tests.{le-ltb}
use lib.Bits.{bit_or, bit_xor}
use lib.Dec.{T, ltb}
use lib.ListN.{length, get_or}
use Rattle.gf2.specs.Sets.{has, set_of, ◌⊕◌, ◌∪◌, ◌∖◌}
use Rattle.gf2.specs.Span.{select}
use Rattle.gf2.specs.Within.{within}
use Rattle.gf2.proofs.Tests.{true-T}
use Rattle.flat.specs.Cards.{Code, disks, set_ok}
use Rattle.flat.specs.Erasures.{survivors}
use Rattle.flat.specs.Spans.{checks}
use Rattle.flat.specs.Repairs.{holder}
use Rattle.flat.specs.Faults.{accepted, refused}
use Rattle.wear.specs.Wear.{lost_with, least_wear_tests}
use Rattle.wear.proofs.Left.{left}
use Rattle.card.specs.Codes.{Legal}
use Rattle.least_wear.specs.Forms.{weight_of, places_for, table_to, rank_in, LeastOf}
use Rattle.least_wear.proofs.Walks.{least-same}
use Rattle.least_wear.proofs.Choosing.{held, none-held, first, others, least-met}

module _ (C : Code) (ws : List ℕ) (d S n : ℕ) (n-is : n ≡ disks C) where
  inside_set : (b : Bool) → ltb S (2 ^ n) ≡ b → set_ok C S ≡ b
  unfolding set_ok
  inside_set b e = ap (λ (i : ℕ). ltb S (2 ^ i)) (sym n-is) ∙ e

  pub outside : ltb S (2 ^ n) ≡ false → refused 8 [] ≡ least_wear_tests C ws d S
  unfolding least_wear_tests
  outside e = simp (inside_set false e)

  pub no_disk : ltb S (2 ^ n) ≡ true → n ≤ d → refused 9 [] ≡ least_wear_tests C ws d S
  unfolding least_wear_tests
  no_disk e l = simp (inside_set true e, le-ltb d (disks C) (omega arith))

  -- the survivors, the checks, the check words of survivors and disk, and the first that holds the disk
  module _ (inside : ltb S (2 ^ n) ≡ true) (l : d < n) (own A h : ℕ) (bs words : List ℕ) (own_is : own ≡ 2 ^ d)
      (A-is : A ≡ set_of n (λ i. not (has (bit_or S own) i))) (bs-is : bs ≡ checks C) (words_are : words ≡ within (bit_xor A own) bs)
      (h-is : h ≡ holder d words) where
    set_ok_lem : T (set_ok C S)
    set_ok_lem = true-T (inside_set true inside)

    disk_ok : d < disks C
    disk_ok = omega (arith, l, n-is)

    left_is : A ≡ left C d S
    unfolding survivors lost_with ◌∪◌
    left_is = A-is ∙ ap₂ (λ (i o : ℕ). set_of i (λ j. not (has (bit_or S o) j))) n-is own_is

    all_held : words ≡ held C ws d S set_ok_lem disk_ok
    unfolding ◌⊕◌
    all_held = words_are ∙ ap₂ within (ap₂ bit_xor left_is own_is) bs-is

    holder-is : h ≡ holder d (held C ws d S set_ok_lem disk_ok)
    holder-is = h-is ∙ ap (holder d) all_held

    pub none : h ≡ 0 → refused 11 [] ≡ least_wear_tests C ws d S
    none e = sym (none-held C ws d S set_ok_lem disk_ok (sym holder-is ∙ e))

    pub best : h ≢ 0 → Legal C → length ws ≡ disks C → ((i : ℕ) → i < disks C → 1 ≤ get_or ws i 0)
        → (k : ℕ) (table rest : List ℕ) (E r : ℕ) → k ≡ C.k → table ≡ table_to (weight_of k ws) (places_for (length ws)) → E ≡ h ∖ own
        → rest ≡ within A words → LeastOf (λ x. rank_in table (E ⊕ select rest x)) (2 ^ length rest) r
        → accepted ((r % 2 ^ 32) ∷ []) ≡ least_wear_tests C ws d S
    unfolding disks
    best some legal each worn k table rest E r k-is table_is E-is rest-is least =
        sym (least-met C ws d S set_ok_lem disk_ok (λ e. some (holder-is ∙ e)) (omega (arith, legal.0)) (omega (arith, legal.1, legal.3)) legal.3 worn r
        (least-same (λ x. rank_in table (E ⊕ select rest x)) _ (2 ^ length (others C ws d S set_ok_lem disk_ok)) r
        (λ x b. ap₂ rank_in as_needed (ap₂ (λ (F : ℕ) (us : List ℕ). F ⊕ select us x) first-is others_are))
        (subst (λ (i : ℕ). LeastOf (λ x. rank_in table (E ⊕ select rest x)) (2 ^ i) r) (ap length others_are) least)))
      where
        as_needed : table ≡ table_to (weight_of C.k ws) (places_for (disks C))
        as_needed = table_is ∙ ap₂ (λ (i j : ℕ). table_to (weight_of i ws) (places_for j)) k-is each

        first-is : E ≡ first C ws d S set_ok_lem disk_ok
        first-is = E-is ∙ ap₂ (λ (w e : ℕ). w ∖ e) holder-is own_is

        others_are : rest ≡ others C ws d S set_ok_lem disk_ok
        others_are = rest-is ∙ ap₂ within left_is all_held
