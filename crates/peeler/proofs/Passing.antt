-- The pass over the checks, one check at a time.
-- Assumes nothing.
use mathlib.Core.Path.{◌≡◌, refl, sym, ◌∙◌, subst}
use mathlib.Core.Bool.{true, false}
use mathlib.Core.Logic.{◌≢◌}
use mathlib.Core.List.{List}
use Prim.Native.Nat.{ℕ, ◌+◌}
use native.Mathlib.Numerals.{add-one}
use lib.Dec.{ltb}
use lib.ListN.{get_or}
use Rattle.std.specs.Prelude.{if◌then◌else◌}
use Rattle.gf2.specs.Sets.{size, ◌∩◌}
use Rattle.gf2.proofs.Tests.{true-T, false-T, T_true, T_false, T-ext, ltb_in, ltb_out, if_true, if_false}
use Rattle.peeler.specs.Forms.{Found, better, found}
use Rattle.peeler.proofs.Finding.{better_in, better_out}

-- ---- the test

pub not-one : (c s : ℕ) → size c ≢ 1 → better c s ≡ false
not-one c s f = T_false {b = better c s} (λ t. f (better_out c s t).0)

pub one-first : (c s : ℕ) → size c ≡ 1 → s ≡ 0 → better c s ≡ true
one-first c s e z = T_true {b = better c s} (better_in c s e (λ f. absurd (f z)))

pub one_lower : (c s : ℕ) → size c ≡ 1 → s ≢ 0 → better c s ≡ ltb c s
one_lower c s e f = T-ext {a = better c s} {b = ltb c s} (λ t. ltb_in ((better_out c s t).1 f)) (λ t. better_in c s e (λ g. ltb_out c s t))

-- ---- one check more

module _ (ws : List ℕ) (S j d : ℕ) (is : d ≡ (found ws S j).set) where
  abbrev new : Found
  new = record { set = get_or ws j 0 ∩ S; word = get_or ws j 0 }

  more : (if better (get_or ws j 0 ∩ S) d then new else found ws S j) ≡ found ws S (j + 1)
  unfolding found
  more =
      rw add-one
      (subst (λ (x : ℕ). (if better (get_or ws j 0 ∩ S) d then new else found ws S j) ≡ (if better (get_or ws j 0 ∩ S) x then new else found ws S j)) is refl)

  pub pass_better : better (get_or ws j 0 ∩ S) d ≡ true → new ≡ found ws S (j + 1)
  pass_better e = sym (if_true (better (get_or ws j 0 ∩ S) d) new (found ws S j) (true-T {b = better (get_or ws j 0 ∩ S) d} e)) ∙ more

  pub pass_older : better (get_or ws j 0 ∩ S) d ≡ false → found ws S j ≡ found ws S (j + 1)
  pass_older e = sym (if_false (better (get_or ws j 0 ∩ S) d) new (found ws S j) (false-T {b = better (get_or ws j 0 ∩ S) d} e)) ∙ more
