-- What a caller makes of the answers on the rows and the checks of a code: the undetermined disks, whether the survivors are consistent, and
-- the strips that the equations fill.
-- Assumes nothing.
use mathlib.Core.Path.{◌≡◌, sym, ap, ◌∙◌, subst}
use mathlib.Core.Bool.{not, ◌&&◌}
use mathlib.Core.Logic.{◌⊎◌, inl, inr, ◌≢◌, ◌↔◌, ⊎_elim}
use mathlib.Core.List.{List}
use Prim.Native.Nat.{ℕ, ◌^◌, ◌≤◌, ◌<◌}
use native.Mathlib.Nat.{lt_of_lt_of_le}
use lib.Dec.{T, ltb}
use lib.ListN.{get_or}
use Rattle.std.specs.Prelude.{if◌then◌else◌}
use Rattle.gf2.specs.Sets.{has, ◌⊆◌, union}
use Rattle.gf2.specs.Within.{within}
use Rattle.gf2.proofs.Tests.{dec, and_in, if_true, ltb_in, below_or}
use Rattle.gf2.proofs.Bits.{bit_above, not-has}
use Rattle.gf2.proofs.Subsets.{⊆_out, zero-⊆}
use Rattle.flat.specs.Lists.{set_of, tabulate}
use Rattle.flat.specs.Cards.{Code, disks}
use Rattle.flat.specs.Erasures.{survivors, fatal, undetermined_set}
use Rattle.flat.specs.Spans.{rows, checks}
use Rattle.flat.specs.Repairs.{filled, all_vanish, consistent, equation_in, equation_among}
use Rattle.flat.proofs.Lists.{get_d_tabulate}
use Rattle.flat.proofs.Positions.{filled_cong}
use Rattle.flat.proofs.Duality.{survivor_out}
use Rattle.flat.proofs.Undetermined.{undetermined-set, fatal-undetermined, determined_in}
use Rattle.flat.proofs.Theorems.{equation-left, no-equation-left}

-- the disks of n that are not lost, as the contracts write them
abbrev rest : ℕ → ℕ → ℕ
rest n S = set_of n (λ i. not (has S i))

module _ (C : Code) (S : ℕ) (bs : List ℕ) where
  pub undetermined-is : bs ≡ rows C → union (within S bs) ≡ undetermined_set C S
  undetermined-is e = ap (λ (l : List ℕ). union (within S l)) e ∙ sym (undetermined-set C S)

  -- the set is fatal exactly where some disk is undetermined
  pub undetermined-fatal : (r : ℕ) → bs ≡ rows C → r ≡ union (within S bs) → T (fatal C S) ↔ (r ≢ 0)
  undetermined-fatal r is e =
      subst (λ (x : ℕ). T (fatal C S) ↔ (x ≢ 0)) (sym (e ∙ undetermined-is is)) (fatal-undetermined C S)

  -- the words all vanish exactly where the survivors are consistent
  pub words-consistent : (L : ℕ) (stripe words : List ℕ) → bs ≡ checks C → words ≡ within (rest (disks C) S) bs
      → all_vanish (disks C) L stripe words ≡ consistent C L S stripe
  unfolding consistent survivors
  words-consistent L stripe words e f = ap (all_vanish (disks C) L stripe) (f ∙ ap (within (rest (disks C) S)) e)

  -- an equation of a lost disk has survivors alone, and that of an undetermined one is empty
  pub equation-inside : (d : ℕ) → d < disks C → T (has S d) → T (equation_among C S d ⊆ survivors C S)
  equation-inside d l t =
      ⊎_elim (λ v. subst (λ (E : ℕ). T (E ⊆ survivors C S)) (sym (no-equation-left C S d v)) (zero-⊆ (survivors C S)))
      (λ f. (equation-left C S d l (determined_in C S d t f)).0) (dec (has (undetermined_set C S) d))

  -- by the table of equations of some lost disks, the targets
  module _ (D : ℕ) (table : List ℕ) (fits : disks C ≤ 32) (inside : S < 2 ^ disks C) (lost : T (D ⊆ S)) (is : bs ≡ checks C)
      (e : table ≡ tabulate 32 (λ d. if ltb d (disks C) && has D d then equation_in bs (rest (disks C) S) d else 0)) where
    below : (d : ℕ) → T (has D d) → d < disks C
    below d t = go (below_or d (disks C))
      where
        go : (d < disks C) ⊎ (disks C ≤ d) → d < disks C
        go (inl l) = l
        go (inr l) = absurd (not-has S d (bit_above (disks C) S d inside l) (⊆_out D S lost d t))

    equation-at : (d : ℕ) → T (has D d) → get_or table d 0 ≡ equation_among C S d
    unfolding equation_among survivors
    equation-at d t =
        let l = below d t in
        ap (λ (r : List ℕ). get_or r d 0) e
        ∙ get_d_tabulate 32 (λ i. if ltb i (disks C) && has D i then equation_in bs (rest (disks C) S) i else 0) d (lt_of_lt_of_le l fits)
        ∙ if_true (ltb d (disks C) && has D d) (equation_in bs (rest (disks C) S) d) 0 (and_in (ltb d (disks C)) (has D d) (ltb_in l) t)
        ∙ ap (λ (l : List ℕ). equation_in l (rest (disks C) S) d) is

    -- an equation has no target
    pub apart : (d i : ℕ) → T (has D d) → T (has (get_or table d 0) i) → T (has D i) → ⊥
    apart d i t u w =
        (survivor_out C S i
        (⊆_out (equation_among C S d) (survivors C S) (equation-inside d (below d t) (⊆_out D S lost d t)) i
        (subst (λ (E : ℕ). T (has E i)) (equation-at d t) u))).1
        (⊆_out D S lost i w)

    -- the targets are filled by their equations among the survivors
    pub filled_among : (L : ℕ) (stripe : List ℕ) → filled (disks C) L (λ d. get_or table d 0) D stripe ≡ filled (disks C) L (equation_among C S) D stripe
    filled_among L stripe = filled_cong (disks C) L (λ d. get_or table d 0) (equation_among C S) D stripe equation-at
