-- The report and the stripe past the tests of the arguments, by what the rows and `restorer::restore` told.
-- Assumes nothing.
use mathlib.Core.Path.{◌≡◌, sym, ap, ◌∙◌, subst}
use mathlib.Core.Bool.{Bool, true, false}
use mathlib.Core.List.{List, [], ◌∷◌}
use Prim.Native.Nat.{ℕ, ◌*◌, ◌≤◌}
use lib.Dec.{T}
use lib.ListN.{length}
use Rattle.std.specs.Prelude.{if◌then◌else◌}
use Rattle.gf2.specs.Sets.{has, ◌∖◌, ◌⊆◌, union}
use Rattle.gf2.specs.Within.{within}
use Rattle.gf2.proofs.Subsets.{⊆_in, ⊆-refl, ∖_out}
use Rattle.flat.specs.Lists.{Bytes}
use Rattle.flat.specs.Cards.{Code, disks}
use Rattle.flat.specs.Erasures.{undetermined_set, determined_set}
use Rattle.flat.specs.Spans.{rows}
use Rattle.flat.specs.Rebuilding.{agreeing, restored}
use Rattle.flat.specs.Repairs.{filled, consistent, equation_among}
use Rattle.flat.specs.Faults.{accepted, refused}
use Rattle.repairs.proofs.Callers.{undetermined-is}
use Rattle.restorer.proofs.Callers.{none-report, some-report, restored-some}
use Rattle.partial_rebuilding.specs.Faults.{found_report}

-- the targets are lost disks
pub targets_lost : (D S u : ℕ) → D ≡ S ∖ u → T (D ⊆ S)
targets_lost D S u e = ⊆_in D S (λ i t. (∖_out S u i (subst (λ (x : ℕ). T (has x i)) e t)).0)

module _ (C : Code) (L S : ℕ) (stripe : List ℕ) (bs : List ℕ) (u : ℕ) (is : bs ≡ rows C) (eu : u ≡ union (within S bs)) where
  told : u ≡ undetermined_set C S
  told = eu ∙ undetermined-is C S bs is

  targets_are : S ∖ u ≡ determined_set C S
  unfolding determined_set
  targets_are = ap (λ (x : ℕ). S ∖ x) told

  module _ (long : 1 ≤ L) (bytes : Bytes stripe) (r : Bool) (e : r ≡ consistent C L S stripe) where
    pub inconsistent_report : r ≡ false → refused 12 [] ≡ found_report (undetermined_set C S) (agreeing C L S stripe)
    unfolding found_report
    inconsistent_report f = none-report C L S stripe long bytes r e (found_report (undetermined_set C S)) f

    pub restored-report : r ≡ true → accepted (u ∷ []) ≡ found_report (undetermined_set C S) (agreeing C L S stripe)
    unfolding found_report
    restored-report t =
        some-report C L S stripe long bytes r e (found_report (undetermined_set C S)) (accepted (u ∷ []))
        (λ c cs. ap (λ (x : ℕ). accepted (x ∷ [])) told) t

    pub brought-back : (D : ℕ) (after : List ℕ) → D ≡ S ∖ u → length stripe ≡ disks C * L → r ≡ true
        → after ≡ (if r then filled (disks C) L (equation_among C S) D stripe else stripe)
        → after ≡ restored C L (determined_set C S) stripe (agreeing C L S stripe)
    brought-back D after ed whole t q =
        let same = ed ∙ targets_are in
        restored-some C L S stripe long bytes r e D after whole (subst (λ (x : ℕ). T (x ⊆ determined_set C S)) (sym same) (⊆-refl (determined_set C S))) t q
        ∙ ap (λ (x : ℕ). restored C L x stripe (agreeing C L S stripe)) same
