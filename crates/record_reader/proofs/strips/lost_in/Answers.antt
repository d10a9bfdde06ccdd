-- `record_reader::strips::lost_in` meets its contract: the set of the lost disks that the loop has passed.
-- Assumes nothing.
use mathlib.Core.Path.{◌≡◌, refl, sym, ap, ◌∙◌}
use Prim.Native.Nat.{ℕ}
use native.Mathlib.Omega.{arith}
use Rattle.flat.specs.Lists.{set_of}
use Rattle.record_format.specs.Records.{lost_in}
use borrow.Author.Rules.{rules}
use Rattle.record_reader.proofs.LostSet.{lost_at, lost_fits, lost-more, lost-same}
use Rattle.record_reader.proofs.strips.lost_in.Goals as goal
use Rattle.record_reader.proofs.strips.lost_in.Goals.{else-file-i, then-file-i}

pub loop-i-init : goal.loop-i-init
unfolding set_of
loop-i-init c = (search rules, refl)

pub overflow_add-lost : goal.overflow_add-lost
overflow_add-lost c =
    record { fits = lost_fits _ _ _ c.loop-i.invariant.1 (omega arith) }

pub loop-i-preserved : goal.loop-i-preserved
loop-i-preserved c = (
  search rules,
  elim c.if-file-i.branch [ then-file-i t ↦ t.lost-is ∙ lost-more _ _ _ c.loop-i.invariant.1 (omega arith) (t.if-file-i.true ∙ c.number.ensures) | else-file-i t ↦ t.lost-is ∙ lost-same _ _ _ c.loop-i.invariant.1 (λ e. t.if-file-i.false (e ∙ sym c.number.ensures)) ],
)

pub returns : goal.returns
unfolding lost_in
returns c = let e : c.loop-i.i ≡ c.args.n = omega arith in c.loop-i.invariant.1 ∙ ap (λ (i : ℕ). set_of i (lost_at c.args.file.now)) e
