-- `strip_updates::add` meets its contract: the run is written byte by byte, and what is read is as at entry.
-- Assumes nothing.
use mathlib.Core.Path.{ap}
use Prim.Native.Nat.{ℕ}
use native.Mathlib.Omega.{arith}
use lib.ListN.{get_or}
use Rattle.gf2.specs.Sets.{◌⊕◌}
use Rattle.strip_blocks.proofs.Runs.{run_byte, run_all}
use borrow.Author.Rules.{rules}
use Rattle.strip_updates.proofs.add.Goals as goal

pub loop-t-preserved : goal.loop-t-preserved
unfolding ◌⊕◌
loop-t-preserved c =
    let lp = c.loop-t in
    let change = c.args.change.now in
    let r = lp.invariant.1 in (
      search rules,
      run_byte _ _ _ _ _ _ r (omega (arith, r.long)) (ap (λ (x : ℕ). x ⊕ get_or change lp.t 0) (r.after _ (omega arith))),
    )

pub returns : goal.returns
returns c = run_all _ _ _ _ _ _ c.loop-t.invariant.1 (search rules) (search rules)
