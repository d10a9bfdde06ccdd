-- `strip_lanes::lanes::Lanes::add` meets its contract: the block is written piece by piece.
-- Assumes nothing.
use mathlib.Core.Path.{◌≡◌, ap}
use Prim.Native.Nat.{ℕ, ◌*◌}
use Rattle.strip_blocks.proofs.Runs.{run_whole}
use Rattle.strip_lanes.proofs.Spreading.{added_byte, piece-more}
use borrow.Author.Rules.{rules}
use Rattle.strip_lanes.proofs.lanes.Lanes.add.Goals as goal

pub loop-q-preserved : goal.loop-q-preserved
loop-q-preserved c =
    let a = c.args in
    (search rules, piece-more _ a.s.now a.at a.self.now a.i _ _ _ c.loop-q.invariant.1 (search rules) c.add_piece.ensures)

pub returns : goal.returns
returns c =
    let e : c.loop-q.q ≡ 8 = search rules in
    let a = c.args in
    run_whole _ (added_byte a.block.now a.s.now a.at a.self.now a.i) 128 _ _ c.loop-q.invariant.1 (ap (λ (q : ℕ). q * 16) e) (search rules)
