-- `strip_lanes::lanes::Lanes::spread` meets its contract: the lanes are written disk after disk.
-- Assumes nothing.
use mathlib.Core.Path.{◌≡◌, ap}
use Prim.Native.Nat.{ℕ, ◌*◌}
use Rattle.strip_blocks.proofs.Runs.{run_all}
use Rattle.strip_lanes.proofs.Spreading.{splat-bits, spread-more}
use borrow.Author.Rules.{rules}
use Rattle.strip_lanes.proofs.lanes.Lanes.spread.Goals as goal

pub loop-i-preserved : goal.loop-i-preserved
loop-i-preserved c =
    let r = c.loop-i.invariant in
    record {
      below = search rules;
      are_bits = splat-bits _ _ _ _ r.are_bits (search rules) c.at.ensures.is_bit c.splat.ensures;
      so_far = spread-more _ _ _ c.args.bits.now c.args.j _ _ r.so_far (search rules) c.splat.ensures (search rules);
    }

pub returns : goal.returns
returns c =
    let e : c.loop-i.i ≡ c.args.k = search rules in
    rw (← c.self.view_is) (run_all _ _ _ _ _ _ c.loop-i.invariant.so_far (ap (λ (x : ℕ). x * 16) e) (search rules))
