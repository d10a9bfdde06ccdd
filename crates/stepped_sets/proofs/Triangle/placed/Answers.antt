-- Triangle::placed meets its contract. Assumes nothing.
use Prim.Native.Nat.{◌-◌}
use native.Mathlib.Omega.{arith}
use Rattle.gf2.proofs.Bits.{one_shifted}
use Rattle.stepped_sets.proofs.Going.{going_some, going_low, going_high, going_fits, going_end}
use Rattle.stepped_sets.proofs.Triangle.placed.Goals as goal

pub overflow_sub-j : goal.overflow_sub-j
overflow_sub-j c = let l = c.loop-missing in going_some _ _ _ l.set l.missing l.left l.j l.invariant c.loop-missing-test.true

pub overflow_add-set : goal.overflow_add-set
overflow_add-set c =
    let l = c.loop-missing in
    let f = going_fits c.args.self.now c.args.size c.args.i l.set l.missing l.left l.j _ l.invariant (omega arith) c.choose-lacking.ensures (omega arith) (omega arith) in
    omega (arith, one_shifted (l.j - 1) (omega arith), f)

pub loop-missing-preserved-then-lacking-left : goal.loop-missing-preserved-then-lacking-left
loop-missing-preserved-then-lacking-left c =
    let l = c.loop-missing in
    going_high _ _ _ l.set l.missing l.left l.j _ l.invariant (omega arith) c.choose-lacking.ensures _ (one_shifted (l.j - 1) (omega arith)) (omega arith)

pub loop-missing-smaller : goal.loop-missing-smaller
loop-missing-smaller c =
    let l = c.loop-missing in
    let h = going_some _ _ _ l.set l.missing l.left l.j l.invariant c.loop-missing-test.true in
    omega arith

pub loop-missing-preserved : goal.loop-missing-preserved
loop-missing-preserved c =
    let l = c.loop-missing in
    going_low _ _ _ l.set l.missing l.left l.j _ l.invariant (omega arith) c.choose-lacking.ensures (omega arith)

pub returns : goal.returns
returns c = going_end _ _ _ _ _ _ _ c.loop-missing.invariant (omega arith)
