-- `tray::peel_each` meets its contract: after i turns the first i stripes are done.
-- Assumes nothing.
use mathlib.Core.Path.{refl}
use native.Mathlib.Omega.{arith}
use borrow.Author.Rules.{rules}
use Rattle.tray.proofs.Turning.{turn-start, turn-place, turn-steps, turn_more, turn_end}
use Rattle.tray.proofs.peel_each.Goals as goal

pub loop-i-init : goal.loop-i-init
loop-i-init c =
    let a = c.args in
    (omega arith, refl, refl, refl, turn-start a.code.now a.l a.budget a.sets.now a.tray.now c.requires.2)

pub peel_at-made-requires : goal.peel_at-made-requires
peel_at-made-requires c =
    let a = c.args in
    let place = turn-place a.code.now a.l a.budget a.sets.now a.tray.now c.requires.2 c.loop-i.i (search rules) in
    (c.requires.0, rw c.n-n.ensures.value (omega (arith, place, c.loop-i.invariant.3)))

pub overflow_add-steps : goal.overflow_add-steps
overflow_add-steps c =
    let a = c.args in
    let made = c.peel_at-made.ensures in
    let h = turn-steps a.code.now a.l a.budget a.sets.now a.tray.now c.requires.2 c.loop-i.i c.loop-i.steps _ c.loop-i.left
    c.loop-i.tray c.loop-i.invariant.4 (search rules) (rw c.n-n.ensures.value at made.steps) in
    record { fits = omega (arith, h) }

pub loop-i-preserved : goal.loop-i-preserved
loop-i-preserved c =
    let a = c.args in
    let made = c.peel_at-made.ensures in
    let n = c.n-n.ensures.value in (
      search rules,
      refl,
      search rules,
      search rules,
      turn_more a.code.now a.l a.budget a.sets.now a.tray.now c.requires.2 c.loop-i.i c.loop-i.steps _ _ c.loop-i.left
          c.loop-i.tray _ c.loop-i.invariant.4 (search rules) c.requires.1 (rw n at made.steps) (rw n at made.left) (rw n at made.tray),
    )

pub returns : goal.returns
returns c =
    let a = c.args in
    let r = turn_end a.code.now a.l a.budget a.sets.now a.tray.now c.requires.2 c.loop-i.i c.loop-i.steps c.loop-i.left
    c.loop-i.tray c.loop-i.invariant.4 (omega arith) in
    record { steps = r.0; left = r.1; tray = r.2 }
