-- `record_writer::parts::put_bodies` meets its contract: each body goes right after the one before it.
-- Assumes nothing.
use mathlib.Core.Path.{refl, sym}
use Prim.Native.Nat.{suc}
use native.Mathlib.Omega.{arith}
use Rattle.record_writer.proofs.Runs.{laid_more}
use Rattle.record_format.proofs.Places.{strip-room, body-next, bodies_end, body_grows}
use borrow.Author.Rules.{rules}
use Rattle.record_writer.proofs.parts.put_bodies.Goals as goal

pub loop-i-preserved : goal.loop-i-preserved
loop-i-preserved c =
    let a = c.args in
    let y = a.layout in
    let pre = c.requires in
    let i = c.loop-i.i in
    let t = c.loop-i-test.true in
    let h = strip-room i a.n y.l _ t pre.1 in
    let g = body_grows y.start y.l y.lost (suc i) a.n (omega arith) in (
      search rules,
      laid_more _ _ _ _ _ _ _ _ c.loop-i.invariant.1 c.put_body.ensures refl
          (sym (bodies_end y.start y.l y.lost i a.stripe.now (omega arith)))
          (omega (arith, body-next y.start y.l y.lost i a.stripe.now h)),
    )
