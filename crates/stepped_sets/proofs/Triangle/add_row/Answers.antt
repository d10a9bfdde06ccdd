-- Triangle::add_row meets its contract: place after place is filled. Assumes nothing.
use mathlib.Core.Path.{refl}
use native.Mathlib.Omega.{arith}
use Rattle.stepped_sets.proofs.Rows.{filled-start, count_fits, filled_next, rows-filled, filled-rows}
use Rattle.stepped_sets.proofs.Triangle.add_row.Goals as goal

pub loop-r-init : goal.loop-r-init
loop-r-init c = (filled-start c.self.inside.last (omega arith) _ (filled-rows c.self.inside.last _ _ refl c.self.invariant.1), refl)

pub overflow_add-self-in-loop-r-2 : goal.overflow_add-self-in-loop-r-2
overflow_add-self-in-loop-r-2 c =
    let l = c.loop-r in
    record { fits = count_fits c.self.inside.last (omega arith) _ l.r (omega arith) (omega arith) l.invariant.0 }

pub loop-r-preserved : goal.loop-r-preserved
loop-r-preserved c =
    let l = c.loop-r in
    (filled_next c.self.inside.last (omega arith) _ l.r (omega arith) (omega arith) l.invariant.0, l.invariant.1)

pub invariant_of-self : goal.invariant_of-self
invariant_of-self c =
    let l = c.loop-r in
    (omega arith, rows-filled _ _ _ (omega arith) l.invariant.0)
