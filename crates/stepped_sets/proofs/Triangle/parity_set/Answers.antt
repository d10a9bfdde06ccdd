-- Triangle::parity_set meets its contract. Assumes nothing.
use mathlib.Core.Path.{ap, ◌∙◌}
use Prim.Native.Nat.{ℕ, ◌+◌}
use native.Mathlib.Omega.{arith}
use Rattle.stepped_codes.specs.Stepped.{choose}
use Rattle.stepped_sets.proofs.Finding.{distance_is, finding_first, finding_size, finding_more, finding_end, step_some}
use Rattle.stepped_sets.proofs.Triangle.parity_set.Goals as goal

pub loop-here-init : goal.loop-here-init
loop-here-init c = (
  c.choose-here.ensures ∙ ap (λ (m : ℕ). choose m c.first_size-size.result) c.self.view_is,
  finding_first _ _ _ (distance_is _) _ c.first_size-size.ensures c.requires.1,
)

pub overflow_add-size : goal.overflow_add-size
overflow_add-size c =
    let l = c.loop-here in
    let f = finding_more _ _ _ (distance_is _) l.size l.left l.invariant.1 l.here _ l.invariant.0 (ap (λ (s : ℕ). l.size + s) c.step-size.ensures) c.loop-here-test.true in
    omega (arith, f.1)

pub choose-here-requires-in-loop-here : goal.choose-here-requires-in-loop-here
choose-here-requires-in-loop-here c =
    let l = c.loop-here in
    let f = finding_more _ _ _ (distance_is _) l.size l.left l.invariant.1 l.here _ l.invariant.0 (ap (λ (s : ℕ). l.size + s) c.step-size.ensures) c.loop-here-test.true in
    (omega (arith, c.self.view_is), omega (arith, f.1))

pub loop-here-smaller : goal.loop-here-smaller
loop-here-smaller c =
    let l = c.loop-here in
    let f = finding_more _ _ _ (distance_is _) l.size l.left l.invariant.1 l.here _ l.invariant.0 (ap (λ (s : ℕ). l.size + s) c.step-size.ensures) c.loop-here-test.true in
    omega (arith, f.1, step_some _ _ c.step-size.ensures)

pub loop-here-preserved : goal.loop-here-preserved
loop-here-preserved c =
    let l = c.loop-here in
    let f = finding_more _ _ _ (distance_is _) l.size l.left l.invariant.1 l.here _ l.invariant.0 (ap (λ (s : ℕ). l.size + s) c.step-size.ensures) c.loop-here-test.true in
    (c.choose-here-in-loop-here.ensures ∙ ap (λ (m : ℕ). choose m (l.size + c.step-size.result)) c.self.view_is, f.0)

pub placed-requires : goal.placed-requires
placed-requires c =
    let l = c.loop-here in
    let few = finding_size _ _ _ (distance_is _) l.size l.left l.invariant.1 in
    (omega (arith, few), omega (arith, l.invariant.0))

pub returns : goal.returns
returns c =
    let l = c.loop-here in
    c.placed.ensures ∙ finding_end _ _ _ (distance_is _) l.size l.left l.invariant.1 (omega (arith, l.invariant.0))
