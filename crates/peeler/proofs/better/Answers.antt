-- `peeler::better` meets its contract.
-- Assumes nothing.
use mathlib.Core.Path.{sym, ap, ◌∙◌}
use Prim.Native.Nat.{ℕ}
use lib.Dec.{eqb}
use Rattle.gf2.proofs.Tests.{T_false, eqb_out}
use Rattle.peeler.proofs.Passing.{not-one, one-first, one_lower}
use Rattle.peeler.proofs.better.Goals as goal

pub returns-then-found-eq0 : goal.returns-then-found-eq0
returns-then-found-eq0 c =
    let none = c.if-found-eq0.true in
    ap (λ (n : ℕ). eqb n 0) none ∙ sym (one-first _ _ (sym c.size.ensures ∙ c.if-size-eq1.true) none)

pub returns-else-found-eq0 : goal.returns-else-found-eq0
returns-else-found-eq0 c = sym (one_lower _ _ (sym c.size.ensures ∙ c.if-size-eq1.true) c.if-found-eq0.false)

pub returns-else-size-eq1 : goal.returns-else-size-eq1
returns-else-size-eq1 c =
    let other = c.if-size-eq1.false in
    T_false {b = eqb c.size.result 1} (λ t. other (eqb_out _ _ t)) ∙ sym (not-one _ _ (λ e. other (c.size.ensures ∙ e)))
