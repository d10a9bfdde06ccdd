-- `updater::parities::NamingParities::list` meets its contract: the places of those of the first j parities that name the disk.
-- Assumes nothing.
use mathlib.Core.Path.{◌≡◌, sym, ap, ◌∙◌}
use Prim.Native.Nat.{ℕ, ◌+◌, ◌*◌}
use Rattle.gf2.specs.Sets.{has}
use Rattle.flat.specs.Cards.{column}
use Rattle.updater.proofs.Named.{named_none, named_more, named_skip, named_count, named_strips, named_sums}
use borrow.Author.Rules.{rules}
use Rattle.updater.proofs.parities.NamingParities.list.Goals as goal
use Rattle.updater.proofs.parities.NamingParities.list.Goals.{else-has, then-has}

pub loop-j-init : goal.loop-j-init
loop-j-init c = named_none _ _ _ _ (search rules)

pub loop-j-preserved : goal.loop-j-preserved
loop-j-preserved c =
    let a = c.args in
    let lp = c.loop-j in
    let place = ap (λ (k : ℕ). (k + lp.j) * a.l) c.k.ensures.value in
    let tested : has (column a.code.now lp.j) a.disk ≡ c.has.result =
    sym (c.has.ensures ∙ ap (λ (x : ℕ). has x a.disk) c.column.ensures.value) in
    elim c.if-has.branch [
      | then-has w ↦ rw w.count-is (named_more _ _ _ _ _ _ lp.invariant (search rules) _ place (search rules) (tested ∙ w.if-has.true))
      | else-has w ↦ rw w.count-is (named_skip _ _ _ _ _ _ lp.invariant (search rules) _ place (tested ∙ w.if-has.false))
    ]

pub returns-clause-count : goal.returns-clause-count
returns-clause-count c = named_count _ _ _ _ _ _ c.loop-j.invariant (search rules) (search rules)

pub returns-clause-strips : goal.returns-clause-strips
returns-clause-strips c = named_strips _ _ _ _ _ _ c.loop-j.invariant (search rules) (search rules)

pub returns-clause-sums : goal.returns-clause-sums
returns-clause-sums c = named_sums _ _ _ _ _ _ c.loop-j.invariant (search rules) (search rules)
