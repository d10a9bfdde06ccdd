-- `likeness::balance` meets its contract: the columns gone through are in the balance.
-- Assumes nothing.
use native.Mathlib.Omega.{arith}
use Rattle.likeness.proofs.Counted.{balance-none, balance-within, balance-more, balance-all, one-most}
use Rattle.likeness.proofs.balance.Goals as goal

pub loop-i-init : goal.loop-i-init
loop-i-init c = balance-none _ _ _

pub overflow_add-balance : goal.overflow_add-balance
overflow_add-balance c =
    let m = c.m-i-end.ensures in
    record { fits = omega (arith, (balance-within _ _ _ _ _ c.loop-i.invariant (omega (arith, m.value, m.legal.3, c.loop-i-test.true))).1, one-most _ _ c.from-up.ensures) }

pub overflow_sub-balance : goal.overflow_sub-balance
overflow_sub-balance c =
    let m = c.m-i-end.ensures in
    omega (arith, (balance-within _ _ _ _ _ c.loop-i.invariant (omega (arith, m.value, m.legal.3, c.loop-i-test.true))).0, one-most _ _ c.from-down.ensures)

pub loop-i-preserved : goal.loop-i-preserved
loop-i-preserved c =
    let m = c.m-i-end.ensures in
    balance-more _ _ _ _ _ c.loop-i.invariant (omega (arith, m.value, m.legal.3, c.loop-i-test.true)) _ _ _ _ _ c.column.ensures.value
    c.column-in-loop-i.ensures.value c.from-up.ensures c.from-down.ensures (omega arith)

pub returns : goal.returns
returns c = balance-all _ _ _ _ _ (omega arith) c.requires c.loop-i.invariant
