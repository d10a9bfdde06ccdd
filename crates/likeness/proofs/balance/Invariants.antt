-- `likeness::balance` meets its contract: the columns gone through are in the balance.
-- Assumes nothing.
use Rattle.likeness.proofs.Counted.{Balance}
use Rattle.likeness.proofs.balance.Given as goal

abbrev pub invariant-loop-i : goal.invariant-loop-i
invariant-loop-i l = Balance l.own l.other l.column l.i l.balance
