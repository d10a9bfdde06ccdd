-- `text::decimals::write_decimal` meets its contract: the digits of what is left complete the number.
-- Assumes nothing.
use Rattle.text.proofs.Written.{Completed}
use Rattle.text.proofs.decimals.write_decimal.Given as goal

abbrev pub invariant-loop-place : goal.invariant-loop-place
invariant-loop-place l = Completed l.n l.rest l.place l.digits
