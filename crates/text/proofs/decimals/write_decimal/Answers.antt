-- `text::decimals::write_decimal` meets its contract: the digits of what is left complete the number.
-- Assumes nothing.
use native.Mathlib.Omega.{arith}
use Rattle.text.proofs.Written.{completed_none, completed_more, completed_all}
use Rattle.text.proofs.decimals.write_decimal.Goals as goal

pub loop-place-init : goal.loop-place-init
loop-place-init c = completed_none _ _ c.requires

pub loop-place-preserved : goal.loop-place-preserved
loop-place-preserved c = completed_more c.loop-place.invariant (omega arith)

pub returns : goal.returns
returns c = completed_all c.loop-place.invariant (omega arith)
