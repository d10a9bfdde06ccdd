-- `bridgecrumb::bridgecrumb_list` meets its contract: the vector is written where the list is. Assumes nothing.
use mathlib.Core.Path.{sym}
use Rattle.bridgecrumb.proofs.Arrays.{taken, list_kept}
use Rattle.bridgecrumb.proofs.bridgecrumb_list.Goals as goal

pub returns-in-Ok-clause-vector_after : goal.returns-in-Ok-clause-vector_after
returns-in-Ok-clause-vector_after c = rw (sym c.edition.ensures) (taken _ _ _ _ _ c.in-Ok.ensures.answer_value c.in-Ok.ensures.vector_value)

pub returns-in-Err-clause-vector_after : goal.returns-in-Err-clause-vector_after
returns-in-Err-clause-vector_after c = rw (sym c.edition.ensures) (list_kept _ _ _ c.in-Err.error c.in-Err.ensures.answer_value)
