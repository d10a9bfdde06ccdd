-- `bridgecrumb::records::bridgecrumb_record_read` meets its contract: fields and columns are written where the file is accepted. Assumes nothing.
use Rattle.bridgecrumb.proofs.Arrays.{no_code, values_taken, read_taken, record_code, record_kept}
use Rattle.bridgecrumb.proofs.records.bridgecrumb_record_read.Goals as goal

pub returns-in-Ok-clause-value : goal.returns-in-Ok-clause-value
returns-in-Ok-clause-value c = no_code _ _ c.in-Ok.ensures.counts

pub returns-in-Ok-clause-fields_after : goal.returns-in-Ok-clause-fields_after
returns-in-Ok-clause-fields_after c = values_taken _ _ _ c.in-Ok.ensures.counts

pub returns-in-Ok-clause-columns_after : goal.returns-in-Ok-clause-columns_after
returns-in-Ok-clause-columns_after c = read_taken _ _ _ _ _ c.in-Ok.ensures.counts c.in-Ok.ensures.columns

pub returns-in-Err-clause-value : goal.returns-in-Err-clause-value
returns-in-Err-clause-value c = record_code _ _ c.in-Err.fault c.in-Err.ensures.fault c.record_fault_code.ensures

pub returns-in-Err-clause-fields_after : goal.returns-in-Err-clause-fields_after
returns-in-Err-clause-fields_after c = record_kept _ _ _ c.in-Err.fault c.in-Err.ensures.fault

pub returns-in-Err-clause-columns_after : goal.returns-in-Err-clause-columns_after
returns-in-Err-clause-columns_after c = record_kept _ _ _ c.in-Err.fault c.in-Err.ensures.fault
