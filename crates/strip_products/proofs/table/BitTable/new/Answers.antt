-- `strip_products::table::BitTable::new` meets its contract: zeros are bits.
-- Assumes nothing.
use Rattle.strip_products.proofs.Products.{zero_bits}
use Rattle.strip_products.proofs.table.BitTable.new.Goals as goal

pub invariant_of-result : goal.invariant_of-result
invariant_of-result c = zero_bits 256
