-- `gf2::survivors` meets its contract: the first n disks, less the lost ones.
-- Assumes nothing.
use mathlib.Core.Path.{ap, ◌∙◌}
use Prim.Native.Nat.{ℕ}
use Rattle.gf2.specs.Sets.{◌∖◌}
use Rattle.gf2.proofs.Made.{rest-set}
use Rattle.gf2.proofs.survivors.Goals as goal

pub returns : goal.returns
returns c =
    let a = c.args in
    c.outside.ensures ∙ ap (λ (x : ℕ). x ∖ a.lost) c.first.ensures ∙ rest-set a.n a.lost
