-- `repairs::equation_in` meets its contract: the code's shift of 1 is the disk's set.
-- Assumes nothing.
use mathlib.Core.Path.{ap, ap₂, ◌∙◌}
use Prim.Native.Nat.{ℕ}
use lib.Bits.{bit_xor}
use Rattle.gf2.specs.Sets.{◌∖◌, ◌⊕◌}
use Rattle.gf2.specs.Within.{within}
use Rattle.gf2.proofs.Bits.{one_shifted}
use Rattle.flat.specs.Repairs.{holder, equation_in}
use Rattle.repairs.proofs.equation_in.Goals as goal

pub returns : goal.returns
unfolding ◌⊕◌ equation_in
returns c =
    let a = c.args in
    let disk = one_shifted a.d c.requires in
    c.outside.ensures
    ∙ ap₂ (λ (w e : ℕ). w ∖ e)
    (c.holder.ensures
    ∙ ap (holder a.d)
    (c.within.ensures.value ∙ ap (λ (e : ℕ). within (bit_xor a.left e) a.checks.now) disk))
    disk
