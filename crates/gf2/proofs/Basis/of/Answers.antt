-- `gf2::Basis::of` meets its contract. The rows so far are kept before the count, and all from it on are 0.
-- Assumes nothing.
use Rattle.std.proofs.Common.{◌≡◌, arith, rules, length}
use Rattle.gf2.proofs.Padded.{same_first}
use Rattle.gf2.proofs.Basis.of.Goals as goal

pub invariant_of-result : goal.invariant_of-result
invariant_of-result c =
    let at = c.loop-i.invariant in
    (search rules, omega arith, λ i h. at.rest i (omega arith))

pub returns : goal.returns
returns c =
    let at = c.loop-i.invariant in
    let e : length c.args.rows ≡ 16 = search rules in
    same_first _ c.args.count c.loop-i.kept c.args.rows (omega arith) (omega arith) (omega arith) (λ i h. at.words i (omega arith) h)
