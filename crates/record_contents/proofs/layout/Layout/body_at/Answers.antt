-- `record_contents::layout::Layout::body_at` meets its contract: the survivors below a disk are counted by their set's size.
-- Assumes nothing.
use mathlib.Core.Path.{◌≡◌, ap, ◌∙◌}
use mathlib.Core.Bool.{not}
use Prim.Native.Nat.{ℕ, ◌*◌, ◌≤◌}
use native.Mathlib.Nat.{mul-le-mul}
use native.Mathlib.Omega.{arith}
use Rattle.gf2.specs.Sets.{has, size}
use Rattle.flat.specs.Lists.{count}
use Rattle.flat.proofs.Counts.{count_le, size-set}
use Rattle.record_format.specs.Records.{body_at}
use Rattle.record_contents.proofs.layout.Layout.body_at.Goals as goal
use Rattle.record_contents.proofs.layout.Layout.body_at.Goals.{After-size-before}

-- how many survive below the disk
abbrev before : After-size-before → ℕ
before c = let a = c.args in count a.i (λ d. not (has a.self.lost d))

counted : (c : After-size-before) → c.size-before.result ≡ before c
counted c = let a = c.args in c.size-before.ensures ∙ ap size c.survivors.ensures ∙ size-set a.i (λ d. not (has a.self.lost d))

-- and how long their strips are
small : (c : After-size-before) → c.args.self.l * before c ≤ 2097152
small c =
    let a = c.args in
    let l = a.self.length_bound in
    omega (arith, mul-le-mul l (count_le a.i (λ d. not (has a.self.lost d))), mul-le-mul l c.requires)

pub returns-then-i-eq0 : goal.returns-then-i-eq0
unfolding body_at count
returns-then-i-eq0 c = rw c.if-i-eq0.true (omega arith)

pub overflow_mul-result : goal.overflow_mul-result
overflow_mul-result c = record { fits = rw (counted c.before) (omega (arith, small c.before)) }

pub overflow_add-result : goal.overflow_add-result
overflow_add-result c = record { fits = rw (counted c.before.before) (omega (arith, small c.before.before, c.args.self.start_bound)) }

pub returns : goal.returns
unfolding body_at
returns c = rw (counted c.before.before)
