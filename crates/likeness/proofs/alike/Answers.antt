-- `likeness::alike` meets its contract. Assumes nothing.
use native.Mathlib.Omega.{arith}
use Rattle.likeness.proofs.Answered.{counts_differ, counts_agree, verdict_counts, verdict_columns, alike_both}
use Rattle.likeness.proofs.alike.Goals.{then-k, else-k}
use Rattle.likeness.proofs.alike.Goals as goal

pub returns-then-m : goal.returns-then-m
returns-then-m c =
    let own = c.in_ok-own.ensures in
    let other = c.in_ok-other.ensures in
    alike_both _ _ _ _ _ _ own.value own.code other.value other.code _
    (verdict_columns _ _ _
    (elim c.if-k.branch [
      | then-k w ↦ counts_agree _ _ _ _ _ _ _ (omega arith) w.value-is w.m.ensures.value w.m-then-k.ensures.value
      | else-k w ↦ counts_differ _ _ _ _ _ _ _ (λ e. omega arith) w.value-is c.k.ensures.value c.k-2.ensures.value
    ])
    c.if-m.true _ c.rearranged.ensures)

pub returns-else-m : goal.returns-else-m
returns-else-m c =
    let own = c.in_ok-own.ensures in
    let other = c.in_ok-other.ensures in
    alike_both _ _ _ _ _ _ own.value own.code other.value other.code _
    (verdict_counts _ _ _
    (elim c.if-k.branch [
      | then-k w ↦ counts_agree _ _ _ _ _ _ _ (omega arith) w.value-is w.m.ensures.value w.m-then-k.ensures.value
      | else-k w ↦ counts_differ _ _ _ _ _ _ _ (λ e. omega arith) w.value-is c.k.ensures.value c.k-2.ensures.value
    ])
    c.if-m.false)
