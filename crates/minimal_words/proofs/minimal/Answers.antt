-- `minimal_words::minimal` meets its contract. The rows that the bits left pick are still to go through, and one of them is left inside w
-- where one of all is. Assumes nothing.
use mathlib.Core.Path.{sym, ap, ◌∙◌, subst}
use Prim.Native.Nat.{ℕ, ◌^◌, ◌<◌}
use native.Mathlib.Nat.{lt_of_lt_of_le}
use native.Mathlib.Omega.{arith}
use borrow.Author.Rules.{rules}
use lib.ListN.{length-map}
use lib.Pow.{pow_mono}
use Rattle.gf2.proofs.Tests.{true-T, false-T}
use Rattle.gf2.specs.Within.{lowest}
use Rattle.gf2.proofs.Bits.{one_shifted}
use Rattle.gf2.proofs.Subsets.{none-⊆, lowest_lt}
use Rattle.minimal_words.proofs.Going.{next-is, next_lt, loop_last, loop_kept, loop_more, loop_two, loop_start, loop_answer}
use Rattle.minimal_words.proofs.minimal.Goals as goal

pub loop-rows-init : goal.loop-rows-init
loop-rows-init c =
    let p = c.requires in
    let all = c.rows-rows.ensures in (
      p.selected.0,
      lt_of_lt_of_le p.selected.1 (pow_mono all.bound),
      search rules,
      loop_start _ _ _ _ _ all.words p.systematic.1 p.selected.1 p.selected.2,
    )

pub returns-then-next-eq0 : goal.returns-then-next-eq0
returns-then-next-eq0 c =
    let at = c.loop-rows in
    let p = c.requires in
    let low = c.lowest-i.ensures in
    loop_last _ _ _ at.rows at.invariant.0 (rw at.invariant.2 at.invariant.1) at.invariant.3 (sym (next-is at.left _ low.0 low.1) ∙ c.if-next-eq0.true)
    ∙ loop_answer _ _ _ _ _ c.rows-rows.ensures.words p.systematic.1 p.selected.1 p.selected.2

pub bounds-rows-i : goal.bounds-rows-i
bounds-rows-i c =
    let at = c.loop-rows in
    omega (arith, lowest_lt 16 at.left at.invariant.0 at.invariant.1)

pub returns-then-inside : goal.returns-then-inside
returns-then-inside c =
    let at = c.loop-rows in
    let p = c.requires in
    let low = c.lowest-i.ensures in
    loop_kept _ _ _ at.rows at.invariant.0 (rw at.invariant.2 at.invariant.1) at.invariant.3
    (λ e. c.if-next-eq0.false (next-is at.left _ low.0 low.1 ∙ e))
    (rw (← low.0) (true-T (sym c.inside.ensures ∙ c.if-inside.true)))
    ∙ loop_answer _ _ _ _ _ c.rows-rows.ensures.words p.systematic.1 p.selected.1 p.selected.2

pub lowest-requires : goal.lowest-requires
lowest-requires c = c.if-next-eq0.false

pub returns-then-next-lowest : goal.returns-then-next-lowest
returns-then-next-lowest c =
    let at = c.loop-rows in
    let p = c.requires in
    let low = c.lowest-i.ensures in
    let next = next-is at.left _ low.0 low.1 in
    let last = c.lowest.ensures in
    loop_two _ _ _ at.rows at.invariant.0 (rw at.invariant.2 at.invariant.1) at.invariant.3
    (λ q. c.if-next-eq0.false (next ∙ q))
    (sym next ∙ c.if-next-lowest.true ∙ one_shifted _ last.1 ∙ ap (λ (y : ℕ). 2 ^ y) (last.0 ∙ ap lowest next))
    (rw (← low.0) (false-T (sym c.inside.ensures ∙ c.if-inside.false)))
    ∙ loop_answer _ _ _ _ _ c.rows-rows.ensures.words p.systematic.1 p.selected.1 p.selected.2

pub lowest-requires-in-loop-rows : goal.lowest-requires-in-loop-rows
lowest-requires-in-loop-rows c =
    λ e. false-T (sym c.inside.ensures ∙ c.if-inside.false) (none-⊆ _ _ (sym c.outside.ensures ∙ e))

pub loop-rows-smaller : goal.loop-rows-smaller
loop-rows-smaller c =
    let at = c.loop-rows in
    subst (λ (y : ℕ). y < at.left) (sym (next-is at.left _ c.lowest-i.ensures.0 c.lowest-i.ensures.1)) (next_lt at.left at.invariant.0)

pub loop-rows-preserved : goal.loop-rows-preserved
loop-rows-preserved c =
    let at = c.loop-rows in
    let low = c.lowest-i.ensures in
    let next = next-is at.left _ low.0 low.1 in
    let less = next_lt at.left at.invariant.0 in (
      c.if-next-eq0.false,
      rw next (omega arith),
      rw (c.cleared_all-rows.ensures, length-map) at.invariant.2,
      loop_more _ _ _ _ _ _ at.rows _ at.invariant.0 (rw at.invariant.2 at.invariant.1) at.invariant.3 low.0 next
          (c.lowest-in-loop-rows.ensures.0 ∙ ap lowest c.outside.ensures) c.cleared_all-rows.ensures
          (false-T (sym c.inside.ensures ∙ c.if-inside.false)),
    )
