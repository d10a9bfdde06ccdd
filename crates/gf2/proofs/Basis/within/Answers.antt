-- `gf2::Basis::within` meets its contract. The rows left so far, and what `within` makes of the rows still to come, are what it makes of all.
-- Assumes nothing.
use Rattle.std.proofs.Common.{◌≡◌, ◌≤◌, ◌<◌, ap, arith, rules, sym, ◌∙◌, length, length-set}
use Rattle.std.proofs.lemmas.List.{length-map}
use Rattle.gf2.specs.Within.{within}
use Rattle.gf2.proofs.Loops.{whole-start, whole-kept, whole_dropped, whole_end}
use Rattle.gf2.specs.Padded.{none-there}
use Rattle.gf2.proofs.Padded.{rest_more}
use Rattle.gf2.proofs.Tests.{true-T, false-T}
use Rattle.gf2.proofs.Subsets.{none-⊆}
use Rattle.gf2.proofs.Basis.within.Goals as goal
use Rattle.gf2.proofs.Basis.within.Goals.{else-inside, then-inside}

pub loop-i-init : goal.loop-i-init
loop-i-init c = record {
  sixteen = search rules;
  room = search rules;
  fewer = search rules;
  spare = λ i h. none-there 16 i;
  rest = whole-start _ _ _ _ ∙ ap (within c.args.set) c.self.view_is;
}

pub lowest-requires : goal.lowest-requires
lowest-requires c =
    λ e. false-T (sym c.inside.ensures ∙ c.if-inside.false) (none-⊆ _ _ (sym c.outside.ensures ∙ e))

pub loop-i-preserved : goal.loop-i-preserved
loop-i-preserved c =
    let at = c.loop-i in
    let h = c.loop-i-test.true in
    let l : c.self.inside.count ≤ length at.rows = omega arith in
    let k : at.count < length at.left = omega arith in
    let e = c.inside.ensures in
    elim c.if-inside.branch [
      | then-inside w ↦ record {
        sixteen = search rules;
        room = rw (w.left-is, length-set) at.invariant.room;
        fewer = search rules;
        spare = rw (w.left-is, w.count-is) (rest_more at.count _ at.left at.invariant.spare);
        rest = rw (w.rows-is, w.left-is, w.count-is)
            (whole-kept _ _ at.i at.rows at.left at.count h l k (true-T (sym e ∙ w.if-inside.true)) ∙ at.invariant.rest);
      }
      | else-inside w ↦ record {
        sixteen = rw (w.rows-is, w.cleared_all-rows.ensures, length-map) at.invariant.sixteen;
        room = search rules;
        fewer = search rules;
        spare = rw (w.left-is, w.count-is) at.invariant.spare;
        rest = rw (w.rows-is, w.left-is, w.count-is, w.cleared_all-rows.ensures, w.lowest.ensures.0, w.outside.ensures)
            (whole_dropped _ _ at.i at.rows at.left at.count h l (false-T (sym e ∙ w.if-inside.false)) ∙ at.invariant.rest);
      }
    ]

pub returns-clause-value : goal.returns-clause-value
returns-clause-value c =
    let at = c.loop-i in
    let e : at.i ≡ c.self.inside.count = omega arith in
    let l : c.self.inside.count ≤ length at.rows = omega arith in
    sym (whole_end _ _ at.rows at.left at.count l) ∙ (rw e at at.invariant.rest)
