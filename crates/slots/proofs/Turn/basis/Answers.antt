-- `slots::Turn::basis` meets its contract: the rows before are rotated, and 0 stays 0.
-- Assumes nothing.
use Rattle.std.proofs.Common.{◌≡◌, ◌-◌, ◌≤◌, ◌++◌, ◌∙◌, ap, arith, rules, ℕ, List, map, take, drop, length, length-set, append-nil}
use Rattle.std.proofs.lemmas.List.{get_or_default, take_all, drop_all, take-map}
use Rattle.std.proofs.lemmas.List.Edits.{map_over_more}
use Rattle.turning.specs.Slots.{rotated}
use Rattle.slots.proofs.Laws.{rotated_rest}
use Rattle.slots.proofs.Turn.basis.Goals as goal

pub loop-row-preserved : goal.loop-row-preserved
loop-row-preserved c =
    let at = c.loop-row in
    let t = c.args.self in
    record {
      sixteen = rw length-set at.invariant.sixteen;
      before = rw c.rotated.ensures
          (map_over_more (rotated t.n (t.n - t.by)) c.rows-rows.result at.row-items at.row-index _ (search rules) at.invariant.before
          (get_or_default at.row-items at.row-index 0 _ (search rules)));
    }

-- the loop's end
all_mapped : (f : ℕ → ℕ) (rows items : List ℕ) (k : ℕ) → items ≡ map f (take k rows) ++ drop k rows → length rows ≤ k → items ≡ map f rows
all_mapped f rows items k e l = e ∙ rw (drop_all k rows l, take_all k rows l, append-nil)

pub padded-requires-clause-rest : goal.padded-requires-clause-rest
padded-requires-clause-rest c =
    let at = c.loop-row in
    let t = c.args.self in
    let rows = c.rows-rows.result in
    let e : length rows ≡ 16 = search rules in
    let count : length c.words.result.now ≡ length c.args.words.now = ap length c.words.ensures.value in
    λ i h. rw (all_mapped _ rows at.row-items at.row-index at.invariant.before (omega arith))
    (rotated_rest t.n (t.n - t.by) rows i (c.rows-rows.ensures.rest i (omega arith)))

pub returns : goal.returns
returns c =
    let at = c.loop-row in
    let t = c.args.self in
    let f = rotated t.n (t.n - t.by) in
    let rows = c.rows-rows.result in
    let e : length rows ≡ 16 = search rules in
    let all : at.row-items ≡ map f rows = all_mapped f rows at.row-items at.row-index at.invariant.before (omega arith) in
    c.padded.ensures ∙ ap (take (length c.words.result.now)) all ∙ take-map f (length c.words.result.now) rows
    ∙ ap (map f) (ap (λ (n : ℕ). take n rows) (ap length c.words.ensures.value) ∙ c.rows-rows.ensures.words)
