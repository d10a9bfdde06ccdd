-- write meets its contract: the check's report, and the card in the buffer where it refuses nothing. Assumes nothing.
use mathlib.Core.Path.{◌∙◌}
use Rattle.stepped_card.proofs.Laws.{asked, length-columns, prefix_fits, buffer_done, buffer_kept}
use Rattle.stepped_card.proofs.write.Goals as goal

pub returns-in_err-distance-clause-out_after : goal.returns-in_err-distance-clause-out_after
returns-in_err-distance-clause-out_after c = buffer_kept _ _ _ _ _ c.in_err-distance.ensures

pub columns-all-requires : goal.columns-all-requires
columns-all-requires c = let p = c.in_ok-distance.ensures in asked _ _ _ _ p.1 _ p.0

pub slice_bounds-all-end : goal.slice_bounds-all-end
slice_bounds-all-end c = prefix_fits _ _ _ _ c.columns-all.ensures

pub slice_bounds-write-end : goal.slice_bounds-write-end
slice_bounds-write-end c = length-columns _ _ _ _ c.columns-all.ensures

pub returns-clause-out_after : goal.returns-clause-out_after
returns-clause-out_after c =
    let p = c.in_ok-distance.ensures in
    c.write.ensures.out_after ∙ buffer_done _ _ _ _ c.columns-all.ensures _ p.0 _ p.1
