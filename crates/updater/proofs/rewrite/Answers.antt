-- `updater::rewrite` meets its contract: the strips that the list names are those that the update changes.
-- Assumes nothing.
use Rattle.updater.proofs.Named.{parities_inside, parities_apart, changed_updated}
use Rattle.updater.proofs.rewrite.Goals as goal

pub update-requires-clause-inside : goal.update-requires-clause-inside
update-requires-clause-inside c = parities_inside _ c.args.disk _ _ c.requires.lengths.2 _ _ c.places-places.ensures c.list.ensures.strips

pub update-requires-clause-apart : goal.update-requires-clause-apart
update-requires-clause-apart c =
    parities_apart _ _ _ _ c.requires.lengths.2 _ _ c.places-places.ensures c.list.ensures.strips c.requires.disk

pub returns-clause-stripe_after : goal.returns-clause-stripe_after
returns-clause-stripe_after c =
    changed_updated _ _ _ _ _ _ _ _ c.requires.disk c.requires.lengths.2 c.places-places.ensures c.list.ensures.sums c.update.ensures
