-- `card::has_zero` meets its contract. Assumes nothing.
use mathlib.Core.Path.{◌∙◌}
use borrow.Author.Rules.{rules}
use borrow.Author.Tests.{tests}
use lib.Dec.{eqb}
use Rattle.std.proofs.lemmas.Iterator.{YieldsList-from_slice}
use Rattle.std.proofs.lemmas.Iterator.Search.{any_from_yields_List}
use Rattle.card.proofs.Checked.{zero_among}
use Rattle.card.proofs.editions.has_zero.Goals as goal

pub returns : goal.returns
returns c =
    let ws = c.args.wears.now in
    any_from_yields_List (λ w. eqb w 0) _ _ c.any.result c.any.ensures.ran (YieldsList-from_slice ws c.iter.ensures.rest) (λ x b q k. search (rules, tests))
    ∙ zero_among ws
