-- `converter::all_one` meets its contract. Assumes nothing.
use mathlib.Core.Path.{◌∙◌}
use borrow.Author.Rules.{rules}
use borrow.Author.Tests.{tests}
use lib.Dec.{eqb}
use Rattle.std.proofs.lemmas.Iterator.{YieldsList-from_slice}
use Rattle.std.proofs.lemmas.Iterator.Search.{all_from_yields_List}
use Rattle.converter.proofs.Answered.{all_tested}
use Rattle.converter.proofs.all_one.Goals as goal

pub returns : goal.returns
returns c =
    let ws = c.args.wears.now in
    all_from_yields_List (λ w. eqb w 1) _ _ c.all.result c.all.ensures.ran (YieldsList-from_slice ws c.iter.ensures.rest) (λ x b q k. search (rules, tests))
    ∙ all_tested ws
