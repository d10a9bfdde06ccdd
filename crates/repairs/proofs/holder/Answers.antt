-- `repairs::holder` meets its contract: what the search finds is the first word that holds the disk.
-- Assumes nothing.
use Rattle.std.proofs.Common.{rules, ap, ◌∙◌, ℕ, Option}
use borrow.Author.Tests.{tests}
use Rattle.std.specs.Option.{unwrap_or}
use Rattle.std.proofs.lemmas.Iterator.{YieldsList-from_slice}
use Rattle.std.proofs.lemmas.Iterator.Search.{find_from_yields_List}
use Rattle.gf2.specs.Sets.{has}
use Rattle.repairs.proofs.Laws.{found-holder}
use Rattle.repairs.proofs.holder.Goals as goal

pub returns : goal.returns
returns c =
    let d = c.args.d in
    let found =
    find_from_yields_List (λ w. has w d) _ _ c.find.result c.find.ensures.ran (YieldsList-from_slice c.args.words.now cc) (λ x b q k. search (rules, tests)) in
    c.unwrap_or.ensures ∙ ap (λ (o : Option ℕ). unwrap_or o 0) (c.copied.ensures ∙ found) ∙ found-holder d c.args.words.now
