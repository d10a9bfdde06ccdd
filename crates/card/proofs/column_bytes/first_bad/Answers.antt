-- `card::first_bad` meets its contract.
-- Assumes nothing.
use borrow.Author.Rules.{rules}
use borrow.Author.Tests.{tests}
use Rattle.std.proofs.lemmas.Iterator.{IsFirst-from_position, YieldsList-from_slice}
use Rattle.card.proofs.Searching.{Bad, Passes, first_found}
use Rattle.card.proofs.column_bytes.first_bad.Goals as goal

pub returns-clause-value : goal.returns-clause-value
returns-clause-value c =
    let k = c.args.k in
    let cs = c.args.columns.now in
    first_found k cs _
    (IsFirst-from_position _ _ _ (Bad k (λ c. c)) (Passes k (λ c. c)) c.position.ensures.ran (YieldsList-from_slice cs c.iter.ensures.rest)
    (λ x q h. search (rules, tests)) (λ x q h. search (rules, tests)))
