-- `card::ones` meets its contract.
-- Assumes nothing.
use mathlib.Core.Path.{sym, ap, ◌∙◌}
use native.Mathlib.Omega.{arith}
use borrow.Author.Rules.{rules}
use lib.ListN.{replicate}
use lib.Seq.{length-take-le}
use Rattle.std.proofs.lemmas.List.{length-replicate}
use Rattle.card.proofs.Filled.{front_written}
use Rattle.card.proofs.editions.ones.Goals as goal

pub returns : goal.returns
returns c =
    let n = c.args.n in
    front_written 32 n _ (replicate n 1) (c.fill.ensures.after (λ y h. search rules) ∙ ap (λ i. replicate i 1) (length-take-le n (replicate 32 0) (omega arith)))
    (sym (length-replicate n 1))
