-- `likeness::rearranged` meets its contract: the columns are tested one after the other.
-- Assumes nothing.
use mathlib.Core.Path.{refl}
use native.Mathlib.Omega.{arith}
use borrow.Author.Rules.{rules}
use borrow.Author.Tests.{tests}
use Rattle.std.proofs.lemmas.Iterator.{YieldsList-from_range}
use Rattle.std.proofs.lemmas.Iterator.Search.{all_from_yields_List}
use Rattle.likeness.proofs.Counted.{same, told, decided}
use Rattle.likeness.proofs.rearranged.Goals as goal

pub returns : goal.returns
returns c =
    let a = c.args in
    let m = c.m.result in
    decided _ _ _ _ c.m.ensures.value c.requires
    (all_from_yields_List (same a.first.now a.second.now) _ _ c.all.result c.all.ensures.ran (YieldsList-from_range 0 m m refl (omega arith))
    (λ x b q k. search (rules, tests, told)))
