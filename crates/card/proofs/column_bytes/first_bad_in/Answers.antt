-- `card::first_bad_in` meets its contract.
-- Assumes nothing.
use mathlib.Core.Path.{refl}
use Prim.Native.Nat.{ℕ, ◌*◌}
use native.Mathlib.Omega.{arith}
use borrow.Author.Rules.{rules}
use borrow.Author.Tests.{tests}
use Rattle.std.proofs.lemmas.Iterator.{IsFirst-from_position, YieldsList-from_range}
use Rattle.flat.specs.Lists.{field}
use Rattle.card.proofs.Searching.{Bad, Passes, first_found_in}
use Rattle.card.proofs.column_bytes.first_bad_in.Goals as goal

pub returns-clause-value : goal.returns-clause-value
returns-clause-value c =
    let a = c.args in
    let at : ℕ → ℕ = λ j. field (2 * j) 2 a.columns.now in
    first_found_in a.k a.m a.columns.now _
    (IsFirst-from_position _ _ _ (Bad a.k at) (Passes a.k at) c.position.ensures.ran (YieldsList-from_range 0 a.m a.m refl (omega arith))
    (λ x q h. search (rules, tests)) (λ x q h. search (rules, tests)))
