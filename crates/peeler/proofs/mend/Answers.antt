-- `peeler::mend` meets its contract: the strips of one set for every target.
-- Assumes nothing.
use mathlib.Core.Path.{◌≡◌, ◌∙◌, subst}
use Prim.Native.Nat.{ℕ}
use borrow.Author.Rules.{rules}
use lib.Dec.{T}
use lib.ListN.{get_or, replicate, get_or-replicate}
use Rattle.gf2.specs.Sets.{has}
use Rattle.gf2.proofs.Subsets.{member_below}
use Rattle.flat.proofs.Positions.{filled_cong}
use Rattle.peeler.proofs.mend.Goals as goal

pub fill-requires-clause-by_index : goal.fill-requires-clause-by_index
fill-requires-clause-by_index c =
    let at : (d : ℕ) → T (has c.args.step.disk d) → get_or (replicate 32 c.args.step.others) d 0 ≡ c.args.step.others =
    λ d t. get_or-replicate 32 d c.args.step.others 0 (member_below 32 c.args.step.disk d (search rules) t) in
    λ d i t l u. c.requires.apart i (subst (λ (E : ℕ). T (has E i)) (at d t) u)

pub returns : goal.returns
returns c =
    let at : (d : ℕ) → T (has c.args.step.disk d) → get_or (replicate 32 c.args.step.others) d 0 ≡ c.args.step.others =
    λ d t. get_or-replicate 32 d c.args.step.others 0 (member_below 32 c.args.step.disk d (search rules) t) in
    c.fill.ensures ∙ filled_cong _ _ _ (λ d. c.args.step.others) _ _ (at)
