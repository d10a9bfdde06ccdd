-- Each fails its claim at the entries that its statement names. A list that `Worked` has computed is not computed again.
-- Assumes nothing.
use mathlib.Core.Path.{◌≡◌, refl, ap, subst}
use mathlib.Core.Logic.{⊎_elim}
use mathlib.Core.List.{[], ◌∷◌}
use Prim.Native.Nat.{ℕ, ◌+◌, ◌≤◌}
use native.Mathlib.Omega.{arith}
use lib.Dec.{leb}
use lib.Count.{ones-ones}
use Rattle.gf2.specs.Sets.{size, first, ◌⊕◌, ◌⊆◌}
use Rattle.flat.specs.Lists.{member, filter}
use Rattle.flat.proofs.Members.{In, in_head, in_tail, in_cons, in_nil, filter_in}
use Rattle.worked.specs.Table.{C1}
use Rattle.worked.specs.Impostors.{every_word, up_to_m}
use Rattle.worked.proofs.Worked.{worked}
use Rattle.circuits.specs.Circuits.{NoneLarger, TwoMakeThird}
use Rattle.circuits.specs.Impostors.{NotEveryWord, LargerThanM, NotUpToM, Third, Refused, NotTwo}
use Rattle.circuits.proofs.Theorems.{third-is_another}

pub not-every-word : NotEveryWord
unfolding every_word member ◌⊆◌
not-every-word claim = claim 5 15 tt tt (λ e. omega arith) tt

pub larger_than_m : LargerThanM
unfolding member size
larger_than_m claim = let z : ◌≤◌ 3 2 = subst (NoneLarger 2) worked.c4.list claim 7 tt in omega arith

-- C1's list cut at size m
cut : up_to_m C1.of ≡ filter (λ S. leb (size S) 3) C1.list
unfolding up_to_m
cut = ap (filter (λ S. leb (size S) 3)) worked.c1.list

pub not-up_to_m : NotUpToM
unfolding member ◌⊆◌ ◌⊕◌ filter size
not-up_to_m claim =
    let list = filter (λ S. leb (size S) 3) C1.list in
    let (Q, listed, inside) = subst TwoMakeThird cut claim 50 67 tt tt (λ e. omega arith) in
    let none : filter (λ S. S ⊆ 113) list ≡ [] = refl in
    in_nil Q (subst (In Q) none (filter_in (λ S. S ⊆ 113) Q list inside listed))

pub third : Third
unfolding member ◌⊕◌
third = (refl, ap (member 113) worked.c1.list)

size-first : (n : ℕ) → size (first n) ≡ n
unfolding first size
size-first = ones-ones

pub refused : Refused
refused = (
  λ m c. not-every-word c.none_inside,
  λ m c. omega (arith, c.none_larger (first (m + 2)) (in_head [] refl), size-first (m + 2)),
  λ m c. not-up_to_m c.third,
)

pub not_two : NotTwo
not_two m R S d differ r s c =
    let (Q, listed, inside) = c.third R S (in_head (S ∷ []) refl) (in_tail S R (S ∷ []) (in_head [] refl)) differ in
    let (not_first, not-second) = third-is_another R S Q d r s inside in
    ⊎_elim not_first (λ t. ⊎_elim not-second (in_nil Q) (in_cons Q S [] t)) (in_cons Q R (S ∷ []) listed)
