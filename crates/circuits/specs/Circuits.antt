-- Document 02, [9] "Two entries make a third": three claims about a list of sets, as the request puts them.
-- As no entry is empty, the first and the third make the entries what the field calls the circuits of a binary matroid.
-- Assumes nothing.
use Rattle.std.specs.Prelude.{◌≢◌, List, ℕ, ◌+◌, ◌≤◌, T}
use Rattle.gf2.specs.Sets.{size, ◌⊕◌, ◌⊆◌}
use Rattle.flat.specs.Lists.{member}

-- no listed set lies inside another
abbrev pub NoneInside : List ℕ → Type 0
NoneInside list = (R S : ℕ) → T (member R list) → T (member S list) → R ≢ S → T (R ⊆ S) → ⊥

-- none is larger than s
abbrev pub NoneLarger : ℕ → List ℕ → Type 0
NoneLarger s list = (R : ℕ) → T (member R list) → size R ≤ s

-- whenever two differ, some listed set lies within the disks that belong to just one of them
abbrev pub TwoMakeThird : List ℕ → Type 0
TwoMakeThird list = (R S : ℕ) → T (member R list) → T (member S list) → R ≢ S → (Q : ℕ) × T (member Q list) × T (Q ⊆ R ⊕ S)

-- all three, of a list for a code with m parity disks
pub record Circuits (m : ℕ) (list : List ℕ) : Type 0 where
  pub none_inside : NoneInside list
  pub none_larger : NoneLarger (m + 1) list
  pub third : TwoMakeThird list
