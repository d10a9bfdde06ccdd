-- The proofs of specs/Theorems.antt.
-- Assumes nothing.
use mathlib.Core.Path.{subst}
use mathlib.Core.Logic.{inl, inr, ⊎_elim}
use Prim.Native.Nat.{ℕ}
use lib.Dec.{T}
use Rattle.gf2.specs.Sets.{has}
use Rattle.gf2.specs.Theorems.{Subset, Extensional, JustOne, FirstDisks, UnionRows, UnionSpan, SelectLinear, SpanSelected, WithinSpans, WithinIndependent, MinimalIsOneRow, MinimalSize}
use Rattle.gf2.proofs.Xor.{⊕_comm}
use Rattle.gf2.proofs.Subsets.{⊆_in, ⊆_out, ⊕_out, ⊕-left, ⊕-both, same-disks}
use Rattle.gf2.proofs.Spans.{at}
use Rattle.gf2.proofs.Sums.{select-⊕, select_in, in_select}
use Rattle.gf2.proofs.Elimination as elimination
use Rattle.gf2.proofs.Unions.{first-has, union-row, row_union, union-word, word-union}
use Rattle.gf2.proofs.OneRow.{one-row}
use Rattle.gf2.proofs.Sizes.{one-left-size}

pub subset : Subset
subset R S = (⊆_out R S, ⊆_in R S)

pub extensional : Extensional
extensional = same-disks

pub just_one : JustOne
just_one R S i = (
  λ t. ⊎_elim (λ r. inl (r, ⊕-both R S i t r)) (λ s. inr (s, λ r. ⊕-both R S i t r s)) (⊕_out R S i t),
  ⊎_elim (λ (r, n). ⊕-left R S i r n) (λ (s, n). subst (λ (x : ℕ). T (has x i)) (⊕_comm S R) (⊕-left S R i s n)),
)

pub first-disks : FirstDisks
first-disks = first-has

pub union-rows : UnionRows
union-rows bs d = (row_union bs d, λ (i, l, m). union-row bs d i l m)

pub union_span : UnionSpan
union_span bs d = (word-union bs d, λ (w, s, m). union-word bs d w s m)

pub select_linear : SelectLinear
select_linear = select-⊕

pub span_selected : SpanSelected
span_selected bs w = (in_select bs w, λ p. at bs p.2 (select_in bs p.0))

pub within-spans : WithinSpans
within-spans = elimination.within-spans

pub within_independent : WithinIndependent
within_independent = elimination.within-indep

pub minimal-is-one-row : MinimalIsOneRow
minimal-is-one-row = one-row

pub minimal-size : MinimalSize
minimal-size = one-left-size
