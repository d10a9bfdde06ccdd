-- Each impostor is told from the true definition at a worked code. A list that `Worked` has computed is not computed again.
-- Assumes nothing.
use mathlib.Core.Path.{◌≡◌, refl, sym, ap, ◌∙◌}
use mathlib.Core.List.{List, [], ◌∷◌}
use Prim.Native.Nat.{ℕ, suc, ◌^◌}
use native.Mathlib.Omega.{arith}
use lib.ListN.{length, get_or}
use Rattle.gf2.specs.Sets.{size}
use Rattle.flat.specs.Lists.{member, ordered_by}
use Rattle.flat.specs.Cards.{disks}
use Rattle.flat.specs.Erasures.{fatal, minimal_erasure, erasures}
use Rattle.flat.specs.Equations.{equation}
use Rattle.flat.specs.Spans.{rows}
use Rattle.worked.specs.Table.{C1, C3, C4, C6}
use Rattle.worked.specs.Impostors
use Rattle.worked.proofs.Worked.{worked}

-- lists with another entry at some place differ
apart : (i : ℕ) (xs ys : List ℕ) (x y : ℕ) → get_or xs i 0 ≡ x → get_or ys i 0 ≡ y → (x ≡ y → ⊥) → xs ≡ ys → ⊥
apart i xs ys x y p q f e = f (sym p ∙ ap (λ (l : List ℕ). get_or l i 0) e ∙ q)

-- ---- what is fatal

pub words-differ : Impostors.WordsDiffer
unfolding Impostors.fatal_with_same fatal
words-differ = (refl, refl)

pub subset_proper : Impostors.SubsetProper
unfolding Impostors.minimal_in_itself minimal_erasure
subset_proper = (refl, refl)

pub stuck-restored : Impostors.StuckRestored
unfolding Impostors.sticks
stuck-restored = (refl, worked.c8.answer)

-- ---- what is listed

pub no-list_for_all : Impostors.NoListForAll
no-list_for_all list same =
    apart 0 C3.list C4.list 5 7 refl refl (λ z. omega arith)
    (sym worked.c3.list ∙ same C3.of ∙ sym (same C4.of) ∙ worked.c4.list)

four_rows : length (ordered_by size (suc (disks C1.of)) (rows C1.of)) ≡ 4
unfolding ordered_by size disks rows
four_rows = refl

pub rows_are_not-all : Impostors.RowsAreNotAll
rows_are_not-all e = absurd (let z : ◌≡◌ {A = ℕ} 14 4 = sym (ap length worked.c1.list) ∙ ap length e ∙ four_rows in omega arith)

pub words_are_too_many : Impostors.WordsAreTooMany
unfolding Impostors.every_word member
words_are_too_many = (refl, worked.c3.unlisted.0.1)

none : Impostors.up_to_m C4.of ≡ []
unfolding Impostors.up_to_m
none = refl

pub size_past_m : Impostors.SizePastM
size_past_m = (none, λ e. apart 0 C4.list [] 7 0 refl refl (λ z. omega arith) (sym worked.c4.list ∙ e ∙ none))

pub ten_is-counted : Impostors.TenIsCounted
unfolding Impostors.ten_uncounted
ten_is-counted = (refl, worked.c12.1.0)

-- ---- in which order

fourteen : get_or (Impostors.by_set_number C1.of) 0 0 ≡ 14
unfolding Impostors.by_set_number
fourteen = ap (λ (l : List ℕ). get_or (ordered_by size (suc (disks C1.of)) (ordered_by (λ S. S) (2 ^ disks C1.of) l)) 0 0) worked.c1.list

pub not-by-set-number : Impostors.NotBySetNumber
not-by-set-number = (
  fourteen,
  apart 0 (erasures C1.of) (Impostors.by_set_number C1.of) 50 14 (ap (λ (l : List ℕ). get_or l 0 0) worked.c1.list) fourteen (λ z. omega arith),
)

five_first : Impostors.by_data_part C6.of ≡ 5 ∷ 2 ∷ []
unfolding Impostors.by_data_part
five_first = refl

pub size-first : Impostors.SizeFirst
size-first = (five_first, λ e. apart 0 C6.list (5 ∷ 2 ∷ []) 2 5 refl refl (λ z. omega arith) (sym worked.c6.list ∙ e ∙ five_first))

-- ---- what is an equation

pub equation-without-disk : Impostors.EquationWithoutDisk
unfolding Impostors.equation_with_disk equation
equation-without-disk = (refl, refl)
