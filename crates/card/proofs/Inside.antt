-- What is known of a code by its bytes is known of it as a code.
-- Assumes nothing.
use mathlib.Core.Path.{◌≡◌, sym, ap, ◌∙◌, subst}
use mathlib.Core.List.{List, [], ◌∷◌}
use Prim.Native.Nat.{ℕ, ◌+◌, ◌*◌, ◌^◌, ◌<◌}
use native.Mathlib.Numerals.{add-one}
use native.Mathlib.Omega.{arith}
use lib.ListN.{get_or}
use Rattle.std.specs.Int.{from_le_bytes, w16}
use Rattle.flat.specs.Lists.{tabulate, padded, field}
use Rattle.flat.specs.Cards.{Code, code_in, column, disks}
use Rattle.flat.proofs.Lists.{entries, field_two}
use Rattle.flat.proofs.Cards.{length-columns, column-at}
use Rattle.card.specs.Codes.{Legal}
use Rattle.card.specs.Columns.{Columns}

-- column j of the code whose columns stand in bytes
pub column-field : (k m : ℕ) (bs : List ℕ) (j : ℕ) → j < m → field (2 * j) 2 bs ≡ column (code_in k m bs) j
unfolding column
column-field k m bs j l = sym (column-at m bs j l)

pub legal : (k m : ℕ) (bs : List ℕ) → Columns k m bs → Legal (code_in k m bs)
legal k m bs h =
    (h.0, h.1, h.2, h.3, length-columns m bs, λ j l. subst (λ (c : ℕ). c < 2 ^ k) (column-field k m bs j l) (h.5 j l))

-- the code that a method is given, by its fields
module _ (k m : ℕ) (bs : List ℕ) (C : Code) (view : code_in k m bs ≡ C) where
  pub legal_inside : Columns k m bs → Legal C
  legal_inside h = subst Legal view (legal k m bs h)

  pub column_inside : (j c : ℕ) → j < m → c ≡ field (2 * j) 2 bs → c ≡ column C j
  column_inside j c l e = e ∙ column-field k m bs j l ∙ ap (λ (D : Code). column D j) view

  pub disks_inside : k + m ≡ disks C
  unfolding disks
  disks_inside = ap disks view

-- a table of a code's columns
pub all_columns : (C : Code) (j : ℕ) → j ≡ C.m → Legal C → padded 16 (tabulate j (column C)) ≡ padded 16 C.columns
unfolding column
all_columns C j e h = ap (padded 16) (ap (λ (i : ℕ). tabulate i (λ d. get_or C.columns d 0)) (e ∙ sym h.4) ∙ entries C.columns)

-- two bytes, low byte first
le_number : (x y : ℕ) → from_le_bytes w16 (x ∷ y ∷ []) ≡ x + 256 * y
le_number x y = omega arith

pub two_bytes_read : (at next : ℕ) (bs : List ℕ) → next ≡ at + 1 → from_le_bytes w16 (get_or bs at 0 ∷ get_or bs next 0 ∷ []) ≡ field at 2 bs
two_bytes_read at next bs e =
    le_number (get_or bs at 0) (get_or bs next 0) ∙ sym (field_two at bs ∙ ap (λ (i : ℕ). get_or bs at 0 + 256 * get_or bs i 0) (sym (e ∙ add-one at)))
