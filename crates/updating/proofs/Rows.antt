-- Row d of a code: data disk d, and the parity disks that name it.
-- Assumes nothing.
use mathlib.Core.Path.{◌≡◌, refl, sym, ap₂, ◌∙◌, subst}
use mathlib.Core.Bool.{Bool, true, false}
use Prim.Native.Nat.{ℕ, ◌+◌, ◌-◌, ◌<◌}
use native.Mathlib.Omega.{arith}
use borrow.Author.Tests.{lt-ltb, le-ltb}
use lib.Dec.{T, eqb, ltb}
use Rattle.std.specs.Prelude.{if◌then◌else◌}
use Rattle.gf2.specs.Sets.{has, size, over}
use Rattle.gf2.proofs.Tests.{eqb_in, eqb_out, eqb_sym}
use Rattle.gf2.proofs.Sums.{over-at}
use Rattle.flat.specs.Cards.{Code, disks, column}
use Rattle.flat.specs.Strips.{holds}
use Rattle.flat.specs.Checks.{row}
use Rattle.flat.proofs.Counts.{count_le, count_cong, count-append, count-one, size-set}
use Rattle.flat.proofs.Rows.{row_has}
use Rattle.updating.specs.Updating.{naming}
use Rattle.updating.specs.Theorems.{RowNames}

module _ (C : Code) (d : ℕ) where
  pub row-has_data : (i : ℕ) → i < C.k → has (row C d) i ≡ eqb i d
  unfolding disks
  row-has_data i l = row_has C d i (omega arith) ∙ rw (lt-ltb i C.k l)

  pub row-has-parity : (j : ℕ) → j < C.m → has (row C d) (C.k + j) ≡ has (column C j) d
  unfolding disks
  row-has-parity j l =
      let e : C.k + j - C.k ≡ j = omega arith in
      row_has C d (C.k + j) (omega arith) ∙ rw (le-ltb (C.k + j) C.k (omega arith), e)

  pub row-own : d < C.k → T (has (row C d) d)
  row-own l = subst T (sym (row-has_data d l)) (eqb_in {a = d} refl)

  row-size : d < C.k → size (row C d) ≡ 1 + naming C d
  unfolding row naming disks
  row-size l =
      size-set (C.k + C.m) member ∙ count-append C.k C.m member
      ∙ ap₂ (λ (x y : ℕ). x + y)
      (count_cong C.k member (λ i. eqb i d) (λ i h. sym (row_has C d i (omega arith)) ∙ row-has_data i h) ∙ count-one C.k d l)
      (count_cong C.m (λ j. member (C.k + j)) (λ j. has (column C j) d) (λ j h. sym (row_has C d (C.k + j) (omega arith)) ∙ row-has-parity j h))
    where
      member : ℕ → Bool
      member e = if ltb e C.k then eqb e d else has (column C (e - C.k)) d

  -- what each disk holds where data disk d alone holds something
  pub row-holds : (v i : ℕ) → d < C.k → i < disks C → holds C (λ j. if eqb d j then v else 0) i ≡ (if has (row C d) i then v else 0)
  unfolding holds
  row-holds v i l h = rw (row_has C d i h) (go (ltb i C.k))
    where
      go : (b : Bool) → (if b then (if eqb d i then v else 0) else over C.k (column C (i - C.k)) (λ j. if eqb d j then v else 0))
          ≡ (if (if b then eqb i d else has (column C (i - C.k)) d) then v else 0)
      go true = rw (eqb_sym d i)
      go false = over-at C.k (column C (i - C.k)) d v l

pub row-names : RowNames
unfolding naming
row-names C d l = (
  λ i h. (λ t. eqb_out i d (subst T (row-has_data C d i h) t), λ e. subst T (sym (row-has_data C d i h)) (eqb_in e)),
  λ j h. (λ t. subst T (row-has-parity C d j h) t, λ t. subst T (sym (row-has-parity C d j h)) t),
  row-size C d l,
  omega (arith, count_le C.m (λ j. has (column C j) d)),
)
