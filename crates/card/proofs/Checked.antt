-- What the check has found where it refuses nothing: the card's code.
-- Assumes nothing.
use mathlib.Core.Path.{◌≡◌, refl, sym, ap₂, subst}
use mathlib.Core.Bool.{false, ◌||◌}
use mathlib.Core.List.{List, [], ◌∷◌}
use Prim.Native.Nat.{ℕ}
use native.Mathlib.Omega.{arith}
use lib.Dec.{eqb}
use lib.ListN.{length}
use Rattle.std.specs.Prelude.{Option, Some, None, unwrap_or}
use Rattle.std.specs.List.{list_any}
use Rattle.gf2.proofs.Tests.{eqb_sym}
use Rattle.flat.specs.declared.Edition.{Edition}
use Rattle.flat.specs.Lists.{member}
use Rattle.flat.specs.Cards.{Code, code, first_bad, columns_in, code_in, card_of, edition_length, column_bytes, code_of}
use Rattle.card.specs.Columns.{Columns}
use Rattle.card.specs.Editions.{Counted, held_bytes}
use Rattle.card.proofs.Callers.{GoodCard, good}
use Rattle.card.proofs.Tested as tested

-- the search answered none
pub none_found : (r : Option ℕ) (m f : ℕ) → ((j : ℕ) → r ≡ Some j → ⊥) → unwrap_or r m ≡ f → m ≡ f
none_found None m f n e = e
none_found (Some j) m f n e = absurd (n j refl)

-- the search for a zero finds just what is among the wears
pub zero_among : (ws : List ℕ) → list_any (λ w. eqb w 0) ws ≡ member 0 ws
unfolding member
zero_among [] = refl
zero_among (w ∷ ws) = ap₂ ◌||◌ (eqb_sym w 0) (zero_among ws)

module _ (e : Edition) (bs : List ℕ) (k m : ℕ) (c : Counted (card_of e bs) k m) (n : ℕ) (size : n ≡ edition_length e (code k m [])) (whole : length bs ≡ n)
    (columns : List ℕ) (lent : columns ≡ column_bytes (card_of e bs)) (found : m ≡ first_bad k (columns_in m columns))
    (held : List ℕ) (those : held ≡ held_bytes (card_of e bs)) (worn : false ≡ member 0 held) where
  same_code : code_in k m columns ≡ code_of (card_of e bs)
  unfolding code_of
  same_code = rw lent (ap₂ (λ (x y : ℕ). code_in x y (column_bytes (card_of e bs))) c.2 c.3)

  good_code : GoodCard (card_of e bs) (code_in k m columns)
  good_code =
      good e bs (code_in k m columns)
      (tested.good_card e bs k m c n size whole m columns lent found (omega arith) held those worn) same_code

  pub columns_are : Columns k m columns
  columns_are = subst (Columns k m) (sym lent) good_code.columns

  pub checked : (new : Code) → new ≡ code_in k m columns → GoodCard (card_of e bs) new
  checked new is = subst (GoodCard (card_of e bs)) (sym is) good_code
