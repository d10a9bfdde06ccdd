-- The search for the first bad column, over columns as numbers and in their bytes.
-- Assumes nothing.
use mathlib.Core.Path.{◌≡◌, refl, sym, ap, ap₂, ◌∙◌}
use mathlib.Core.Bool.{true, false}
use mathlib.Core.List.{List, [], ◌∷◌, map}
use Prim.Native.Nat.{ℕ, zero, suc, ◌+◌, ◌*◌, ◌<◌}
use native.Mathlib.Numerals.{add-one}
use native.Mathlib.Omega.{arith}
use lib.ListN.{length}
use Rattle.std.specs.Prelude.{Option, unwrap_or, MatchOption}
use Rattle.std.specs.List.{AllWithin, HoldsAt, range_with_len}
use Rattle.std.proofs.lemmas.List.FromFn.{length-range_with_len}
use Rattle.std.proofs.lemmas.Iterator.{index_from_first}
use Rattle.flat.specs.Lists.{tabulate, field}
use Rattle.flat.specs.Cards.{column_ok, first_bad, columns_in}
use Rattle.flat.proofs.Lists.{tabulate_cong}

module _ (k : ℕ) (column : ℕ → ℕ) where
  abbrev pub Bad : ℕ → Type 0
  Bad j = column_ok k (column j) ≡ false

  abbrev pub Passes : ℕ → Type 0
  Passes j = column_ok k (column j) ≡ true

  -- what `position` answers
  abbrev pub Found : List ℕ → Option ℕ → Type 0
  Found js r = MatchOption r (AllWithin Passes js 0 (length js)) (λ i. (i < length js) × HoldsAt Bad js i × AllWithin Passes js 0 i)

  abbrev bad_among : List ℕ → ℕ
  bad_among js = first_bad k (map column js)

  stops : (j : ℕ) (js : List ℕ) → Bad j → bad_among (j ∷ js) ≡ 0
  unfolding first_bad
  stops j js e = rw e

  goes_on : (j : ℕ) (js : List ℕ) → Passes j → bad_among (j ∷ js) ≡ bad_among js + 1
  unfolding first_bad
  goes_on j js e = rw (e, add-one)

  none : bad_among [] ≡ 0
  unfolding first_bad
  none = refl

  found : (js : List ℕ) (r : Option ℕ) → Found js r → unwrap_or r (length js) ≡ bad_among js
  found js r h = sym (index_from_first bad_among Bad Passes none stops goes_on js r h)

-- the columns as numbers
map_same : (cs : List ℕ) → map (λ c. c) cs ≡ cs
map_same [] = refl
map_same (c ∷ cs) = ap (λ (l : List ℕ). c ∷ l) (map_same cs)

pub first_found : (k : ℕ) (cs : List ℕ) (r : Option ℕ) → Found k (λ c. c) cs r → unwrap_or r (length cs) ≡ first_bad k cs
first_found k cs r h = found k (λ c. c) cs r h ∙ ap (first_bad k) (map_same cs)

-- the m columns in their bytes
numbered : (a n : ℕ) (f : ℕ → ℕ) → map f (range_with_len a n) ≡ tabulate n (λ i. f (a + i))
unfolding tabulate
numbered a zero f = refl
numbered a (suc n) f =
    ap₂ ◌∷◌ (let z : a ≡ a + 0 = omega arith in ap f z)
    (numbered (a + 1) n f ∙ tabulate_cong n (λ i. f (a + 1 + i)) (λ i. f (a + suc i)) (λ i l. let z : a + 1 + i ≡ a + suc i = omega arith in ap f z))

pub first_found_in : (k m : ℕ) (bs : List ℕ) (r : Option ℕ) → Found k (λ j. field (2 * j) 2 bs) (range_with_len 0 m) r → unwrap_or r m ≡ first_bad k (columns_in m bs)
unfolding columns_in
first_found_in k m bs r h =
    let at : ℕ → ℕ = λ j. field (2 * j) 2 bs in
    ap (unwrap_or r) (sym (length-range_with_len 0 m)) ∙ found k at (range_with_len 0 m) r h
    ∙ ap (first_bad k) (numbered 0 m at ∙ tabulate_cong m (λ i. at (0 + i)) at (λ i l. let z : 0 + i ≡ i = omega arith in ap at z))
