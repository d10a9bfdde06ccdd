-- A list that stands at the start of an array, with zeros after it, gives the array back.
-- Assumes nothing.
use Rattle.std.specs.Prelude.{◌≡◌, refl, List, ◌++◌, ℕ, zero, suc, ◌+◌, ◌-◌, ◌≤◌, length, get_or, take, drop, replicate}
use Rattle.std.proofs.Common.{ap, ◌∙◌, sym, subst, length-take-le, length-drop, take-append-drop, get_or-drop, ext_get_or}
use Rattle.std.proofs.lemmas.List.{length-replicate}
use native.Mathlib.Nat.{le-add_right}

-- a list of zeros has no other entry
pub none-there : (n i : ℕ) → ◌≡◌ {A = ℕ} (get_or (replicate n 0) i 0) 0
none-there zero i = refl
none-there (suc n) zero = refl
none-there (suc n) (suc i) = none-there n i

-- the count of the words of an array that has room for them
pub count-back : (n count : ℕ) (xs : List ℕ) → length xs ≡ n → count ≤ n → length (take count xs) ≡ count
count-back n count xs e l = length-take-le count xs (subst (λ (m : ℕ). count ≤ m) (sym e) l)

-- the first `count` of an array of n places, and zeros in place of the rest
pub padded-back : (n count : ℕ) (xs : List ℕ) → length xs ≡ n → count ≤ n → ((i : ℕ) → count ≤ i → get_or xs i 0 ≡ 0)
    → take count xs ++ replicate (n - length (take count xs)) 0 ≡ xs
padded-back n count xs e l h =
    let rest : replicate (n - count) 0 ≡ drop count xs =
    ext_get_or 0 (replicate (n - count) 0) (drop count xs) (length-replicate (n - count) 0 ∙ sym (length-drop count xs ∙ ap (λ (m : ℕ). m - count) e))
    (λ i _. none-there (n - count) i ∙ sym (get_or-drop count xs i 0 ∙ h (count + i) (le-add_right count i))) in
    ap (λ (m : ℕ). take count xs ++ replicate (n - m) 0) (count-back n count xs e l)
    ∙ ap (λ (ys : List ℕ). take count xs ++ ys) rest ∙ take-append-drop count xs
