-- Arrays whose places from some count on are 0: one more stored at the count, and the places before it. That an array of zeros is such,
-- specs/Padded.antt says (`none-there`).
-- Assumes nothing.
use Rattle.std.specs.Prelude.{◌≡◌, List, ℕ, ◌+◌, ◌≤◌, ◌<◌, length, get_or, set, take}
use Rattle.std.proofs.Common.{◌∙◌, sym, arith, length-take-le}
use Rattle.std.proofs.lemmas.List.{get_or-set_other, get_or-take, ext_get_or}

pub rest_more : (count v : ℕ) (xs : List ℕ) → ((i : ℕ) → count ≤ i → get_or xs i 0 ≡ 0) → (i : ℕ) → count + 1 ≤ i → get_or (set xs count v) i 0 ≡ 0
rest_more count v xs h i l = get_or-set_other xs count i v 0 (λ e. omega arith) ∙ h i (omega arith)

-- lists with the same first places
pub same_first : (m count : ℕ) (xs ys : List ℕ) → m ≡ count → count ≤ length xs → count ≤ length ys
    → ((i : ℕ) → i < count → get_or xs i 0 ≡ get_or ys i 0) → take m xs ≡ take count ys
same_first m count xs ys e l k h =
    let n : length (take m xs) ≡ m = length-take-le m xs (omega arith) in
    ext_get_or 0 (take m xs) (take count ys) (n ∙ e ∙ sym (length-take-le count ys k))
    (λ i b. get_or-take m xs i 0 (omega (arith, n)) ∙ h i (omega (arith, n)) ∙ sym (get_or-take count ys i 0 (omega (arith, n))))
