-- Strips copied to the front of a longer list are the same strips.
-- Assumes nothing.
use mathlib.Core.Path.{◌≡◌, sym, ap, ◌∙◌}
use mathlib.Core.List.{List}
use Prim.Native.Nat.{ℕ, ◌+◌, ◌*◌, ◌≤◌, ◌<◌}
use native.Mathlib.Nat.{zero-add, mul-le-mul_right}
use native.Mathlib.Omega.{arith}
use lib.Arith.{digits_lt}
use lib.ListN.{length, get_or, take}
use lib.Seq.{get_or-take, length-take-le}
use Rattle.flat.specs.Lists.{put}
use Rattle.flat.specs.Strips.{byte_of}
use Rattle.flat.proofs.Lists.{put-new}

-- there is room for so many short ones, and for a block after them
pub aside_room : (n l : ℕ) → n ≤ 32 → l < 16 → n * l + 16 ≤ 512
aside_room n l few short = omega (arith, mul-le-mul_right l few)

pub aside_byte : (n l : ℕ) (s local₀ local : List ℕ) → n * l ≤ length local₀ → n * l ≤ length s → local ≡ put local₀ 0 (take (n * l) s)
    → (t i : ℕ) → t < l → i < n → byte_of l local t i ≡ byte_of l s t i
unfolding byte_of
aside_byte n l s local₀ local room fits e t i h m =
    let p : i * l + t < n * l = digits_lt m h in
    ap (λ (x : List ℕ). get_or x (i * l + t) 0) e
    ∙ ap (λ (x : ℕ). get_or (put local₀ 0 (take (n * l) s)) x 0) (sym (zero-add (i * l + t)))
    ∙ put-new local₀ 0 (take (n * l) s) (n * l) (omega arith) (length-take-le (n * l) s fits) (i * l + t) p
    ∙ get_or-take (n * l) s (i * l + t) 0 p
