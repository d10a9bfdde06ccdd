-- The blocks of w bytes that a strip of l bytes has, one after the other from its start.
-- Assumes nothing.
use mathlib.Core.Path.{◌≡◌, ap, ◌∙◌}
use Prim.Native.Nat.{ℕ, ◌+◌, ◌*◌, ◌/◌, ◌%◌, ◌≤◌, ◌<◌}
use native.Mathlib.Nat.{suc-mul, mod-lt, div-add-mod'}
use native.Mathlib.Numerals.{add-one}
use native.Mathlib.Omega.{arith}
use Rattle.flat.proofs.Positions.{strip-within}

-- each lies in the strip
pub block_fits : (l w b : ℕ) → b < l / w → b * w + w ≤ l
block_fits l w b h = omega (arith, strip-within b (l / w) w h, div-add-mod' l w)

-- the next begins where one ends
pub block_next : (w b : ℕ) → (b + 1) * w ≡ b * w + w
block_next w b = rw (add-one b) (suc-mul b w)

-- they end with the strip, where their width divides its length
pub blocks_whole : (l w b : ℕ) → b ≡ l / w → l % w ≡ 0 → b * w ≡ l
blocks_whole l w b e z = ap (λ (x : ℕ). x * w) e ∙ omega (arith, div-add-mod' l w, z)

-- and else no block's width before its end
pub blocks_rest : (l w b : ℕ) → b ≡ l / w → 1 ≤ w → l < b * w + w
blocks_rest l w b e h = rw e (omega (arith, div-add-mod' l w, mod-lt l h))
