-- The body of a disk, as the code lends it from the stripe.
-- Assumes nothing.
use mathlib.Core.Path.{◌≡◌, ap}
use mathlib.Core.Bool.{Bool, true, false}
use mathlib.Core.List.{List, []}
use Prim.Native.Nat.{ℕ, ◌+◌, ◌-◌, ◌*◌}
use native.Mathlib.Omega.{arith}
use lib.ListN.{take, drop}
use Rattle.std.specs.Prelude.{if◌then◌else◌}
use Rattle.gf2.specs.Sets.{has}
use Rattle.flat.proofs.Lists.{put-none}
use Rattle.record_format.specs.Records.{strip_body}

-- the strip of disk i
pub part_strip : (i l : ℕ) (stripe : List ℕ) → take (i * l + l - i * l) (drop (i * l) stripe) ≡ take l (drop (i * l) stripe)
part_strip i l stripe = ap (λ (n : ℕ). take n (drop (i * l) stripe)) (let e : i * l + l - i * l ≡ l = omega arith in e)

-- the body of a disk that is not lost, and that of one that is
pub body-there : (l lost i : ℕ) (stripe : List ℕ) → has lost i ≡ false → strip_body l lost stripe i ≡ take l (drop (i * l) stripe)
unfolding strip_body
body-there l lost i stripe e = ap (λ (b : Bool). if b then [] else take l (drop (i * l) stripe)) e

pub body-lost : (l lost i : ℕ) (stripe : List ℕ) → has lost i ≡ true → strip_body l lost stripe i ≡ []
unfolding strip_body
body-lost l lost i stripe e = ap (λ (b : Bool). if b then [] else take l (drop (i * l) stripe)) e

-- ---- what the proof of a body cites
pub ruleset body_laws = (part_strip, body-there, body-lost, put-none)
