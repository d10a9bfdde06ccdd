-- The strips of a turned stripe, by slots: sums that vanish, and slots filled in place, are those of the stripe turned back.
-- Assumes nothing.
use mathlib.Core.Path.{◌≡◌, refl, sym, ap, ap₂, ◌∙◌}
use mathlib.Core.Bool.{Bool, ◌&&◌}
use mathlib.Core.List.{List, [], ◌∷◌}
use Prim.Native.Nat.{ℕ, ◌+◌, ◌*◌, ◌/◌, ◌%◌, ◌<◌}
use lib.Arith.{digits_div, digits_mod}
use lib.Dec.{eqb}
use lib.ListN.{length, get_or}
use Rattle.std.specs.Prelude.{if◌then◌else◌}
use Rattle.gf2.specs.Sets.{has, over}
use Rattle.gf2.proofs.Sums.{over_cong}
use Rattle.flat.specs.Lists.{tabulate}
use Rattle.flat.specs.Strips.{byte_of}
use Rattle.flat.specs.Repairs.{filled, vanishes, all_vanish}
use Rattle.flat.proofs.Lists.{tabulate_cong}
use Rattle.flat.proofs.Quantifiers.{every_cong}
use Rattle.flat.proofs.Positions.{places, at_place, byte_at}
use Rattle.turning.specs.Turning.{slot, disk_in, arranged, turned, turned_back, disks_of}
use Rattle.turning.specs.Slots.{slots_of, VanishTurned, FilledTurned}
use Rattle.turning.proofs.Slots.{disk_lt, slot-disk}
use Rattle.turning.proofs.Turned.{back-byte, length_back}
use Rattle.turning.proofs.Sets.{disk-of, sum-turned}

-- over the strips of a turned stripe
sum-strips : (n L r E t : ℕ) (stripe : List ℕ) → t < L → over n (slots_of n r E) (byte_of L stripe t) ≡ over n E (byte_of L (turned_back n L r stripe) t)
sum-strips n L r E t stripe h =
    sum-turned n r E (byte_of L stripe t)
    ∙ over_cong n E (λ i. byte_of L stripe t (slot n r i)) (byte_of L (turned_back n L r stripe) t) (λ i l m. sym (back-byte n L r stripe t i h l))

pub vanish_turned : VanishTurned
unfolding all_vanish vanishes
vanish_turned n L r [] stripe = refl
vanish_turned n L r (E ∷ Es) stripe =
    ap₂ ◌&&◌
    (every_cong L (λ t. eqb (over n (slots_of n r E) (byte_of L stripe t)) 0) (λ t. eqb (over n E (byte_of L (turned_back n L r stripe) t)) 0)
    (λ t h. ap (λ (x : ℕ). eqb x 0) (sum-strips n L r E t stripe h)))
    (vanish_turned n L r Es stripe)

-- ---- filling in place

filled-byte : (n L : ℕ) (E : ℕ → ℕ) (S : ℕ) (stripe : List ℕ) → length stripe ≡ n * L → (t d : ℕ) → t < L → d < n
    → byte_of L (filled n L E S stripe) t d ≡ (if has S d then over n (E d) (byte_of L stripe t) else byte_of L stripe t d)
unfolding filled byte_of
filled-byte n L E S stripe e t d h l =
    ap (λ (x : ℕ). byte_of L (tabulate x new) t d) e ∙ byte_at n L new t d h l
    ∙ ap₂ (λ (q u : ℕ). if has S q then over n (E q) (byte_of L stripe u) else get_or stripe (d * L + t) 0) (digits_div d h) (digits_mod d h)
  where
    new : ℕ → ℕ
    new p = if has S (p / L) then over n (E (p / L)) (byte_of L stripe (p % L)) else get_or stripe p 0

if_cong : (b c : Bool) (x y u v : ℕ) → b ≡ c → x ≡ u → y ≡ v → (if b then x else y) ≡ (if c then u else v)
if_cong b c x y u v p q w = ap (λ (a : Bool). if a then x else y) p ∙ ap₂ (λ (i j : ℕ). if c then i else j) q w

pub filled-turned : FilledTurned
unfolding filled turned arranged
filled-turned n L r S E stripe e =
    ap (λ (x : ℕ). tabulate x new) e
    ∙ tabulate_cong (n * L) new (λ p. byte_of L (filled n L E D back) (p % L) (disk_in n r (p / L)))
    (λ p l. let q = places n L p l in
    same p q.0 q.1 ∙ sym (filled-byte n L E D back (length_back n L r stripe) (p % L) (disk_in n r (p / L)) q.1 (disk_lt n r (p / L) q.0)))
  where
    D : ℕ
    D = disks_of n r S

    back : List ℕ
    back = turned_back n L r stripe

    new : ℕ → ℕ
    new p = if has S (p / L) then over n (slots_of n r (E (disk_in n r (p / L)))) (byte_of L stripe (p % L)) else get_or stripe p 0

    same : (p : ℕ) → p / L < n → p % L < L
        → new p ≡ (if has D (disk_in n r (p / L)) then over n (E (disk_in n r (p / L))) (byte_of L back (p % L)) else byte_of L back (p % L) (disk_in n r (p / L)))
    same p l h =
        let d = disk_in n r (p / L) in
        if_cong (has S (p / L)) (has D d) (over n (slots_of n r (E d)) (byte_of L stripe (p % L))) (get_or stripe p 0) (over n (E d) (byte_of L back (p % L)))
        (byte_of L back (p % L) d) (sym (disk-of n r S (p / L) l)) (sum-strips n L r (E d) (p % L) stripe h)
        (at_place L stripe p ∙ ap (byte_of L stripe (p % L)) (sym (slot-disk n r (p / L) l))
        ∙ sym (back-byte n L r stripe (p % L) d h (disk_lt n r (p / L) l)))
