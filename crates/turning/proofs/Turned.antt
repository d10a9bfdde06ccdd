-- Stripes turned and turned back: what they hold, that each undoes the other, and that two copies make them.
-- Assumes nothing.
use mathlib.Core.Path.{◌≡◌, sym, ap, ◌∙◌, subst}
use mathlib.Core.Logic.{◌⊎◌, ⊎_elim}
use mathlib.Core.List.{List, ◌++◌}
use Prim.Native.Nat.{ℕ, ◌+◌, ◌-◌, ◌*◌, ◌/◌, ◌%◌, ◌≤◌, ◌<◌}
use native.Mathlib.Nat.{mod-lt, add-mod_right, mod-eq_of_lt, div-add-mod', add-mul, mul-le-mul_right}
use native.Mathlib.Omega.{arith}
use lib.ListN.{length, get_or, take, drop, length-append, length-drop, get_or-append, get_or-eq_default}
use lib.Seq.{ext_get_or, get_or-take, get_or-drop, get_or-append-add, length-take-le}
use Rattle.gf2.proofs.Tests.{below_or}
use Rattle.flat.specs.Lists.{tabulate, Bytes}
use Rattle.flat.specs.Strips.{byte_of}
use Rattle.flat.proofs.Lists.{length-tabulate, get_d_tabulate, tabulate_cong}
use Rattle.flat.proofs.Positions.{places, at_place, byte-table, strip-within}
use Rattle.turning.specs.Turning.{slot, disk_in, arranged, turned, turned_back}
use Rattle.turning.specs.Slots.{cut, TurnedCut}
use Rattle.turning.specs.Theorems.{TurnedHolds, TurnedBackHolds, TurnsUndone}
use Rattle.turning.proofs.Slots.{slot_lt, disk_lt, disk-slot, slot-disk, slot-reduced, disk-reduced, disk_as_slot}

-- ---- strips arranged by any rule

module _ (n L : ℕ) where
  pub arranged-byte : (f : ℕ → ℕ) (stripe : List ℕ) (t i : ℕ) → t < L → i < n → byte_of L (arranged n L f stripe) t i ≡ byte_of L stripe t (f i)
  unfolding arranged
  arranged-byte f stripe t i h l = byte-table n L (λ u j. byte_of L stripe u (f j)) t i h l

  pub length-arranged : (f : ℕ → ℕ) (stripe : List ℕ) → length (arranged n L f stripe) ≡ n * L
  unfolding arranged
  length-arranged f stripe = length-tabulate (n * L) (λ p. byte_of L stripe (p % L) (f (p / L)))

  arranged_cong : (f g : ℕ → ℕ) (stripe : List ℕ) → ((i : ℕ) → f i ≡ g i) → arranged n L f stripe ≡ arranged n L g stripe
  unfolding arranged
  arranged_cong f g stripe h =
      tabulate_cong (n * L) (λ p. byte_of L stripe (p % L) (f (p / L))) (λ p. byte_of L stripe (p % L) (g (p / L)))
      (λ p l. ap (byte_of L stripe (p % L)) (h (p / L)))

  -- a stripe is told by its bytes by place and disk
  stripe-table : (stripe : List ℕ) → length stripe ≡ n * L → tabulate (n * L) (λ p. byte_of L stripe (p % L) (p / L)) ≡ stripe
  stripe-table stripe e =
      ext_get_or 0 (tabulate (n * L) f) stripe (length-tabulate (n * L) f ∙ sym e)
      (λ p l. get_d_tabulate (n * L) f p (subst (λ (x : ℕ). p < x) (length-tabulate (n * L) f) l) ∙ sym (at_place L stripe p))
    where
      f : ℕ → ℕ
      f p = byte_of L stripe (p % L) (p / L)

  arranged_undone : (f g : ℕ → ℕ) (stripe : List ℕ) → ((i : ℕ) → i < n → f i < n) → ((i : ℕ) → i < n → g (f i) ≡ i)
      → length stripe ≡ n * L → arranged n L f (arranged n L g stripe) ≡ stripe
  unfolding arranged
  arranged_undone f g stripe b h e =
      tabulate_cong (n * L) (λ p. byte_of L (arranged n L g stripe) (p % L) (f (p / L))) (λ p. byte_of L stripe (p % L) (p / L))
      (λ p l. let q = places n L p l in
      arranged-byte g stripe (p % L) (f (p / L)) q.1 (b (p / L) q.0) ∙ ap (byte_of L stripe (p % L)) (h (p / L) q.0))
      ∙ stripe-table stripe e

-- ---- turned, and turned back

pub turned-byte : (n L r : ℕ) (stripe : List ℕ) (t s : ℕ) → t < L → s < n → byte_of L (turned n L r stripe) t s ≡ byte_of L stripe t (disk_in n r s)
unfolding turned
turned-byte n L r stripe t s h l = arranged-byte n L (disk_in n r) stripe t s h l

pub turned-holds : TurnedHolds
unfolding turned slot
turned-holds n L r stripe = (
  length-arranged n L (disk_in n r) stripe,
  λ t i h l. turned-byte n L r stripe t (slot n r i) h (slot_lt n r i l) ∙ ap (byte_of L stripe t) (disk-slot n r i l),
)

pub back-byte : (n L r : ℕ) (stripe : List ℕ) (t i : ℕ) → t < L → i < n → byte_of L (turned_back n L r stripe) t i ≡ byte_of L stripe t (slot n r i)
unfolding turned_back
back-byte n L r stripe t i h l = arranged-byte n L (slot n r) stripe t i h l

pub length_back : (n L r : ℕ) (stripe : List ℕ) → length (turned_back n L r stripe) ≡ n * L
unfolding turned_back
length_back n L r stripe = length-arranged n L (slot n r) stripe

pub turned-back-holds : TurnedBackHolds
unfolding slot
turned-back-holds n L r stripe = (length_back n L r stripe, back-byte n L r stripe)

pub turns_undone : TurnsUndone
unfolding turned turned_back
turns_undone n L r stripe e = (
  arranged_undone n L (slot n r) (disk_in n r) stripe (slot_lt n r) (disk-slot n r) e,
  arranged_undone n L (disk_in n r) (slot n r) stripe (disk_lt n r) (slot-disk n r) e,
)

pub bytes_back : (n L r : ℕ) (stripe : List ℕ) → Bytes stripe → Bytes (turned_back n L r stripe)
unfolding turned_back arranged byte_of
bytes_back n L r stripe b i = ⊎_elim inside outside (below_or i (n * L))
  where
    f : ℕ → ℕ
    f p = get_or stripe (slot n r (p / L) * L + p % L) 0

    inside : i < n * L → get_or (tabulate (n * L) f) i 0 < 256
    inside l = subst (λ (x : ℕ). x < 256) (sym (get_d_tabulate (n * L) f i l)) (b (slot n r (i / L) * L + i % L))

    outside : n * L ≤ i → get_or (tabulate (n * L) f) i 0 < 256
    outside l =
        let z = get_or-eq_default (tabulate (n * L) f) 0 {n = i} (subst (λ (x : ℕ). x ≤ i) (sym (length-tabulate (n * L) f)) l) in
        subst (λ (x : ℕ). x < 256) (sym z) (omega arith)

-- only r modulo n matters
pub turned-reduced : (n L r : ℕ) (stripe : List ℕ) → turned n L (r % n) stripe ≡ turned n L r stripe
unfolding turned
turned-reduced n L r stripe = arranged_cong n L (disk_in n (r % n)) (disk_in n r) stripe (disk-reduced n r)

pub back-reduced : (n L r : ℕ) (stripe : List ℕ) → turned_back n L (r % n) stripe ≡ turned_back n L r stripe
unfolding turned_back
back-reduced n L r stripe = arranged_cong n L (slot n (r % n)) (slot n r) stripe (slot-reduced n r)

-- ---- two copies

get_d_right : (xs ys : List ℕ) (m i : ℕ) → length xs ≡ m → get_or (xs ++ ys) (m + i) 0 ≡ get_or ys i 0
get_d_right xs ys m i e = ap (λ (x : ℕ). get_or (xs ++ ys) (x + i) 0) (sym e) ∙ get_or-append-add xs ys i 0

module _ (n L a : ℕ) (stripe : List ℕ) (few : a ≤ n) (whole : length stripe ≡ n * L) where
  split : (n - a) * L + a * L ≡ n * L
  split = sym (add-mul (n - a) a L) ∙ ap (λ (x : ℕ). x * L) (let e : n - a + a ≡ n = omega arith in e)

  -- the strips from disk a on, and those before it
  high : length (drop (a * L) stripe) ≡ (n - a) * L
  high = length-drop (a * L) stripe ∙ omega (arith, split)

  low : length (take (a * L) stripe) ≡ a * L
  low = length-take-le (a * L) stripe (omega (arith, mul-le-mul_right L few))

  pub length_cut : length (cut (a * L) stripe) ≡ n * L
  unfolding cut
  length_cut = length-append (drop (a * L) stripe) (take (a * L) stripe) ∙ omega (arith, high, low, split)

  cut-byte : (p : ℕ) → p / L < n → p % L < L → byte_of L stripe (p % L) (slot n a (p / L)) ≡ get_or (cut (a * L) stripe) p 0
  unfolding byte_of slot cut
  cut-byte p l h = ⊎_elim early late (below_or (q + a) n)
    where
      q : ℕ
      q = p / L

      is : q * L + p % L ≡ p
      is = div-add-mod' p L

      early : q + a < n → get_or stripe ((q + a) % n * L + p % L) 0 ≡ get_or (drop (a * L) stripe ++ take (a * L) stripe) p 0
      early m =
          let w : q < n - a = omega arith in
          let e : (q + a) * L + p % L ≡ a * L + p = omega (arith, is, add-mul q a L) in
          let z : p < length (drop (a * L) stripe) = omega (arith, high, is, strip-within q (n - a) L w) in
          ap (λ (x : ℕ). get_or stripe (x * L + p % L) 0) (mod-eq_of_lt m) ∙ ap (λ (x : ℕ). get_or stripe x 0) e
          ∙ sym (get_or-append (drop (a * L) stripe) (take (a * L) stripe) 0 p z ∙ get_or-drop (a * L) stripe p 0)

      late : n ≤ q + a → get_or stripe ((q + a) % n * L + p % L) 0 ≡ get_or (drop (a * L) stripe ++ take (a * L) stripe) p 0
      late m =
          let j = q + a - n in
          let e : q + a ≡ j + n = omega arith in
          let w : (q + a) % n ≡ j =
          ap (λ (x : ℕ). x % n) e ∙ add-mod_right j n ∙ mod-eq_of_lt (let z : j < n = omega arith in z) in
          let u : q ≡ n - a + j = omega arith in
          let v : p ≡ (n - a) * L + (j * L + p % L) = omega (arith, is, ap (λ (x : ℕ). x * L) u, add-mul (n - a) j L) in
          let b : j * L + p % L < a * L = omega (arith, strip-within j a L (let z : j < a = omega arith in z)) in
          ap (λ (x : ℕ). get_or stripe (x * L + p % L) 0) w
          ∙ sym (ap (λ (x : ℕ). get_or (drop (a * L) stripe ++ take (a * L) stripe) x 0) v
          ∙ get_d_right (drop (a * L) stripe) (take (a * L) stripe) ((n - a) * L) (j * L + p % L) high ∙ get_or-take (a * L) stripe (j * L + p % L) 0 b)

  pub arranged-cut : arranged n L (slot n a) stripe ≡ cut (a * L) stripe
  arranged-cut =
      ext_get_or 0 (arranged n L (slot n a) stripe) (cut (a * L) stripe) (length-arranged n L (slot n a) stripe ∙ sym length_cut)
      (λ p l. let m : p < n * L = subst (λ (x : ℕ). p < x) (length-arranged n L (slot n a) stripe) l in
      let q = places n L p m in
      at_place L (arranged n L (slot n a) stripe) p ∙ arranged-byte n L (slot n a) stripe (p % L) (p / L) q.1 q.0 ∙ cut-byte p q.0 q.1)

pub turned-cut : TurnedCut
unfolding turned turned_back
turned-cut n L r stripe some whole =
    let h : r % n < n = mod-lt r some in (
      arranged_cong n L (disk_in n r) (slot n (n - r % n)) stripe (disk_as_slot n r) ∙ arranged-cut n L (n - r % n) stripe (omega arith) whole,
      arranged_cong n L (slot n r) (slot n (r % n)) stripe (λ i. sym (slot-reduced n r i)) ∙ arranged-cut n L (r % n) stripe (omega arith) whole,
    )
