-- Renumbering the parity disks: each disk holds at its new place what it held, so a codeword's disks become those of the other code's codeword.
-- Assumes nothing.
use mathlib.Core.Path.{◌≡◌, refl, sym, ap, ◌∙◌, subst}
use mathlib.Core.Bool.{Bool, ◌&&◌}
use mathlib.Core.Logic.{◌⊎◌, inl, inr, ⊎_elim}
use mathlib.Core.List.{List}
use Prim.Native.Nat.{ℕ, ◌+◌, ◌-◌, ◌^◌, ◌<◌}
use native.Mathlib.Omega.{arith}
use borrow.Author.Tests.{lt-ltb, le-ltb}
use lib.Dec.{T, eqb}
use Rattle.gf2.specs.Sets.{bit, has, size, over}
use Rattle.gf2.proofs.Tests.{T-ext, and_in, and_out, eqb_in, eqb_out, below_or}
use Rattle.flat.specs.Lists.{some, Permutes}
use Rattle.flat.specs.Cards.{Code, code, disks}
use Rattle.flat.specs.Strips.{holds}
use Rattle.flat.specs.Erasures.{holds_bit}
use Rattle.flat.specs.Spans.{codeword}
use Rattle.flat.proofs.Quantifiers.{some_in, some_out, set_lt, has-set, set_is}
use Rattle.flat.proofs.Counts.{count_cong, size-count}
use Rattle.flat.proofs.Permuting.{count_permuted, taken}
use Rattle.flat.proofs.Words.{holds_data, holds-parity, codeword_lt, codeword-bit}
use Rattle.renumbering.specs.Renumbering.{Renumbering, place, renumbered}

-- two codes with one k and one m
module _ (k m : ℕ) (us vs : List ℕ) (π : ℕ → ℕ) (r : Renumbering (code k m us) (code k m vs) π) where
  abbrev A : Code
  A = code k m us

  abbrev B : Code
  B = code k m vs

  -- ---- disks

  to : ℕ → ℕ
  to = place A π

  -- a data disk, or some parity's
  abbrev Kind : ℕ → Type 0
  Kind d = (d < k) ⊎ ((j : ℕ) × (j < m) × (d ≡ k + j))

  kind : (d : ℕ) → d < disks A → Kind d
  unfolding disks
  kind d l = ⊎_elim inl (λ h. inr (d - k, omega arith, omega arith)) (below_or d k)

  pub to_data : (d : ℕ) → d < k → place A π d ≡ d
  unfolding place
  to_data d l = rw (lt-ltb d k l)

  to_parity : (d j : ℕ) → d ≡ k + j → to d ≡ k + π j
  unfolding to place
  to_parity d j e = let f : d - k ≡ j = omega arith in rw (le-ltb d k (omega arith), f) (omega arith)

  pub to_permutes : Permutes (disks A) (place A π)
  unfolding disks to
  to_permutes = record { below = λ d l. within d (kind d l); distinct = λ d e s t h. apart d e h (kind d s) (kind e t) }
    where
      within : (d : ℕ) → Kind d → to d < k + m
      within d (inl l) = omega (arith, to_data d l)
      within d (inr (j, l, e)) = omega (arith, to_parity d j e, r.permutes.below j l)

      apart : (d e : ℕ) → to d ≡ to e → Kind d → Kind e → d ≡ e
      apart d e h (inl s) (inl t) = omega (arith, h, to_data d s, to_data e t)
      apart d e h (inl s) (inr (j, t, q)) = absurd (omega (arith, h, to_data d s, to_parity e j q))
      apart d e h (inr (i, s, p)) (inl t) = absurd (omega (arith, h, to_data e t, to_parity d i p))
      apart d e h (inr (i, s, p)) (inr (j, t, q)) =
          let z : π i ≡ π j = omega (arith, h, to_parity d i p, to_parity e j q) in omega (arith, r.permutes.distinct i j s t z)

  -- ---- what they hold

  pub holds_same : (v : ℕ → ℕ) (d : ℕ) → d < disks A → holds B v (place A π d) ≡ holds A v d
  unfolding to
  holds_same v d l = go (kind d l)
    where
      go : Kind d → holds B v (to d) ≡ holds A v d
      go (inl h) = ap (holds B v) (to_data d h) ∙ holds_data B v d h ∙ sym (holds_data A v d h)
      go (inr (j, h, e)) =
          ap (holds B v) (to_parity d j e) ∙ holds-parity B v (π j) ∙ ap (λ (c : ℕ). over k c v) (r.carries j h)
          ∙ sym (holds-parity A v j) ∙ ap (holds A v) (sym e)

  -- ---- codewords

  codeword-has : (x d : ℕ) → d < disks A → has (codeword B x) (to d) ≡ has (codeword A x) d
  unfolding disks has holds_bit to
  codeword-has x d l =
      ap (λ (b : ℕ). eqb b 1)
      (codeword-bit B x (to d) (to_permutes.below d l) ∙ holds_same (bit x) d l ∙ sym (codeword-bit A x d l))

  pub codeword-size : (x : ℕ) → size (codeword B x) ≡ size (codeword A x)
  unfolding disks to
  codeword-size x =
      size-count (disks A) (codeword B x) (codeword_lt B x) ∙ sym (count_permuted (disks A) to to_permutes (has (codeword B x)))
      ∙ count_cong (disks A) (λ d. has (codeword B x) (to d)) (has (codeword A x)) (codeword-has x)
      ∙ sym (size-count (disks A) (codeword A x) (codeword_lt A x))

  -- whether a disk's place is among those of S
  among : ℕ → ℕ → Bool
  among S i = some (disks A) (λ e. has S e && eqb (to e) i)

  among_has : (S d : ℕ) → d < disks A → among S (to d) ≡ has S d
  unfolding among to
  among_has S d l =
      T-ext
      (λ t. let (e, h, u) = some_out (disks A) (λ e. has S e && eqb (to e) (to d)) t in
      let a = and_out (has S e) (eqb (to e) (to d)) u in
      subst (λ (x : ℕ). T (has S x)) (to_permutes.distinct e d h l (eqb_out (to e) (to d) a.1)) a.0)
      (λ t. some_in (disks A) (λ e. has S e && eqb (to e) (to d)) (d, l, and_in (has S d) (eqb (to d) (to d)) t (eqb_in {a = to d} refl)))

  pub renumbered_lt : (S : ℕ) → renumbered A π S < 2 ^ disks A
  unfolding renumbered
  renumbered_lt S = set_lt (disks A) (λ i. some (disks A) (λ e. has S e && eqb (place A π e) i))

  pub renumbered-has : (S d : ℕ) → d < disks A → has (renumbered A π S) (place A π d) ≡ has S d
  unfolding disks renumbered among to
  renumbered-has S d l = has-set (disks A) (among S) (to d) (to_permutes.below d l) ∙ among_has S d l

  -- each disk is the place of some disk
  pub renumbered-codeword : (x : ℕ) → renumbered A π (codeword A x) ≡ codeword B x
  unfolding disks renumbered among to
  renumbered-codeword x =
      set_is (disks A) (codeword B x) (among (codeword A x)) (codeword_lt B x)
      (λ i l. let (d, h, e) = taken (disks A) to to_permutes i l in
      subst (λ (y : ℕ). among (codeword A x) y ≡ has (codeword B x) y) e (among_has (codeword A x) d h ∙ sym (codeword-has x d h)))
