-- The bytes of a stripe by disk and place, the stripe that a content gives, and the encoded one.
-- Assumes nothing.
use mathlib.Core.Path.{◌≡◌, refl, sym, ap, ap₂, ◌∙◌}
use mathlib.Core.Bool.{Bool, true, false}
use mathlib.Core.Logic.{◌⊎◌, inl, inr, ◌≢◌}
use mathlib.Core.List.{List}
use Prim.Native.Nat.{ℕ, zero, suc, ◌+◌, ◌*◌, ◌/◌, ◌%◌, ◌≤◌, ◌<◌}
use native.Mathlib.Nat.{suc-mul, mul-le-mul_right, mod-lt, zero-lt-suc, div-lt_iff_lt-mul, div-add-mod'}
use native.Mathlib.Omega.{arith}
use lib.Arith.{digits_lt, digits_div, digits_mod}
use lib.Dec.{T, eqb}
use lib.ListN.{length, get_or, take}
use lib.Seq.{get_or-take}
use Rattle.std.specs.Prelude.{if◌then◌else◌}
use Rattle.gf2.specs.Sets.{has, over}
use Rattle.gf2.proofs.Tests.{dec, eqb_in, eqb_out, below_or, if_true, if_false}
use Rattle.flat.specs.Lists.{tabulate, put}
use Rattle.flat.specs.Cards.{Code, disks}
use Rattle.flat.specs.Strips.{byte_of, holds, given, encoded}
use Rattle.flat.specs.Repairs.{filled}
use Rattle.flat.proofs.Lists.{length-tabulate, get_d_tabulate, tabulate_cong, put-before, put-new, put-after}
use Rattle.flat.proofs.Words.{holds_cong}

-- ---- disk and place

-- the disk and the place of a byte
pub places : (n L p : ℕ) → p < n * L → (p / L < n) × (p % L < L)
places n zero p l = absurd (omega arith)
places n (suc L) p l = ((div-lt_iff_lt-mul (zero-lt-suc L)).1 l, mod-lt p (zero-lt-suc L))

pub at_place : (L : ℕ) (s : List ℕ) (p : ℕ) → get_or s p 0 ≡ byte_of L s (p % L) (p / L)
unfolding byte_of
at_place L s p = ap (λ (q : ℕ). get_or s q 0) (sym (div-add-mod' p L))

-- the strip of disk i ends within those of n disks
pub strip-within : (i n l : ℕ) → i < n → i * l + l ≤ n * l
strip-within i n l h = rw (← suc-mul i l) (mul-le-mul_right l h)

-- the strips of two disks do not meet
pub strips-apart : (i d l : ℕ) → i ≢ d → (i * l + l ≤ d * l) ⊎ (d * l + l ≤ i * l)
strips-apart i d l f = go (below_or i d) (below_or d i)
  where
    go : (i < d) ⊎ (d ≤ i) → (d < i) ⊎ (i ≤ d) → (i * l + l ≤ d * l) ⊎ (d * l + l ≤ i * l)
    go (inl h) k = inl (strip-within i d l h)
    go (inr h) (inl k) = inr (strip-within d i l k)
    go (inr h) (inr k) = absurd (f (let e : i ≡ d = omega arith in e))

-- a table by number, and a table by place and disk
pub byte_at : (n L : ℕ) (f : ℕ → ℕ) (t i : ℕ) → t < L → i < n → byte_of L (tabulate (n * L) f) t i ≡ f (i * L + t)
unfolding byte_of
byte_at n L f t i h l = get_d_tabulate (n * L) f (i * L + t) (digits_lt l h)

pub byte-table : (n L : ℕ) (f : ℕ → ℕ → ℕ) (t i : ℕ) → t < L → i < n → byte_of L (tabulate (n * L) (λ p. f (p % L) (p / L))) t i ≡ f t i
byte-table n L f t i h l = byte_at n L (λ p. f (p % L) (p / L)) t i h l ∙ ap₂ f (digits_mod i h) (digits_div i h)

-- the first strips are those of the whole
pub byte-take : (n L : ℕ) (s : List ℕ) (t i : ℕ) → t < L → i < n → byte_of L (take (n * L) s) t i ≡ byte_of L s t i
unfolding byte_of
byte-take n L s t i h l = get_or-take (n * L) s (i * L + t) 0 (digits_lt l h)

-- a strip put in the place of that of disk d
pub byte_put : (n L d : ℕ) (new s : List ℕ) (t i : ℕ) → n * L ≤ length s → length new ≡ L → d < n → t < L
    → byte_of L (put s (d * L) new) t i ≡ (if eqb i d then get_or new t 0 else byte_of L s t i)
unfolding byte_of
byte_put n L d new s t i fits long l h = go (dec (eqb i d))
  where
    room : d * L + L ≤ length s
    room = omega (arith, strip-within d n L l)

    other : (i * L + L ≤ d * L) ⊎ (d * L + L ≤ i * L) → get_or (put s (d * L) new) (i * L + t) 0 ≡ get_or s (i * L + t) 0
    other (inl a) = put-before s (d * L) new L room long (i * L + t) (omega arith)
    other (inr a) = put-after s (d * L) new L room long (i * L + t) (omega arith)

    go : T (eqb i d) ⊎ (T (eqb i d) → ⊥) → get_or (put s (d * L) new) (i * L + t) 0 ≡ (if eqb i d then get_or new t 0 else get_or s (i * L + t) 0)
    go (inl u) =
        ap (λ (j : ℕ). get_or (put s (d * L) new) (j * L + t) 0) (eqb_out i d u) ∙ put-new s (d * L) new L room long t h
        ∙ sym (if_true (eqb i d) (get_or new t 0) (get_or s (i * L + t) 0) u)
    go (inr f) = other (strips-apart i d L (λ e. f (eqb_in e))) ∙ sym (if_false (eqb i d) (get_or new t 0) (get_or s (i * L + t) 0) f)

-- ---- what a content gives, and what encoding does

pub given-byte : (C : Code) (L : ℕ) (content : List ℕ) (t i : ℕ) → t < L → i < disks C
    → byte_of L (given C L content) t i ≡ holds C (byte_of L content t) i
unfolding given
given-byte C L content t i h l = byte-table (disks C) L (λ u j. holds C (byte_of L content u) j) t i h l

pub encoded-byte : (C : Code) (L : ℕ) (stripe : List ℕ) (t i : ℕ) → t < L → i < disks C
    → byte_of L (encoded C L stripe) t i ≡ holds C (byte_of L stripe t) i
unfolding encoded
encoded-byte C L stripe t i h l =
    given-byte C L (take (C.k * L) stripe) t i h l
    ∙ holds_cong C (byte_of L (take (C.k * L) stripe) t) (byte_of L stripe t) i (λ d m. byte-take C.k L stripe t d h m)

pub length-encoded : (C : Code) (L : ℕ) (stripe : List ℕ) → length (encoded C L stripe) ≡ disks C * L
unfolding encoded given
length-encoded C L stripe = length-tabulate (disks C * L) (λ p. holds C (byte_of L (take (C.k * L) stripe) (p % L)) (p / L))

-- ---- strips that are filled

-- filling goes by the sets of the disks that are filled
pub filled_cong : (n L : ℕ) (E F : ℕ → ℕ) (S : ℕ) (stripe : List ℕ) → ((d : ℕ) → T (has S d) → E d ≡ F d) → filled n L E S stripe ≡ filled n L F S stripe
unfolding filled
filled_cong n L E F S stripe h =
    tabulate_cong (length stripe) (by E) (by F) (λ p l. go p (has S (p / L)) (h (p / L)))
  where
    by : (ℕ → ℕ) → ℕ → ℕ
    by G p = if has S (p / L) then over n (G (p / L)) (byte_of L stripe (p % L)) else get_or stripe p 0

    go : (p : ℕ) (b : Bool) → (T b → E (p / L) ≡ F (p / L))
        → (if b then over n (E (p / L)) (byte_of L stripe (p % L)) else get_or stripe p 0)
        ≡ (if b then over n (F (p / L)) (byte_of L stripe (p % L)) else get_or stripe p 0)
    go p true e = ap (λ (G : ℕ). over n G (byte_of L stripe (p % L))) (e tt)
    go p false e = refl
