-- A content that agrees with the survivors, place by place: what each disk then holds, and the strips that rebuilding fills.
-- Assumes nothing.
use mathlib.Core.Path.{◌≡◌, refl, sym, ap, ◌∙◌, subst}
use mathlib.Core.Bool.{Bool, true, false, ◌||◌}
use mathlib.Core.Logic.{◌⊎◌, inl, inr, ◌≢◌, ⊎_elim}
use mathlib.Core.List.{List, [], ◌∷◌}
use Prim.Native.Nat.{ℕ, zero, suc, ◌*◌, ◌/◌, ◌%◌, ◌^◌, ◌<◌}
use native.Mathlib.Omega.{arith}
use lib.Dec.{T, eqb}
use lib.ListN.{get_or}
use lib.Seq.{ext_get_or}
use Rattle.std.specs.Prelude.{if◌then◌else◌}
use Rattle.gf2.specs.Sets.{has, ◌⊆◌, over}
use Rattle.gf2.proofs.Tests.{dec, eqb_in, eqb_out, unless_in, unless_out}
use Rattle.gf2.proofs.Subsets.{⊆_out, ⊆-refl}
use Rattle.gf2.proofs.Sums.{over_cong}
use Rattle.flat.specs.Lists.{every, tabulate, Bytes}
use Rattle.flat.specs.Cards.{Code, disks}
use Rattle.flat.specs.Strips.{byte_of, holds, given}
use Rattle.flat.specs.Erasures.{survivors, undetermined_set, determined_set}
use Rattle.flat.specs.Rebuilding.{Agreeing, agrees, contents, agreeing, restored}
use Rattle.flat.specs.Repairs.{filled, equation_among}
use Rattle.flat.specs.Rebuilt.{OneStrip, OnlyContent, RestoredFilled, AllRestoredFilled}
use Rattle.flat.proofs.Lists.{length-tabulate, tabulate_cong}
use Rattle.flat.proofs.Quantifiers.{every_in, every_out}
use Rattle.flat.proofs.Words.{holds_data, holds_cong}
use Rattle.flat.proofs.Duality.{survivor_out}
use Rattle.flat.proofs.Undetermined.{determined_in, none-undetermined, all-determined}
use Rattle.flat.proofs.Told.{equation-left, left-sum}
use Rattle.flat.proofs.Positions.{places, at_place, byte-table, given-byte}
use Rattle.flat.proofs.Contents.{contents_in, contents_out, filter-some, filter-first}

-- ---- place by place

-- each disk outside S holds f, when data disk d holds v d
abbrev pub Agree : Code → ℕ → (ℕ → ℕ) → (ℕ → ℕ) → Type 0
Agree C S f v = (i : ℕ) → i < disks C → (T (has S i) → ⊥) → holds C v i ≡ f i

module _ (C : Code) (L S : ℕ) (stripe : List ℕ) where
  line : List ℕ → ℕ → ℕ → Bool
  line content i t = eqb (byte_of L (given C L content) t i) (byte_of L stripe t i)

  pub agrees_out : (content : List ℕ) → T (agrees C L S stripe content) → (t : ℕ) → t < L → Agree C S (byte_of L stripe t) (byte_of L content t)
  unfolding agrees line
  agrees_out content a t h i l f =
      sym (given-byte C L content t i h l)
      ∙ eqb_out (byte_of L (given C L content) t i) (byte_of L stripe t i)
      (every_out L (line content i)
      (unless_out (has S i) (every L (line content i)) (every_out (disks C) (λ j. has S j || every L (line content j)) a i l) f) t h)

  pub agrees_in : (content : List ℕ) → ((t : ℕ) → t < L → Agree C S (byte_of L stripe t) (byte_of L content t)) → T (agrees C L S stripe content)
  unfolding agrees line
  agrees_in content a =
      every_in (disks C) (λ j. has S j || every L (line content j))
      (λ i l. unless_in (has S i) (every L (line content i))
      (λ f. every_in L (line content i) (λ t h. eqb_in (given-byte C L content t i h l ∙ a t h i l f))))

-- what the disks of a set among the survivors hold XORs to what the stripe has there
pub agree-sum : (C : Code) (S E : ℕ) (f v : ℕ → ℕ) → Agree C S f v → T (E ⊆ survivors C S) → over (disks C) E (holds C v) ≡ over (disks C) E f
agree-sum C S E f v a t =
    over_cong (disks C) E (holds C v) f (λ i l m. a i l (survivor_out C S i (⊆_out E (survivors C S) t i m)).1)

-- so a determined lost disk holds the XOR of survivors
pub lost-sum : (C : Code) (S d : ℕ) (f v : ℕ → ℕ) → d < disks C → T (has (determined_set C S) d) → Agree C S f v
    → holds C v d ≡ over (disks C) (equation_among C S d) f
lost-sum C S d f v l t a =
    sym (left-sum C S d l t v) ∙ agree-sum C S (equation_among C S d) f v a (equation-left C S d l t).0

-- and each disk that is not undetermined holds the same, whatever agrees
pub one_value : (C : Code) (S : ℕ) (f v w : ℕ → ℕ) → Agree C S f v → Agree C S f w → (d : ℕ) → d < disks C
    → (T (has (undetermined_set C S) d) → ⊥) → holds C v d ≡ holds C w d
one_value C S f v w a b d l u = ⊎_elim lost left (dec (has S d))
  where
    lost : T (has S d) → holds C v d ≡ holds C w d
    lost s = let t = determined_in C S d s u in lost-sum C S d f v l t a ∙ sym (lost-sum C S d f w l t b)

    left : (T (has S d) → ⊥) → holds C v d ≡ holds C w d
    left s = a d l s ∙ sym (b d l s)

pub one-strip : OneStrip
one-strip C L S stripe a b p q d t l h u =
    given-byte C L a t d h l
    ∙ one_value C S (byte_of L stripe t) (byte_of L a t) (byte_of L b t) (agrees_out C L S stripe a p t h) (agrees_out C L S stripe b q t h) d l u
    ∙ sym (given-byte C L b t d h l)

pub only-content : OnlyContent
unfolding disks
only-content C L S stripe a b n la lb p q =
    ext_get_or 0 a b (la ∙ sym lb)
    (λ i l. let r = places C.k L i (subst (λ (x : ℕ). i < x) la l) in
    let d = i / L in
    let t = i % L in
    let below : d < disks C = omega (arith, r.0) in
    at_place L a i ∙ sym (holds_data C (byte_of L a t) d r.0)
    ∙ one_value C S (byte_of L stripe t) (byte_of L a t) (byte_of L b t) (agrees_out C L S stripe a p t r.1) (agrees_out C L S stripe b q t r.1) d
    below (none-undetermined C S n d)
    ∙ holds_data C (byte_of L b t) d r.0 ∙ sym (at_place L b i))

-- ---- the contents that agree

module _ (C : Code) (L S : ℕ) (stripe : List ℕ) where
  pub some-agreeing : (content : List ℕ) → Agreeing C L S stripe content → agreeing C L S stripe ≢ []
  unfolding agreeing
  some-agreeing content a =
      filter-some (agrees C L S stripe) (contents (C.k * L)) content (contents_in (C.k * L) content a.strips a.bytes) a.agree

  pub first-agreeing : (content : List ℕ) (others : List (List ℕ)) → agreeing C L S stripe ≡ content ∷ others → Agreeing C L S stripe content
  unfolding agreeing
  first-agreeing content others e =
      let r = filter-first (agrees C L S stripe) (contents (C.k * L)) content others e in
      let s = contents_out (C.k * L) content r.0 in
      record { strips = s.0; bytes = s.1; agree = r.1 }

-- none agrees, or the first does
pub agreeing_cases : (C : Code) (L S : ℕ) (stripe : List ℕ)
    → (agreeing C L S stripe ≡ []) ⊎ ((content : List ℕ) × (others : List (List ℕ)) × (agreeing C L S stripe ≡ content ∷ others))
agreeing_cases C L S stripe = go (agreeing C L S stripe)
  where
    go : (l : List (List ℕ)) → (l ≡ []) ⊎ ((content : List ℕ) × (others : List (List ℕ)) × (l ≡ content ∷ others))
    go [] = inl refl
    go (c ∷ cs) = inr (c, cs, refl)

-- ---- a content out of values at each place

bytes-table : (n : ℕ) (f : ℕ → ℕ) → ((i : ℕ) → f i < 2 ^ 8) → Bytes (tabulate n f)
unfolding tabulate
bytes-table zero f h zero = omega arith
bytes-table zero f h (suc i) = omega arith
bytes-table (suc n) f h zero = h 0
bytes-table (suc n) f h (suc i) = bytes-table n (λ j. f (suc j)) (λ j. h (suc j)) i

-- data disk d gets v t d at place t
module _ (C : Code) (L : ℕ) (v : ℕ → ℕ → ℕ) where
  pub tabled : List ℕ
  tabled = tabulate (C.k * L) (λ p. v (p % L) (p / L))

  pub tabled_holds : (t i : ℕ) → t < L → holds C (byte_of L tabled t) i ≡ holds C (v t) i
  unfolding tabled
  tabled_holds t i h = holds_cong C (byte_of L tabled t) (v t) i (λ d m. byte-table C.k L v t d h m)

  pub tabled_agrees : (S : ℕ) (stripe : List ℕ) → ((t d : ℕ) → v t d < 2 ^ 8) → ((t : ℕ) → t < L → Agree C S (byte_of L stripe t) (v t))
      → Agreeing C L S stripe tabled
  unfolding tabled
  tabled_agrees S stripe small right = record {
    strips = length-tabulate (C.k * L) _;
    bytes = bytes-table (C.k * L) (λ p. v (p % L) (p / L)) (λ p. small (p % L) (p / L));
    agree = agrees_in C L S stripe tabled (λ t h i l s. tabled_holds t i h ∙ right t h i l s);
  }

-- ---- filling

pub restored-filled : RestoredFilled
unfolding restored filled
restored-filled C L S D stripe e told some =
    ⊎_elim (λ q. absurd (some q))
    (λ (c, cs, q). ap (restored C L D stripe) q
    ∙ tabulate_cong (disks C * L) (λ p. if has D (p / L) then get_or (given C L c) p 0 else get_or stripe p 0) new
    (λ p l. let r = places (disks C) L p l in
    go c (first-agreeing C L S stripe c cs q).agree p r.0 r.1 (has D (p / L)) (⊆_out D (determined_set C S) told (p / L)))
    ∙ ap (λ (m : ℕ). tabulate m new) (sym e))
    (agreeing_cases C L S stripe)
  where
    new : ℕ → ℕ
    new p = if has D (p / L) then over (disks C) (equation_among C S (p / L)) (byte_of L stripe (p % L)) else get_or stripe p 0

    go : (c : List ℕ) → T (agrees C L S stripe c) → (p : ℕ) → p / L < disks C → p % L < L → (b : Bool) → (T b → T (has (determined_set C S) (p / L)))
        → (if b then get_or (given C L c) p 0 else get_or stripe p 0)
        ≡ (if b then over (disks C) (equation_among C S (p / L)) (byte_of L stripe (p % L)) else get_or stripe p 0)
    go c a p l h true s =
        at_place L (given C L c) p ∙ given-byte C L c (p % L) (p / L) h l
        ∙ lost-sum C S (p / L) (byte_of L stripe (p % L)) (byte_of L c (p % L)) l (s tt) (agrees_out C L S stripe c a (p % L) h)
    go c a p l h false s = refl

pub all-restored-filled : AllRestoredFilled
all-restored-filled C L S stripe e f =
    restored-filled C L S S stripe e (subst (λ (D : ℕ). T (S ⊆ D)) (sym (all-determined C S f)) (⊆-refl S))
