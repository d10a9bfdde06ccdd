-- Bytes on which every check word among the survivors vanishes are those that some data gives the survivors.
-- Assumes nothing.
use mathlib.Core.Path.{◌≡◌, refl, sym, ap, ap₂, ◌∙◌, subst}
use mathlib.Core.Bool.{Bool, true, false, not, ◌&&◌}
use mathlib.Core.Logic.{◌⊎◌, inl, inr, ⊎_elim}
use Prim.Native.Nat.{ℕ, zero, suc, ◌^◌, ◌≤◌, ◌<◌}
use native.Mathlib.Nat.{not-suc-le-zero, lt_irrefl}
use native.Mathlib.Omega.{arith}
use lib.Dec.{T, eqb, ltb}
use Rattle.std.specs.Prelude.{if◌then◌else◌}
use Rattle.gf2.specs.Sets.{bit, has, ◌⊕◌, ◌⊆◌, over}
use Rattle.gf2.specs.Span.{InSpan}
use Rattle.gf2.proofs.Tests.{dec, and_in, and_out, not_in, not_out, ltb_in, ltb_out, below_suc}
use Rattle.gf2.proofs.Bits.{bit_lt, two_cases, has_out, has-not}
use Rattle.gf2.proofs.Xor.{⊕_lt, ⊕_self, zero-⊕, ⊕-zero, ⊕-back}
use Rattle.gf2.proofs.Subsets.{⊆_in, ⊆_out, ⊕_out, power_out}
use Rattle.gf2.proofs.Sums.{over_cong, over_lt}
use Rattle.flat.specs.Lists.{set_of}
use Rattle.flat.specs.Cards.{Code, disks, column}
use Rattle.flat.specs.Strips.{holds}
use Rattle.flat.specs.Erasures.{holds_bit, survivors}
use Rattle.flat.specs.Spans.{codeword, checks}
use Rattle.flat.proofs.Quantifiers.{set_in, set_out}
use Rattle.flat.proofs.Words.{holds_data, holds-parity, by-disk, holds-⊕, holds_lt, codeword-bit}
use Rattle.flat.proofs.Duality.{Told, Held, survivor_in, survivor_out, told-or-held}
use Rattle.flat.proofs.CheckWords.{equation-word, told-sum, equation-sum}
use Rattle.flat.proofs.Told.{among_lt}
use Rattle.flat.proofs.Agreement.{Agree}

-- ---- a byte on the disks of a data word

-- the byte where the bit is 1
times : ℕ → ℕ → ℕ
times δ b = if eqb b 1 then δ else 0

times_⊕ : (δ a b : ℕ) → a < 2 → b < 2 → times δ (a ⊕ b) ≡ times δ a ⊕ times δ b
unfolding times ◌⊕◌
times_⊕ δ a b l m = go (two_cases a l) (two_cases b m)
  where
    go : (a ≡ 0) ⊎ (a ≡ 1) → (b ≡ 0) ⊎ (b ≡ 1) → times δ (a ⊕ b) ≡ times δ a ⊕ times δ b
    go (inl p) (inl q) = rw (p, q) (sym (⊕_self 0))
    go (inl p) (inr q) = rw (p, q) (sym (zero-⊕ δ))
    go (inr p) (inl q) = rw (p, q) (sym (⊕-zero δ))
    go (inr p) (inr q) = rw (p, q) (sym (⊕_self δ))

times_lt : (k δ b : ℕ) → 0 < 2 ^ k → δ < 2 ^ k → times δ b < 2 ^ k
unfolding times
times_lt k δ b z l = go (eqb b 1)
  where
    go : (t : Bool) → (if t then δ else 0) < 2 ^ k
    go true = l
    go false = z

over_times : (n S δ : ℕ) (f : ℕ → ℕ) → ((i : ℕ) → f i < 2) → over n S (λ i. times δ (f i)) ≡ times δ (over n S f)
unfolding over times
over_times zero S δ f h = refl
over_times (suc n) S δ f h =
    ap₂ (λ (a b : ℕ). a ⊕ b) (over_times n S δ f h) (go (has S n))
    ∙ sym (times_⊕ δ (over n S f) (if has S n then f n else 0) (over_lt 1 n S f (λ i l t. h i)) (small (has S n)))
  where
    go : (b : Bool) → (if b then times δ (f n) else 0) ≡ times δ (if b then f n else 0)
    go true = refl
    go false = refl

    small : (b : Bool) → (if b then f n else 0) < 2
    small true = h n
    small false = omega arith

-- the disks of the codeword hold the byte, and the others 0
holds_times : (C : Code) (y δ i : ℕ) → holds C (λ d. times δ (bit y d)) i ≡ times δ (holds_bit C y i)
unfolding holds_bit
holds_times C y δ =
    by-disk C (λ i. holds C scaled i ≡ times δ (holds C (bit y) i)) (λ i l. holds_data C scaled i l ∙ ap (times δ) (sym (holds_data C (bit y) i l)))
    (λ j. holds-parity C scaled j ∙ over_times C.k (column C j) δ (bit y) (bit_lt y) ∙ ap (times δ) (sym (holds-parity C (bit y) j)))
  where
    scaled : ℕ → ℕ
    scaled d = times δ (bit y d)

-- ---- disk after disk

-- f XORs to 0 over each check word among the survivors of S
abbrev pub Vanishing : Code → ℕ → (ℕ → ℕ) → Type 0
Vanishing C S f = (E : ℕ) → InSpan (checks C) E → T (E ⊆ survivors C S) → over (disks C) E f ≡ 0

-- data that gives f to the survivors among the first n disks
pub record Solved (C : Code) (S : ℕ) (f : ℕ → ℕ) (n : ℕ) : Type 0 where
  pub value : ℕ → ℕ
  pub small : (d : ℕ) → value d < 2 ^ 8
  pub right : (i : ℕ) → i < n → (T (has S i) → ⊥) → holds C value i ≡ f i

module _ (C : Code) (S : ℕ) (f : ℕ → ℕ) (byte : (i : ℕ) → f i < 2 ^ 8) (vanish : Vanishing C S f) where
  module _ (n : ℕ) (l : n < disks C) (own : T (has S n) → ⊥) (was : Solved C S f n) where
    -- all but the survivors before n
    earlier : ℕ → Bool
    earlier i = ltb i n && not (has S i)

    rest : ℕ
    rest = set_of (disks C) (λ i. not (earlier i))

    earlier_in : (i : ℕ) → i < n → (T (has S i) → ⊥) → T (earlier i)
    unfolding earlier
    earlier_in i h s = and_in (ltb i n) (not (has S i)) (ltb_in h) (not_in (has S i) s)

    earlier_out : (i : ℕ) → T (earlier i) → (i < n) × (T (has S i) → ⊥)
    unfolding earlier
    earlier_out i t = let a = and_out (ltb i n) (not (has S i)) t in (ltb_out i n a.0, not_out (has S i) a.1)

    rest_out : (i : ℕ) → T (has rest i) → T (earlier i) → ⊥
    unfolding rest
    rest_out i t = not_out (earlier i) (set_out (disks C) (λ j. not (earlier j)) i t).1

    rest_in : (i : ℕ) → i < disks C → (T (earlier i) → ⊥) → T (has rest i)
    unfolding rest
    rest_in i h s = set_in (disks C) (λ j. not (earlier j)) i h (not_in (earlier i) s)

    rest_survivor : (i : ℕ) → T (has (survivors C rest) i) → (i < n) × (T (has S i) → ⊥)
    rest_survivor i t =
        let a = survivor_out C rest i t in
        earlier_out i (⊎_elim (λ e. e) (λ s. absurd (a.1 (rest_in i a.0 s))) (dec (earlier i)))

    abbrev v : ℕ → ℕ
    v = was.value

    -- an equation among them tells disk n, and f has what it tells
    by-told : Told C rest n → holds C v n ≡ f n
    by-told (E, t, q) =
        let h = among_lt C rest E t in
        let old : (i : ℕ) → T (has E i) → (i < n) × (T (has S i) → ⊥) = λ i m. rest_survivor i (⊆_out E (survivors C rest) t i m) in
        let inside : T (E ⊕ 2 ^ n ⊆ survivors C S) =
        ⊆_in (E ⊕ 2 ^ n) (survivors C S)
        (λ i m. ⊎_elim (λ u. let p = old i u in survivor_in C S i (omega (arith, p.0)) p.1)
        (λ u. subst (λ (x : ℕ). T (has (survivors C S) x)) (sym (power_out n i u)) (survivor_in C S n l own)) (⊕_out E (2 ^ n) i m)) in
        sym (equation-sum C n l E h q v) ∙ over_cong (disks C) E (holds C v) f (λ i m u. let p = old i u in was.right i p.0 p.1)
        ∙ told-sum C n l E f (vanish (E ⊕ 2 ^ n) (equation-word C n l E h q) inside)

    -- or a codeword holds disk n and none of them: along it, the data can be mended
    by-held : Held C rest n → Solved C S f (suc n)
    unfolding times
    by-held (y, b, u, m) = record { value = λ d. v d ⊕ times δ (bit y d); small = small; right = right }
      where
        δ : ℕ
        δ = holds C v n ⊕ f n

        small : (d : ℕ) → v d ⊕ times δ (bit y d) < 2 ^ 8
        small d =
            ⊕_lt 8 (v d) (times δ (bit y d)) (was.small d)
            (times_lt 8 δ (bit y d) (omega arith) (⊕_lt 8 (holds C v n) (f n) (holds_lt C 8 v n was.small) (byte n)))

        new : (i : ℕ) → i < disks C → holds C (λ d. v d ⊕ times δ (bit y d)) i ≡ holds C v i ⊕ times δ (bit (codeword C y) i)
        new i h =
            holds-⊕ C v (λ d. times δ (bit y d)) i
            ∙ ap (λ (x : ℕ). holds C v i ⊕ x) (holds_times C y δ i ∙ ap (times δ) (sym (codeword-bit C y i h)))

        right : (i : ℕ) → i < suc n → (T (has S i) → ⊥) → holds C (λ d. v d ⊕ times δ (bit y d)) i ≡ f i
        right i h s = ⊎_elim old here (below_suc i n h)
          where
            old : i < n → holds C (λ d. v d ⊕ times δ (bit y d)) i ≡ f i
            old h =
                new i (omega arith)
                ∙ ap (λ (x : ℕ). holds C v i ⊕ times δ x)
                (has-not (codeword C y) i (λ t. rest_out i (⊆_out (codeword C y) rest u i t) (earlier_in i h s)))
                ∙ ⊕-zero (holds C v i) ∙ was.right i h s

            here : i ≡ n → holds C (λ d. v d ⊕ times δ (bit y d)) i ≡ f i
            here e =
                subst (λ (j : ℕ). holds C (λ d. v d ⊕ times δ (bit y d)) j ≡ f j) (sym e)
                (new n l ∙ ap (λ (x : ℕ). holds C v n ⊕ times δ x) (has_out (codeword C y) n m) ∙ ⊕-back (holds C v n) (f n))

    next : Solved C S f (suc n)
    next =
        ⊎_elim (λ t. record { value = v; small = was.small; right = λ i h s. ⊎_elim (λ o. was.right i o s) (same t i) (below_suc i n h) }) by-held
        (told-or-held C rest n l (rest_in n l (λ t. lt_irrefl n (earlier_out n t).0)))
      where
        same : Told C rest n → (i : ℕ) → i ≡ n → holds C v i ≡ f i
        same t i e = subst (λ (j : ℕ). holds C v j ≡ f j) (sym e) (by-told t)

  solve : (n : ℕ) → n ≤ disks C → Solved C S f n
  solve zero h = record { value = λ d. 0; small = λ d. omega arith; right = λ i l s. absurd (not-suc-le-zero l) }
  solve (suc n) h = go (dec (has S n)) (solve n (omega arith))
    where
      go : T (has S n) ⊎ (T (has S n) → ⊥) → Solved C S f n → Solved C S f (suc n)
      go (inr s) was = next n h s was
      go (inl t) was =
          record {
            value = was.value;
            small = was.small;
            right = λ i l s. ⊎_elim (λ o. was.right i o s) (λ e. absurd (s (subst (λ (j : ℕ). T (has S j)) (sym e) t))) (below_suc i n l);
          }

  pub solved : (v : ℕ → ℕ) × ((d : ℕ) → v d < 2 ^ 8) × Agree C S f v
  solved = let r = solve (disks C) (omega arith) in (r.value, r.small, r.right)
