-- A stripe in which some bytes of the parity strips are made and the data strips are as at entry; one more block or strip, and the end.
-- Assumes nothing.
use mathlib.Core.Path.{◌≡◌, refl, sym, ap, ap₂, ◌∙◌}
use mathlib.Core.Logic.{◌⊎◌, inl, inr}
use mathlib.Core.List.{List}
use Prim.Native.Nat.{ℕ, ◌+◌, ◌-◌, ◌*◌, ◌/◌, ◌%◌, ◌≤◌, ◌<◌}
use native.Mathlib.Nat.{add-zero, zero-add, div-add-mod', mul-le-mul_right}
use native.Mathlib.Omega.{arith}
use lib.Arith.{digits_lt, digits_div, digits_mod}
use lib.Dec.{T, ltb}
use lib.ListN.{length, get_or}
use lib.Seq.{ext_get_or}
use Rattle.std.specs.Prelude.{if◌then◌else◌}
use Rattle.gf2.proofs.Tests.{dec, ltb_in, ltb_out, below_suc, below_or, if_true, if_false}
use Rattle.flat.specs.Lists.{tabulate, put}
use Rattle.flat.specs.Strips.{byte_of}
use Rattle.flat.proofs.Lists.{length-tabulate, get_d_tabulate, length-put, put-before, put-new, put-after}
use Rattle.flat.proofs.Positions.{places, strip-within}
use Rattle.strip_products.specs.Products.{parity_byte, parity_strip, striped, multiplied}
use Rattle.strip_products.proofs.Products.{products_cong}

module _ (k l : ℕ) (g : ℕ → ℕ → ℕ) (s₀ : List ℕ) where
  -- byte t of the strip of parity disk k + j is g j t where `done j t`
  pub record Made (done : ℕ → ℕ → Type 0) (s : List ℕ) : Type 0 where
    pub long : length s ≡ length s₀
    pub kept : (p : ℕ) → p < k * l → get_or s p 0 ≡ get_or s₀ p 0
    pub made : (j t : ℕ) → t < l → done j t → get_or s ((k + j) * l + t) 0 ≡ g j t

  pub made_none : (done : ℕ → ℕ → Type 0) → ((j t : ℕ) → done j t → ⊥) → Made done s₀
  made_none done f = record { long = refl; kept = λ p h. refl; made = λ j t h x. absurd (f j t x) }

  -- one more block, of any width, which may lie over one that is made
  pub made-put : (done done' : ℕ → ℕ → Type 0) (s s' block : List ℕ) (j q w : ℕ) → Made done s → q + w ≤ l → (k + j) * l + l ≤ length s₀ → length block ≡ w
      → ((u : ℕ) → u < w → get_or block u 0 ≡ g j (q + u)) → s' ≡ put s ((k + j) * l + q) block
      → ((i t : ℕ) → t < l → done' i t → done i t ⊎ (i ≡ j) × (q ≤ t) × (t < q + w)) → Made done' s'
  made-put done done' s s' block j q w r h fits long right e more =
      rw e
      (record {
        long = length-put s at block (omega (arith, room)) ∙ r.long;
        kept = λ p m. put-before s at block w room long p (omega (arith, after_data)) ∙ r.kept p m;
        made = λ i t m x. go i t m (more i t m x) (below_or i j) (below_or j i) (below_or t q) (below_or t (q + w));
      })
    where
      at : ℕ
      at = (k + j) * l + q

      room : at + w ≤ length s
      room = omega (arith, r.long)

      after_data : k * l ≤ (k + j) * l
      after_data = mul-le-mul_right l (omega arith)

      fresh : (i t : ℕ) → i ≡ j → q ≤ t → t < q + w → get_or (put s at block) ((k + i) * l + t) 0 ≡ g i t
      fresh i t a b c =
          let x : at + (t - q) ≡ (k + j) * l + t = omega arith in
          let y : q + (t - q) ≡ t = omega arith in
          ap (λ (i : ℕ). get_or (put s at block) ((k + i) * l + t) 0) a ∙ ap (λ (p : ℕ). get_or (put s at block) p 0) (sym x)
          ∙ put-new s at block w room long (t - q) (omega arith) ∙ right (t - q) (omega arith)
          ∙ ap (g j) y ∙ ap (λ (i : ℕ). g i t) (sym a)

      go : (i t : ℕ) → t < l → done i t ⊎ (i ≡ j) × (q ≤ t) × (t < q + w) → (i < j) ⊎ (j ≤ i) → (j < i) ⊎ (i ≤ j) → (t < q) ⊎ (q ≤ t) → (t < q + w) ⊎ (q + w ≤ t)
          → get_or (put s at block) ((k + i) * l + t) 0 ≡ g i t
      go i t m (inr x) a b c d = fresh i t x.0 x.1 x.2
      go i t m (inl x) (inl a) b c d =
          put-before s at block w room long ((k + i) * l + t) (omega (arith, strip-within (k + i) (k + j) l (omega arith))) ∙ r.made i t m x
      go i t m (inl x) (inr a) (inl b) c d =
          put-after s at block w room long ((k + i) * l + t) (omega (arith, strip-within (k + j) (k + i) l (omega arith))) ∙ r.made i t m x
      go i t m (inl x) (inr a) (inr b) c d = let y : i ≡ j = omega arith in same y c d
        where
          same : i ≡ j → (t < q) ⊎ (q ≤ t) → (t < q + w) ⊎ (q + w ≤ t) → get_or (put s at block) ((k + i) * l + t) 0 ≡ g i t
          same y (inl c) d =
              put-before s at block w room long ((k + i) * l + t) (let z : (k + i) * l ≡ (k + j) * l = ap (λ (i : ℕ). (k + i) * l) y in omega arith) ∙ r.made i t m x
          same y (inr c) (inl d) = fresh i t y c d
          same y (inr c) (inr d) =
              put-after s at block w room long ((k + i) * l + t) (let z : (k + i) * l ≡ (k + j) * l = ap (λ (i : ℕ). (k + i) * l) y in omega arith) ∙ r.made i t m x

  pub made_all : (done : ℕ → ℕ → Type 0) (m : ℕ) (s : List ℕ) → Made done s → (k + m) * l ≡ length s₀ → ((j t : ℕ) → j < m → t < l → done j t) → s ≡ striped k l g s₀
  unfolding striped
  made_all done m s r e all =
      ext_get_or 0 s (tabulate (length s₀) new) (r.long ∙ sym (length-tabulate (length s₀) new))
      (λ p h. let u : p < length s₀ = omega (arith, r.long) in go p u (dec (ltb (p / l) k)) ∙ sym (get_d_tabulate (length s₀) new p u))
    where
      new : ℕ → ℕ
      new p = if ltb (p / l) k then get_or s₀ p 0 else g (p / l - k) (p % l)

      go : (p : ℕ) → p < length s₀ → T (ltb (p / l) k) ⊎ (T (ltb (p / l) k) → ⊥) → get_or s p 0 ≡ new p
      go p u (inl t) =
          let d = places (k + m) l p (omega arith) in
          let x : p / l * l + p % l < k * l = digits_lt (ltb_out (p / l) k t) d.1 in
          r.kept p (omega (arith, x, div-add-mod' p l)) ∙ sym (if_true (ltb (p / l) k) (get_or s₀ p 0) (g (p / l - k) (p % l)) t)
      go p u (inr f) =
          let d = places (k + m) l p (omega arith) in
          let a : k ≤ p / l = above (below_or (p / l) k) in
          let b : k + (p / l - k) ≡ p / l = omega arith in
          ap (λ (x : ℕ). get_or s x 0) (sym (div-add-mod' p l)) ∙ ap (λ (x : ℕ). get_or s (x * l + p % l) 0) (sym b)
          ∙ r.made (p / l - k) (p % l) d.1 (all (p / l - k) (p % l) (omega (arith, d.0)) d.1)
          ∙ sym (if_false (ltb (p / l) k) (get_or s₀ p 0) (g (p / l - k) (p % l)) f)
        where
          above : (p / l < k) ⊎ (k ≤ p / l) → k ≤ p / l
          above (inl x) = absurd (f (ltb_in x))
          above (inr x) = x

  -- the bytes of such a stripe
  pub striped-long : length (striped k l g s₀) ≡ length s₀
  unfolding striped
  striped-long = length-tabulate (length s₀) (λ p. if ltb (p / l) k then get_or s₀ p 0 else g (p / l - k) (p % l))

  module _ (m : ℕ) (e : (k + m) * l ≡ length s₀) where
    striped-at : (i t : ℕ) → i < k + m → t < l → get_or (striped k l g s₀) (i * l + t) 0 ≡ (if ltb i k then get_or s₀ (i * l + t) 0 else g (i - k) t)
    unfolding striped
    striped-at i t h u =
        get_d_tabulate (length s₀) (λ p. if ltb (p / l) k then get_or s₀ p 0 else g (p / l - k) (p % l)) (i * l + t) (let v = digits_lt h u in omega arith)
        ∙ ap₂ (λ (d x : ℕ). if ltb d k then get_or s₀ (i * l + t) 0 else g (d - k) x) (digits_div i u) (digits_mod i u)

    pub striped-parity : (j t : ℕ) → j < m → t < l → get_or (striped k l g s₀) ((k + j) * l + t) 0 ≡ g j t
    striped-parity j t h u =
        let x : k + j - k ≡ j = omega arith in
        striped-at (k + j) t (omega arith) u
        ∙ if_false (ltb (k + j) k) (get_or s₀ ((k + j) * l + t) 0) (g (k + j - k) t) (λ y. let z = ltb_out (k + j) k y in omega arith)
        ∙ ap (λ (i : ℕ). g i t) x

    pub striped-kept : (p : ℕ) → p < k * l → get_or (striped k l g s₀) p 0 ≡ get_or s₀ p 0
    striped-kept p h =
        let d = places k l p h in
        ap (λ (q : ℕ). get_or (striped k l g s₀) q 0) (sym (div-add-mod' p l))
        ∙ striped-at (p / l) (p % l) (let z = d.0 in omega arith) d.1
        ∙ if_true (ltb (p / l) k) (get_or s₀ (p / l * l + p % l) 0) (g (p / l - k) (p % l)) (ltb_in d.0)
        ∙ ap (λ (q : ℕ). get_or s₀ q 0) (div-add-mod' p l)

-- ---- parity strips by products

module _ (k l : ℕ) (bits : List ℕ) where
  -- parity bytes come from the data strips alone
  pub parity-same : (s s₀ : List ℕ) (j t : ℕ) → ((p : ℕ) → p < k * l → get_or s p 0 ≡ get_or s₀ p 0) → t < l
      → parity_byte k l bits s j t ≡ parity_byte k l bits s₀ j t
  unfolding parity_byte byte_of
  parity-same s s₀ j t same h =
      products_cong k (byte_of l s t) (byte_of l s₀ t) (λ i. get_or bits (i * 16 + j) 0) (λ i. get_or bits (i * 16 + j) 0)
      (λ i m. same (i * l + t) (digits_lt m h)) (λ i m. refl)

  module _ (s₀ : List ℕ) where
    -- the strips of the parity disks k + i with i < j are made
    abbrev pub StripsTo : ℕ → List ℕ → Type 0
    StripsTo j s = Made k l (parity_byte k l bits s₀) s₀ (λ i t. i < j) s

    pub strips-none : StripsTo 0 s₀
    strips-none = made_none k l (parity_byte k l bits s₀) s₀ (λ i t. i < 0) (λ i t x. omega arith)

    pub strips-more : (j : ℕ) (s s' : List ℕ) → StripsTo j s → (k + j) * l + l ≤ length s₀ → s' ≡ put s ((k + j) * l) (parity_strip k l bits s j) → StripsTo (j + 1) s'
    unfolding parity_strip
    strips-more j s s' r fits e =
        made-put k l (parity_byte k l bits s₀) s₀ (λ i t. i < j) (λ i t. i < j + 1) s s' (tabulate l (parity_byte k l bits s j)) j 0 l r (omega arith) fits
        (length-tabulate l (parity_byte k l bits s j))
        (λ u h. get_d_tabulate l (parity_byte k l bits s j) u h ∙ parity-same s s₀ j u r.kept h ∙ ap (parity_byte k l bits s₀ j) (sym (zero-add u)))
        (e ∙ ap (λ (p : ℕ). put s p (tabulate l (parity_byte k l bits s j))) (sym (add-zero ((k + j) * l))))
        (λ i t u x. go i t u (below_suc i j (omega arith)))
      where
        go : (i t : ℕ) → t < l → (i < j) ⊎ (i ≡ j) → (i < j) ⊎ (i ≡ j) × (0 ≤ t) × (t < 0 + l)
        go i t u (inl x) = inl x
        go i t u (inr x) = inr (x, omega arith, omega arith)

    pub strips-all : (j m : ℕ) (s : List ℕ) → StripsTo j s → j ≡ m → (k + m) * l ≡ length s₀ → s ≡ multiplied k l bits s₀
    unfolding multiplied
    strips-all j m s r e n = made_all k l (parity_byte k l bits s₀) s₀ (λ i t. i < j) m s r n (λ i t h u. omega arith)
