-- What the loops over a block keep: a table stored place by place, a copy made byte by byte, and whether any byte so far is not 0.
-- Assumes nothing.
use mathlib.Core.Path.{◌≡◌, refl, sym, ap, ap₂, ◌∙◌}
use mathlib.Core.Bool.{Bool, ◌&&◌}
use mathlib.Core.Logic.{◌⊎◌, inl, inr}
use mathlib.Core.List.{List}
use Prim.Native.Nat.{ℕ, ◌+◌, ◌≤◌, ◌<◌}
use native.Mathlib.Nat.{le_refl}
use native.Mathlib.Numerals.{add-one}
use native.Mathlib.Omega.{arith}
use lib.Bits.{bit_or, bit_and, or_add_and, and_le_l, and_le_r}
use lib.Dec.{eqb}
use lib.ListN.{length, get_or, set, take, length-set}
use lib.Seq.{ext_get_or, get_or-set_same, get_or-set_other, paste, paste-zero, paste-suc, take-length, take_all}
use borrow.Rule.Slice.PartMut.{put_mid}
use Rattle.std.proofs.lemmas.Slice.{put_mid-paste}
use Rattle.gf2.proofs.Tests.{T-ext, and_in, and_out, eqb_in, eqb_out, below_suc}
use Rattle.flat.specs.Lists.{every, tabulate, put}
use Rattle.flat.proofs.Lists.{length-tabulate, get_d_tabulate, paste-put}

-- ---- a table of n places, of which the first i are stored

pub record Table (f : ℕ → ℕ) (n i : ℕ) (out : List ℕ) : Type 0 where
  pub places : length out ≡ n
  pub stored : (t : ℕ) → t < i → get_or out t 0 ≡ f t

pub table_none : (f : ℕ → ℕ) (n : ℕ) (out : List ℕ) → length out ≡ n → Table f n 0 out
table_none f n out e = record { places = e; stored = λ t l. absurd (omega arith) }

pub table_more : (f : ℕ → ℕ) (n i v : ℕ) (out : List ℕ) → Table f n i out → i < n → v ≡ f i → Table f n (i + 1) (set out i v)
table_more f n i v out r l e =
    let h : i < length out = omega (arith, r.places) in
    record { places = length-set out i v ∙ r.places; stored = λ t m. go t (below_suc t i (omega arith)) }
  where
    go : (t : ℕ) → (t < i) ⊎ (t ≡ i) → get_or (set out i v) t 0 ≡ f t
    go t (inl m) = get_or-set_other out i t v 0 (λ q. omega arith) ∙ r.stored t m
    go t (inr q) =
        let h : i < length out = omega (arith, r.places) in ap (λ (x : ℕ). get_or (set out i v) x 0) q ∙ get_or-set_same out i v 0 h ∙ e ∙ ap f (sym q)

pub table-all : (f : ℕ → ℕ) (n i : ℕ) (out : List ℕ) → Table f n i out → n ≤ i → out ≡ tabulate n f
table-all f n i out r l =
    ext_get_or 0 out (tabulate n f) (r.places ∙ sym (length-tabulate n f))
    (λ t m. let h : t < n = omega (arith, r.places) in r.stored t (omega arith) ∙ sym (get_d_tabulate n f t h))

-- ---- a copy of n bytes, of which the first i are made

pub record Copied (s₀ src : List ℕ) (at i : ℕ) (s : List ℕ) : Type 0 where
  pub so_far : s ≡ paste s₀ at src i
  pub long : length s ≡ length s₀

pub copied_none : (s src : List ℕ) (at : ℕ) → Copied s src at 0 s
copied_none s src at = record { so_far = paste-zero s at src; long = refl }

pub copied_more : (s₀ src s : List ℕ) (at i v : ℕ) → Copied s₀ src at i s → at + i < length s₀ → i < length src → v ≡ get_or src i 0
    → Copied s₀ src at (i + 1) (set s (at + i) v)
copied_more s₀ src s at i v r h l e =
    record {
      so_far = rw (add-one, r.so_far, e) (paste-suc s₀ at src i 0 h l);
      long = length-set s (at + i) v ∙ r.long;
    }

-- it is made: of the first n bytes, or of all
pub copied_first : (s₀ src s : List ℕ) (at i n : ℕ) → Copied s₀ src at i s → i ≡ n → n ≤ length src → s ≡ put s₀ at (take n src)
copied_first s₀ src s at i n r e h = r.so_far ∙ ap (paste s₀ at src) e ∙ paste-put s₀ at src n h

pub copied_all : (s₀ src s : List ℕ) (at i : ℕ) → Copied s₀ src at i s → i ≡ length src → s ≡ put s₀ at src
copied_all s₀ src s at i r e = copied_first s₀ src s at i (length src) r e (le_refl (length src)) ∙ ap (put s₀ at) (take-length src)

-- a part of k bytes written at once
pub part_put : (a k : ℕ) (s part src : List ℕ) → part ≡ src → length src ≡ k → put_mid a k s part ≡ put s a src
part_put a k s part src e h =
    put_mid-paste a k s part src k e refl (sym h) ∙ paste-put s a src k (omega arith) ∙ ap (put s a) (take_all k src (omega arith))

-- ---- bytes joined by OR

-- the OR of two numbers is 0 where both are
pub or_none : (a b : ℕ) → eqb (bit_or a b) 0 ≡ (eqb a 0 && eqb b 0)
or_none a b =
    T-ext
    (λ t. let z : bit_or a b ≡ 0 = eqb_out (bit_or a b) 0 t in
    let s : bit_or a b + bit_and a b ≡ a + b = or_add_and a b in
    let l = and_le_l a b in
    let r = and_le_r a b in
    let x : a ≡ 0 = omega arith in
    let y : b ≡ 0 = omega arith in
    and_in (eqb a 0) (eqb b 0) (eqb_in x) (eqb_in y))
    (λ t. let p = and_out (eqb a 0) (eqb b 0) t in eqb_in (ap₂ bit_or (eqb_out a 0 p.0) (eqb_out b 0 p.1)))

-- where the OR of the first i bytes is 0, each of them is
pub record Any (f : ℕ → ℕ) (i any : ℕ) : Type 0 where
  pub none : eqb any 0 ≡ every i (λ j. eqb (f j) 0)

pub any_none : (f : ℕ → ℕ) → Any f 0 0
unfolding every
any_none f = record { none = refl }

pub any-more : (f : ℕ → ℕ) (i any v : ℕ) → Any f i any → v ≡ f i → Any f (i + 1) (bit_or any v)
unfolding every
any-more f i any v r e = record { none = or_none any v ∙ rw (add-one i, e) (ap (λ (b : Bool). b && eqb (f i) 0) r.none) }

pub any-all : (f : ℕ → ℕ) (i n any : ℕ) → Any f i any → i ≡ n → eqb any 0 ≡ every n (λ j. eqb (f j) 0)
any-all f i n any r e = r.none ∙ ap (λ (m : ℕ). every m (λ j. eqb (f j) 0)) e
