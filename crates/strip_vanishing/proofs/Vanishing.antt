-- Where the XOR of the strips of a set vanishes: block by block, in one block, byte by byte, row by row, in a copy, and as streams.
-- Assumes nothing.
use mathlib.Core.Path.{◌≡◌, refl, sym, ap, ap₂, ◌∙◌, subst}
use mathlib.Core.Bool.{Bool, true, false, ◌&&◌}
use mathlib.Core.Logic.{◌⊎◌, inl, inr}
use mathlib.Core.List.{List, [], ◌∷◌}
use Prim.Native.Nat.{ℕ, ◌+◌, ◌-◌, ◌*◌, ◌≤◌, ◌<◌}
use native.Mathlib.Nat.{zero-add}
use native.Mathlib.Numerals.{add-one}
use native.Mathlib.Omega.{arith}
use lib.Dec.{T, eqb}
use lib.ListN.{length, get_or, drop}
use lib.Seq.{drop-cons, drop-length}
use Rattle.gf2.specs.Sets.{over}
use Rattle.gf2.proofs.Sums.{over_cong}
use Rattle.gf2.proofs.Tests.{T_true, T_false, true-T, eqb_in, eqb_out, below_or}
use Rattle.strip_blocks.specs.Totals.{total, xor_at}
use Rattle.flat.specs.Lists.{every, tabulate}
use Rattle.flat.specs.Strips.{byte_of}
use Rattle.flat.specs.Repairs.{vanishes, all_vanish}
use Rattle.flat.proofs.Lists.{get_d_tabulate}
use Rattle.flat.proofs.Quantifiers.{every_in, every_out, every_cong}

-- ---- block by block

module _ (n l set : ℕ) (s : List ℕ) where
  -- the bytes below o are 0
  pub record Vanished (o : ℕ) : Type 0 where
    pub zero : (t : ℕ) → t < o → over n set (byte_of l s t) ≡ 0

  pub vanished_none : Vanished 0
  vanished_none = record { zero = λ t h. absurd (omega arith) }

  -- the block of width w at q
  abbrev pub Block : ℕ → ℕ → List ℕ → Type 0
  Block w q block = block ≡ tabulate w (λ t. over n set (byte_of l s (q + t)))

  block-byte : (w q : ℕ) (block : List ℕ) → Block w q block → (t : ℕ) → t < w → get_or block t 0 ≡ over n set (byte_of l s (q + t))
  block-byte w q block e t h = ap (λ (b : List ℕ). get_or b t 0) e ∙ get_d_tabulate w (λ t. over n set (byte_of l s (q + t))) t h

  -- a block of zeros at q, which leaves no gap
  pub vanished_more : (w o q : ℕ) (block : List ℕ) → Vanished o → q ≤ o → Block w q block → every w (λ t. eqb (get_or block t 0) 0) ≡ true
      → Vanished (q + w)
  vanished_more w o q block r h e z = record { zero = λ t m. go t m (below_or t q) }
    where
      go : (t : ℕ) → t < q + w → (t < q) ⊎ (q ≤ t) → over n set (byte_of l s t) ≡ 0
      go t m (inl a) = r.zero t (omega arith)
      go t m (inr a) =
          let x : q + (t - q) ≡ t = omega arith in
          ap (λ (y : ℕ). over n set (byte_of l s y)) (sym x) ∙ sym (block-byte w q block e (t - q) (omega arith))
          ∙ eqb_out (get_or block (t - q) 0) 0 (every_out w (λ t. eqb (get_or block t 0) 0) (true-T z) (t - q) (omega arith))

  -- a block that has another byte
  pub vanished_not : (w q : ℕ) (block : List ℕ) → Block w q block → q + w ≤ l → every w (λ t. eqb (get_or block t 0) 0) ≡ false
      → false ≡ vanishes n l s set
  unfolding vanishes
  vanished_not w q block e h z =
      sym (T_false {b = every l (λ t. eqb (over n set (byte_of l s t)) 0)}
      (λ u. let w : every w (λ t. eqb (get_or block t 0) 0) ≡ true =
      T_true (every_in w (λ t. eqb (get_or block t 0) 0)
      (λ t m. eqb_in (block-byte w q block e t m ∙ eqb_out (over n set (byte_of l s (q + t))) 0 (every_out l (λ t. eqb (over n set (byte_of l s t)) 0) u (q + t) (omega arith))))) in
      subst T (sym w ∙ z) tt))

  pub vanished_all : (o : ℕ) → Vanished o → l ≤ o → true ≡ vanishes n l s set
  unfolding vanishes
  vanished_all o r h = sym (T_true (every_in l (λ t. eqb (over n set (byte_of l s t)) 0) (λ t m. eqb_in (r.zero t (omega arith)))))

  -- the last block tells
  pub vanished_last : (w o q : ℕ) (block : List ℕ) (b : Bool) → Vanished o → q ≤ o → q + w ≡ l → Block w q block
      → b ≡ every w (λ t. eqb (get_or block t 0) 0) → b ≡ vanishes n l s set
  vanished_last w o q block true r h k e z = vanished_all (q + w) (vanished_more w o q block r h e (sym z)) (omega arith)
  vanished_last w o q block false r h k e z = vanished_not w q block e (omega arith) (sym z)

  -- a block that holds a whole strip, and more
  pub vanished_in : (w : ℕ) (block : List ℕ) → l ≤ w → Block w 0 block → every l (λ t. eqb (get_or block t 0) 0) ≡ vanishes n l s set
  unfolding vanishes
  vanished_in w block h e =
      every_cong l (λ t. eqb (get_or block t 0) 0) (λ t. eqb (over n set (byte_of l s t)) 0)
      (λ t m. ap (λ (v : ℕ). eqb v 0) (block-byte w 0 block e t (omega arith) ∙ ap (λ (x : ℕ). over n set (byte_of l s x)) (zero-add t)))

-- ---- row by row

module _ (n l : ℕ) (s rows : List ℕ) where
  -- what is left to test is what is to be told
  pub record Tested (j : ℕ) : Type 0 where
    pub within : j ≤ length rows
    pub rest : all_vanish n l s rows ≡ all_vanish n l s (drop j rows)

  tested_at : (j : ℕ) → j < length rows → all_vanish n l s (drop j rows) ≡ (vanishes n l s (get_or rows j 0) && all_vanish n l s (drop (j + 1) rows))
  unfolding all_vanish
  tested_at j h = rw (add-one, drop-cons rows j 0)

  pub tested-none : Tested 0
  tested-none = record { within = omega arith; rest = refl }

  pub tested-more : (j : ℕ) → Tested j → j < length rows → vanishes n l s (get_or rows j 0) ≡ true → Tested (j + 1)
  tested-more j r h e = record { within = omega arith; rest = r.rest ∙ tested_at j h ∙ ap (λ (b : Bool). b && all_vanish n l s (drop (j + 1) rows)) e }

  pub tested-not : (j : ℕ) → Tested j → j < length rows → vanishes n l s (get_or rows j 0) ≡ false → false ≡ all_vanish n l s rows
  tested-not j r h e = sym (r.rest ∙ tested_at j h ∙ ap (λ (b : Bool). b && all_vanish n l s (drop (j + 1) rows)) e)

  pub tested-all : (j : ℕ) → Tested j → length rows ≤ j → true ≡ all_vanish n l s rows
  unfolding all_vanish
  tested-all j r h = let e : j ≡ length rows = omega (arith, r.within) in sym (r.rest ∙ ap (λ (i : ℕ). all_vanish n l s (drop i rows)) e ∙ rw drop-length)

-- ---- of other bytes with the same strips

module _ (n l : ℕ) (s s' : List ℕ) (same : (t i : ℕ) → t < l → i < n → byte_of l s' t i ≡ byte_of l s t i) where
  vanishes-same : (set : ℕ) → vanishes n l s' set ≡ vanishes n l s set
  unfolding vanishes
  vanishes-same set =
      every_cong l (λ t. eqb (over n set (byte_of l s' t)) 0) (λ t. eqb (over n set (byte_of l s t)) 0)
      (λ t m. ap (λ (v : ℕ). eqb v 0) (over_cong n set (byte_of l s' t) (byte_of l s t) (λ i k u. same t i m k)))

  pub all_vanish_same : (rows : List ℕ) → all_vanish n l s' rows ≡ all_vanish n l s rows
  unfolding all_vanish
  all_vanish_same [] = refl
  all_vanish_same (r ∷ rs) = ap₂ ◌&&◌ (vanishes-same r) (all_vanish_same rs)

-- ---- as streams, from the places that `strip_blocks::Members::of_set` answers

pub streamed_vanishes : (n l set : ℕ) (s at : List ℕ) (count : ℕ) → ((f : ℕ → ℕ) → total count (λ j. f (get_or at j 0)) ≡ over n set (λ i. f (i * l)))
    → every l (λ t. eqb (xor_at count at s t) 0) ≡ vanishes n l s set
unfolding vanishes byte_of
streamed_vanishes n l set s at count same = λ x. every l (λ t. eqb (same (λ p. get_or s (p + t) 0) x) 0)
