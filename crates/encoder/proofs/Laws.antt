-- The table of the columns' bits, row after row, and the stripe that it gives.
-- Assumes nothing.
use mathlib.Core.Path.{◌≡◌, refl, sym, ap, ◌∙◌}
use mathlib.Core.Logic.{◌⊎◌, inl, inr, ◌≢◌}
use mathlib.Core.List.{List}
use Prim.Native.Nat.{ℕ, ◌+◌, ◌*◌, ◌≤◌, ◌<◌}
use native.Mathlib.Omega.{arith}
use lib.ListN.{length, get_or}
use Rattle.gf2.specs.Sets.{bit}
use Rattle.gf2.proofs.Tests.{below_suc}
use Rattle.flat.specs.Lists.{padded}
use Rattle.flat.proofs.Lists.{get_d_padded}
use Rattle.flat.specs.Cards.{Code, disks, column}
use Rattle.flat.specs.Strips.{encoded}
use Rattle.strip_products.specs.Products.{multiplied}
use Rattle.strip_products.proofs.Theorems.{multiplied-encodes}

-- ---- the bits of one data disk: f of each parity disk

module _ (f : ℕ → ℕ) (i : ℕ) (bits₀ : List ℕ) where
  -- its first j places are stored, the other places of the table are those at entry
  pub record Row (j : ℕ) (bits : List ℕ) : Type 0 where
    pub row : (x : ℕ) → x < j → get_or bits (i * 16 + x) 0 ≡ f x
    pub kept : (p : ℕ) → (p < i * 16) ⊎ (i * 16 + j ≤ p) → get_or bits p 0 ≡ get_or bits₀ p 0

  pub row_none : Row 0 bits₀
  row_none = record { row = λ x h. absurd (omega arith); kept = λ p h. refl }

  pub row_more : (j b : ℕ) (bits next : List ℕ) → Row j bits → get_or next (i * 16 + j) 0 ≡ b
      → ((p : ℕ) → p ≢ i * 16 + j → get_or next p 0 ≡ get_or bits p 0) → b ≡ f j → Row (j + 1) next
  row_more j b bits next r placed kept e =
      record {
        row = λ x h. go x (below_suc x j (omega arith));
        kept = λ p h. kept p (apart p h) ∙ r.kept p (wider p h);
      }
    where
      go : (x : ℕ) → (x < j) ⊎ (x ≡ j) → get_or next (i * 16 + x) 0 ≡ f x
      go x (inl h) = kept (i * 16 + x) (λ y. let z : i * 16 + x ≡ i * 16 + j = y in omega arith) ∙ r.row x h
      go x (inr q) = rw q (placed ∙ e)

      apart : (p : ℕ) → (p < i * 16) ⊎ (i * 16 + (j + 1) ≤ p) → p ≢ i * 16 + j
      apart p (inl h) y = let z : p ≡ i * 16 + j = y in omega arith
      apart p (inr h) y = let z : p ≡ i * 16 + j = y in omega arith

      wider : (p : ℕ) → (p < i * 16) ⊎ (i * 16 + (j + 1) ≤ p) → (p < i * 16) ⊎ (i * 16 + j ≤ p)
      wider p (inl h) = inl h
      wider p (inr h) = inr (omega arith)

module _ (C : Code) where
  -- ---- those of the data disks below i

  pub record Stored (i : ℕ) (bits : List ℕ) : Type 0 where
    pub rows : (d j : ℕ) → d < i → j < C.m → get_or bits (d * 16 + j) 0 ≡ bit (column C j) d

  pub stored_none : (bits : List ℕ) → Stored 0 bits
  stored_none bits = record { rows = λ d j h n. absurd (omega arith) }

  -- a row of n places is stored, of which the first m are the columns' bits
  pub stored_more : (i n : ℕ) (bits next : List ℕ) → Stored i bits → C.m ≤ n → n ≤ 16 → ((j : ℕ) → j < C.m → get_or next (i * 16 + j) 0 ≡ bit (column C j) i)
      → ((p : ℕ) → (p < i * 16) ⊎ (i * 16 + n ≤ p) → get_or next p 0 ≡ get_or bits p 0) → Stored (i + 1) next
  stored_more i n bits next r few room row kept = record { rows = λ d j x h. go d j h (below_suc d i (omega arith)) }
    where
      go : (d j : ℕ) → j < C.m → (d < i) ⊎ (d ≡ i) → get_or next (d * 16 + j) 0 ≡ bit (column C j) d
      go d j h (inl x) = kept (d * 16 + j) (inl (omega (arith, few, room))) ∙ r.rows d j x h
      go d j h (inr q) = rw q (row j h)

  -- the bits of an array of the columns, then zeros, are those of the columns
  pub array_bit : (columns : List ℕ) (i j : ℕ) → columns ≡ padded 16 C.columns → bit (get_or columns j 0) i ≡ bit (column C j) i
  unfolding column
  array_bit columns i j e = ap (λ (c : ℕ). bit c i) (ap (λ (xs : List ℕ). get_or xs j 0) e ∙ get_d_padded 16 j C.columns)

  -- ---- what the whole table gives

  pub table_encodes : (k l : ℕ) (bits stripe new : List ℕ) → k ≡ C.k → disks C * l ≡ length stripe
      → ((i j : ℕ) → i < C.k → j < C.m → get_or bits (i * 16 + j) 0 ≡ bit (column C j) i) → new ≡ multiplied k l bits stripe → new ≡ encoded C l stripe
  table_encodes k l bits stripe new count fits stored filled =
      filled ∙ ap (λ (n : ℕ). multiplied n l bits stripe) count ∙ multiplied-encodes C l bits stripe (sym fits) stored
