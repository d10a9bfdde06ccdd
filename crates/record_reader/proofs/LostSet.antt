-- The lost set, which is added up entry by entry.
-- Assumes nothing.
use mathlib.Core.Path.{◌≡◌, sym, ap, ◌∙◌}
use mathlib.Core.Bool.{Bool}
use mathlib.Core.List.{List}
use Prim.Native.Nat.{ℕ, suc, ◌+◌, ◌*◌, ◌%◌, ◌^◌, ◌<◌}
use native.Mathlib.Omega.{arith}
use borrow.Author.Tests.{eq-eqb, ne_eqb}
use lib.Dec.{eqb}
use lib.ListN.{get_or, drop}
use lib.Seq.{get_or-take, get_or-drop}
use Rattle.gf2.proofs.Made.{set_fits, set_more, set_same}
use Rattle.flat.specs.Lists.{set_of}
use Rattle.record_format.specs.Records.{entry_in}

-- whether the entry of disk i has kind 2
abbrev pub lost_at : List ℕ → ℕ → Bool
lost_at file i = eqb (get_or (entry_in file (suc i)) 0 0) 2

-- the kind is the entry's first byte
pub kind_at : (file : List ℕ) (i : ℕ) → get_or (entry_in file (suc i)) 0 0 ≡ get_or file (20 + 10 * i) 0
unfolding entry_in
kind_at file i =
    let e : 10 + 10 * suc i + 0 ≡ 20 + 10 * i = omega arith in
    get_or-take 10 (drop (10 + 10 * suc i) file) 0 0 (omega arith) ∙ get_or-drop (10 + 10 * suc i) file 0 0 ∙ ap (λ (j : ℕ). get_or file j 0) e

module _ (file : List ℕ) (i lost : ℕ) (e : lost ≡ set_of i (lost_at file)) where
  -- a disk below 32 still fits into the set of the disks below it
  pub lost_fits : i < 32 → lost + (1 * 2 ^ i) % 2 ^ 32 < 2 ^ 32
  lost_fits = set_fits i lost (lost_at file) e 32

  pub lost-more : i < 32 → get_or file (20 + 10 * i) 0 ≡ 2 → lost + (1 * 2 ^ i) % 2 ^ 32 ≡ set_of (i + 1) (lost_at file)
  lost-more h q = set_more i lost (lost_at file) e 32 h (eq-eqb _ _ (kind_at file i ∙ q))

  pub lost-same : (get_or file (20 + 10 * i) 0 ≡ 2 → ⊥) → lost ≡ set_of (i + 1) (lost_at file)
  lost-same f = set_same i lost (lost_at file) e (ne_eqb _ _ (λ q. f (sym (kind_at file i) ∙ q)))
