-- The rows and the checks of a code are systematic: row i alone has data disk i, and check j alone has parity disk k + j.
-- Assumes nothing.
use mathlib.Core.Path.{◌≡◌, refl, sym, ap, ◌∙◌, subst}
use Prim.Native.Nat.{ℕ, ◌+◌, ◌^◌, ◌<◌}
use native.Mathlib.Omega.{arith}
use borrow.Author.Tests.{eq-eqb, ne_eqb}
use lib.Dec.{eqb}
use lib.ListN.{length, get_or}
use Rattle.std.specs.Prelude.{if◌then◌else◌}
use Rattle.gf2.specs.Sets.{bit}
use Rattle.flat.specs.Lists.{tabulate}
use Rattle.flat.specs.Cards.{Code, disks}
use Rattle.flat.specs.Checks.{row, check}
use Rattle.flat.specs.Spans.{rows, checks}
use Rattle.flat.proofs.Lists.{length-tabulate, get_d_tabulate}
use Rattle.flat.proofs.Rows.{row_lt, row_data, check_lt, check-parity}
use Rattle.card.specs.Codes.{Legal}
use Rattle.minimal_words.specs.Systematic.{Systematic}
use Rattle.minimal_words.specs.Listed.{Listable}
use Rattle.bases.proofs.Adding.{count_rows, count_checks}

-- a table of which entry j has disk p i where j is i, and else not
table_systematic : (n c : ℕ) (f p : ℕ → ℕ) → ((j i : ℕ) → i < c → bit (f j) (p i) ≡ (if eqb i j then 1 else 0)) → ((j : ℕ) → f j < 2 ^ n)
    → Systematic n (tabulate c f)
table_systematic n c f p own below =
    record {
      own = p;
      has_own = λ i l. ap (λ (w : ℕ). bit w (p i)) (at i (in_table l)) ∙ own i i (in_table l) ∙ rw (eq-eqb i i refl);
      lacks_other = λ i j l m e. ap (λ (w : ℕ). bit w (p i)) (at j (in_table m)) ∙ own j i (in_table l) ∙ rw (ne_eqb i j e);
      below = λ i l. subst (λ (w : ℕ). w < 2 ^ n) (sym (at i (in_table l))) (below i);
    }
  where
    at : (i : ℕ) → i < c → get_or (tabulate c f) i 0 ≡ f i
    at = get_d_tabulate c f

    in_table : {i : ℕ} → i < length (tabulate c f) → i < c
    in_table {i} l = subst (λ (x : ℕ). i < x) (length-tabulate c f) l

pub rows_systematic : (C : Code) → Systematic (disks C) (rows C)
unfolding rows
rows_systematic C = table_systematic (disks C) C.k (row C) (λ i. i) (row_data C) (row_lt C)

pub checks_systematic : (C : Code) → Systematic (disks C) (checks C)
unfolding checks
checks_systematic C = table_systematic (disks C) C.m (check C) (λ i. C.k + i) (check-parity C) (check_lt C)

-- ---- they may be listed

module _ (C : Code) (legal : Legal C) where
  pub rows_listable : Listable (disks C) (rows C)
  unfolding disks
  rows_listable = let n = count_rows C in (omega arith, omega arith, omega arith, rows_systematic C)

  pub checks_listable : Listable (disks C) (checks C)
  unfolding disks
  checks_listable = let n = count_checks C in (omega arith, omega arith, omega arith, checks_systematic C)
