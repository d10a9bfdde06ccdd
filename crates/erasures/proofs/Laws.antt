-- What the lister has counted and put in order, by what its calls promise of the rows, the counts and the places.
-- Assumes nothing.
use mathlib.Core.Path.{◌≡◌, ap, ◌∙◌, subst, sym}
use mathlib.Core.List.{List}
use Prim.Native.Nat.{ℕ, ◌+◌, ◌*◌, ◌<◌}
use native.Mathlib.Omega.{arith}
use lib.ListN.{length, get_or}
use Rattle.flat.specs.Lists.{padded, tabulate}
use Rattle.flat.specs.Cards.{Code, disks}
use Rattle.flat.specs.Erasures.{erasures, vector}
use Rattle.flat.specs.Spans.{rows}
use Rattle.flat.proofs.Rows.{rows-length}
use Rattle.minimal_words.specs.Listed.{sizes, keys, Listable, listed, tally, starts}
use Rattle.minimal_marks.proofs.Passes.{tally-small}
use Rattle.minimal_lists.proofs.Filling.{starts-last}
use Rattle.card.specs.Codes.{Legal}
use Rattle.bases.proofs.Systematic.{rows_listable}
use Rattle.erasures.proofs.Enumerated.{listed-erasures, vector-tally}

module _ (C : Code) (legal : Legal C) (bs : List ℕ) (is : bs ≡ rows C) where
  pub may_list : (n : ℕ) → n ≡ disks C → Listable n bs
  may_list n e = rw (e, is) (rows_listable C legal)

  pub all_listed : listed bs 0 0 ≡ erasures C
  all_listed = ap (λ (l : List ℕ). listed l 0 0) is ∙ listed-erasures C (omega (arith, legal.3))

  module _ (counts : List ℕ) (tallied : counts ≡ tally bs 0 0) where
    of_rows : counts ≡ tally (rows C) 0 0
    of_rows = tallied ∙ ap (λ (l : List ℕ). tally l 0 0) is

    pub counts_small : (v : ℕ) → v < keys → get_or counts v 0 < 65536
    counts_small v h =
        subst (λ (l : List ℕ). get_or l v 0 < 65536) (sym of_rows) (tally-small (rows C) 0 0 v (omega (arith, rows-length C, legal.1)) h)

    pub all_counted : (places : List ℕ) → places ≡ starts counts → get_or places keys 0 ≡ length (erasures C)
    all_counted places e =
        ap (λ (l : List ℕ). get_or l keys 0) (e ∙ ap starts of_rows) ∙ starts-last (rows C) 0 0 (erasures C) (listed-erasures C (omega (arith, legal.3)))

    pub vector_is : (m : ℕ) (out : List ℕ) → m ≡ C.m → out ≡ padded 17 (tabulate (m + 1) (λ i. get_or counts ((i + 1) * sizes) 0)) → out ≡ padded 17 (vector C)
    vector_is m out e filled =
        filled ∙ ap (λ (a : ℕ). padded 17 (tabulate (a + 1) (λ i. get_or counts ((i + 1) * sizes) 0))) e
        ∙ ap (λ (l : List ℕ). padded 17 (tabulate (C.m + 1) (λ i. get_or l ((i + 1) * sizes) 0))) of_rows
        ∙ ap (padded 17) (vector-tally C (omega (arith, legal.3)))
