-- The vector: every entry has a place in it, its numbers add up to the list's count, and that count is not 0.
-- Assumes nothing.
use mathlib.Core.Path.{◌≡◌, sym, ap, ◌∙◌}
use mathlib.Core.List.{List, [], ◌∷◌, ◌++◌}
use Prim.Native.Nat.{ℕ, suc, ◌+◌, ◌≤◌}
use native.Mathlib.Omega.{arith}
use lib.Dec.{eqb}
use lib.ListN.{length}
use lib.Pow.{pow_mono}
use Rattle.gf2.specs.Sets.{size}
use Rattle.gf2.specs.Span.{InSpan}
use Rattle.gf2.specs.Within.{within, lowest}
use Rattle.gf2.proofs.Tests.{eqb_out}
use Rattle.gf2.proofs.Subsets.{⊆-refl, lowest-has}
use Rattle.gf2.proofs.Sizes.{size_less, one-left-size}
use Rattle.gf2.proofs.OneRow.{one-row}
use Rattle.flat.specs.Lists.{tabulate, sum}
use Rattle.flat.specs.Cards.{Code, Card, code_of, disks}
use Rattle.flat.specs.Erasures.{erasures, places, vector}
use Rattle.flat.specs.Faults.{accepted, list_report, erasures_report, erasures_vector}
use Rattle.flat.specs.Spans.{codeword, rows}
use Rattle.flat.proofs.Lists.{length-tabulate, map_range}
use Rattle.flat.proofs.Reports.{unless_accepted, with_out, list_counted}
use Rattle.flat.proofs.Cards.{count_in}
use Rattle.flat.proofs.Editions.{accepted-card, card-accepted}
use Rattle.flat.proofs.Rows.{rows-length, rows-indep}
use Rattle.flat.proofs.Fatal.{word_below, minimal_out, fatal_in}
use Rattle.flat.proofs.Members.{In, in_nil}
use Rattle.flat.proofs.Filters.{filter_none}
use Rattle.flat.proofs.Blocks.{block, blocks, ordered-blocks, blocks-first, blocks-length}
use Rattle.flat.proofs.Totals.{sum-padded, ordered-whole}
use Rattle.flat.proofs.ErasuresListed.{erasures_out, fatal-listed}

module _ (C : Code) where
  -- a codeword with one row left inside it
  pub word_size : (w : ℕ) → InSpan (rows C) w → length (within w (rows C)) ≡ 1 → size w ≤ C.m + 1
  unfolding disks
  word_size w s e = omega (arith, one-left-size (disks C) (rows C) (word_below C) w s e, rows-length C)

  pub entry-sizes : (S : ℕ) → In S (erasures C) → (1 ≤ size S) × (size S ≤ C.m + 1)
  entry-sizes S t =
      let m = minimal_out C S (erasures_out C S t).1 in (
        omega (arith, size_less S (lowest S) (lowest-has S m.nonzero)),
        word_size S m.word ((one-row (rows C) S (rows-indep C) m.word).0 m),
      )

  -- each entry has a place
  entry-placed : (S : ℕ) → In S (erasures C) → size S ≤ places C
  unfolding places
  entry-placed S t = omega (arith, entry-sizes S t)

  -- how many entries have size i
  abbrev pub of_size : ℕ → ℕ
  of_size i = length (block size (erasures C) i)

  pub vector-counts : vector C ≡ tabulate (places C) (λ i. of_size (1 + i))
  unfolding vector
  vector-counts = map_range of_size 1 (places C)

  -- none has size 0
  none_empty : block size (erasures C) 0 ≡ []
  none_empty = filter_none (λ S. eqb (size S) 0) (erasures C) (λ S t u. let e : size S ≡ 0 = eqb_out (size S) 0 u in omega (arith, entry-sizes S t))

  pub vector-total : sum (vector C) ≡ length (erasures C)
  vector-total =
      ap sum vector-counts ∙ sym (blocks-length size (erasures C) 1 (places C))
      ∙ ap (λ (l : List ℕ). length (l ++ blocks size (erasures C) 1 (places C))) (sym none_empty)
      ∙ sym (ap length (ordered-blocks size (erasures C) (suc (places C)) ∙ blocks-first size (erasures C) 0 (places C)))
      ∙ ordered-whole size (suc (places C)) (erasures C) (λ S t. omega (arith, entry-placed S t))

  pub vector-length : length (vector C) ≡ C.m + 1
  unfolding places
  vector-length =
      let n : places C ≡ C.m + 1 = omega arith in
      ap length vector-counts ∙ length-tabulate (places C) (λ i. of_size (1 + i)) ∙ n

  -- with a data disk, the codeword of 1 is fatal and contains an entry
  pub some-listed : 1 ≤ C.k → 1 ≤ length (erasures C)
  some-listed h =
      let w = codeword C 1 in
      let r = (fatal-listed C w).0 (fatal_in C w 1 (omega (arith, pow_mono {i = 1} {j = C.k} h)) (λ e. omega arith) (⊆-refl w)) in
      go (erasures C) r.0 r.1
    where
      go : (l : List ℕ) (R : ℕ) → In R l → 1 ≤ length l
      go [] R t = absurd (in_nil R t)
      go (x ∷ l) R t = omega arith

-- the numbers that the lister answers
pub vector-answered : (card : Card) (n count : ℕ) → erasures_report card n ≡ accepted (count ∷ []) → (sum (erasures_vector card n) ≡ count) × (1 ≤ count)
unfolding erasures_report erasures_vector
vector-answered card n count e =
    let C = code_of card in
    let w = with_out card (count ∷ []) (λ D. list_report (erasures D) n) e in
    let c = list_counted (erasures C) n count w.1 in
    let s = (accepted-card card C.k C.m (card-accepted card w.0)).sound in (
      sum-padded 17 _ ∙ ap sum (unless_accepted (erasures_report card n) (count ∷ []) (vector C) [] e) ∙ vector-total C ∙ c.0,
      omega (arith, c.0, some-listed C (count_in C.k s.k_ok).0),
    )
