-- The least rank on the walk is that of the answer, and without a word that holds the disk there is none.
-- Assumes nothing.
use mathlib.Core.Path.{◌≡◌, sym, ap, ◌∙◌, subst}
use mathlib.Core.Logic.{⊎_elim, ◌≢◌}
use mathlib.Core.List.{List, [], ◌∷◌}
use Prim.Native.Nat.{ℕ, ◌%◌, ◌^◌, ◌≤◌, ◌<◌}
use native.Mathlib.Omega.{arith}
use lib.Dec.{T}
use lib.ListN.{length, get_or}
use lib.Pow.{pow_mono}
use Rattle.gf2.specs.Sets.{has, ◌⊕◌, ◌⊆◌, ◌∖◌}
use Rattle.gf2.specs.Span.{InSpan, select}
use Rattle.gf2.specs.Within.{within}
use Rattle.gf2.proofs.Bits.{no_disk}
use Rattle.gf2.proofs.Xor.{⊕-back}
use Rattle.gf2.proofs.Subsets.{⊆_in, ⊆_trans, ⊕-left, power_out}
use Rattle.gf2.proofs.Spans.{at}
use Rattle.gf2.proofs.Sums.{select_in, in_select}
use Rattle.gf2.proofs.Elimination.{within-spans}
use Rattle.flat.specs.Cards.{Code, disks, set_ok}
use Rattle.flat.specs.Equations.{equation}
use Rattle.flat.specs.Spans.{checks}
use Rattle.flat.specs.Repairs.{holder}
use Rattle.flat.specs.Faults.{accepted, refused}
use Rattle.flat.proofs.Told.{among_lt, holder-has, holder_or, words, word-told, told-word}
use Rattle.wear.specs.Wear.{lost_with, least_wear_tests}
use Rattle.wear.proofs.Left.{left, left_lacks, with_disk}
use Rattle.wear.proofs.Theorems.{eleven-exactly, best_is-least, others-by-words}
use Rattle.least_wear.specs.Forms.{weight_of, rank_of, places_for, table_to, rank_in, LeastOf}
use Rattle.least_wear.proofs.Ranks.{rank_is, better-rank}
use Rattle.least_wear.proofs.Tables.{table_ranks}
use Rattle.least_wear.proofs.Walks.{least-same}

module _ (C : Code) (ws : List ℕ) (d S : ℕ) (s : T (set_ok C S)) (l : d < disks C) where
  -- the survivors, and the check words of them and the disk
  abbrev A : ℕ
  A = left C d S

  abbrev pub held : List ℕ
  held = words C (lost_with S d) d l (with_disk S d)

  pub none-held : holder d held ≡ 0 → least_wear_tests C ws d S ≡ refused 11 []
  none-held e =
      (eleven-exactly C ws d S s l).none.1
      (λ (E, t, q). let r = told-word C (lost_with S d) d l (with_disk S d) E t q in
      no_disk d (subst (λ (w : ℕ). T (has w d)) e (holder-has d held (E ⊕ 2 ^ d) r.0 r.1).0))

  -- one equation, and the words that make the others of it
  abbrev pub first : ℕ
  first = holder d held ∖ 2 ^ d

  abbrev pub others : List ℕ
  others = within A held

  module _ (some : holder d held ≢ 0) where
    first-told : T (first ⊆ A) × T (equation C d first)
    first-told = word-told C (lost_with S d) d l (with_disk S d) (holder d held) (⊎_elim (λ r. r) (λ e. absurd (some e)) (holder_or d held))

    others_in : (w : ℕ) → InSpan (within A (checks C)) w → InSpan others w
    others_in w t =
        let p = (within-spans A (checks C) w).0 t in
        let wide : T (A ⊆ A ⊕ 2 ^ d) =
        ⊆_in A (A ⊕ 2 ^ d) (λ i u. ⊕-left A (2 ^ d) i u (λ v. left_lacks C d S (subst (λ (j : ℕ). T (has A j)) (power_out d i v) u))) in
        (within-spans A held w).1 ((within-spans (A ⊕ 2 ^ d) (checks C) w).1 (p.0, ⊆_trans w A (A ⊕ 2 ^ d) p.1 wide), p.1)

    others_out : (w : ℕ) → InSpan others w → InSpan (within A (checks C)) w
    others_out w t =
        let p = (within-spans A held w).0 t in
        (within-spans A (checks C) w).1 (((within-spans (A ⊕ 2 ^ d) (checks C) w).0 p.0).0, p.1)

    -- the walk meets equations among the survivors, and each of them
    met-told : (x : ℕ) → T (first ⊕ select others x ⊆ A) × T (equation C d (first ⊕ select others x))
    met-told x =
        (others-by-words C d S first (first ⊕ select others x) l first-told.0 first-told.1).1
        (at (within A (checks C)) (sym (⊕-back first (select others x))) (others_out (select others x) (select_in others x)))

    told-met : (F : ℕ) → T (F ⊆ A) → T (equation C d F) → (x : ℕ) × (x < 2 ^ length others) × (first ⊕ select others x ≡ F)
    told-met F t q =
        let r = in_select others (first ⊕ F) (others_in (first ⊕ F) ((others-by-words C d S first F l first-told.0 first-told.1).0 (t, q))) in
        (r.0, r.1, ap (λ (w : ℕ). first ⊕ w) r.2 ∙ ⊕-back first F)

    module _ (one : 1 ≤ disks C) (fits : disks C ≤ 32) (few : C.m ≤ 16) (worn : (i : ℕ) → i < disks C → 1 ≤ get_or ws i 0) where
      abbrev weights : ℕ → ℕ
      weights = weight_of C.k ws

      abbrev table : List ℕ
      table = table_to weights (places_for (disks C))

      -- by ranks themselves
      least-rank : (r : ℕ) → LeastOf (λ x. rank_of weights (first ⊕ select others x)) (2 ^ length others) r
          → least_wear_tests C ws d S ≡ accepted ((r % 2 ^ 32) ∷ [])
      least-rank r h =
          let E = first ⊕ select others h.place in
          let told = met-told h.place in
          let small = among_lt C (lost_with S d) E told.0 in
          let wide : 2 ^ disks C ≤ 2 ^ 32 = pow_mono fits in
          let number : E ≡ r % 2 ^ 32 = omega (arith, h.is, rank_is weights E) in
          best_is-least C ws d S E worn s l told.0 told.1
          (λ F t q b. let p = told-met F t q in
          omega (
            arith,
            better-rank C ws F E fits few (among_lt C (lost_with S d) F t) small b,
            h.is,
            h.least p.0 p.1,
            ap (rank_of weights) p.2,
          ))
          ∙ ap (λ (x : ℕ). accepted (x ∷ [])) number

      -- and out of the table
      pub least-met : (r : ℕ) → LeastOf (λ x. rank_in table (first ⊕ select others x)) (2 ^ length others) r
          → least_wear_tests C ws d S ≡ accepted ((r % 2 ^ 32) ∷ [])
      least-met r h =
          least-rank r
          (least-same (λ x. rank_in table (first ⊕ select others x)) (λ x. rank_of weights (first ⊕ select others x)) (2 ^ length others) r
          (λ x b. table_ranks weights (disks C) (first ⊕ select others x) one fits (among_lt C (lost_with S d) (first ⊕ select others x) (met-told x).0)) h)
