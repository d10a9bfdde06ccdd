-- Codes whose codewords have equal sizes, word for word, have the same minimal words; so after renumbering the lists of minimal erasures match.
-- Assumes nothing.
use mathlib.Core.Path.{◌≡◌, refl, sym, ap, ap₂, ◌∙◌, subst}
use mathlib.Core.List.{List, map, map-map}
use Prim.Native.Nat.{ℕ, suc, ◌+◌, ◌^◌, ◌<◌}
use native.Mathlib.Omega.{arith}
use lib.Dec.{T, eqb}
use lib.ListN.{length, length-map}
use Rattle.gf2.specs.Sets.{size, ◌⊕◌, ◌⊆◌}
use Rattle.gf2.specs.Span.{Minimal, select}
use Rattle.gf2.proofs.Sizes.{inside-sizes}
use Rattle.flat.specs.Lists.{range, filter, ordered_by}
use Rattle.flat.specs.Cards.{Code, code, disks, data_part}
use Rattle.flat.specs.Erasures.{erasures, places, vector}
use Rattle.flat.specs.Spans.{codeword, rows, selectors, erasures_by_word}
use Rattle.flat.proofs.Members.{In, map_out}
use Rattle.flat.proofs.Filters.{filter_map, filter_cong, map_cong}
use Rattle.flat.proofs.Blocks.{ordered-map, ordered_cong}
use Rattle.flat.proofs.Order.{sorted_unique, lt_asym}
use Rattle.flat.proofs.Least.{selectors_sorted}
use Rattle.flat.proofs.Words.{codeword-⊕, codeword-zero, codeword-nonzero, codeword_data}
use Rattle.flat.proofs.Rows.{rows_span, select-rows}
use Rattle.flat.proofs.ErasuresListed.{word_in, word_out, erasures_enumerated}
use Rattle.renumbering.specs.Renumbering.{Renumbering, renumbered}
use Rattle.renumbering.specs.Theorems.{Interchange, DisksInterchange, ErasuresMatch}
use Rattle.renumbering.proofs.Codewords as codes

-- ---- minimal words

module _ (C : Code) where
  -- the list of minimal erasures is made from the numbers that select a minimal word, in the order of its size
  abbrev ordered : List ℕ
  ordered = ordered_by (λ x. size (codeword C x)) (suc (disks C)) (selectors (rows C))

  erasures-words : erasures C ≡ map (codeword C) ordered
  unfolding erasures_by_word
  erasures-words =
      erasures_enumerated C
      ∙ ap (ordered_by size (suc (disks C))) (map_cong (select (rows C)) (codeword C) (selectors (rows C)) (λ x t. select-rows C x))
      ∙ ordered-map size (codeword C) (selectors (rows C)) (suc (disks C))

-- the codewords of P and Q have the same sizes
module _ (P Q : Code) (same_k : P.k ≡ Q.k) (sizes : (x : ℕ) → size (codeword Q x) ≡ size (codeword P x)) where
  inside : (x y : ℕ) → T (codeword Q x ⊆ codeword Q y) → T (codeword P x ⊆ codeword P y)
  inside x y t =
      (inside-sizes (codeword P x) (codeword P y)).1
      (omega (
        arith,
        (inside-sizes (codeword Q x) (codeword Q y)).0 t,
        sizes x,
        sizes y,
        ap size (sym (codeword-⊕ Q x y)) ∙ sizes (x ⊕ y) ∙ ap size (codeword-⊕ P x y),
      ))

  below : (x : ℕ) → x < 2 ^ P.k → x < 2 ^ Q.k
  below x l = subst (λ (k : ℕ). x < 2 ^ k) same_k l

  minimal-carried : (x : ℕ) → x < 2 ^ P.k → Minimal (rows P) (codeword P x) → Minimal (rows Q) (codeword Q x)
  minimal-carried x l h =
      record {
        word = (rows_span Q (codeword Q x)).1 (x, below x l, refl);
        nonzero = codeword-nonzero Q x (below x l) (λ e. h.nonzero (ap (codeword P) e ∙ codeword-zero P));
        alone = λ v s f t. let (y, b, e) = (rows_span Q v).0 s in
            let c : y < 2 ^ P.k = subst (λ (k : ℕ). y < 2 ^ k) (sym same_k) b in
            let q : codeword P y ≡ codeword P x =
            h.alone (codeword P y) ((rows_span P (codeword P y)).1 (y, c, refl))
            (codeword-nonzero P y c (λ z. f (sym e ∙ ap (codeword Q) z ∙ codeword-zero Q)))
            (inside y x (subst (λ (w : ℕ). T (w ⊆ codeword Q x)) (sym e) t)) in
            sym e ∙ ap (codeword Q) (sym (codeword_data P y c) ∙ ap (data_part P) q ∙ codeword_data P x l);
      }

  word-carried : (x : ℕ) → In x (selectors (rows P)) → In x (selectors (rows Q))
  word-carried x t = let (l, h) = word_out P x t in word_in Q x (below x l) (minimal-carried x l h)

-- ---- the lists

module _ (k m : ℕ) (us vs : List ℕ) (π : ℕ → ℕ) (r : Renumbering (code k m us) (code k m vs) π) where
  abbrev A : Code
  A = code k m us

  abbrev B : Code
  B = code k m vs

  sizes : (x : ℕ) → size (codeword B x) ≡ size (codeword A x)
  sizes = codes.codeword-size k m us vs π r

  same-words : selectors (rows B) ≡ selectors (rows A)
  same-words =
      sorted_unique (λ x y. x < y) lt_asym (selectors (rows B)) (selectors (rows A)) (selectors_sorted (rows B)) (selectors_sorted (rows A))
      (word-carried B A refl (λ x. sym (sizes x))) (word-carried A B refl sizes)

  same_order : ordered B ≡ ordered A
  unfolding disks
  same_order =
      ap (ordered_by (λ x. size (codeword B x)) (suc (disks B))) same-words
      ∙ ordered_cong (λ x. size (codeword B x)) (λ x. size (codeword A x)) (selectors (rows A)) (λ x _. sizes x) (suc (disks A))

  lists_match : erasures B ≡ map (renumbered A π) (erasures A)
  lists_match =
      erasures-words B ∙ ap (map (codeword B)) same_order
      ∙ map_cong (codeword B) (λ x. renumbered A π (codeword A x)) (ordered A) (λ x _. sym (codes.renumbered-codeword k m us vs π r x))
      ∙ sym (map-map (renumbered A π) (codeword A) (ordered A)) ∙ ap (map (renumbered A π)) (sym (erasures-words A))

  -- an entry keeps its size
  entry-size : (S : ℕ) → In S (erasures A) → size (renumbered A π S) ≡ size S
  entry-size S t =
      let (x, _, e) = map_out (codeword A) S (ordered A) (subst (In S) (erasures-words A) t) in
      ap (λ (w : ℕ). size (renumbered A π w)) (sym e) ∙ ap size (codes.renumbered-codeword k m us vs π r x) ∙ sizes x ∙ ap size e

  vectors_match : vector B ≡ vector A
  unfolding vector places
  vectors_match =
      map_cong (λ i. length (filter (λ S. eqb (size S) i) (erasures B))) (λ i. length (filter (λ S. eqb (size S) i) (erasures A))) (range 1 (m + 1))
      (λ i _. ap (λ (l : List ℕ). length (filter (λ S. eqb (size S) i) l)) lists_match
      ∙ ap length (filter_map (λ S. eqb (size S) i) (renumbered A π) (erasures A))
      ∙ length-map (filter (λ S. eqb (size (renumbered A π S)) i) (erasures A)) (renumbered A π)
      ∙ ap length (filter_cong (λ S. eqb (size (renumbered A π S)) i) (λ S. eqb (size S) i) (erasures A)
      (λ S t. ap (λ (n : ℕ). eqb n i) (entry-size S t))))

-- ---- the statements, of two codes with equal counts

module _ (P : Code → Code → (ℕ → ℕ) → Type 0)
    (h : (k m : ℕ) (us vs : List ℕ) (π : ℕ → ℕ) → Renumbering (code k m us) (code k m vs) π → P (code k m us) (code k m vs) π) where
  of-counts : (A B : Code) (π : ℕ → ℕ) → Renumbering A B π → P A B π
  of-counts A B π r =
      subst (λ (D : Code). Renumbering A D π → P A D π) (ap₂ (λ (k m : ℕ). code k m B.columns) r.same_k r.same_m)
      (h A.k A.m A.columns B.columns π) r

pub disks_interchange : DisksInterchange
disks_interchange =
    of-counts Interchange
    (λ k m us vs π r. record {
      permutes = codes.to_permutes k m us vs π r;
      data_stays = codes.to_data k m us vs π r;
      same = codes.holds_same k m us vs π r;
      inside = codes.renumbered_lt k m us vs π r;
      sets = codes.renumbered-has k m us vs π r;
    })

pub erasures_match : ErasuresMatch
erasures_match =
    of-counts (λ A B π. (erasures B ≡ map (renumbered A π) (erasures A)) × (vector B ≡ vector A))
    (λ k m us vs π r. (lists_match k m us vs π r, vectors_match k m us vs π r))
