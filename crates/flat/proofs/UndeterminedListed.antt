-- An undetermined disk lies in an entry of the list inside the lost set, and each disk of such an entry is undetermined.
-- Assumes nothing.
use mathlib.Core.Path.{◌≡◌, refl, sym, subst}
use mathlib.Core.Bool.{Bool}
use mathlib.Core.Logic.{◌↔◌}
use Prim.Native.Nat.{ℕ, suc}
use native.Mathlib.Omega.{arith}
use lib.Dec.{T}
use Rattle.gf2.specs.Sets.{has, ◌⊆◌}
use Rattle.gf2.specs.Span.{InSpan}
use Rattle.gf2.proofs.Subsets.{⊆-refl, ⊆_trans}
use Rattle.gf2.proofs.OneRow.{smallest_holder}
use Rattle.flat.specs.Cards.{Code, disks}
use Rattle.flat.specs.Erasures.{undetermined, undetermined_set, erasures}
use Rattle.flat.specs.Spans.{codeword, rows}
use Rattle.flat.proofs.Words.{codeword_lt}
use Rattle.flat.proofs.Rows.{rows_span}
use Rattle.flat.proofs.Members.{In}
use Rattle.flat.proofs.Least.{least-inside}
use Rattle.flat.proofs.Fatal.{word_below, minimal_in, minimal_out}
use Rattle.flat.proofs.Duality.{Held, disk-below, undetermined-held}
use Rattle.flat.proofs.Undetermined.{set-held, held-set}
use Rattle.flat.proofs.ErasuresListed.{erasures_in, erasures_out}

module _ (C : Code) (d : ℕ) where
  -- an entry inside S that holds d
  abbrev Entry : ℕ → Type 0
  Entry S = (R : ℕ) × In R (erasures C) × T (R ⊆ S) × T (has R d)

  -- a word of the rows inside S that holds d is a codeword that does
  word_held : (S w : ℕ) → InSpan (rows C) w → T (w ⊆ S) → T (has w d) → Held C S d
  word_held S w s u m =
      let (x, b, e) = (rows_span C w).0 s in (x, b, subst (λ (v : ℕ). T (v ⊆ S)) (sym e) u, subst (λ (v : ℕ). T (has v d)) (sym e) m)

  -- inside a codeword that holds d, a smallest set that leaves d undetermined is an entry
  held-entry : (S : ℕ) → Held C S d → Entry S
  held-entry S (x, b, u, m) =
      let w = codeword C x in
      let l = disk-below C x d m in
      let p : ℕ → Bool = λ R. undetermined C R d in
      let (R, c, i, least) = least-inside (disks C) p (suc w) w (omega arith) (codeword_lt C x) ((undetermined-held C w d l).1 (x, b, ⊆-refl w, m)) in
      let only : (v : ℕ) → InSpan (rows C) v → T (has v d) → T (v ⊆ R) → v ≡ R =
      λ v s g j. least.alone v (word_below C v s) j ((undetermined-held C v d l).1 (word_held v v s (⊆-refl v) g)) in
      let (y, e, v, k) = (undetermined-held C R d l).0 least.holds in
      let q : codeword C y ≡ R = only (codeword C y) ((rows_span C (codeword C y)).1 (y, e, refl)) k v in
      let h : T (has R d) = subst (λ (r : ℕ). T (has r d)) q k in
      (R, erasures_in C R c (minimal_in C R (smallest_holder (rows C) d R ((rows_span C R).1 (y, e, q)) h only)), ⊆_trans R w S i u, h)

  pub undetermined-listed : (S : ℕ) → T (has (undetermined_set C S) d) ↔ Entry S
  undetermined-listed S = (
    λ t. held-entry S (set-held C S d t),
    λ (R, t, u, m). held-set C S d (word_held S R (minimal_out C R (erasures_out C R t).1).word u m),
  )
