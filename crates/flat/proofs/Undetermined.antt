-- The undetermined disks of a set are those that a row left inside it holds, and a set is fatal where there is one. Its other disks are
-- determined.
-- Assumes nothing.
use mathlib.Core.Path.{◌≡◌, refl, sym, subst}
use mathlib.Core.Logic.{◌≢◌, ◌↔◌}
use Prim.Native.Nat.{ℕ, ◌<◌}
use lib.Dec.{T}
use Rattle.gf2.specs.Sets.{has, ◌⊆◌, union}
use Rattle.gf2.specs.Within.{lowest, within}
use Rattle.gf2.proofs.Tests.{T-ext}
use Rattle.gf2.proofs.Bits.{bit-of-zero, not-has}
use Rattle.gf2.proofs.Subsets.{same-disks, lowest-has, ⊆_in, ⊆_out, ∖_in, ∖_out}
use Rattle.gf2.proofs.Elimination.{within-spans}
use Rattle.gf2.proofs.Unions.{union-word, word-union}
use Rattle.flat.specs.Cards.{Code, disks}
use Rattle.flat.specs.Erasures.{fatal, undetermined, undetermined_set, determined_set}
use Rattle.flat.specs.Spans.{codeword, rows}
use Rattle.flat.proofs.Quantifiers.{set_in, set_out}
use Rattle.flat.proofs.Words.{codeword-nonzero}
use Rattle.flat.proofs.Rows.{rows_span}
use Rattle.flat.proofs.Fatal.{fatal_out}
use Rattle.flat.proofs.Duality.{Held, disk-below, held-fatal, undetermined-held}

module _ (C : Code) (S : ℕ) where
  -- ---- the undetermined disks

  -- a disk is undetermined where a codeword inside S holds it
  pub set-held : (d : ℕ) → T (has (undetermined_set C S) d) → Held C S d
  unfolding undetermined_set
  set-held d t = let p = set_out (disks C) (undetermined C S) d t in (undetermined-held C S d p.0).0 p.1

  pub held-set : (d : ℕ) → Held C S d → T (has (undetermined_set C S) d)
  unfolding undetermined_set
  held-set d h = let l = disk-below C h.0 d h.3 in set_in (disks C) (undetermined C S) d l ((undetermined-held C S d l).1 h)

  -- that codeword is a word of the rows left, and the other way round
  held-union : (d : ℕ) → Held C S d → T (has (union (within S (rows C))) d)
  held-union d (x, b, u, m) =
      union-word (within S (rows C)) d (codeword C x)
      ((within-spans S (rows C) (codeword C x)).1 ((rows_span C (codeword C x)).1 (x, b, refl), u)) m

  union-held : (d : ℕ) → T (has (union (within S (rows C))) d) → Held C S d
  union-held d t =
      let v = word-union (within S (rows C)) d t in
      let p = (within-spans S (rows C) v.0).0 v.1 in
      let r = (rows_span C v.0).0 p.0 in (
        r.0,
        r.1,
        subst (λ (w : ℕ). T (w ⊆ S)) (sym r.2) p.1,
        subst (λ (w : ℕ). T (has w d)) (sym r.2) v.2,
      )

  pub undetermined-union : (d : ℕ) → d < disks C → T (undetermined C S d) ↔ T (has (union (within S (rows C))) d)
  undetermined-union d l = (
    λ t. held-union d ((undetermined-held C S d l).0 t),
    λ t. (undetermined-held C S d l).1 (union-held d t),
  )

  pub undetermined-set : undetermined_set C S ≡ union (within S (rows C))
  undetermined-set =
      same-disks (undetermined_set C S) (union (within S (rows C)))
      (λ d. T-ext (λ t. held-union d (set-held d t)) (λ t. held-set d (union-held d t)))

  pub undetermined-lost : T (undetermined_set C S ⊆ S)
  undetermined-lost = ⊆_in (undetermined_set C S) S (λ d t. let (x, b, u, m) = set-held d t in ⊆_out (codeword C x) S u d m)

  pub fatal-undetermined : T (fatal C S) ↔ (undetermined_set C S ≢ 0)
  fatal-undetermined = (
    λ t e. let r = fatal_out C S t in
        let x = r.0 in
        let d = lowest (codeword C x) in
        let m : T (has (codeword C x) d) = lowest-has (codeword C x) (codeword-nonzero C x r.1 r.2) in
        not-has 0 d (bit-of-zero d) (subst (λ (w : ℕ). T (has w d)) e (held-set d (x, r.1, r.3, m))),
    λ f. let d = lowest (undetermined_set C S) in held-fatal C S d (set-held d (lowest-has (undetermined_set C S) f)),
  )

  -- ---- the determined ones

  pub determined_in : (d : ℕ) → T (has S d) → (T (has (undetermined_set C S) d) → ⊥) → T (has (determined_set C S) d)
  unfolding determined_set
  determined_in d = ∖_in S (undetermined_set C S) d

  pub determined_out : (d : ℕ) → T (has (determined_set C S) d) → T (has S d) × (T (has (undetermined_set C S) d) → ⊥)
  unfolding determined_set
  determined_out d = ∖_out S (undetermined_set C S) d

  -- where S is not fatal, no disk is undetermined
  pub none-undetermined : (T (fatal C S) → ⊥) → (d : ℕ) → T (has (undetermined_set C S) d) → ⊥
  none-undetermined f d t = f (held-fatal C S d (set-held d t))

  pub all-determined : (T (fatal C S) → ⊥) → determined_set C S ≡ S
  all-determined f =
      same-disks (determined_set C S) S (λ d. T-ext (λ t. (determined_out d t).0) (λ t. determined_in d t (none-undetermined f d)))
