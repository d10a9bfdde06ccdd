-- The survivors of a loss that the disk itself counts in, and the equations of the disk among them.
-- Assumes nothing.
use mathlib.Core.Path.{◌≡◌, sym, ap, ◌∙◌, subst}
use mathlib.Core.Logic.{⊎_elim}
use Prim.Native.Nat.{ℕ, ◌-◌, ◌^◌, ◌<◌}
use native.Mathlib.Omega.{arith}
use lib.Dec.{T}
use lib.Pow.{pow_pos, pow-lt}
use Rattle.gf2.specs.Sets.{has, ◌⊕◌, ◌∪◌, ◌⊆◌}
use Rattle.gf2.specs.Span.{InSpan}
use Rattle.gf2.specs.Within.{within}
use Rattle.gf2.proofs.Tests.{T-ext, ltb_in, ltb_out}
use Rattle.gf2.proofs.Xor.{⊕_comm, ⊕_self, ⊕-zero, zero-⊕, ⊕-back, ⊕_four}
use Rattle.gf2.proofs.Subsets.{⊆_in, ⊆_out, ⊆_antisym, ⊆_le, ⊕-⊆, power_in, power_out, plus-has, plus-back}
use Rattle.gf2.proofs.Sizes.{all-⊆}
use Rattle.gf2.proofs.Spans.{sum_in, at}
use Rattle.gf2.proofs.Unions.{∪-left, ∪-right, ∪_out}
use Rattle.gf2.proofs.Elimination.{within-spans}
use Rattle.flat.specs.Cards.{Code, disks, set_ok}
use Rattle.flat.specs.Erasures.{survivors}
use Rattle.flat.specs.Equations.{equation, equations}
use Rattle.flat.specs.Spans.{checks}
use Rattle.flat.proofs.Duality.{survivor_in, survivor_out}
use Rattle.flat.proofs.CheckWords.{equation-word, word-equation, equation-least}
use Rattle.flat.proofs.EquationsListed.{equations_out}
use Rattle.flat.proofs.Members.{In}
use Rattle.flat.proofs.Told.{among_lt}
use Rattle.wear.specs.Wear.{lost_with}
use Rattle.wear.specs.Theorems.{DiskAsLost, OthersByWords}

-- ---- the lost set with the disk

pub with_disk : (S d : ℕ) → T (has (lost_with S d) d)
unfolding lost_with
with_disk S d = ∪-right S (2 ^ d) d (power_in d)

pub disk_as_lost : DiskAsLost
unfolding lost_with
disk_as_lost C S d i = (
  λ t. let p = survivor_out C (lost_with S d) i t in
      (p.0, λ u. p.1 (∪-left S (2 ^ d) i u), λ e. p.1 (∪-right S (2 ^ d) i (subst (λ (x : ℕ). T (has (2 ^ d) x)) (sym e) (power_in d)))),
  λ (l, f, g). survivor_in C (lost_with S d) i l (λ t. ⊎_elim f (λ u. g (power_out d i u)) (∪_out S (2 ^ d) i t)),
)

-- named twice it is lost once
pub lost_twice : (S d : ℕ) → lost_with (lost_with S d) d ≡ lost_with S d
unfolding lost_with
lost_twice S d =
    let R = S ∪ 2 ^ d in
    ⊆_antisym (R ∪ 2 ^ d) R (⊆_in (R ∪ 2 ^ d) R (λ i t. ⊎_elim (λ u. u) (∪-right S (2 ^ d) i) (∪_out R (2 ^ d) i t)))
    (⊆_in R (R ∪ 2 ^ d) (∪-left R (2 ^ d)))

-- with a disk of the code a set is one of its disks where it was
pub with_ok : (C : Code) (S d : ℕ) → d < disks C → set_ok C (lost_with S d) ≡ set_ok C S
unfolding set_ok lost_with
with_ok C S d l =
    T-ext
    (λ t. let a = ⊆_le S (S ∪ 2 ^ d) (⊆_in S (S ∪ 2 ^ d) (∪-left S (2 ^ d))) in
    let b = ltb_out (S ∪ 2 ^ d) (2 ^ disks C) t in
    let c : S < 2 ^ disks C = omega arith in
    ltb_in c)
    (λ t. let a = ⊆_le (S ∪ 2 ^ d) (2 ^ disks C - 1) (inside (ltb_out S (2 ^ disks C) t)) in
    let b = pow_pos (disks C) in
    let c : S ∪ 2 ^ d < 2 ^ disks C = omega arith in
    ltb_in c)
  where
    inside : S < 2 ^ disks C → T (S ∪ 2 ^ d ⊆ 2 ^ disks C - 1)
    inside h =
        let all = 2 ^ disks C - 1 in
        ⊆_in (S ∪ 2 ^ d) all
        (λ i t. ⊎_elim (⊆_out S all (all-⊆ (disks C) S h) i) (⊆_out (2 ^ d) all (all-⊆ (disks C) (2 ^ d) (pow-lt l)) i) (∪_out S (2 ^ d) i t))

-- ---- equations among the survivors

-- a listed one is an equation, of the code's disks
pub listed-equation : (C : Code) (d E : ℕ) → In E (equations C d) → (E < 2 ^ disks C) × T (equation C d E)
listed-equation C d E t = let r = equations_out C d E t in (r.0, ((equation-least C d E).0 r.1).holds)

module _ (C : Code) (d S : ℕ) where
  abbrev pub left : ℕ
  left = survivors C (lost_with S d)

  pub left_lacks : T (has left d) → ⊥
  left_lacks t = (survivor_out C (lost_with S d) d t).1 (with_disk S d)

pub others-by-words : OthersByWords
others-by-words C d S E F l t q = (to, from)
  where
    A : ℕ
    A = left C d S

    word : InSpan (checks C) (E ⊕ 2 ^ d)
    word = equation-word C d l E (among_lt C (lost_with S d) E t) q

    to : T (F ⊆ A) × T (equation C d F) → InSpan (within A (checks C)) (E ⊕ F)
    to (u, r) =
        (within-spans A (checks C) (E ⊕ F)).1 (
          at (checks C) (⊕_four E (2 ^ d) F (2 ^ d) ∙ ap (λ (x : ℕ). E ⊕ F ⊕ x) (⊕_self (2 ^ d)) ∙ ⊕-zero (E ⊕ F))
              (sum_in (checks C) (E ⊕ 2 ^ d) (F ⊕ 2 ^ d) word (equation-word C d l F (among_lt C (lost_with S d) F u) r)),
          ⊕-⊆ E F A t u,
        )

    from : InSpan (within A (checks C)) (E ⊕ F) → T (F ⊆ A) × T (equation C d F)
    from s =
        let p = (within-spans A (checks C) (E ⊕ F)).0 s in
        let u : T (F ⊆ A) = subst (λ (x : ℕ). T (x ⊆ A)) (⊕-back E F) (⊕-⊆ E (E ⊕ F) A t p.1) in
        let lacks : T (has F d) → ⊥ = λ h. left_lacks C d S (⊆_out F A u d h) in
        let same : E ⊕ 2 ^ d ⊕ (E ⊕ F) ≡ F ⊕ 2 ^ d =
        ⊕_four E (2 ^ d) E F ∙ ap (λ (x : ℕ). x ⊕ (2 ^ d ⊕ F)) (⊕_self E) ∙ zero-⊕ (2 ^ d ⊕ F) ∙ ⊕_comm (2 ^ d) F in (
          u,
          subst (λ (x : ℕ). T (equation C d x)) (plus-back F d lacks)
              (word-equation C d l (F ⊕ 2 ^ d) (at (checks C) same (sum_in (checks C) (E ⊕ 2 ^ d) (E ⊕ F) word p.0)) (plus-has F d lacks)),
        )
