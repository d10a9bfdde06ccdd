-- The smallest sets with a property inside a set, and the numbers that select the minimal words of a span.
-- Assumes nothing.
use mathlib.Core.Path.{◌≡◌, sym, ap, ◌∙◌}
use mathlib.Core.Bool.{Bool, not, ◌&&◌}
use mathlib.Core.Logic.{◌⊎◌, inl, inr}
use mathlib.Core.List.{List}
use Prim.Native.Nat.{ℕ, zero, suc, ◌-◌, ◌^◌, ◌<◌}
use native.Mathlib.Omega.{arith}
use lib.Arith.{lt_of_le-ne}
use lib.Dec.{T, eqb}
use lib.ListN.{length, get_or}
use Rattle.gf2.specs.Sets.{◌⊆◌, ◌⊂◌}
use Rattle.gf2.specs.Span.{Independent, select, Minimal}
use Rattle.gf2.specs.Within.{within}
use Rattle.gf2.proofs.Tests.{dec, and_in, and_out, not_in, not_out, eqb_in, eqb_out}
use Rattle.gf2.proofs.Subsets.{⊆-refl, ⊆_trans, ⊂_in, ⊂_out, ⊆_le}
use Rattle.gf2.proofs.Sums.{over_none, select_in}
use Rattle.gf2.proofs.OneRow.{one-row}
use Rattle.flat.specs.Lists.{some, range}
use Rattle.flat.specs.Spans.{selectors}
use Rattle.flat.proofs.Quantifiers.{some_in, some_out}
use Rattle.flat.proofs.Members.{In, range_in, range_out, filter_in, filter_out}
use Rattle.flat.proofs.Order.{Sorted, sorted_range, sorted_filter}

-- ---- a smallest set inside a set

-- p holds of R, and of no other set below 2 ^ n inside R
pub record Least (n : ℕ) (p : ℕ → Bool) (R : ℕ) : Type 0 where
  pub holds : T (p R)
  pub alone : (Q : ℕ) → Q < 2 ^ n → T (Q ⊆ R) → T (p Q) → Q ≡ R

-- the same as a test
module _ (n : ℕ) (p : ℕ → Bool) (R : ℕ) where
  abbrev smaller : ℕ → Bool
  smaller Q = (Q ⊂ R) && p Q

  pub least_in : Least n p R → T (p R && not (some (2 ^ n) smaller))
  least_in l =
      and_in (p R) (not (some (2 ^ n) smaller)) l.holds
      (not_in (some (2 ^ n) smaller)
      (λ t. let a = some_out (2 ^ n) smaller t in
      let b = and_out (a.0 ⊂ R) (p a.0) a.2 in
      let c = ⊂_out a.0 R b.0 in
      c.0 (l.alone a.0 a.1 c.1 b.1)))

  pub least_out : T (p R && not (some (2 ^ n) smaller)) → Least n p R
  least_out t =
      let a = and_out (p R) (not (some (2 ^ n) smaller)) t in
      record { holds = a.0; alone = λ Q l u q. go Q l u q (not_out (some (2 ^ n) smaller) a.1) (dec (eqb Q R)) }
    where
      go : (Q : ℕ) → Q < 2 ^ n → T (Q ⊆ R) → T (p Q) → (T (some (2 ^ n) smaller) → ⊥) → T (eqb Q R) ⊎ (T (eqb Q R) → ⊥) → Q ≡ R
      go Q l u q none (inl e) = eqb_out Q R e
      go Q l u q none (inr f) =
          absurd (none (some_in (2 ^ n) smaller (Q, l, and_in (Q ⊂ R) (p Q) (⊂_in Q R (λ e. f (eqb_in e)) u) q)))

pub least-inside : (n : ℕ) (p : ℕ → Bool) (b S : ℕ) → S < b → S < 2 ^ n → T (p S) → (R : ℕ) × (R < 2 ^ n) × T (R ⊆ S) × Least n p R
least-inside n p zero S h l t = absurd (omega arith)
least-inside n p (suc b) S h l t = go (dec (some (2 ^ n) (smaller n p S))) (least-inside n p b)
  where
    go : T (some (2 ^ n) (smaller n p S)) ⊎ (T (some (2 ^ n) (smaller n p S)) → ⊥)
        → ((R : ℕ) → R < b → R < 2 ^ n → T (p R) → (Q : ℕ) × (Q < 2 ^ n) × T (Q ⊆ R) × Least n p Q)
        → (R : ℕ) × (R < 2 ^ n) × T (R ⊆ S) × Least n p R
    go (inr f) rest = (S, l, ⊆-refl S, least_out n p S (and_in (p S) (not (some (2 ^ n) (smaller n p S))) t (not_in (some (2 ^ n) (smaller n p S)) f)))
    go (inl u) rest =
        let a = some_out (2 ^ n) (smaller n p S) u in
        let R = a.0 in
        let c = and_out (R ⊂ S) (p R) a.2 in
        let d = ⊂_out R S c.0 in
        let less : R < S = lt_of_le-ne (⊆_le R S d.1) d.0 in
        let r = rest R (omega arith) a.1 c.1 in
        (r.0, r.1, ⊆_trans r.0 R S r.2 d.1, r.3)

-- ---- the numbers that select minimal words

module _ (bs : List ℕ) (i : Independent bs) where
  select-zero : select bs 0 ≡ 0
  unfolding select
  select-zero = over_none (length bs) (λ j. get_or bs j 0)

  pub selectors_out : (x : ℕ) → In x (selectors bs) → (x < 2 ^ length bs) × Minimal bs (select bs x)
  unfolding selectors
  selectors_out x t =
      let f = filter_out (λ y. eqb (length (within (select bs y) bs)) 1) x (range 1 (2 ^ length bs - 1)) t in
      let r = range_out 1 (2 ^ length bs - 1) x f.1 in
      (omega arith, (one-row bs (select bs x) i (select_in bs x)).1 (eqb_out (length (within (select bs x) bs)) 1 f.0))

  pub selectors_in : (x : ℕ) → x < 2 ^ length bs → Minimal bs (select bs x) → In x (selectors bs)
  unfolding selectors
  selectors_in x l m =
      let f : 0 < x = lt_of_le-ne (omega arith) (λ e. m.nonzero (ap (select bs) (sym e) ∙ select-zero)) in
      filter_in (λ y. eqb (length (within (select bs y) bs)) 1) x (range 1 (2 ^ length bs - 1))
      (eqb_in ((one-row bs (select bs x) i (select_in bs x)).0 m)) (range_in 1 (2 ^ length bs - 1) x (omega arith) (omega arith))

pub selectors_sorted : (bs : List ℕ) → Sorted (λ x y. x < y) (selectors bs)
unfolding selectors
selectors_sorted bs =
    sorted_filter (λ x y. x < y) (λ y. eqb (length (within (select bs y) bs)) 1) (range 1 (2 ^ length bs - 1)) (sorted_range 1 (2 ^ length bs - 1))
