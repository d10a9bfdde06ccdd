-- Demand 3 from the theorems: verdict, list, equations and rebuilder share one verdict, the lists are right, and so is rebuilding.
-- Assumes nothing.
use mathlib.Core.Path.{◌≡◌, sym, ap, ◌∙◌, subst}
use mathlib.Core.Bool.{Bool, true, false}
use mathlib.Core.Logic.{◌↔◌}
use mathlib.Core.List.{List, [], ◌∷◌}
use Prim.Native.Nat.{ℕ, ◌*◌, ◌^◌, ◌≤◌, ◌<◌}
use native.Mathlib.Omega.{arith}
use lib.Dec.{T}
use lib.ListN.{length, get_or}
use Rattle.std.specs.Prelude.{if◌then◌else◌}
use Rattle.gf2.specs.Sets.{size, ◌⊆◌}
use Rattle.gf2.proofs.Tests.{if_true, if_false}
use Rattle.flat.specs.Lists.{member}
use Rattle.flat.specs.Cards.{Code, Card, code_of, disks, set_ok}
use Rattle.flat.specs.Strips.{length_ok, byte_of}
use Rattle.flat.specs.Erasures.{fatal, undetermined_set, minimal_erasure, erasures}
use Rattle.flat.specs.Equations.{minimal_equation, equations, Precedes}
use Rattle.flat.specs.Rebuilding.{Agreeing, agreeing}
use Rattle.flat.specs.Faults.{Report, accepted, refused, card_report, erasures_report, equations_report, survivors_report, disks_report, rebuild_report}
use Rattle.demands.specs.Demand3.{Demand3, OneVerdict, RightList, RightEquations, Restored, RightRebuild, listed, told}
use Rattle.flat.proofs.Order.{sorted_at}
use Rattle.flat.proofs.Duality.{fatal-untold}
use Rattle.flat.proofs.Undetermined.{fatal-undetermined, none-undetermined}
use Rattle.flat.proofs.ErasuresListed as listing
use Rattle.flat.proofs.EquationsListed as equated
use Rattle.flat.proofs.Verdicts.{verdict-is, erasures-written, equations-written, equation-listed, long_slices_accepted}
use Rattle.flat.proofs.Agreement.{only-content}
use Rattle.flat.proofs.Rebuilds.{restored_agreed, restored-others, some-accepted, none-refused, refused_or, rebuild-is, rebuilt-stripe}

-- ---- the two lists

module _ (card : Card) (k m : ℕ) (ok : card_report card ≡ accepted (k ∷ m ∷ [])) where
  abbrev C : Code
  C = code_of card

  module _ (slice : List ℕ) (fits : length (erasures C) ≤ length slice) where
    counted : erasures_report card (length slice) ≡ accepted (length (erasures C) ∷ [])
    counted = (long_slices_accepted card (length slice) 0 k m ok).0 fits

    -- the list that is written is the list
    pub written : listed card slice ≡ erasures C
    written = erasures-written card k m ok slice (length (erasures C)) counted

    right-list : RightList card slice
    right-list =
        record {
          count = counted;
          exact = λ R. subst (λ (l : List ℕ). T (member R l) ↔ ((R < 2 ^ disks C) × T (minimal_erasure C R))) (sym written)
              (listing.erasures_out C R, λ p. listing.erasures_in C R p.0 p.1);
          ordered = subst (λ (l : List ℕ). (i j : ℕ) → i < j → j < length l → listing.Before C (get_or l i 0) (get_or l j 0)) (sym written)
              (sorted_at (listing.Before C) (erasures C) (listing.erasures_sorted C));
        }

  module _ (d : ℕ) (l : d < disks C) (slice : List ℕ) (fits : length (equations C d) ≤ length slice) where
    pub told-counted : equations_report card d (length slice) ≡ accepted (length (equations C d) ∷ [])
    told-counted = (long_slices_accepted card (length slice) d k m ok).1 l fits

    told-written : told card d slice ≡ equations C d
    told-written = (equations-written card k m ok d slice (length (equations C d)) told-counted).1

    right-equations : RightEquations card d slice
    right-equations =
        record {
          count = told-counted;
          exact = λ E. subst (λ (l : List ℕ). T (member E l) ↔ ((E < 2 ^ disks C) × T (minimal_equation C d E))) (sym told-written)
              (equated.equations_out C d E, λ p. equated.equations_in C d E p.0 p.1);
          ordered = subst (λ (l : List ℕ). (i j : ℕ) → i < j → j < length l → Precedes C (get_or l i 0) (get_or l j 0)) (sym told-written)
              (sorted_at (Precedes C) (equations C d) (equated.equations_sorted C d));
        }

-- ---- the rebuilder's verdict

-- it answers 11 only where the set is fatal
eleven : (b : Bool) (S : ℕ) (found : List (List ℕ)) → (if b then refused 11 [] else survivors_report S found) ≡ refused 11 [] → T b
unfolding survivors_report
eleven true S found e = tt
eleven false S [] e = absurd (let z : ◌≡◌ {A = ℕ} 12 11 = ap (λ (r : Report). r.number) e in omega arith)
eleven false S (c ∷ cs) e = absurd (let z : ◌≡◌ {A = ℕ} 0 11 = ap (λ (r : Report). r.number) e in omega arith)

-- ---- all of it

module _ (card : Card) (k m S L : ℕ) (stripe : List ℕ) (ok : card_report card ≡ accepted (k ∷ m ∷ [])) (set : T (set_ok (code_of card) S))
    (len : T (length_ok L)) (whole : length stripe ≡ disks (code_of card) * L) where
  report : rebuild_report card L S stripe
      ≡ (if fatal (code_of card) S then refused 11 [] else survivors_report S (agreeing (code_of card) L S stripe))
  unfolding disks_report
  report = rebuild-is card (k ∷ m ∷ []) L S stripe ok len set whole

  pub one-verdict : (slice : List ℕ) (slices : ℕ → List ℕ) → length (erasures (code_of card)) ≤ length slice
      → ((d : ℕ) → d < disks (code_of card) → length (equations (code_of card) d) ≤ length (slices d)) → OneVerdict card S L stripe slice slices
  one-verdict slice slices fits fit =
      let D = code_of card in
      let v = verdict-is card k m ok S set in
      let f = fatal-undetermined D S in
      let w = written card k m ok slice fits in
      let e = listing.fatal-listed D S in
      let u = fatal-untold D S in
      let q : (d : ℕ) → d < disks D → _ = λ d l. equation-listed card (slices d) S d k m (length (equations D d)) ok (told-counted card k m ok d l (slices d) (fit d l)) in
      record {
        verdict = (
          λ t. (undetermined_set D S, f.0 t, v),
          λ (U, n, r). f.1 (λ z. n (ap (λ (x : Report). get_or x.values 0 0) (sym r ∙ v) ∙ z)),
        );
        entry = subst (λ (l : List ℕ). T (fatal D S) ↔ ((R : ℕ) × T (member R l) × T (R ⊆ S))) (sym w) e;
        untold = (
          λ t. let r = u.0 t in (r.0, r.1, r.2, λ x. r.3 ((q r.0 r.1).1 x)),
          λ r. u.1 (r.0, r.1, r.2, λ x. r.3 ((q r.0 r.1).0 x)),
        );
        rebuilder = (
          λ t. report ∙ if_true (fatal D S) (refused 11 []) (survivors_report S (agreeing D L S stripe)) t,
          λ r. eleven (fatal D S) S (agreeing D L S stripe) (sym report ∙ r),
        );
      }

  module _ (n : T (fatal (code_of card) S) → ⊥) where
    -- where the set is not fatal, the report is that of the contents that agree
    left : rebuild_report card L S stripe ≡ survivors_report S (agreeing (code_of card) L S stripe)
    left = report ∙ if_false (fatal (code_of card) S) (refused 11 []) (survivors_report S (agreeing (code_of card) L S stripe)) n

    none_left : agreeing (code_of card) L S stripe ≡ [] → rebuild_report card L S stripe ≡ refused 12 []
    unfolding survivors_report
    none_left e = left ∙ ap (survivors_report S) e

    some_left : (c : List ℕ) (cs : List (List ℕ)) → agreeing (code_of card) L S stripe ≡ c ∷ cs → rebuild_report card L S stripe ≡ accepted (size S ∷ [])
    unfolding survivors_report
    some_left c cs e = left ∙ ap (survivors_report S) e

    accepted_for : (content : List ℕ) → Agreeing (code_of card) L S stripe content → rebuild_report card L S stripe ≡ accepted (size S ∷ [])
    accepted_for = some-accepted (code_of card) L S stripe (rebuild_report card L S stripe) (size S ∷ []) none_left some_left

    restored-right : (content : List ℕ) → Agreeing (code_of card) L S stripe content → Restored card S L stripe content
    restored-right content a =
        let D = code_of card in
        let s = rebuilt-stripe card L S stripe (ap (λ (r : Report). r.number) (accepted_for content a)) in
        record {
          answer = accepted_for content a;
          only = λ other b. only-content D L S stripe other content n b.strips a.strips b.agree a.agree;
          lost = λ i t l h g. ap (λ (x : List ℕ). byte_of L x t i) s ∙ restored_agreed D L S S stripe i t l h content a g (none-undetermined D S n i);
          others = λ i t l h g. ap (λ (x : List ℕ). byte_of L x t i) s ∙ restored-others D L S S stripe i t l h (agreeing D L S stripe) g;
        }

    pub right-rebuild : RightRebuild card S L stripe
    right-rebuild =
        let D = code_of card in
        let r = rebuild_report card L S stripe in
        record {
          none = none-refused D L S stripe r (size S ∷ []) none_left some_left;
          some = restored-right;
          decided = refused_or D L S stripe r (size S ∷ []) none_left some_left;
        }

pub demand3 : Demand3
demand3 card k m S L stripe slice slices ok set len whole fits fit = (
  one-verdict card k m S L stripe ok set len whole slice slices fits fit,
  right-list card k m ok slice fits,
  λ d l. right-equations card k m ok d l (slices d) (fit d l),
  right-rebuild card k m S L stripe ok set len whole,
)
