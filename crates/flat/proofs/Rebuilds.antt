-- What a call leaves in a stripe that restores some disks, which hangs on the survivors alone; and the rebuilder's report and stripe.
-- Assumes nothing.
use mathlib.Core.Path.{◌≡◌, refl, sym, ap, ap₂, ◌∙◌, subst}
use mathlib.Core.Bool.{false}
use mathlib.Core.Logic.{◌⊎◌, inl, inr, ◌≢◌, ◌↔◌, ⊎_elim}
use mathlib.Core.List.{List, [], ◌∷◌}
use Prim.Native.Nat.{ℕ, ◌+◌, ◌*◌, ◌/◌, ◌<◌}
use native.Mathlib.Omega.{arith}
use lib.Arith.{digits_div}
use lib.Dec.{T}
use lib.ListN.{length, get_or}
use Rattle.std.specs.Prelude.{if◌then◌else◌}
use Rattle.gf2.specs.Sets.{has}
use Rattle.gf2.proofs.Tests.{false-T, T-ext, if_true, if_false}
use Rattle.flat.specs.Cards.{Code, Card, code_of, disks, set_ok}
use Rattle.flat.specs.Strips.{length_ok, byte_of, given}
use Rattle.flat.specs.Erasures.{fatal, undetermined_set}
use Rattle.flat.specs.Rebuilding.{Agreeing, agrees, contents, agreeing, restored}
use Rattle.flat.specs.Faults.{Report, accepted, refused, card_report, with_card, stripe_tests, survivors_report, disks_report, rebuild_tests, rebuild_report, rebuild_stripe}
use Rattle.flat.specs.Rebuilt.{LostBytesUnread}
use Rattle.flat.proofs.Reports.{passed-number, unless_number, with_cong}
use Rattle.flat.proofs.Tested.{tests_are, tests_number}
use Rattle.flat.proofs.Lists.{length-tabulate}
use Rattle.flat.proofs.Positions.{byte_at}
use Rattle.flat.proofs.Contents.{filter_cong}
use Rattle.flat.proofs.Agreement.{agrees_in, agrees_out, some-agreeing, first-agreeing, agreeing_cases, one-strip}

-- ---- the stripe

pub restored-long : (C : Code) (L D : ℕ) (stripe : List ℕ) (found : List (List ℕ)) → length stripe ≡ disks C * L
    → length (restored C L D stripe found) ≡ length stripe
unfolding restored
restored-long C L D stripe [] e = refl
restored-long C L D stripe (c ∷ cs) e = length-tabulate (disks C * L) _ ∙ sym e

module _ (C : Code) (L D : ℕ) (stripe content : List ℕ) (others : List (List ℕ)) (t i : ℕ) (h : t < L) (l : i < disks C) where
  restored-byte : byte_of L (restored C L D stripe (content ∷ others)) t i ≡ (if has D i then byte_of L (given C L content) t i else byte_of L stripe t i)
  unfolding restored byte_of
  restored-byte =
      byte_at (disks C) L (λ p. if has D (p / L) then get_or (given C L content) p 0 else get_or stripe p 0) t i h l
      ∙ ap (λ (d : ℕ). if has D d then get_or (given C L content) (i * L + t) 0 else get_or stripe (i * L + t) 0) (digits_div i h)

  pub restored-lost : T (has D i) → byte_of L (restored C L D stripe (content ∷ others)) t i ≡ byte_of L (given C L content) t i
  restored-lost s = restored-byte ∙ if_true (has D i) (byte_of L (given C L content) t i) (byte_of L stripe t i) s

  pub restored-kept : (T (has D i) → ⊥) → byte_of L (restored C L D stripe (content ∷ others)) t i ≡ byte_of L stripe t i
  restored-kept s = restored-byte ∙ if_false (has D i) (byte_of L (given C L content) t i) (byte_of L stripe t i) s

-- of the contents that agree with the survivors of S
module _ (C : Code) (L S D : ℕ) (stripe : List ℕ) (i t : ℕ) (l : i < disks C) (h : t < L) where
  -- a disk of D that is not undetermined becomes what each of them gives it
  pub restored_agreed : (content : List ℕ) → Agreeing C L S stripe content → T (has D i) → (T (has (undetermined_set C S) i) → ⊥)
      → byte_of L (restored C L D stripe (agreeing C L S stripe)) t i ≡ byte_of L (given C L content) t i
  restored_agreed content a s u =
      ⊎_elim (λ e. absurd (some-agreeing C L S stripe content a e))
      (λ (c, cs, e). ap (λ (found : List (List ℕ)). byte_of L (restored C L D stripe found) t i) e ∙ restored-lost C L D stripe c cs t i h l s
      ∙ one-strip C L S stripe c content (first-agreeing C L S stripe c cs e).agree a.agree i t l h u)
      (agreeing_cases C L S stripe)

  -- and the others keep their bytes
  pub restored-others : (found : List (List ℕ)) → (T (has D i) → ⊥) → byte_of L (restored C L D stripe found) t i ≡ byte_of L stripe t i
  unfolding restored
  restored-others [] s = refl
  restored-others (c ∷ cs) s = restored-kept C L D stripe c cs t i h l s

-- ---- whether some content agrees

-- a report that is 12 where none does, and accepts where some do
module _ (C : Code) (L S : ℕ) (stripe : List ℕ) (r : Report) (vs : List ℕ) (none : agreeing C L S stripe ≡ [] → r ≡ refused 12 [])
    (some : (c : List ℕ) (cs : List (List ℕ)) → agreeing C L S stripe ≡ c ∷ cs → r ≡ accepted vs) where
  pub some-accepted : (content : List ℕ) → Agreeing C L S stripe content → r ≡ accepted vs
  some-accepted content a = ⊎_elim (λ e. absurd (some-agreeing C L S stripe content a e)) (λ (c, cs, e). some c cs e) (agreeing_cases C L S stripe)

  pub none-refused : (r ≡ refused 12 []) ↔ ((content : List ℕ) → Agreeing C L S stripe content → ⊥)
  none-refused = (
    λ e content a. let z : ◌≡◌ {A = ℕ} 0 12 = ap (λ (x : Report). x.number) (sym (some-accepted content a) ∙ e) in omega arith,
    λ f. ⊎_elim none (λ (c, cs, e). absurd (f c (first-agreeing C L S stripe c cs e))) (agreeing_cases C L S stripe),
  )

  pub refused_or : (r ≡ refused 12 []) ⊎ ((content : List ℕ) × Agreeing C L S stripe content)
  refused_or = ⊎_elim (λ e. inl (none e)) (λ (c, cs, e). inr (c, first-agreeing C L S stripe c cs e)) (agreeing_cases C L S stripe)

-- ---- bytes of lost strips are unread

-- two stripes with the same survivors
abbrev pub SameLeft : Code → ℕ → ℕ → List ℕ → List ℕ → Type 0
SameLeft C L S stripe other = (i t : ℕ) → i < disks C → (T (has S i) → ⊥) → t < L → byte_of L stripe t i ≡ byte_of L other t i

agrees-alike : (C : Code) (L S : ℕ) (stripe other : List ℕ) → SameLeft C L S stripe other
    → (content : List ℕ) → T (agrees C L S stripe content) → T (agrees C L S other content)
agrees-alike C L S stripe other same content a =
    agrees_in C L S other content (λ t h i l s. agrees_out C L S stripe content a t h i l s ∙ same i t l s h)

pub agreeing-alike : (C : Code) (L S : ℕ) (stripe other : List ℕ) → SameLeft C L S stripe other → agreeing C L S stripe ≡ agreeing C L S other
unfolding agreeing
agreeing-alike C L S stripe other same =
    filter_cong (agrees C L S stripe) (agrees C L S other) (contents (C.k * L))
    (λ c. T-ext (agrees-alike C L S stripe other same c) (agrees-alike C L S other stripe (λ i t l s h. sym (same i t l s h)) c))

-- a report that goes by the contents that agree
pub reports_alike : (card : Card) (L S : ℕ) (stripe other : List ℕ) (next : Code → List (List ℕ) → Report) → length stripe ≡ length other
    → SameLeft (code_of card) L S stripe other
    → with_card card (λ C. stripe_tests C L S (length stripe) (next C (agreeing C L S stripe)))
    ≡ with_card card (λ C. stripe_tests C L S (length other) (next C (agreeing C L S other)))
reports_alike card L S stripe other next e same =
    let C = code_of card in
    with_cong card _ _
    (ap₂ (λ (n : ℕ) (found : List (List ℕ)). stripe_tests C L S n (next C found)) e (agreeing-alike C L S stripe other same))

-- a disk that is restored, where some content agrees
pub restored-alike : (C : Code) (L S D : ℕ) (stripe other : List ℕ) → SameLeft C L S stripe other → agreeing C L S stripe ≢ []
    → (i t : ℕ) → i < disks C → T (has D i) → t < L
    → byte_of L (restored C L D stripe (agreeing C L S stripe)) t i ≡ byte_of L (restored C L D other (agreeing C L S other)) t i
restored-alike C L S D stripe other same some i t l s h =
    ⊎_elim (λ e. absurd (some e))
    (λ (c, cs, e). ap (λ (found : List (List ℕ)). byte_of L (restored C L D stripe found) t i) e ∙ restored-lost C L D stripe c cs t i h l s
    ∙ sym (restored-lost C L D other c cs t i h l s)
    ∙ ap (λ (found : List (List ℕ)). byte_of L (restored C L D other found) t i) (sym e ∙ agreeing-alike C L S stripe other same))
    (agreeing_cases C L S stripe)

-- ---- the rebuilder

-- what is left to test for an accepted card, a set of its disks, a length and a stripe of that length
pub rebuild-is : (card : Card) (ws : List ℕ) (L S : ℕ) (stripe : List ℕ) → card_report card ≡ accepted ws → T (length_ok L) → T (set_ok (code_of card) S)
    → length stripe ≡ disks (code_of card) * L → rebuild_report card L S stripe ≡ disks_report (code_of card) L S stripe
unfolding rebuild_report rebuild_tests
rebuild-is card ws L S stripe = tests_are card L S (length stripe) (λ D. disks_report D L S stripe) ws

-- where it accepts, the set is not fatal, some content agrees, and the lost disks are restored
module _ (card : Card) (L S : ℕ) (stripe : List ℕ) (e : (rebuild_report card L S stripe).number ≡ 0) where
  past : (fatal (code_of card) S ≡ false) × ((survivors_report S (agreeing (code_of card) L S stripe)).number ≡ 0)
  unfolding rebuild_report rebuild_tests disks_report
  past =
      let p =
      passed-number (fatal (code_of card) S) 10 [] (survivors_report S (agreeing (code_of card) L S stripe))
      (tests_number card L S (length stripe) (λ D. disks_report D L S stripe) e) in
      (p.0, p.1)

  pub accepted_safe : T (fatal (code_of card) S) → ⊥
  accepted_safe = false-T {b = fatal (code_of card) S} past.0

  pub accepted-some : agreeing (code_of card) L S stripe ≢ []
  unfolding survivors_report
  accepted-some q =
      let z : ◌≡◌ {A = ℕ} 12 0 = subst (λ (l : List (List ℕ)). (survivors_report S l).number ≡ 0) q past.1 in omega arith

  pub rebuilt-stripe : rebuild_stripe card L S stripe ≡ restored (code_of card) L S stripe (agreeing (code_of card) L S stripe)
  unfolding rebuild_stripe
  rebuilt-stripe = unless_number (rebuild_report card L S stripe) (restored (code_of card) L S stripe (agreeing (code_of card) L S stripe)) stripe e

pub lost-bytes_unread : LostBytesUnread
unfolding rebuild_report rebuild_tests disks_report
lost-bytes_unread card L S stripe other e same =
    let C = code_of card in
    let r = reports_alike card L S stripe other (λ D found. if fatal D S then refused 11 [] else survivors_report S found) e same in (
      r,
      λ z i t l s h. ap (λ (x : List ℕ). byte_of L x t i) (rebuilt-stripe card L S stripe z)
          ∙ restored-alike C L S S stripe other same (accepted-some card L S stripe z) i t l s h
          ∙ ap (λ (x : List ℕ). byte_of L x t i) (sym (rebuilt-stripe card L S other (sym (ap (λ (x : Report). x.number) r) ∙ z))),
    )
