-- The values that tell the wrong ones apart. The contents of four bytes are too many to go through: what rebuilding leaves is computed by what it
-- fills, and whether a content agrees by the check words.
-- Assumes nothing.
use mathlib.Core.Path.{◌≡◌, refl, sym, ap, ◌∙◌}
use mathlib.Core.List.{List, [], ◌∷◌}
use Prim.Native.Nat.{ℕ, zero, suc, ◌*◌}
use native.Mathlib.Omega.{arith}
use lib.Dec.{T}
use lib.ListN.{length}
use Rattle.gf2.proofs.Tests.{if_true}
use Rattle.flat.specs.Lists.{Bytes}
use Rattle.flat.specs.Cards.{Card, code_of, disks, set_ok}
use Rattle.flat.specs.Strips.{length_ok}
use Rattle.flat.specs.Erasures.{fatal, determined_set}
use Rattle.flat.specs.Rebuilding.{Agreeing, agrees}
use Rattle.flat.specs.Repairs.{filled, consistent, equation_among}
use Rattle.flat.specs.Faults.{Report, accepted, refused, card_report, verdict_report, disks_report, rebuild_report}
use Rattle.flat.proofs.Agreement.{some-agreeing}
use Rattle.flat.proofs.Consistency.{agreeing-consistent}
use Rattle.flat.proofs.Rebuilds.{rebuild-is}
use Rattle.flat.proofs.Verdicts.{verdict-is}
use Rattle.partial_rebuilding.specs.Impostors.{C1, C6, lost_four, VerdictTold, BringsBackOne, BringsBackParity, TwelveIfFatal}
use Rattle.partial_rebuilding.proofs.Calls.{partial-right, partial-filled}

pub verdict-told : VerdictTold
unfolding fatal code_of verdict_report
verdict-told = record { fatal_15 = tt; some_15 = refl; some_6 = refl; all_127 = refl; none_7 = refl; outside_128 = refl }

-- a fatal set of an accepted card: rebuilding gives 11
fatal-report : (card : Card) (k m S L : ℕ) (stripe : List ℕ) → card_report card ≡ accepted (k ∷ m ∷ []) → T (set_ok (code_of card) S) → T (length_ok L)
    → length stripe ≡ disks (code_of card) * L → T (fatal (code_of card) S) → rebuild_report card L S stripe ≡ refused 11 []
unfolding disks_report
fatal-report card k m S L stripe ok set len whole t =
    rebuild-is card (k ∷ m ∷ []) L S stripe ok len set whole ∙ if_true (fatal (code_of card) S) (refused 11 []) _ t

-- ---- C1, with the data disks lost

data_four : List ℕ
data_four = 17 ∷ 34 ∷ 68 ∷ 136 ∷ []

four_agree : Agreeing (code_of C1) 1 15 lost_four data_four
unfolding agrees code_of data_four
four_agree = record { strips = refl; bytes = bytes; agree = tt }
  where
    bytes : Bytes (17 ∷ 34 ∷ 68 ∷ 136 ∷ [])
    bytes zero = omega arith
    bytes (suc zero) = omega arith
    bytes (suc (suc zero)) = omega arith
    bytes (suc (suc (suc zero))) = omega arith
    bytes (suc (suc (suc (suc i)))) = omega arith

four_filled : filled (disks (code_of C1)) 1 (equation_among (code_of C1) 15) (determined_set (code_of C1) 15) lost_four
    ≡ 17 ∷ 98 ∷ 97 ∷ 96 ∷ 119 ∷ 187 ∷ 221 ∷ []
unfolding filled equation_among determined_set code_of disks
four_filled = refl

pub brings_back-one : BringsBackOne
unfolding card_report length_ok set_ok code_of disks
brings_back-one =
    let r = ((partial-right C1 4 3 15 1 lost_four refl tt tt refl).some data_four four_agree).answer in
    record {
      rebuild = fatal-report C1 4 3 15 1 lost_four refl tt tt refl verdict-told.fatal_15;
      answer = r ∙ sym (verdict-is C1 4 3 refl 15 tt) ∙ verdict-told.some_15;
      stripe = partial-filled C1 1 15 lost_four (ap (λ (x : Report). x.number) r) refl ∙ four_filled;
    }

-- ---- C6, with the disk lost that is in no column, beside the parity and alone

data_two : List ℕ
data_two = 5 ∷ 0 ∷ []

two_agree : Agreeing (code_of C6) 1 6 (5 ∷ 9 ∷ 7 ∷ []) data_two
unfolding agrees code_of data_two
two_agree = record { strips = refl; bytes = bytes; agree = tt }
  where
    bytes : Bytes (5 ∷ 0 ∷ [])
    bytes zero = omega arith
    bytes (suc zero) = omega arith
    bytes (suc (suc i)) = omega arith

two_filled : filled (disks (code_of C6)) 1 (equation_among (code_of C6) 6) (determined_set (code_of C6) 6) (5 ∷ 9 ∷ 7 ∷ []) ≡ 5 ∷ 9 ∷ 5 ∷ []
unfolding filled equation_among determined_set code_of disks
two_filled = refl

pub brings_back-parity : BringsBackParity
unfolding card_report length_ok set_ok code_of disks
brings_back-parity =
    let r = ((partial-right C6 2 1 6 1 (5 ∷ 9 ∷ 7 ∷ []) refl tt tt refl).some data_two two_agree).answer in
    record {
      answer = r ∙ sym (verdict-is C6 2 1 refl 6 tt) ∙ verdict-told.some_6;
      stripe = partial-filled C6 1 6 (5 ∷ 9 ∷ 7 ∷ []) (ap (λ (x : Report). x.number) r) refl ∙ two_filled;
    }

two_differ : T (consistent (code_of C6) 1 2 (5 ∷ 9 ∷ 6 ∷ [])) → ⊥
unfolding consistent code_of
two_differ t = t

pub twelve_if_fatal : TwelveIfFatal
unfolding card_report length_ok set_ok code_of disks fatal
twelve_if_fatal = record {
  rebuild = fatal-report C6 2 1 2 1 (5 ∷ 9 ∷ 6 ∷ []) refl tt tt refl tt;
  answer = (partial-right C6 2 1 2 1 (5 ∷ 9 ∷ 6 ∷ []) refl tt tt refl).none.1
      (λ content a. two_differ (agreeing-consistent (code_of C6) 1 2 (5 ∷ 9 ∷ 6 ∷ []) (some-agreeing (code_of C6) 1 2 (5 ∷ 9 ∷ 6 ∷ []) content a)));
}
