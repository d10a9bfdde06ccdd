-- The values that tell the wrong ones apart. The contents of two bytes are too many to go through: whether one agrees is computed by the check words,
-- and what rebuilding leaves by what it fills.
-- Assumes nothing.
use mathlib.Core.Path.{◌≡◌, refl, sym, ap, ◌∙◌}
use mathlib.Core.Logic.{⊎_elim}
use mathlib.Core.List.{List, [], ◌∷◌, cons≢nil}
use Prim.Native.Nat.{ℕ, zero, suc, ◌<◌}
use native.Mathlib.Omega.{arith}
use lib.Dec.{T}
use Rattle.std.specs.Prelude.{if◌then◌else◌}
use Rattle.gf2.specs.Sets.{size}
use Rattle.gf2.proofs.Tests.{if_true, if_false}
use Rattle.flat.specs.Lists.{Bytes}
use Rattle.flat.specs.Cards.{Code, code_of, disks, set_ok}
use Rattle.flat.specs.Strips.{length_ok}
use Rattle.flat.specs.Erasures.{fatal}
use Rattle.flat.specs.Rebuilding.{agreeing}
use Rattle.flat.specs.Repairs.{filled, consistent, equation_among}
use Rattle.flat.specs.Faults.{Report, accepted, refused, card_report, survivors_report, disks_report, rebuild_report, rebuild_stripe}
use Rattle.flat.proofs.Reports.{unless_number}
use Rattle.flat.proofs.Agreement.{agreeing_cases}
use Rattle.flat.proofs.Rebuilds.{accepted_safe, accepted-some, rebuilt-stripe}
use Rattle.flat.proofs.Theorems.{consistent-agrees, all-restored-filled}
use Rattle.turning.specs.Turning.{turned, turned_back, disks_of}
use Rattle.turning.specs.Faults.{turn_report, turn_buffer, turn_back_buffer, turned_report, turned_stripe}
use Rattle.turning.specs.Impostors.{C6, TurnTold, EveryBitOfR, RebuildTold}
use Rattle.turning.proofs.Turned.{length_back}
use Rattle.turning.proofs.Calls.{turned_refuses, turned-is, same_answer}

pub turn-told : TurnTold
unfolding turn_report turn_buffer turn_back_buffer
turn-told = record {
  turn = refl;
  back = refl;
  whole_strips = refl;
  short_buffer = refl;
  long_buffer = refl;
  short_stripe = refl;
  both_short = refl;
  six_first = refl;
  card_first = refl;
  kept = refl;
}

-- ---- the faults of the disks, by the check words

module _ (C : Code) (L S : ℕ) (stripe : List ℕ) (some : 0 < L) (bytes : Bytes stripe) where
  decided-survivors : survivors_report S (agreeing C L S stripe) ≡ (if consistent C L S stripe then accepted (size S ∷ []) else refused 12 [])
  unfolding survivors_report
  decided-survivors =
      ⊎_elim (λ e. ap (survivors_report S) e
      ∙ sym (if_false (consistent C L S stripe) (accepted (size S ∷ [])) (refused 12 []) (λ t. (consistent-agrees C L S stripe some bytes).0 t e)))
      (λ (c, cs, e). ap (survivors_report S) e
      ∙ sym (if_true (consistent C L S stripe) (accepted (size S ∷ [])) (refused 12 [])
      ((consistent-agrees C L S stripe some bytes).1 (λ z. cons≢nil (sym e ∙ z)))))
      (agreeing_cases C L S stripe)

  decided : disks_report C L S stripe
      ≡ (if fatal C S then refused 11 [] else (if consistent C L S stripe then accepted (size S ∷ []) else refused 12 []))
  unfolding disks_report
  decided = ap (λ (r : Report). if fatal C S then refused 11 [] else r) decided-survivors

-- ---- C6, with strips of one byte

module _ (r S a b c : ℕ) (set : T (set_ok (code_of C6) S)) (bytes : Bytes (turned_back 3 1 r (a ∷ b ∷ c ∷ []))) where
  abbrev stripe : List ℕ
  stripe = a ∷ b ∷ c ∷ []

  abbrev C : Code
  C = code_of C6

  abbrev D : ℕ
  D = disks_of 3 r S

  abbrev back : List ℕ
  back = turned_back 3 1 r stripe

  report-is : turned_report C6 1 r S stripe
      ≡ (if fatal C D then refused 11 [] else (if consistent C 1 D back then accepted (size D ∷ []) else refused 12 []))
  unfolding card_report length_ok code_of disks
  report-is = turned-is C6 2 1 1 r S stripe refl tt set refl ∙ decided C 1 D back (omega arith) bytes

  stripe-is : (turned_report C6 1 r S stripe).number ≡ 0 → turned_stripe C6 1 r S stripe ≡ turned 3 1 r (filled 3 1 (equation_among C D) D back)
  unfolding card_report length_ok code_of disks turned_stripe
  stripe-is z =
      let q : (rebuild_report C6 1 D back).number ≡ 0 = sym (ap (λ (x : Report). x.number) (same_answer C6 2 1 1 r S stripe refl tt set refl)) ∙ z in
      unless_number (turned_report C6 1 r S stripe) (turned 3 1 r (rebuild_stripe C6 1 D back)) stripe z
      ∙ ap (turned 3 1 r)
      (rebuilt-stripe C6 1 D back q
      ∙ all-restored-filled C 1 D back (length_back 3 1 r stripe) (accepted_safe C6 1 D back q) (accepted-some C6 1 D back q))

three : (x y z : ℕ) → x < 256 → y < 256 → z < 256 → Bytes (x ∷ y ∷ z ∷ [])
three x y z a b c zero = a
three x y z a b c (suc zero) = b
three x y z a b c (suc (suc zero)) = c
three x y z a b c (suc (suc (suc i))) = omega arith

bytes_597 : Bytes (9 ∷ 7 ∷ 5 ∷ [])
bytes_597 = three 9 7 5 (omega arith) (omega arith) (omega arith)

bytes_557 : Bytes (5 ∷ 7 ∷ 5 ∷ [])
bytes_557 = three 5 7 5 (omega arith) (omega arith) (omega arith)

bytes_595 : Bytes (9 ∷ 5 ∷ 5 ∷ [])
bytes_595 = three 9 5 5 (omega arith) (omega arith) (omega arith)

pub rebuild-told : RebuildTold
unfolding card_report length_ok set_ok code_of disks fatal consistent filled equation_among disks_of turned_back turned size turned_report
rebuild-told =
    record {
      restored = report-is 1 2 5 9 7 tt bytes_597;
      strip = stripe-is 1 2 5 9 7 tt bytes_597 (ap (λ (x : Report). x.number) (report-is 1 2 5 9 7 tt bytes_597));
      parity = stripe-is 1 1 5 9 7 tt bytes_597 (ap (λ (x : Report). x.number) (report-is 1 1 5 9 7 tt bytes_597));
      fatal = report-is 1 4 5 5 7 tt bytes_557;
      apart = report-is 1 0 5 9 5 tt bytes_595;
      alike = report-is 1 0 5 5 7 tt bytes_557;
      card_first = refl;
      eight_first = (turned_refuses C6 2 1 1 1 8 (5 ∷ 5 ∷ []) refl).eight tt (λ t. t);
      six_first = (turned_refuses C6 2 1 0 1 8 (5 ∷ 5 ∷ []) refl).six (λ t. t);
      seven = (turned_refuses C6 2 1 1 1 4 (5 ∷ 5 ∷ []) refl).seven tt tt (λ e. omega arith);
    }

pub every-bit-of_r : EveryBitOfR
unfolding turn_buffer turn_back_buffer set_ok code_of disks fatal disks_of turned_back
every-bit-of_r = record {
  ninth = refl;
  seventeenth = refl;
  last = refl;
  last_back = refl;
  ninth_lost = report-is 256 4 5 5 7 tt bytes_557;
  last_lost = report-is 2147483648 1 7 5 5 tt bytes_557;
}
