-- Demand 2: what encoding writes, byte by byte, and the round trips.
-- Assumes nothing.
use mathlib.Core.Path.{◌≡◌, sym, ap, ◌∙◌}
use mathlib.Core.Bool.{not}
use mathlib.Core.List.{List, []}
use Prim.Native.Nat.{ℕ, ◌+◌, ◌*◌}
use native.Mathlib.Omega.{arith}
use borrow.Author.Tests.{eqb-true, not-false}
use lib.Dec.{eqb}
use lib.ListN.{length}
use Rattle.flat.specs.Cards.{Code, Card, code_of, disks}
use Rattle.flat.specs.Strips.{length_ok, byte_of, encoded}
use Rattle.flat.specs.Faults.{accepted, encode_tests, encode_report, encode_stripe}
use Rattle.flat.proofs.Reports.{passed, with_out, unless_accepted}
use Rattle.flat.proofs.Positions.{encoded-byte, length-encoded}
use Rattle.flat.proofs.Words.{holds_data, holds-parity}
use Rattle.flat.proofs.Theorems.{card_reads_back, card_writes_back}
use Rattle.record_format.proofs.Theorems.{records_read-back, records_write-back}
use Rattle.demands.specs.Demand2.{Demand2, RightEncoding}

module _ (card : Card) (L : ℕ) (stripe : List ℕ) (ok : encode_report card L (length stripe) ≡ accepted []) where
  abbrev C : Code
  C = code_of card

  written : encode_stripe card L stripe ≡ encoded C L stripe
  unfolding encode_stripe
  written = unless_accepted (encode_report card L (length stripe)) [] (encoded C L stripe) stripe ok

  -- the stripe has as many bytes as it needs
  sized : length stripe ≡ disks C * L
  unfolding encode_report encode_tests
  sized =
      let fits = eqb (length stripe) (disks C * L) in
      let t = (passed (not (length_ok L)) 5 [] [] _ (with_out card [] (λ D. encode_tests D L (length stripe)) ok).1).1 in
      eqb-true (length stripe) (disks C * L) (not-false fits (passed (not fits) 6 [] [] (accepted []) t).0)

  encoded-right : RightEncoding card L stripe
  unfolding disks
  encoded-right = record {
    parity = λ j t h l. ap (λ (s : List ℕ). byte_of L s t (C.k + j)) written ∙ encoded-byte C L stripe t (C.k + j) l (omega arith)
        ∙ holds-parity C (byte_of L stripe t) j;
    data_strips = λ i t h l. ap (λ (s : List ℕ). byte_of L s t i) written ∙ encoded-byte C L stripe t i l (omega arith)
        ∙ holds_data C (byte_of L stripe t) i (omega arith);
    long = ap length written ∙ length-encoded C L stripe ∙ sym sized;
  }

pub demand2 : Demand2
demand2 = record {
  encoder = encoded-right;
  cards_back = card_reads_back;
  records_back = records_read-back;
  cards_only = card_writes_back;
  records_only = records_write-back;
}
