-- Demand 1: a refused call changes no lent byte. One statement, with the definitions that the public contracts cite: what they say a buffer
-- is at exit is what it was at entry, for each call that is lent one.
-- The rest of the demand is in every function's own proof: nothing makes it run on, reach outside its buffers or compute a wrapped number.
-- Each refusal's number is in the report that its contract cites.
-- The proof is `demand1` of proofs/Demand1.antt.
-- Assumes nothing.
use Rattle.std.specs.Prelude.{◌≡◌, ◌≢◌, List, [], ◌∷◌, ℕ, suc, length}
use Rattle.flat.specs.declared.Edition.{Edition}
use Rattle.flat.specs.Cards.{Code, Card}
use Rattle.flat.specs.Faults.{Report, unless_refused, card_report, card_columns, card_wears, card_write_report, card_write_buffer, encode_report, encode_stripe, erasures_report, erasures_vector, erasures_slice, equations_report, equations_slice, rebuild_report, rebuild_stripe}
use Rattle.record_format.specs.Records.{offset_in, body_length_in}
use Rattle.record_format.specs.Faults.{record_write_report, record_write_output, record_report, record_columns, body_report}
use Rattle.peeling.specs.Faults.{tray_report, tray_lefts, tray_bytes}
use Rattle.updating.specs.Faults.{update_report, update_stripe}
use Rattle.partial_rebuilding.specs.Faults.{partial_report, partial_stripe}
use Rattle.turning.specs.Faults.{turn_report, turn_buffer, turn_back_buffer, turned_report, turned_stripe}
use Rattle.editions.specs.Converting.{up_report, up_buffer, down_report, down_buffer}
use Rattle.stepped_codes.specs.Faults.{stepped_report, stepped_buffer}

-- the call is refused
abbrev pub Refused : Report → Type 0
Refused r = r.number ≢ 0

pub record Demand1 : Type 0 where
  pub card_writer : (e : Edition) (C : Code) (wears buffer : List ℕ) → Refused (card_write_report e C wears (length buffer))
      → card_write_buffer e C wears buffer ≡ buffer
  pub up : (card buffer : List ℕ) → Refused (up_report card (length buffer)) → up_buffer card buffer ≡ buffer
  pub down : (card buffer : List ℕ) → Refused (down_report card (length buffer)) → down_buffer card buffer ≡ buffer
  pub encoder : (card : Card) (L : ℕ) (stripe : List ℕ) → Refused (encode_report card L (length stripe)) → encode_stripe card L stripe ≡ stripe
  pub lister : (card : Card) (slice : List ℕ) → Refused (erasures_report card (length slice)) → erasures_slice card slice ≡ slice
  pub equations : (card : Card) (d : ℕ) (slice : List ℕ) → Refused (equations_report card d (length slice)) → equations_slice card d slice ≡ slice
  pub rebuilder : (card : Card) (L S : ℕ) (stripe : List ℕ) → Refused (rebuild_report card L S stripe) → rebuild_stripe card L S stripe ≡ stripe
  pub record_writer : (card : List ℕ) (L S : ℕ) (stripe output : List ℕ) → Refused (record_write_report card L S (length stripe) (length output))
      → record_write_output card L S stripe output ≡ output
  pub quick_repair : (card : Card) (L budget : ℕ) (Ss tray : List ℕ) → Refused (tray_report card L budget Ss tray)
      → tray_bytes card L budget Ss tray ≡ tray
  pub update : (card : Card) (L : ℕ) (stripe : List ℕ) (d : ℕ) (new : List ℕ) → Refused (update_report card L (length stripe) d (length new))
      → update_stripe card L stripe d new ≡ stripe
  pub partial_rebuild : (card : Card) (L S : ℕ) (stripe : List ℕ) → Refused (partial_report card L S stripe) → partial_stripe card L S stripe ≡ stripe
  pub turn : (card : Card) (L r : ℕ) (stripe buffer : List ℕ) → Refused (turn_report card L (length stripe) (length buffer))
      → turn_buffer card L r stripe buffer ≡ buffer
  pub turn_back : (card : Card) (L r : ℕ) (stripe buffer : List ℕ) → Refused (turn_report card L (length stripe) (length buffer))
      → turn_back_buffer card L r stripe buffer ≡ buffer
  pub turned_rebuild : (card : Card) (L r S : ℕ) (stripe : List ℕ) → Refused (turned_report card L r S stripe) → turned_stripe card L r S stripe ≡ stripe
  pub stepped_card : (d m k : ℕ) (buffer : List ℕ) → Refused (stepped_report d m k (length buffer)) → stepped_buffer d m k buffer ≡ buffer
  -- the arrays that a caller in C lends, as the exported calls leave them: the card reader's, the lister's, the record reader's, the body
  -- call's and quick repair's
  pub card_counts : (card : Card) (counts : List ℕ) → Refused (card_report card) → unless_refused (card_report card) (card_report card).values counts ≡ counts
  pub card_columns_lem : (card : Card) (columns : List ℕ) → Refused (card_report card) → unless_refused (card_report card) (card_columns card) columns ≡ columns
  pub card_wears_lem : (card : Card) (wears : List ℕ) → Refused (card_report card) → unless_refused (card_report card) (card_wears card) wears ≡ wears
  pub vector : (card : Card) (n : ℕ) (vector : List ℕ) → Refused (erasures_report card n) → unless_refused (erasures_report card n) (erasures_vector card n) vector ≡ vector
  pub record_fields : (file fields : List ℕ) → Refused (record_report file) → unless_refused (record_report file) (record_report file).values fields ≡ fields
  pub record_columns_lem : (file columns : List ℕ) → Refused (record_report file) → unless_refused (record_report file) (record_columns file) columns ≡ columns
  pub body_place : (file : List ℕ) (d : ℕ) (place : List ℕ) → Refused (body_report file d)
      → unless_refused (body_report file d) (offset_in file (suc d) ∷ body_length_in file (suc d) ∷ []) place ≡ place
  pub lefts : (card : Card) (L budget : ℕ) (Ss tray left : List ℕ) → Refused (tray_report card L budget Ss tray)
      → unless_refused (tray_report card L budget Ss tray) (tray_lefts card L budget Ss tray) left ≡ left
