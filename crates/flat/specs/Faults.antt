-- Document 01, "Faults by their source", with the numbers 22 and 23 of document 02, request [10]: what each call answers, and what it leaves in a lent buffer,
-- for every input.
-- The tests of a call stand in the document's order.
-- Assumes nothing.
use Rattle.std.specs.Prelude.{Bool, not, ◌&&◌, List, [], ◌∷◌, ◌++◌, ℕ, ◌+◌, ◌*◌, eqb, ltb, length, drop, if◌then◌else◌}
use Rattle.gf2.specs.Sets.{size}
use Rattle.flat.specs.declared.Edition.{Edition}
use Rattle.flat.specs.Lists.{member, padded}
use Rattle.flat.specs.Cards.{Code, disks, set_ok, count_ok, first_bad, Card, edition_bytes, edition_length, wear_count, start, first_byte_ok, code_of, wears_of}
use Rattle.flat.specs.Strips.{length_ok, encoded}
use Rattle.flat.specs.Erasures.{fatal, undetermined_set, erasures, vector}
use Rattle.flat.specs.Equations.{equations}
use Rattle.flat.specs.Rebuilding.{agreeing, restored}
use Rattle.flat.specs.Alike.{alike}

-- ---- reports

-- an answer as the document has it: the refusal's number, 0 where the call is accepted, and the values that are named for it
pub record Report : Type 0 where
  pub number : ℕ
  pub values : List ℕ

abbrev pub accepted : List ℕ → Report
accepted vs = record { number = 0; values = vs }

abbrev pub refused : ℕ → List ℕ → Report
refused n vs = record { number = n; values = vs }

-- the one where the report accepts, else the other
module _ {A : Type 0} where
  unfoldable pub unless_refused : Report → A → A → A
  unless_refused r new old = if eqb r.number 0 then new else old

-- yes is 1, and no is 0
unfoldable pub yes_no : Bool → ℕ
yes_no b = if b then 1 else 0

-- ---- cards

-- the faults 2 to 5 of a code, where `sized` says that the columns have the length they need; else what follows
unfoldable pub code_report : Code → Bool → Report → Report
unfolding count_ok first_bad
code_report C sized next =
    if not (count_ok C.k) then refused 2 [] else
    if not (count_ok C.m) then refused 3 [] else
    if not sized then refused 4 [] else
    if ltb (first_bad C.k C.columns) C.m then refused 5 (first_bad C.k C.columns ∷ []) else
    next

-- the card reader: k and m, the columns in 16 places, and the wears in 32
unfoldable pub card_report : Card → Report
unfolding code_report code_of edition_length start first_byte_ok wears_of member
card_report card =
    if ltb (length card.bytes) (start card.edition + 2) then refused 1 [] else
    if not (first_byte_ok card.edition card.bytes) then refused 22 [] else
    code_report (code_of card) (eqb (length card.bytes) (edition_length card.edition (code_of card)))
    (if member 0 (wears_of card) then refused 23 [] else accepted ((code_of card).k ∷ (code_of card).m ∷ []))

unfoldable pub card_columns : Card → List ℕ
unfolding padded unless_refused card_report code_of
card_columns card = padded 16 (unless_refused (card_report card) (code_of card).columns [])

unfoldable pub card_wears : Card → List ℕ
unfolding padded unless_refused card_report wears_of
card_wears card = padded 32 (unless_refused (card_report card) (wears_of card) [])

-- what a call answers that takes a card: the card's refusal, else what it answers for the card's code
unfoldable pub with_card : Card → (Code → Report) → Report
unfolding unless_refused card_report code_of
with_card card answer = unless_refused (card_report card) (answer (code_of card)) (card_report card)

-- the card writer, for a list of wears and a buffer of n bytes
unfoldable pub card_write_report : Edition → Code → List ℕ → ℕ → Report
unfolding code_report edition_length wear_count disks member
card_write_report edition C wears n =
    code_report C (eqb (length C.columns) C.m && eqb (length wears) (wear_count edition (disks C)))
    (if member 0 wears then refused 23 [] else
    if not (eqb n (edition_length edition C)) then refused 7 [] else
    accepted [])

unfoldable pub card_write_buffer : Edition → Code → List ℕ → List ℕ → List ℕ
unfolding unless_refused card_write_report edition_bytes
card_write_buffer edition C wears buffer = unless_refused (card_write_report edition C wears (length buffer)) (edition_bytes edition C wears) buffer

-- ---- the encoder, for a stripe of n bytes

unfoldable pub encode_tests : Code → ℕ → ℕ → Report
unfolding length_ok disks
encode_tests C L n =
    if not (length_ok L) then refused 6 [] else
    if not (eqb n (disks C * L)) then refused 7 [] else
    accepted []

unfoldable pub encode_report : Card → ℕ → ℕ → Report
unfolding with_card encode_tests
encode_report card L n = with_card card (λ C. encode_tests C L n)

unfoldable pub encode_stripe : Card → ℕ → List ℕ → List ℕ
unfolding unless_refused encode_report encoded code_of
encode_stripe card L stripe = unless_refused (encode_report card L (length stripe)) (encoded (code_of card) L stripe) stripe

-- ---- the verdict call: the lost disks that the survivors don't determine (document 02, request [5])

unfoldable pub verdict_tests : Code → ℕ → Report
unfolding set_ok undetermined_set
verdict_tests C S = if not (set_ok C S) then refused 8 [] else accepted (undetermined_set C S ∷ [])

unfoldable pub verdict_report : Card → ℕ → Report
unfolding with_card verdict_tests
verdict_report card S = with_card card (λ C. verdict_tests C S)

-- ---- the calls that fill a lent slice of n entries with a list

unfoldable pub list_report : List ℕ → ℕ → Report
list_report list n = if ltb n (length list) then refused 10 (length list ∷ []) else accepted (length list ∷ [])

-- entries past the count keep what they had
unfoldable pub list_slice : List ℕ → List ℕ → List ℕ
list_slice list slice = list ++ drop (length list) slice

-- the lister: the count, and the vector in 17 places
unfoldable pub erasures_report : Card → ℕ → Report
unfolding with_card list_report erasures
erasures_report card n = with_card card (λ C. list_report (erasures C) n)

unfoldable pub erasures_vector : Card → ℕ → List ℕ
unfolding padded unless_refused erasures_report vector code_of
erasures_vector card n = padded 17 (unless_refused (erasures_report card n) (vector (code_of card)) [])

unfoldable pub erasures_slice : Card → List ℕ → List ℕ
unfolding unless_refused erasures_report list_slice erasures code_of
erasures_slice card slice =
    unless_refused (erasures_report card (length slice)) (list_slice (erasures (code_of card)) slice) slice

-- the equation call: the count
unfoldable pub equations_tests : Code → ℕ → ℕ → Report
unfolding disks list_report equations
equations_tests C d n = if not (ltb d (disks C)) then refused 9 [] else list_report (equations C d) n

unfoldable pub equations_report : Card → ℕ → ℕ → Report
unfolding with_card equations_tests
equations_report card d n = with_card card (λ C. equations_tests C d n)

unfoldable pub equations_slice : Card → ℕ → List ℕ → List ℕ
unfolding unless_refused equations_report list_slice equations code_of
equations_slice card d slice =
    unless_refused (equations_report card d (length slice)) (list_slice (equations (code_of card) d) slice) slice

-- ---- the rebuilder

-- the faults 6, 8 and 7 of a strip length, a lost set and a stripe of n bytes; else what follows
unfoldable pub stripe_tests : Code → ℕ → ℕ → ℕ → Report → Report
unfolding length_ok set_ok disks
stripe_tests C L S n next =
    if not (length_ok L) then refused 6 [] else
    if not (set_ok C S) then refused 8 [] else
    if not (eqb n (disks C * L)) then refused 7 [] else
    next

-- no content agrees with the survivors, or the number of lost disks
unfoldable pub survivors_report : ℕ → List (List ℕ) → Report
unfolding size
survivors_report S [] = refused 12 []
survivors_report S (content ∷ others) = accepted (size S ∷ [])

-- the faults of the disks
unfoldable pub disks_report : Code → ℕ → ℕ → List ℕ → Report
unfolding fatal survivors_report agreeing
disks_report C L S stripe = if fatal C S then refused 11 [] else survivors_report S (agreeing C L S stripe)

unfoldable pub rebuild_tests : Code → ℕ → ℕ → List ℕ → Report
unfolding stripe_tests disks_report
rebuild_tests C L S stripe = stripe_tests C L S (length stripe) (disks_report C L S stripe)

unfoldable pub rebuild_report : Card → ℕ → ℕ → List ℕ → Report
unfolding with_card rebuild_tests
rebuild_report card L S stripe = with_card card (λ C. rebuild_tests C L S stripe)

unfoldable pub rebuild_stripe : Card → ℕ → ℕ → List ℕ → List ℕ
unfolding unless_refused rebuild_report restored agreeing code_of
rebuild_stripe card L S stripe =
    unless_refused (rebuild_report card L S stripe) (restored (code_of card) L S stripe (agreeing (code_of card) L S stripe)) stripe

-- ---- two cards alike: the first card's refusals come before the second's

unfoldable pub alike_report : Card → Card → Report
unfolding with_card yes_no alike
alike_report first second = with_card first (λ A. with_card second (λ B. accepted (yes_no (alike A B) ∷ [])))
