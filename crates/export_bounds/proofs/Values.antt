-- The reports of the calls on cards, sets and stripes fit into one number: each test refuses by a small number, and what is named last is a
-- column's number, a set of disks, a yes or no, the count of a list or that of lost disks.
-- Assumes nothing.
use mathlib.Core.Path.{◌≡◌, refl}
use mathlib.Core.Bool.{Bool, true, false, not, ◌&&◌}
use mathlib.Core.List.{List, [], ◌∷◌}
use Prim.Native.Nat.{ℕ, ◌+◌, ◌-◌, ◌*◌, ◌^◌, ◌≤◌, ◌<◌}
use native.Mathlib.Omega.{arith}
use borrow.Author.Tests.{ltb-true, eqb-true}
use lib.Dec.{ltb, eqb}
use lib.ListN.{length}
use lib.Pow.{pow_mono}
use Rattle.std.specs.Prelude.{if◌then◌else◌}
use Rattle.gf2.specs.Sets.{size}
use Rattle.gf2.proofs.Subsets.{⊆_le}
use Rattle.gf2.proofs.Sizes.{size_lt}
use Rattle.flat.specs.declared.Edition.{Edition}
use Rattle.flat.specs.Lists.{member}
use Rattle.flat.specs.Cards.{Code, Card, disks, set_ok, count_ok, first_bad, edition_length, wear_count, start, first_byte_ok, code_of, wears_of}
use Rattle.flat.specs.Strips.{length_ok}
use Rattle.flat.specs.Erasures.{fatal, undetermined_set, erasures}
use Rattle.flat.specs.Equations.{equations}
use Rattle.flat.specs.Rebuilding.{agreeing}
use Rattle.flat.specs.Alike.{alike}
use Rattle.flat.specs.Faults.{Report, accepted, refused, yes_no, unless_refused, code_report, card_report, with_card, card_write_report, alike_report, encode_report, verdict_report, list_report, erasures_report, equations_report, survivors_report, rebuild_report, encode_tests, verdict_tests, equations_tests, stripe_tests, disks_report, rebuild_tests}
use Rattle.flat.proofs.Cards.{count_in}
use Rattle.flat.proofs.Editions.{accepted-card, card-accepted}
use Rattle.flat.proofs.Undetermined.{undetermined-lost}
use Rattle.export_bounds.specs.Coded.{Fits}
use Rattle.export_bounds.proofs.ListLengths.{erasures-few, equations-few}

-- ---- reports by their tests

pub plain : (n : ℕ) → n < 256 → Fits (refused n [])
plain n h = record { number_fits = h; value_fits = omega arith }

pub named : (n v : ℕ) (vs : List ℕ) → n < 256 → v < 4294967296 → Fits (refused n (v ∷ vs))
named n v vs h l = record { number_fits = h; value_fits = omega arith }

pub pick : (t : Bool) (r s : Report) → (t ≡ true → Fits r) → (t ≡ false → Fits s) → Fits (if t then r else s)
pick true r s f g = f refl
pick false r s f g = g refl

-- a test that refuses by its number alone
pub test : (t : Bool) (n : ℕ) (rest : Report) → n < 256 → (t ≡ true → Fits rest) → Fits (if not t then refused n [] else rest)
test true n rest h f = f refl
test false n rest h f = plain n h

-- ---- cards

code_fits : (C : Code) (sized : Bool) (next : Report) → (count_ok C.k ≡ true → Fits next) → Fits (code_report C sized next)
unfolding code_report
code_fits C sized next h =
    test (count_ok C.k) 2 _ (omega arith)
    (λ ek. test (count_ok C.m) 3 _ (omega arith)
    (λ em. test sized 4 _ (omega arith)
    (λ _. let bad = first_bad C.k C.columns in
    pick (ltb bad C.m) _ _ (λ e. named 5 bad [] (omega arith) (omega (arith, ltb-true bad C.m e, count_in C.m em))) (λ _. h ek))))

pub card_fits : (card : Card) → Fits (card_report card)
unfolding card_report
card_fits card =
    let C = code_of card in
    let n = length card.bytes in
    pick (ltb n (start card.edition + 2)) _ _ (λ _. plain 1 (omega arith))
    (λ _. test (first_byte_ok card.edition card.bytes) 22 _ (omega arith)
    (λ _. code_fits C (eqb n (edition_length card.edition C)) _
    (λ e. pick (member 0 (wears_of card)) _ _ (λ _. plain 23 (omega arith))
    (λ _. named 0 C.k (C.m ∷ []) (omega arith) (omega (arith, count_in C.k e))))))

pub card-write_fits : (e : Edition) (C : Code) (wears : List ℕ) (n : ℕ) → Fits (card_write_report e C wears n)
unfolding card_write_report
card-write_fits e C wears n =
    code_fits C (eqb (length C.columns) C.m && eqb (length wears) (wear_count e (disks C))) _
    (λ _. pick (member 0 wears) _ _ (λ _. plain 23 (omega arith))
    (λ _. test (eqb n (edition_length e C)) 7 _ (omega arith) (λ _. plain 0 (omega arith))))

-- a call with a card: an accepted card has at most 16 data disks and 16 parity disks
pub with_fits : (card : Card) (answer : Code → Report)
    → (((code_of card).k ≤ 16) × ((code_of card).m ≤ 16) → Fits (answer (code_of card))) → Fits (with_card card answer)
unfolding with_card unless_refused
with_fits card answer h = pick (eqb (card_report card).number 0) _ _ (λ e. h (few (eqb-true (card_report card).number 0 e))) (λ _. card_fits card)
  where
    few : (card_report card).number ≡ 0 → ((code_of card).k ≤ 16) × ((code_of card).m ≤ 16)
    few e =
        let s = (accepted-card card (code_of card).k (code_of card).m (card-accepted card e)).sound in
        ((count_in (code_of card).k s.k_ok).1, (count_in (code_of card).m s.m_ok).1)

-- ---- the encoder

pub encode_fits : (card : Card) (L n : ℕ) → Fits (encode_report card L n)
unfolding encode_report encode_tests
encode_fits card L n =
    with_fits card (λ C. encode_tests C L n)
    (λ _. test (length_ok L) 6 _ (omega arith) (λ _. test (eqb n (disks (code_of card) * L)) 7 _ (omega arith) (λ _. plain 0 (omega arith))))

-- ---- sets of the code's disks, and answers of yes or no

-- the undetermined disks are lost ones: a set of at most 32 disks
pub undetermined_fits : (C : Code) (S : ℕ) → (C.k ≤ 16) × (C.m ≤ 16) → set_ok C S ≡ true → Fits (accepted (undetermined_set C S ∷ []))
unfolding set_ok disks
undetermined_fits C S h e =
    named 0 (undetermined_set C S) [] (omega arith)
    (omega (arith, ⊆_le (undetermined_set C S) S (undetermined-lost C S), ltb-true S (2 ^ disks C) e, pow_mono {i = disks C} {j = 32} (omega (arith, h))))

pub verdict_fits : (card : Card) (S : ℕ) → Fits (verdict_report card S)
unfolding verdict_report verdict_tests
verdict_fits card S =
    with_fits card (λ C. verdict_tests C S) (λ h. test (set_ok (code_of card) S) 8 _ (omega arith) (undetermined_fits (code_of card) S h))

yes-no : (b : Bool) → Fits (accepted (yes_no b ∷ []))
unfolding yes_no
yes-no true = named 0 1 [] (omega arith) (omega arith)
yes-no false = named 0 0 [] (omega arith) (omega arith)

pub alike_fits : (first second : Card) → Fits (alike_report first second)
unfolding alike_report
alike_fits first second =
    with_fits first (λ A. with_card second (λ B. accepted (yes_no (alike A B) ∷ [])))
    (λ _. with_fits second (λ B. accepted (yes_no (alike (code_of first) B) ∷ [])) (λ _. yes-no (alike (code_of first) (code_of second))))

-- ---- the calls that fill a slice: a list of fewer than 2 ^ 16 entries

list_fits : (list : List ℕ) (n c : ℕ) → c ≤ 16 → length list ≤ 2 ^ c - 1 → Fits (list_report list n)
unfolding list_report
list_fits list n c h l =
    let s : length list < 4294967296 = omega (arith, pow_mono {i = c} {j = 16} h) in
    pick (ltb n (length list)) _ _ (λ _. named 10 (length list) [] (omega arith) s) (λ _. named 0 (length list) [] (omega arith) s)

pub erasures_fits : (card : Card) (n : ℕ) → Fits (erasures_report card n)
unfolding erasures_report
erasures_fits card n =
    let C = code_of card in
    with_fits card (λ C. list_report (erasures C) n) (λ h. list_fits (erasures C) n C.k h.0 (erasures-few C))

pub equations_fits : (card : Card) (d n : ℕ) → Fits (equations_report card d n)
unfolding equations_report equations_tests
equations_fits card d n =
    let C = code_of card in
    with_fits card (λ C. equations_tests C d n)
    (λ h. test (ltb d (disks C)) 9 _ (omega arith)
    (λ e. list_fits (equations C d) n C.m h.1 (equations-few C d (ltb-true d (disks C) e))))

-- ---- the rebuilder: how many of at most 32 disks were lost

survivors_fits : (S : ℕ) (contents : List (List ℕ)) → size S < 4294967296 → Fits (survivors_report S contents)
unfolding survivors_report
survivors_fits S [] h = plain 12 (omega arith)
survivors_fits S (c ∷ cs) h = named 0 (size S) [] (omega arith) h

-- the faults of the disks of a code
pub disks_fits : (C : Code) (L S : ℕ) (stripe : List ℕ) → (C.k ≤ 16) × (C.m ≤ 16) → S < 2 ^ disks C → Fits (disks_report C L S stripe)
unfolding disks_report disks
disks_fits C L S stripe h l =
    pick (fatal C S) _ _ (λ _. plain 11 (omega arith)) (λ _. survivors_fits S (agreeing C L S stripe) (omega (arith, h, size_lt (disks C) S l)))

pub rebuild_fits : (card : Card) (L S : ℕ) (stripe : List ℕ) → Fits (rebuild_report card L S stripe)
unfolding rebuild_report rebuild_tests stripe_tests set_ok
rebuild_fits card L S stripe =
    let C = code_of card in
    with_fits card (λ C. rebuild_tests C L S stripe)
    (λ h. test (length_ok L) 6 _ (omega arith)
    (λ _. test (set_ok C S) 8 _ (omega arith)
    (λ e. test (eqb (length stripe) (disks C * L)) 7 _ (omega arith)
    (λ _. disks_fits C L S stripe h (ltb-true S (2 ^ disks C) e)))))
