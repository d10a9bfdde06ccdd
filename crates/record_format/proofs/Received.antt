-- What is known of a record that the reader accepts, and what a call that takes a record answers.
-- Assumes nothing.
use mathlib.Core.Path.{◌≡◌, sym, ap, ap₂, ◌∙◌, subst}
use mathlib.Core.Bool.{Bool, true, false, not}
use mathlib.Core.List.{List, [], ◌∷◌}
use Prim.Native.Nat.{ℕ, suc, ◌+◌, ◌^◌, ◌≤◌, ◌<◌}
use native.Mathlib.Omega.{arith}
use borrow.Author.Tests.{eqb-true, not-false}
use lib.Dec.{T, eqb}
use lib.ListN.{length, get_or, take, drop, length-drop}
use lib.Seq.{length-take-le}
use Rattle.std.specs.Prelude.{if◌then◌else◌}
use Rattle.gf2.specs.Sets.{has}
use Rattle.gf2.proofs.Tests.{if_false}
use Rattle.flat.specs.Lists.{field}
use Rattle.flat.specs.Cards.{Code, Card, disks, card_length, code_of, edition_one}
use Rattle.flat.specs.Strips.{length_ok}
use Rattle.flat.specs.Faults.{Report, accepted, refused, unless_refused, card_report, with_card}
use Rattle.flat.proofs.Reports.{passed, with_accepted, with_out}
use Rattle.flat.proofs.Cards.{count_in}
use Rattle.flat.proofs.Editions.{accepted-card, card-accepted, one_size}
use Rattle.flat.proofs.Quantifiers.{set_lt}
use Rattle.flat.proofs.Lengths.{length_in_lem}
use Rattle.record_format.specs.Records.{mark, entry_count, bodies_at, strips_at, body_at, record_length, entry, strip_entry, length_in, entry_count_in, entry_in, offset_in, body_length_in, body_in, mark_ok, entries_ok, card_entry_ok, lost_in, strip_entries_ok}
use Rattle.record_format.specs.Faults.{strips_report, with_record, read_report, record_report}
use Rattle.record_format.proofs.Entries.{entry_offset, entry_length}
use Rattle.record_format.proofs.Places.{body_place, body-inside}
use Rattle.record_format.proofs.Tests.{mark_out, card-entry_out, strips_out}

-- ---- the tests that a record passes

-- the card's code, and where its first strip's body goes
abbrev pub C : List ℕ → Code
C file = code_of (edition_one (body_in file 0))

abbrev pub start : Code → ℕ
start D = strips_at (disks D) (card_length D.m)

pub record Passed (file : List ℕ) : Type 0 where
  pub mark_ok_lem : mark_ok file ≡ true
  pub length_ok_lem : length_ok (length_in file) ≡ true
  pub entries_ok_lem : entries_ok file ≡ true
  pub card_entry_ok_lem : card_entry_ok file ≡ true
  pub card_ok : (card_report (edition_one (body_in file 0))).number ≡ 0
  pub count_ok_lem : eqb (entry_count_in file) (entry_count (disks (C file))) ≡ true
  pub strips_ok : strip_entries_ok (disks (C file)) (start (C file)) (length_in file) (lost_in (disks (C file)) file) file ≡ true
  pub size_ok : eqb (length file) (record_length (C file) (length_in file) (lost_in (disks (C file)) file)) ≡ true

-- the tests that come after the card's
abbrev after_card : List ℕ → (Code → Report) → Code → Report
after_card file answer D = if not (eqb (entry_count_in file) (entry_count (disks D))) then refused 14 [] else strips_report D file (answer D)

-- a call is accepted only where the record passes them
pub passed-all : (file ws : List ℕ) (answer : Code → Report) → with_record file answer ≡ accepted ws → Passed file × (answer (C file) ≡ accepted ws)
unfolding with_record strips_report
passed-all file ws answer e =
    let a = passed (not (mark_ok file)) 12 [] ws _ e in
    let b = passed (not (length_ok (length_in file))) 5 [] ws _ a.1 in
    let c = passed (not (entries_ok file)) 13 [] ws _ b.1 in
    let d = passed (not (card_entry_ok file)) 13 [] ws _ c.1 in
    let w = with_out (edition_one (body_in file 0)) ws (after_card file answer) d.1 in
    let f = passed (not (eqb (entry_count_in file) (entry_count (disks (C file))))) 13 [] ws _ w.1 in
    let g = passed (not (strip_entries_ok (disks (C file)) (start (C file)) (length_in file) (lost_in (disks (C file)) file) file)) 13 [] ws _ f.1 in
    let h = passed (not (eqb (length file) (record_length (C file) (length_in file) (lost_in (disks (C file)) file)))) 14 [] ws _ g.1 in (
      record {
        mark_ok_lem = not-false _ a.0;
        length_ok_lem = not-false _ b.0;
        entries_ok_lem = not-false _ c.0;
        card_entry_ok_lem = not-false _ d.0;
        card_ok = w.0;
        count_ok_lem = not-false _ f.0;
        strips_ok = not-false _ g.0;
        size_ok = not-false _ h.0;
      },
      h.1,
    )

-- and where it does, the call answers for the card's code
pub with_passed : (file : List ℕ) (answer : Code → Report) → Passed file → with_record file answer ≡ answer (C file)
unfolding with_record strips_report
with_passed file answer p =
    simp (p.mark_ok_lem, p.length_ok_lem, p.entries_ok_lem, p.card_entry_ok_lem)
    (with_accepted (edition_one (body_in file 0)) ((C file).k ∷ (C file).m ∷ []) (after_card file answer) (card-accepted (edition_one (body_in file 0)) p.card_ok)
    ∙ simp (p.count_ok_lem, p.strips_ok, p.size_ok))

pub with_received : (file : List ℕ) (k m L S : ℕ) → record_report file ≡ accepted (k ∷ m ∷ L ∷ S ∷ []) → (answer : Code → Report)
    → with_record file answer ≡ answer (C file)
unfolding record_report
with_received file k m L S e answer = with_passed file answer (passed-all file (k ∷ m ∷ L ∷ S ∷ []) (read_report file) e).0

-- a record whose report has the number 0 is accepted with what stands in it
pub read-accepted : (file : List ℕ) → (record_report file).number ≡ 0 → record_report file ≡ read_report file (C file)
unfolding record_report
read-accepted file e =
    let vs = (record_report file).values in
    let is : record_report file ≡ accepted vs = ap (λ (n : ℕ). record { number = n; values = vs }) e in
    is ∙ sym (passed-all file vs (read_report file) is).1

-- ---- what the reader refuses, each call that takes a record refuses

carried : (b : Bool) (r rest other new : Report) → (rest ≡ new → other ≡ new) → (if b then r else rest) ≡ new → (if b then r else other) ≡ new
carried true r rest other new f e = e
carried false r rest other new f e = f e

carried-card : (card : Card) (f g : Code → Report) (new : Report) → (f (code_of card) ≡ new → g (code_of card) ≡ new) → with_card card f ≡ new
    → with_card card g ≡ new
unfolding with_card unless_refused
carried-card card f g new h e = go (eqb (card_report card).number 0) e
  where
    go : (b : Bool) → (if b then f (code_of card) else card_report card) ≡ new → (if b then g (code_of card) else card_report card) ≡ new
    go true e = h e
    go false e = e

carried_record : (file : List ℕ) (f g : Code → Report) (new : Report) → (f (C file) ≡ new → g (C file) ≡ new)
    → with_record file f ≡ new → with_record file g ≡ new
unfolding with_record strips_report
carried_record file f g new h =
    carried (not (mark_ok file)) _ _ _ new (carried (not (length_ok (length_in file))) _ _ _ new
    (carried (not (entries_ok file)) _ _ _ new (carried (not (card_entry_ok file)) _ _ _ new
    (carried-card (edition_one (body_in file 0)) (after_card file f) (after_card file g) new
    (carried (not (eqb (entry_count_in file) (entry_count (disks (C file))))) _ _ _ new
    (carried (not (strip_entries_ok (disks (C file)) (start (C file)) (length_in file) (lost_in (disks (C file)) file) file)) _ _ _ new
    (carried (not (eqb (length file) (record_length (C file) (length_in file) (lost_in (disks (C file)) file)))) _ _ _ new h)))))))

pub with_refused_record : (file : List ℕ) (n : ℕ) (vs : List ℕ) (answer : Code → Report) → record_report file ≡ refused (suc n) vs
    → with_record file answer ≡ refused (suc n) vs
unfolding record_report read_report
with_refused_record file n vs answer e =
    carried_record file (read_report file) answer (refused (suc n) vs) (λ q. absurd (let z : 0 ≡ suc n = ap (λ (r : Report). r.number) q in omega arith)) e

-- ---- what is known of an accepted record

pub record Received (file : List ℕ) (k m L S : ℕ) : Type 0 where
  pub long : 10 ≤ length file
  pub mark_is : take 4 file ≡ mark
  pub length_ok_lem : length_ok L ≡ true
  pub strip_length : length_in file ≡ L
  pub many : entry_count_in file ≡ entry_count (k + m)
  -- the card's entry, its body and its code
  pub card_kind : get_or (entry_in file 0) 0 0 ≡ 0
  pub card_disk : get_or (entry_in file 0) 1 0 ≡ 0
  pub card_at : offset_in file 0 ≡ bodies_at (entry_count (k + m))
  pub card_length_lem : body_length_in file 0 ≡ card_length m
  pub card_ok : card_report (edition_one (body_in file 0)) ≡ accepted (k ∷ m ∷ [])
  pub card_size : length (body_in file 0) ≡ card_length m
  pub is_k : (code_of (edition_one (body_in file 0))).k ≡ k
  pub is_m : (code_of (edition_one (body_in file 0))).m ≡ m
  pub k_in : (1 ≤ k) × (k ≤ 16)
  pub m_in : (1 ≤ m) × (m ≤ 16)
  -- the lost set, the strips' entries and the whole
  pub lost : lost_in (k + m) file ≡ S
  pub lost_lt : S < 2 ^ (k + m)
  pub entries : (i : ℕ) → i < k + m → entry_in file (suc i) ≡ strip_entry (strips_at (k + m) (card_length m)) L S i
  pub size : length file ≡ body_at (strips_at (k + m) (card_length m)) L S (k + m)

-- a lost set is one of the code's sets
lost-below : (n : ℕ) (file : List ℕ) → lost_in n file < 2 ^ n
unfolding lost_in
lost-below n file = set_lt n _

pub received : (file : List ℕ) (k m L S : ℕ) → record_report file ≡ accepted (k ∷ m ∷ L ∷ S ∷ []) → Received file k m L S
unfolding record_report read_report record_length body_in disks
received file k m L S e =
    let card = body_in file 0 in
    let D = code_of (edition_one card) in
    let both = passed-all file (k ∷ m ∷ L ∷ S ∷ []) (read_report file) e in
    let p = both.0 in
    let ek : D.k ≡ k = ap (λ (r : Report). get_or r.values 0 0) both.1 in
    let em : D.m ≡ m = ap (λ (r : Report). get_or r.values 1 0) both.1 in
    let eL : length_in file ≡ L = ap (λ (r : Report). get_or r.values 2 0) both.1 in
    let n : D.k + D.m ≡ k + m = ap₂ ◌+◌ ek em in
    let eS : lost_in (k + m) file ≡ S = ap (λ (x : ℕ). lost_in x file) (sym n) ∙ ap (λ (r : Report). get_or r.values 3 0) both.1 in
    let lost : lost_in (D.k + D.m) file ≡ S = ap (λ (x : ℕ). lost_in x file) n ∙ eS in
    let at : strips_at (D.k + D.m) (card_length D.m) ≡ strips_at (k + m) (card_length m) = ap₂ (λ (x y : ℕ). strips_at x (card_length y)) n em in
    let marked = mark_out file p.mark_ok_lem in
    let named = card-entry_out file p.card_entry_ok_lem in
    let many : entry_count_in file ≡ entry_count (k + m) = eqb-true (entry_count_in file) _ p.count_ok_lem ∙ ap entry_count n in
    let ok : card_report (edition_one card) ≡ accepted (k ∷ m ∷ []) = card-accepted (edition_one card) p.card_ok ∙ ap₂ (λ (x y : ℕ). accepted (x ∷ y ∷ [])) ek em in
    let a = accepted-card (edition_one card) k m ok in
    let fits : body_length_in file 0 ≤ length (drop (offset_in file 0) file) = omega (arith, length-drop (offset_in file 0) file, named.3) in
    record {
      long = marked.0;
      mark_is = marked.1;
      length_ok_lem = ap length_ok (sym eL) ∙ p.length_ok_lem;
      strip_length = eL;
      many = many;
      card_kind = named.0;
      card_disk = named.1;
      card_at = named.2 ∙ ap bodies_at many;
      card_length_lem = sym (length-take-le (body_length_in file 0) (drop (offset_in file 0) file) fits) ∙ one_size card k m a;
      card_ok = ok;
      card_size = one_size card k m a;
      is_k = ek;
      is_m = em;
      k_in = count_in k a.sound.k_ok;
      m_in = count_in m a.sound.m_ok;
      lost = eS;
      lost_lt = subst (λ (x : ℕ). x < 2 ^ (k + m)) eS (lost-below (k + m) file);
      entries =
          λ i l. strips_out file (D.k + D.m) _ (length_in file) (lost_in (D.k + D.m) file) p.strips_ok i (omega arith)
          ∙ ap (λ (x : ℕ). strip_entry x (length_in file) (lost_in (D.k + D.m) file) i) at ∙ ap₂ (λ (x y : ℕ). strip_entry (strips_at (k + m) (card_length m)) x y i) eL lost;
      size =
          eqb-true (length file) _ p.size_ok ∙ ap₂ (λ (x y : ℕ). body_at (start D) x y (D.k + D.m)) eL lost
          ∙ ap₂ (λ (x y : ℕ). body_at x L S y) at n;
    }

-- where the body of a disk that is not lost stands: its entry names the place and the length, and it isn't past the end
pub body-there : (file : List ℕ) (k m L S : ℕ) → Received file k m L S → (d : ℕ) → d < k + m → (T (has S d) → ⊥)
    → (offset_in file (suc d) ≡ body_at (strips_at (k + m) (card_length m)) L S d) × (body_length_in file (suc d) ≡ L)
    × (body_at (strips_at (k + m) (card_length m)) L S d + L ≤ length file)
unfolding offset_in body_length_in strip_entry strips_at bodies_at entry_count card_length
body-there file k m L S r d l f =
    let at = strips_at (k + m) (card_length m) in
    let hL = (length_in_lem L r.length_ok_lem).1 in
    let is : entry_in file (suc d) ≡ entry 1 d (body_at at L S d) L = r.entries d l ∙ if_false (has S d) _ _ f in
    let place : body_at at L S d < 256 ^ 4 = body_place at L S d (omega (arith, r.k_in, r.m_in)) hL (omega (arith, r.k_in, r.m_in)) in (
      ap (field 2 4) is ∙ entry_offset 1 d (body_at at L S d) L place,
      ap (field 6 4) is ∙ entry_length 1 d (body_at at L S d) L (omega arith),
      omega (arith, body-inside at L S (k + m) d l f, r.size),
    )
