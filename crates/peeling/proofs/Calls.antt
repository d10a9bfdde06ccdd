-- The call's report, and what an accepted call does.
-- Assumes nothing.
use mathlib.Core.Path.{◌≡◌, sym, ap, ◌∙◌, subst}
use mathlib.Core.Bool.{true, not}
use mathlib.Core.List.{List, [], ◌∷◌}
use Prim.Native.Nat.{ℕ, suc, ◌-◌, ◌*◌, ◌≤◌, ◌<◌}
use native.Mathlib.Omega.{arith}
use borrow.Author.Tests.{eqb-true, not-false}
use lib.Dec.{T, eqb, leb}
use lib.ListN.{length, get_or, replicate, length-map, get_or-map, get_or-append}
use Rattle.gf2.proofs.Tests.{true-T, and_out, leb_out}
use Rattle.flat.specs.Lists.{padded}
use Rattle.flat.specs.Cards.{Code, Card, code_of, disks}
use Rattle.flat.specs.Strips.{length_ok}
use Rattle.flat.specs.Faults.{Report, accepted}
use Rattle.flat.proofs.Reports.{passed-number, unless_number, with_number}
use Rattle.flat.proofs.Never.{Not, never_test, never_accepted, never_with}
use Rattle.repair_steps.specs.Steps.{Repairs}
use Rattle.repair_steps.proofs.Stepped.{repair_gives}
use Rattle.peeling.specs.Peeling.{lone, Peeled, rest}
use Rattle.peeling.specs.Trays.{tray_peeled, total, lefts, joined}
use Rattle.peeling.specs.Faults.{tray_ok, sets_ok, tray_tests, tray_report, tray_lefts, tray_bytes}
use Rattle.peeling.specs.Theorems.{stripe_of, result, sizes, NoDisksFault, TrayAccepted}
use Rattle.peeling.proofs.Trays.{tray_length, tray_count, tray_cut, tray_enough, tray_turn, tray_stuck, tray_repairs, tray_long}

-- ---- never 11 or 12

tray_never : (x : ℕ) → 11 ≤ x → x ≤ 12 → (card : Card) (L budget : ℕ) (Ss tray : List ℕ) → Not x (tray_report card L budget Ss tray)
unfolding tray_report tray_tests
tray_never x low high card L budget Ss tray =
    let C = code_of card in
    let h : (5 < x) × (x < 22) = (omega arith, omega arith) in
    never_with x h card (λ C. tray_tests C L budget Ss tray)
    (never_test x h (not (length_ok L)) 6 [] (λ e. omega arith)
    (never_test x h (not (tray_ok (length Ss))) 17 [] (λ e. omega arith)
    (never_test x h (not (sets_ok C Ss)) 8 [] (λ e. omega arith)
    (never_test x h (not (eqb (length tray) (length Ss * (disks C * L)))) 7 [] (λ e. omega arith)
    (never_accepted x h (total (tray_peeled C L budget Ss tray) ∷ []))))))

pub no-disks-fault : NoDisksFault
no-disks-fault card L budget Ss tray = (
  (tray_never 11 (omega arith) (omega arith) card L budget Ss tray).differs,
  (tray_never 12 (omega arith) (omega arith) card L budget Ss tray).differs,
)

-- ---- an accepted tray call

pub stripes_most : (n : ℕ) → tray_ok n ≡ true → n ≤ 8
unfolding tray_ok
stripes_most n e = leb_out n 8 (and_out (leb 1 n) (leb n 8) (true-T {b = tray_ok n} e)).1

tested_out : (C : Code) (L budget : ℕ) (Ss tray : List ℕ) → (tray_tests C L budget Ss tray).number ≡ 0
    → (length tray ≡ length Ss * (disks C * L)) × (tray_tests C L budget Ss tray ≡ accepted (total (tray_peeled C L budget Ss tray) ∷ []))
unfolding tray_tests
tested_out C L budget Ss tray e =
    let n = length tray in
    let steps = total (tray_peeled C L budget Ss tray) in
    let a = passed-number (not (length_ok L)) 5 [] _ e in
    let b = passed-number (not (tray_ok (length Ss))) 16 [] _ a.1 in
    let c = passed-number (not (sets_ok C Ss)) 7 [] _ b.1 in
    let d = passed-number (not (eqb n (length Ss * (disks C * L)))) 6 [] (accepted (steps ∷ [])) c.1 in
    (eqb-true n (length Ss * (disks C * L)) (not-false (eqb n (length Ss * (disks C * L))) d.0), a.2 ∙ b.2 ∙ c.2 ∙ d.2)

module _ (card : Card) (L budget : ℕ) (Ss tray : List ℕ) (ok : (tray_report card L budget Ss tray).number ≡ 0) where
  C : Code
  C = code_of card

  rs : List Peeled
  rs = tray_peeled C L budget Ss tray

  answer : (length tray ≡ length Ss * (disks C * L)) × (tray_report card L budget Ss tray ≡ accepted (total rs ∷ []))
  unfolding tray_report C rs
  answer =
      let f : Code → Report = λ D. tray_tests D L budget Ss tray in
      let w : tray_report card L budget Ss tray ≡ f C = with_number card f ok in
      let t = tested_out C L budget Ss tray (sym (ap (λ (r : Report). r.number) w) ∙ ok) in
      (t.0, w ∙ t.1)

  bytes-is : tray_bytes card L budget Ss tray ≡ joined rs
  unfolding tray_bytes C rs
  bytes-is = unless_number (tray_report card L budget Ss tray) (joined rs) tray ok

  left_is : (i : ℕ) → i < length Ss → get_or (tray_lefts card L budget Ss tray) i 0 ≡ (result rs i).left
  unfolding tray_lefts padded lefts C rs
  left_is i l =
      let k : i < length (lefts rs) =
      subst (λ (n : ℕ). i < n) (sym (length-map rs (λ (r : Peeled). r.left) ∙ tray_length C L budget Ss tray)) l in
      ap (λ (xs : List ℕ). get_or (padded 8 xs) i 0) (unless_number (tray_report card L budget Ss tray) (lefts rs) [] ok)
      ∙ get_or-append (lefts rs) (replicate (8 - length (lefts rs)) 0) 0 i k
      ∙ get_or-map (λ (r : Peeled). r.left) rs i (rest 0 [])

  each_repairs : (i : ℕ) → i < length Ss
      → Repairs C L (get_or Ss i 0) (stripe_of C L i tray) (get_or (tray_lefts card L budget Ss tray) i 0) (stripe_of C L i (tray_bytes card L budget Ss tray))
  unfolding C rs
  each_repairs i l =
      subst (λ (w : ℕ). Repairs C L (get_or Ss i 0) (stripe_of C L i tray) w (stripe_of C L i (tray_bytes card L budget Ss tray))) (sym (left_is i l))
      (subst (λ (new : List ℕ). Repairs C L (get_or Ss i 0) (stripe_of C L i tray) (result rs i).left (stripe_of C L i new)) (sym bytes-is)
      (tray_repairs C L budget Ss tray i l answer.0))

pub tray_accepted : TrayAccepted
unfolding C rs
tray_accepted card L budget Ss tray ok =
    let C = code_of card in
    let rs = tray_peeled C L budget Ss tray in
    let all = tray_peeled C L (sizes Ss) Ss tray in
    let a = answer card L budget Ss tray ok in
    let k = tray_count C L (sizes Ss) Ss tray in
    let c = tray_cut C L budget (sizes Ss) Ss tray (omega arith) in
    record {
      steps = a.1 ∙ ap (λ (n : ℕ). accepted (n ∷ [])) c;
      most = omega arith;
      long = ap length (bytes-is card L budget Ss tray ok) ∙ tray_long C L budget Ss tray a.0;
      turn = λ i l. let t = tray_turn C L budget Ss tray i l a.0 in (
        left_is card L budget Ss tray ok i l ∙ ap (λ (r : Peeled). r.left) t.0,
        ap (stripe_of C L i) (bytes-is card L budget Ss tray ok) ∙ t.1 ∙ ap (λ (r : Peeled). r.stripe) t.0,
      );
      each = each_repairs card L budget Ss tray ok;
      restored = λ i l content a d t b h f. repair_gives C L (get_or Ss i 0) (get_or (tray_lefts card L budget Ss tray) i 0) (stripe_of C L i tray)
          (stripe_of C L i (tray_bytes card L budget Ss tray)) content (each_repairs card L budget Ss tray ok i l) a d t b h f;
      stuck = λ h i d j l b m t.
          let c = suc (sizes Ss) in
          let same = tray_enough C L budget (sizes Ss) Ss tray (omega arith) h in
          let more = tray_enough C L c (sizes Ss) Ss tray (omega arith) (omega arith) in
          let n = tray_count C L c Ss tray in
          tray_stuck C L c Ss tray (omega arith) i l d j b m
          (subst (λ (w : ℕ). T (lone C w d j)) (left_is card L budget Ss tray ok i l ∙ ap (λ (x : List Peeled). (result x i).left) (same ∙ sym more)) t);
    }
