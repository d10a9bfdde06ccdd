-- The call's tests as the code makes them, its report at each way out of them, and the buffer after each answer.
-- Assumes nothing.
use mathlib.Core.Path.{◌≡◌, refl, sym, ap, ◌∙◌, subst}
use mathlib.Core.Bool.{Bool, true, false}
use mathlib.Core.List.{List, []}
use Prim.Native.Nat.{ℕ, suc, ◌+◌, ◌*◌, ◌^◌, ◌≤◌, ◌<◌}
use native.Mathlib.Omega.{arith}
use borrow.Author.Tests.{lt-ltb, le-ltb, eq-eqb, ne_eqb}
use lib.Dec.{leb}
use lib.ListN.{length, get_or, take, length-take}
use Rattle.gf2.specs.Sets.{has}
use Rattle.gf2.proofs.Tests.{T_true}
use Rattle.gf2.proofs.Made.{set_cong}
use Rattle.flat.specs.Lists.{set_of, padded, tabulate}
use Rattle.flat.specs.declared.Edition.TheVariants.{First}
use Rattle.flat.specs.Cards.{code, count_ok, card_length, card_bytes}
use Rattle.flat.specs.Faults.{Report, accepted, refused, card_write_buffer}
use Rattle.flat.proofs.Lists.{take-padded, length-tabulate, get_d_tabulate}
use Rattle.flat.proofs.Cards.{count_in}
use Rattle.flat.proofs.Reports.{unless_refused_lem}
use Rattle.stepped_codes.specs.Stepped.{distance_ok, parity_sets, parity_set, stepped_column, stepped, within_bounds}
use Rattle.stepped_codes.specs.Faults.{stepped_report, stepped_buffer}
use Rattle.stepped_sets.specs.Distances.{number_of}
use Rattle.stepped_sets.specs.declared.Distance.{Distance}
use Rattle.stepped_sets.specs.declared.Distance.TheVariants.{Three, Four}
use Rattle.stepped_sets.proofs.Finding.{distance_is}
use Rattle.stepped_card.specs.declared.SteppedFault.{SteppedFault}
use Rattle.stepped_card.specs.declared.SteppedFault.TheVariants as fault
use Rattle.stepped_card.specs.Reports.{fault_report}
use Rattle.stepped_codes.proofs.Bounds.{six-at-most}
use Rattle.stepped_codes.proofs.Calls.{Passed, call_passed, sets-enough, same-written}

-- ---- the bounds, where `all` is 2 ^ m

module _ (d m k all : ℕ) (is : all ≡ 2 ^ m) where
  pub three_low : (b : Bool) → b ≡ false → d ≡ 3 → 2 * (k + m) ≤ all → b ≡ within_bounds d m k
  unfolding within_bounds
  three_low b q e l = rw (q, eq-eqb d 3 e, ← is, le-ltb all (2 * (k + m)) l) refl

  pub three_high : d ≡ 3 → all < 2 * (k + m) → leb (k + m + 1) all ≡ within_bounds d m k
  unfolding within_bounds
  three_high e l = rw (eq-eqb d 3 e, ← is, lt-ltb all (2 * (k + m)) l) refl

  pub four_low : (b : Bool) → b ≡ false → d ≡ 4 → 4 * (k + m) ≤ all + 4 → b ≡ within_bounds d m k
  unfolding within_bounds
  four_low b q e l = rw (q, ne_eqb d 3 (λ f. omega arith), ← is, le-ltb (all + 4) (4 * (k + m)) l) refl

  pub four_high : d ≡ 4 → all + 4 < 4 * (k + m) → leb (2 * (k + m)) all ≡ within_bounds d m k
  unfolding within_bounds
  four_high e l = rw (ne_eqb d 3 (λ f. omega arith), ← is, lt-ltb (all + 4) (4 * (k + m)) l) refl

pub three : (e : Distance) → e ≡ Three → number_of e ≡ 3
three e q = ap number_of q

pub four : (e : Distance) → e ≡ Four → number_of e ≡ 4
four e q = ap number_of q

-- ---- the report

-- what a passed test tells
pub known : {a b t : Bool} → a ≡ b → a ≡ t → b ≡ t
known e q = sym e ∙ q

module _ (d m k n : ℕ) where
  pub report_data : count_ok k ≡ false → refused 2 [] ≡ stepped_report d m k n
  unfolding stepped_report
  report_data e = rw e refl

  module _ (a : count_ok k ≡ true) where
    pub report-parity : count_ok m ≡ false → refused 3 [] ≡ stepped_report d m k n
    unfolding stepped_report
    report-parity e = rw (a, e) refl

    module _ (b : count_ok m ≡ true) where
      pub report_distance : distance_ok d ≡ false → refused 20 [] ≡ stepped_report d m k n
      unfolding stepped_report
      report_distance e = rw (a, b, e) refl

      module _ (distance : Distance) (named : number_of distance ≡ d) where
        good : distance_ok d ≡ true
        good = subst (λ (x : ℕ). distance_ok x ≡ true) named (T_true (distance_is distance))

        within : {w : Bool} → within_bounds (number_of distance) m k ≡ w → within_bounds d m k ≡ w
        within {w} = subst (λ (x : ℕ). within_bounds x m k ≡ w) named

        pub report_bounds : within_bounds (number_of distance) m k ≡ false → refused 21 [] ≡ stepped_report d m k n
        unfolding stepped_report
        report_bounds e = rw (a, b, good, within e) refl

        module _ (w : within_bounds (number_of distance) m k ≡ true) where
          pub report_buffer : (n ≡ 2 + 2 * m → ⊥) → refused 7 [] ≡ stepped_report d m k n
          unfolding stepped_report card_length
          report_buffer f = rw (a, b, good, within w, ne_eqb n (2 + 2 * m) f) refl

          pub report-done : n ≡ 2 + 2 * m → accepted [] ≡ stepped_report d m k n
          unfolding stepped_report card_length
          report-done e = rw (a, b, good, within w, eq-eqb n (2 + 2 * m) e) refl

-- ---- a column

-- the data disks whose set has the disk, out of the array of their sets
pub column-is : (d m k j c : ℕ) (sets : List ℕ) → sets ≡ padded 16 (tabulate k (parity_set d m))
    → c ≡ set_of (length (take k sets)) (λ i. has (get_or (take k sets) i 0) j) → c ≡ stepped_column d m k j
unfolding stepped_column
column-is d m k j c sets e is =
    let f = parity_set d m in
    let own : take k sets ≡ tabulate k f = ap (take k) e ∙ take-padded 16 k (tabulate k f) (length-tabulate k f) in
    is ∙ ap (λ (xs : List ℕ). set_of (length xs) (λ i. has (get_or xs i 0) j)) own
    ∙ ap (λ (n : ℕ). set_of n (λ i. has (get_or (tabulate k f) i 0) j)) (length-tabulate k f)
    ∙ set_cong k (λ i. has (get_or (tabulate k f) i 0) j) (λ i. has (f i) j) (λ i l. ap (λ (S : ℕ). has S j) (get_d_tabulate k f i l))

-- ---- the buffer

refused_kept : (n d m k : ℕ) (out : List ℕ) → refused (suc n) [] ≡ stepped_report d m k (length out) → out ≡ stepped_buffer d m k out
unfolding stepped_buffer
refused_kept n d m k out e = sym (unless_refused_lem (stepped_report d m k (length out)) n [] (card_bytes (stepped d m k)) out (sym e))

-- a refusal leaves it as it is
pub buffer_kept : (f : SteppedFault) (d m k : ℕ) (out : List ℕ) → fault_report f ≡ stepped_report d m k (length out) → out ≡ stepped_buffer d m k out
buffer_kept fault.DataCount = refused_kept 1
buffer_kept fault.ParityCount = refused_kept 2
buffer_kept fault.Distance = refused_kept 19
buffer_kept fault.Bounds = refused_kept 20
buffer_kept fault.Buffer = refused_kept 6

module _ (d m k n : ℕ) (e : accepted [] ≡ stepped_report d m k n) where
  pub none-refused : Passed d m k n
  none-refused = call_passed d m k n (ap (λ (r : Report). r.number) (sym e))

  -- what the columns ask, of the same distance by another name
  pub asked : (x : ℕ) → x ≡ d → (m ≤ 6) × (k ≤ 16) × (k ≤ length (parity_sets x m))
  asked x q =
      let p = none-refused in
      let few = (count_in k p.k_ok).1 in
      (six-at-most d m k p.within few, few, rw q (sets-enough d m k n p))

module _ (d m k : ℕ) (all : List ℕ) (is : all ≡ padded 16 (stepped d m k).columns) where
  many-columns : take m all ≡ (stepped d m k).columns
  unfolding stepped
  many-columns = ap (take m) is ∙ take-padded 16 m (tabulate m (stepped_column d m k)) (length-tabulate m (stepped_column d m k))

  pub length-columns : m ≡ length (take m all)
  unfolding stepped
  length-columns = sym (ap length many-columns ∙ length-tabulate m (stepped_column d m k))

  pub prefix_fits : m ≤ length all
  prefix_fits = omega (arith, length-columns, length-take m all)

  pub buffer_done : (x : ℕ) → d ≡ x → (out : List ℕ) → accepted [] ≡ stepped_report x m k (length out)
      → card_write_buffer First (code k m (take m all)) [] out ≡ stepped_buffer x m k out
  unfolding stepped
  buffer_done x q out e =
      ap (λ (cs : List ℕ). card_write_buffer First (code k m cs) [] out) many-columns ∙ ap (λ (y : ℕ). card_write_buffer First (stepped y m k) [] out) q
      ∙ sym (same-written x m k out (none-refused x m k (length out) e))
