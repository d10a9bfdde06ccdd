-- `turner::turn_to` meets its contract: the tests stand in the documents' order, and what is refused is left as it was.
-- Assumes nothing.
use mathlib.Core.Path.{◌≡◌, refl, sym, ◌∙◌}
use mathlib.Core.Bool.{true}
use Prim.Native.Nat.{◌*◌, ◌≤◌}
use native.Mathlib.Nat.{mul-le-mul_right}
use native.Mathlib.Omega.{arith}
use Rattle.flat.specs.Strips.{length_ok}
use Rattle.flat.specs.Faults.{unless_refused}
use Rattle.flat.proofs.Lengths.{length_in_lem, stripe-small}
use Rattle.turner.proofs.Answered.{length-report, stripe-report, buffer_report, done-report}
use Rattle.turner.proofs.turn_to.Goals as goal

pub returns-then-not-length_ok : goal.returns-then-not-length_ok
unfolding unless_refused
returns-then-not-length_ok c = record { answer = λ C is. length-report _ _ _ _ C is (sym c.length_ok.ensures ∙ c.if-not-length_ok.true); out = refl }

pub overflow_mul-n : goal.overflow_mul-n
overflow_mul-n c =
    let good_length : length_ok c.args.l ≡ true =
    sym c.length_ok.ensures ∙ c.if-not-length_ok.false in
    let small : c.args.n * c.args.l ≤ 2097152 =
    stripe-small _ _ c.requires.0 (length_in_lem _ (good_length)).1 in
    record { fits = omega (arith, small) }

pub returns-then-stripe-n : goal.returns-then-stripe-n
unfolding unless_refused
returns-then-stripe-n c =
    let good_length : length_ok c.args.l ≡ true =
    sym c.length_ok.ensures ∙ c.if-not-length_ok.false in
    record { answer = λ C is. stripe-report _ _ _ _ C is (good_length) c.if-stripe-n.true; out = refl }

pub overflow_mul-n-2 : goal.overflow_mul-n-2
overflow_mul-n-2 c =
    let good_length : length_ok c.args.l ≡ true =
    sym c.length_ok.ensures ∙ c.if-not-length_ok.false in
    let small : c.args.n * c.args.l ≤ 2097152 =
    stripe-small _ _ c.requires.0 (length_in_lem _ (good_length)).1 in
    record { fits = omega (arith, small) }

pub returns-then-out-n : goal.returns-then-out-n
unfolding unless_refused
returns-then-out-n c =
    let good_length : length_ok c.args.l ≡ true =
    sym c.length_ok.ensures ∙ c.if-not-length_ok.false in
    record { answer = λ C is. buffer_report _ _ _ _ C is (good_length) c.if-out-n.true; out = refl }

pub overflow_mul-first : goal.overflow_mul-first
overflow_mul-first c =
    let good_length : length_ok c.args.l ≡ true =
    sym c.length_ok.ensures ∙ c.if-not-length_ok.false in
    let small : c.args.n * c.args.l ≤ 2097152 =
    stripe-small _ _ c.requires.0 (length_in_lem _ (good_length)).1 in
    let inside : c.args.first * c.args.l ≤ c.args.n * c.args.l =
    mul-le-mul_right _ c.requires.1 in
    record { fits = omega (arith, small, inside) }

pub copy_cut-requires : goal.copy_cut-requires
copy_cut-requires c =
    let inside : c.args.first * c.args.l ≤ c.args.n * c.args.l =
    mul-le-mul_right _ c.requires.1 in
    (omega (arith, inside, c.if-stripe-n.false), omega (arith, c.if-out-n.false, c.if-stripe-n.false))

pub returns : goal.returns
unfolding unless_refused
returns c =
    let good_length : length_ok c.args.l ≡ true =
    sym c.length_ok.ensures ∙ c.if-not-length_ok.false in
    record { answer = λ C is. done-report _ _ _ _ C is (good_length) c.if-stripe-n.false c.if-out-n.false; out = c.copy_cut.ensures }
