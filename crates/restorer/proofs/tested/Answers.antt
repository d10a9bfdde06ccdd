-- `restorer::tested` meets its contract: the tests stand in the documents' order.
-- Assumes nothing.
use mathlib.Core.Path.{sym, ap, ◌∙◌}
use Prim.Native.Nat.{ℕ, ◌*◌, ◌^◌}
use native.Mathlib.Omega.{arith}
use lib.Dec.{ltb}
use Rattle.flat.specs.Cards.{set_ok}
use Rattle.flat.proofs.Lengths.{length_in_lem, stripe-small}
use Rattle.flat.proofs.Tested.{tests_length, tests_set, tests_size, tests_past}
use Rattle.restorer.proofs.tested.Goals as goal

pub returns-then-not-length_ok : goal.returns-then-not-length_ok
returns-then-not-length_ok c = λ C next e. tests_length C _ _ _ next (sym c.length_ok.ensures ∙ c.if-not-length_ok.true)

pub returns-then-not-below : goal.returns-then-not-below
unfolding set_ok
returns-then-not-below c = λ C next e.
    tests_set C _ _ _ next (sym c.length_ok.ensures ∙ c.if-not-length_ok.false)
    (ap (λ (n : ℕ). ltb c.args.lost (2 ^ n)) e ∙ sym c.below.ensures ∙ c.if-not-below.true)

pub overflow_mul-n : goal.overflow_mul-n
overflow_mul-n c =
    let length_good = length_in_lem _ (sym c.length_ok.ensures ∙ c.if-not-length_ok.false) in
    record { fits = omega (arith, stripe-small c.args.n c.args.l c.requires length_good.1) }

pub returns-then-len-n : goal.returns-then-len-n
unfolding set_ok
returns-then-len-n c = λ C next e.
    tests_size C _ _ _ next (sym c.length_ok.ensures ∙ c.if-not-length_ok.false)
    (ap (λ (n : ℕ). ltb c.args.lost (2 ^ n)) e ∙ sym c.below.ensures ∙ c.if-not-below.false)
    (λ q. c.if-len-n.true (q ∙ ap (λ (n : ℕ). n * c.args.l) e))

pub returns : goal.returns
unfolding set_ok
returns c = λ C next e.
    sym (tests_past C _ _ _ next
    (record {
      length_ok_lem = sym c.length_ok.ensures ∙ c.if-not-length_ok.false;
      set_ok_lem = ap (λ (n : ℕ). ltb c.args.lost (2 ^ n)) e ∙ sym c.below.ensures ∙ c.if-not-below.false;
      size = c.if-len-n.false ∙ sym (ap (λ (n : ℕ). n * c.args.l) e);
    }))
