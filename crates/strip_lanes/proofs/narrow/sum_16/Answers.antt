-- `strip_lanes::narrow::sum_16` meets its contract: the strips go in one after the other, each times its bit.
-- Assumes nothing.
use mathlib.Core.Path.{◌≡◌, sym, ap, ◌∙◌}
use Prim.Native.Nat.{ℕ, ◌+◌, ◌*◌, ◌≤◌}
use native.Mathlib.Omega.{arith}
use lib.ListN.{get_or}
use Rattle.strip_blocks.proofs.Runs.{run_there}
use Rattle.flat.proofs.Positions.{strip-within}
use Rattle.strip_products.specs.Products.{parity_byte}
use Rattle.strip_products.proofs.Products.{parity-none, parity-more}
use Rattle.strip_products.proofs.Joined.{joined-again}
use borrow.Author.Rules.{rules}
use Rattle.strip_lanes.proofs.narrow.sum_16.Goals as goal

pub loop-i-init : goal.loop-i-init
loop-i-init c = (search rules, run_there _ _ _ 16 (λ u h. c.requires.zeros.1 u h ∙ sym (parity-none _ _ _ _ _)))

pub overflow_mul-i : goal.overflow_mul-i
overflow_mul-i c =
    let inside : let a = c.args in c.loop-i.i * a.l + a.l ≤ a.k * a.l =
    let a = c.args in strip-within c.loop-i.i a.k a.l (omega arith) in
    omega (arith, inside)

pub overflow_add-i : goal.overflow_add-i
overflow_add-i c =
    let inside : let a = c.args in c.loop-i.i * a.l + a.l ≤ a.k * a.l =
    let a = c.args in strip-within c.loop-i.i a.k a.l (omega arith) in
    omega (arith, inside)

pub add_16-requires : goal.add_16-requires
add_16-requires c =
    let inside : let a = c.args in c.loop-i.i * a.l + a.l ≤ a.k * a.l =
    let a = c.args in strip-within c.loop-i.i a.k a.l (omega arith) in
    (search rules, omega (arith, inside), c.at.ensures.is_bit)

pub loop-i-preserved : goal.loop-i-preserved
loop-i-preserved c =
    let lp = c.loop-i in
    let a = c.args in (
      search rules,
      joined-again _ _ 16 _ _ (λ t. get_or a.s.now (lp.i * a.l + a.o + t) 0 * c.at.result) _ _ lp.invariant.1 (search rules) c.add_16.ensures
          (λ u h. rw c.at.ensures.place (parity-more lp.i a.l a.bits.now a.s.now a.j a.o u)),
    )

pub returns : goal.returns
returns c =
    let lp = c.loop-i in
    let a = c.args in
    let e : lp.i ≡ a.k = search rules in
    record {
      long = search rules;
      sums = λ t h. lp.invariant.1.new t h ∙ ap (λ (n : ℕ). parity_byte n a.l a.bits.now a.s.now a.j (a.o + t)) e;
      kept = (lp.invariant.1.before, lp.invariant.1.after);
    }
