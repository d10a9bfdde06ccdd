-- `least_wear::Weights::add_disk` meets its contract: the first b sets with the disk are there, each out of that without it.
-- Assumes nothing.
use mathlib.Core.Path.{refl, sym, ap, ◌∙◌, subst}
use Prim.Native.Nat.{ℕ, ◌+◌, ◌*◌, ◌/◌, ◌≤◌}
use native.Mathlib.Omega.{arith}
use lib.ListN.{get_or}
use Rattle.gf2.proofs.Bits.{one_shifted_in}
use Rattle.least_wear.specs.Forms.{weight_of}
use Rattle.least_wear.proofs.Ranks.{weights-most}
use Rattle.least_wear.proofs.Tables.{half-few, table_fits, disk-begun, disk-more, disk-all}
use Rattle.least_wear.proofs.Weights.add_disk.Goals as goal

pub loop-b-init : goal.loop-b-init
loop-b-init c = disk-begun _ c.args.i _ _ _ c.requires.0 refl (one_shifted_in 64 _ (omega arith)) (c.self.view_is ∙ c.requires.2)

pub overflow_add-self-in-loop-b : goal.overflow_add-self-in-loop-b
overflow_add-self-in-loop-b c =
    let l = c.loop-b in
    let bytes = c.type_inv.wears in
    let small = table_fits (weight_of c.args.k c.args.wears.now) (weights-most _ _ (λ j. omega (arith, bytes j))) _ _ (omega (arith, (half-few c.args.i).1)) l.invariant in
    let more = subst (λ (v : ℕ). v ≤ 522273) (sym c.weight-more.ensures) (weights-most _ _ (λ j. omega (arith, bytes j)) _) in
    record { fits = omega (arith, small.1 (256 * (c.args.i / 8) + l.b), more) }

pub loop-b-preserved : goal.loop-b-preserved
loop-b-preserved c =
    let l = c.loop-b in
    disk-more (weight_of c.args.k c.args.wears.now) c.args.i _ _ l.b _ _ l.self-inside.table c.requires.0 refl (one_shifted_in 64 _ (omega arith)) c.loop-b-test.true
    l.invariant (ap (λ (x : ℕ). get_or l.self-inside.table (256 * (c.args.i / 8) + l.b) 0 + x) c.weight-more.ensures) (omega arith)

pub invariant_of-self : goal.invariant_of-self
invariant_of-self c =
    let l = c.loop-b in
    let bytes = c.type_inv.wears in
    table_fits (weight_of c.args.k c.args.wears.now) (weights-most _ _ (λ j. omega (arith, bytes j))) _ _ (omega (arith, (half-few c.args.i).1)) l.invariant

pub returns : goal.returns
returns c =
    let l = c.loop-b in
    l.invariant ∙ disk-all _ c.args.i _ _ l.b refl (one_shifted_in 64 _ (omega arith)) (omega arith)
