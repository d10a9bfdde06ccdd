-- `gf2::first_of` meets its contract: a set of 32 disks is its own part below 32.
-- Assumes nothing.
use mathlib.Core.Path.{◌≡◌, sym, ap, ◌∙◌, subst}
use Prim.Native.Nat.{ℕ, ◌%◌, ◌^◌, ◌<◌}
use native.Mathlib.Nat.{mod-eq_of_lt}
use native.Mathlib.Omega.{arith}
use borrow.Author.Rules.{rules}
use lib.Pow.{pow_pos}
use Rattle.gf2.proofs.Bits.{one_shifted}
use Rattle.gf2.proofs.first_of.Goals as goal

pub nonzero_rem-result : goal.nonzero_rem-result
nonzero_rem-result c = let n = c.args.n in subst (λ (x : ℕ). 0 < x) (sym (one_shifted n c.if-n-lt32.true)) (pow_pos n)

pub returns-then-n-lt32 : goal.returns-then-n-lt32
returns-then-n-lt32 c = ap (λ (x : ℕ). c.args.set % x) (one_shifted c.args.n c.if-n-lt32.true)

pub returns-else-n-lt32 : goal.returns-else-n-lt32
returns-else-n-lt32 c =
    let a = c.args in
    let e : a.n ≡ 32 = omega (arith, c.if-n-lt32.false, c.requires) in
    let h : a.set < 2 ^ 32 = search rules in
    sym (ap (λ (n : ℕ). a.set % 2 ^ n) e ∙ mod-eq_of_lt h)
