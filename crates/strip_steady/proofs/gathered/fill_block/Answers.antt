-- `strip_steady::gathered::fill_block` meets its contract: the blocks of the parity disks so far are put.
-- Assumes nothing.
use mathlib.Core.Path.{◌≡◌}
use Prim.Native.Nat.{◌+◌, ◌*◌, ◌≤◌}
use native.Mathlib.Omega.{arith}
use Rattle.flat.proofs.Positions.{strip-within}
use Rattle.strip_steady.proofs.Offsets.{blocks-none, blocks_more, blocks-all}
use borrow.Author.Rules.{rules}
use Rattle.strip_steady.proofs.gathered.fill_block.Goals as goal

pub loop-j-init : goal.loop-j-init
loop-j-init c =
    let a = c.args in
    (search rules, blocks-none a.k a.l a.local.now a.lanes.now a.o a.s.now)

pub loop-j-preserved : goal.loop-j-preserved
loop-j-preserved c =
    let inside : let a = c.args in (a.k + c.loop-j.j) * a.l + a.l ≤ (a.k + a.m) * a.l =
    let a = c.args in strip-within (a.k + c.loop-j.j) (a.k + a.m) a.l (omega arith) in
    let a = c.args in
    (search rules, blocks_more a.k a.l a.local.now a.lanes.now a.o a.s.now _ _ _ _ _ c.loop-j.invariant.1 (search rules) (search rules) (search rules) (omega (arith, inside)) c.sum-block.ensures c.put.ensures)

pub returns : goal.returns
returns c =
    let lp = c.loop-j in
    let a = c.args in
    let e : lp.j ≡ a.m = search rules in
    blocks-all a.k a.l a.local.now a.lanes.now a.o a.s.now _ _ _ lp.invariant.1 e (search rules)
