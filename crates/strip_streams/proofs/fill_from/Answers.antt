-- `strip_streams::fill_from` meets its contract: the bytes so far are copied.
-- Assumes nothing.
use mathlib.Core.Path.{◌≡◌}
use native.Mathlib.Omega.{arith}
use Rattle.strip_streams.proofs.Laws.{stream_more, stream_all}
use borrow.Author.Rules.{rules}
use Rattle.strip_streams.proofs.fill_from.Goals as goal

pub loop-t-preserved : goal.loop-t-preserved
loop-t-preserved g c =
    let lp = c.loop-t in
    let a = c.args in
    (search rules, stream_more g.row.N a.at a.s.now a.p a.l lp.t _ lp.s lp.invariant.1 (omega arith) c.requires.0 c.requires.2 c.byte.ensures)

pub returns : goal.returns
returns g c =
    let lp = c.loop-t in
    let a = c.args in
    let e : lp.t ≡ a.l = search rules in
    stream_all g.row.N a.at a.s.now a.p a.l lp.t lp.s lp.invariant.1 e
