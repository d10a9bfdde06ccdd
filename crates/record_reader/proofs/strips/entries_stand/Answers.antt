-- `record_reader::strips::entries_stand` meets its contract: each disk's entry is the one that is written.
-- Assumes nothing.
use mathlib.Core.Path.{◌≡◌, refl}
use mathlib.Core.Bool.{true, false}
use native.Mathlib.Omega.{arith}
use borrow.Author.Rules.{rules}
use borrow.Author.Tests.{tests}
use Rattle.std.proofs.lemmas.Iterator.{cases_from_all, YieldsList-from_range}
use Rattle.record_format.specs.Records.{strip_entries_ok}
use Rattle.record_reader.proofs.Compared.{entry_stands, every-all}
use Rattle.record_reader.proofs.strips.entries_stand.Goals as goal

pub returns : goal.returns
unfolding strip_entries_ok
returns c =
    let a = c.args in
    let y = a.layout in
    every-all a.n _ _
    (cases_from_all _ _ _ (λ i. entry_stands a.file.now y.start y.l y.lost i ≡ true) (λ i. entry_stands a.file.now y.start y.l y.lost i ≡ false)
    c.all.ensures.ran (YieldsList-from_range 0 a.n a.n refl (omega arith)) (λ i q h. search (rules, tests)) (λ i q h. search (rules, tests)))
