-- `tray::sets_ok` meets its contract: the sets are tested one after the other.
-- Assumes nothing.
use mathlib.Core.Path.{◌∙◌}
use Prim.Native.Nat.{◌^◌}
use borrow.Author.Rules.{rules}
use borrow.Author.Tests.{tests}
use lib.Dec.{ltb}
use Rattle.std.proofs.lemmas.Iterator.{YieldsList-from_slice}
use Rattle.std.proofs.lemmas.Iterator.Search.{all_from_yields_List}
use Rattle.tray.proofs.Answered.{sets_listed}
use Rattle.tray.proofs.sets_ok.Goals as goal

pub returns : goal.returns
returns c =
    let Ss = c.args.sets.now in
    let n = c.n.result in
    all_from_yields_List (λ S. ltb S (2 ^ n)) _ _ c.all.result c.all.ensures.ran (YieldsList-from_slice Ss c.iter.ensures.rest)
    (λ x b q k. search (rules, tests))
    ∙ sets_listed c.args.code.now n Ss c.n.ensures.value
