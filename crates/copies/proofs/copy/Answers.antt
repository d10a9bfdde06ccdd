-- `copies::copy` meets its contract: what stands before the bytes and after them stays.
-- Assumes nothing.
use mathlib.Core.Path.{◌≡◌}
use mathlib.Core.List.{append_assoc}
use Prim.Native.Nat.{◌+◌, ◌-◌}
use native.Mathlib.Omega.{arith}
use lib.ListN.{length}
use Rattle.std.proofs.lemmas.List.{drop-drop}
use Rattle.flat.specs.Lists.{put}
use Rattle.copies.proofs.copy.Goals as goal

pub returns-else-new-lt16 : goal.returns-else-new-lt16
unfolding put
returns-else-new-lt16 c =
    let a = c.args in
    let n = length a.new.now in
    let part : a.at + n - a.at ≡ n = omega arith in
    rw (part, c.copy_from_slice.ensures.after) (simp (drop-drop, append_assoc))
