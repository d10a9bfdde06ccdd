-- The update's report fits into one number: the parities that name a disk are at most all.
-- Assumes nothing.
use mathlib.Core.List.{[]}
use Prim.Native.Nat.{ℕ, ◌+◌, ◌*◌}
use native.Mathlib.Omega.{arith}
use lib.Dec.{ltb, eqb}
use Rattle.gf2.specs.Sets.{has}
use Rattle.flat.specs.Cards.{Card, code_of, disks, column}
use Rattle.flat.specs.Strips.{length_ok}
use Rattle.flat.proofs.Counts.{count_le}
use Rattle.updating.specs.Updating.{naming}
use Rattle.updating.specs.Faults.{update_tests, update_report}
use Rattle.export_bounds.specs.Coded.{Fits}
use Rattle.export_bounds.proofs.Values.{named, test, with_fits}

pub update_fits : (card : Card) (L n d p : ℕ) → Fits (update_report card L n d p)
unfolding update_report update_tests naming
update_fits card L n d p =
    let C = code_of card in
    with_fits card (λ C. update_tests C L n d p)
    (λ h. test (length_ok L) 6 _ (omega arith)
    (λ _. test (ltb d (disks C)) 9 _ (omega arith)
    (λ _. test (ltb d C.k) 18 _ (omega arith)
    (λ _. test (eqb n (disks C * L)) 7 _ (omega arith)
    (λ _. test (eqb p L) 19 _ (omega arith)
    (λ _. named 0 (1 + naming C d) [] (omega arith) (omega (arith, h, count_le C.m (λ j. has (column C j) d)))))))))
