-- Quick repair's report fits into one number: the steps made are at most the disks lost in eight stripes.
-- Assumes nothing.
use mathlib.Core.Path.{◌≡◌}
use mathlib.Core.Bool.{true}
use mathlib.Core.List.{List, []}
use Prim.Native.Nat.{ℕ, ◌*◌, ◌≤◌, ◌<◌, ◌^◌}
use native.Mathlib.Omega.{arith}
use lib.Dec.{ltb, eqb}
use lib.ListN.{length, get_or}
use Rattle.gf2.specs.Sets.{size}
use Rattle.gf2.proofs.Tests.{true-T, ltb_out}
use Rattle.gf2.proofs.Sizes.{size_lt}
use Rattle.flat.specs.Cards.{Code, Card, code_of, disks, set_ok}
use Rattle.flat.specs.Strips.{length_ok}
use Rattle.flat.proofs.Quantifiers.{every_out}
use Rattle.peeling.specs.Trays.{tray_peeled, total}
use Rattle.peeling.specs.Faults.{tray_ok, sets_ok, tray_tests, tray_report}
use Rattle.peeling.proofs.Trays.{tray_count, sizes-most}
use Rattle.peeling.proofs.Calls.{stripes_most}
use Rattle.export_bounds.specs.Coded.{Fits}
use Rattle.export_bounds.proofs.Values.{named, test, with_fits}

steps-few : (C : Code) (L budget : ℕ) (Ss tray : List ℕ) → disks C ≤ 32 → tray_ok (length Ss) ≡ true → sets_ok C Ss ≡ true
    → total (tray_peeled C L budget Ss tray) ≤ 256
unfolding sets_ok set_ok
steps-few C L budget Ss tray few ec es =
    let n = stripes_most (length Ss) ec in
    let each : (i : ℕ) → i < length Ss → size (get_or Ss i 0) ≤ 32 = λ i l.
    let h = size_lt (disks C) (get_or Ss i 0) (ltb_out (get_or Ss i 0) (2 ^ disks C) (every_out (length Ss) (λ j. ltb (get_or Ss j 0) (2 ^ disks C)) (true-T es) i l)) in
    omega arith in
    let a = sizes-most 32 Ss each in
    let b = tray_count C L budget Ss tray in
    omega arith

pub tray_fits : (card : Card) (L budget : ℕ) (Ss tray : List ℕ) → Fits (tray_report card L budget Ss tray)
unfolding tray_report tray_tests disks
tray_fits card L budget Ss tray =
    let C = code_of card in
    with_fits card (λ C. tray_tests C L budget Ss tray)
    (λ h. test (length_ok L) 6 _ (omega arith)
    (λ _. test (tray_ok (length Ss)) 17 _ (omega arith)
    (λ ec. test (sets_ok C Ss) 8 _ (omega arith)
    (λ es. test (eqb (length tray) (length Ss * (disks C * L))) 7 _ (omega arith)
    (λ _. named 0 (total (tray_peeled C L budget Ss tray)) [] (omega arith)
    (omega (arith, steps-few C L budget Ss tray (omega (arith, h)) ec es)))))))
