-- The report of the least-wear call fits into one number: what it names is a set of survivors.
-- Assumes nothing.
use mathlib.Core.Path.{sym, ap, ◌∙◌, subst}
use mathlib.Core.List.{List, []}
use mathlib.Core.Logic.{⊎_elim}
use Prim.Native.Nat.{ℕ, ◌≤◌}
use native.Mathlib.Omega.{arith}
use lib.Dec.{ltb}
use lib.Pow.{pow_mono}
use Rattle.flat.specs.Cards.{Code, Card, code_of, disks, set_ok, wears_of}
use Rattle.flat.proofs.Told.{among_lt}
use Rattle.wear.specs.Wear.{total_wear, lost_with, equations_left, least_report, least_wear_tests, least_wear_report}
use Rattle.wear.proofs.Picking.{least_cases, least-nil}
use Rattle.wear.proofs.Least.{least-of}
use Rattle.export_bounds.specs.Coded.{Fits}
use Rattle.export_bounds.proofs.Values.{plain, named, test, with_fits}

least_fits : (C : Code) (ws : List ℕ) (d S : ℕ) → (C.k ≤ 16) × (C.m ≤ 16) → Fits (least_report (total_wear C ws) (equations_left C d S))
unfolding disks
least_fits C ws d S few =
    ⊎_elim (λ e. subst Fits (sym (ap (least_report (total_wear C ws)) e ∙ least-nil (total_wear C ws))) (plain 11 (omega arith)))
    (λ (E, e). subst Fits (sym e)
    (named 0 E [] (omega arith)
    (omega (arith, among_lt C (lost_with S d) E (least-of C ws d S E e).survives, pow_mono {i = disks C} {j = 32} (omega (arith, few))))))
    (least_cases (total_wear C ws) (equations_left C d S))

pub least_wear_fits : (card : Card) (d S : ℕ) → Fits (least_wear_report card d S)
unfolding least_wear_report least_wear_tests
least_wear_fits card d S =
    let C = code_of card in
    with_fits card (λ C. least_wear_tests C (wears_of card) d S)
    (λ few. test (set_ok C S) 8 _ (omega arith) (λ _. test (ltb d (disks C)) 9 _ (omega arith) (λ _. least_fits C (wears_of card) d S few)))
