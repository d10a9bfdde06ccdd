-- The least-wear call for a good card: what is lent from the card, and what is answered of it.
-- Assumes nothing.
use mathlib.Core.Path.{◌≡◌, ap, ◌∙◌}
use mathlib.Core.List.{List}
use Prim.Native.Nat.{ℕ, ◌≤◌, ◌<◌}
use lib.ListN.{length, get_or, take}
use Rattle.std.specs.Prelude.{Ok}
use Rattle.flat.specs.declared.Edition.{Edition}
use Rattle.flat.specs.Lists.{padded}
use Rattle.flat.specs.Cards.{Code, disks, card_of, code_of, wears_of}
use Rattle.flat.specs.Faults.{Report, card_report}
use Rattle.wear.specs.Wear.{least_wear_tests, least_wear_report}
use Rattle.card.specs.Reports.{report as check_report}
use Rattle.card.proofs.Callers.{good, good_with, wears_taken}

module _ (e : Edition) (bs : List ℕ) (C : Code) (value : check_report (Ok C) ≡ card_report (card_of e bs)) (is : C ≡ code_of (card_of e bs))
    (n : ℕ) (n-is : n ≡ disks C) (wears : List ℕ) (ws : wears ≡ padded 32 (wears_of (card_of e bs))) where
  taken : take n wears ≡ wears_of (card_of e bs)
  taken = ap (λ (i : ℕ). take i wears) n-is ∙ wears_taken (card_of e bs) C (good e bs C value is) wears ws

  pub lent_requires : (length (take n wears) ≡ disks C) × ((i : ℕ) → i < disks C → 1 ≤ get_or (take n wears) i 0)
  lent_requires = let g = good e bs C value is in (ap length taken ∙ g.each_disk, rw taken g.wears)

  pub good_report : (d S : ℕ) (r : Report) → r ≡ least_wear_tests C (take n wears) d S → r ≡ least_wear_report (card_of e bs) d S
  unfolding least_wear_report
  good_report d S r h =
      good_with e bs (λ D. least_wear_tests D (wears_of (card_of e bs)) d S) C r value is
      (h ∙ ap (λ (us : List ℕ). least_wear_tests C us d S) taken)
