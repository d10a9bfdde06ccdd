-- Document 01, "Rebuilding": with nothing lost this is a check.
-- The proof is `nothing_lost` of proofs/Checked.antt.
-- Assumes nothing.
use Rattle.std.specs.Prelude.{◌≡◌, ◌↔◌, List, [], ◌∷◌, ℕ, ◌*◌, T, length}
use Rattle.flat.specs.Lists.{Bytes}
use Rattle.flat.specs.Cards.{Card, code_of, disks}
use Rattle.flat.specs.Strips.{length_ok, encoded}
use Rattle.flat.specs.Faults.{accepted, card_report, rebuild_report, rebuild_stripe}

-- It is accepted exactly where the stripe is what encoding makes of it, and the stripe stays.
abbrev pub NothingLost : Type 0
NothingLost =
    (card : Card) (k m L : ℕ) (stripe : List ℕ) → card_report card ≡ accepted (k ∷ m ∷ []) → T (length_ok L)
    → length stripe ≡ disks (code_of card) * L → Bytes stripe
    → ((rebuild_report card L 0 stripe ≡ accepted (0 ∷ [])) ↔ (encoded (code_of card) L stripe ≡ stripe)) × (rebuild_stripe card L 0 stripe ≡ stripe)
