-- The stripes of C8, C9 and C10. The search over all contents is too long to compute: these go by the theorems on rebuilding.
-- Assumes nothing.
use mathlib.Core.Path.{◌≡◌, refl, ◌∙◌}
use mathlib.Core.List.{List, [], ◌∷◌}
use Prim.Native.Nat.{ℕ, zero, suc, ◌*◌}
use native.Mathlib.Omega.{arith}
use lib.Dec.{T}
use lib.ListN.{length, drop}
use Rattle.gf2.specs.Sets.{size}
use Rattle.flat.specs.Lists.{Bytes}
use Rattle.flat.specs.Cards.{card_bytes, code_of, disks, set_ok, edition_one, Card}
use Rattle.flat.specs.Strips.{length_ok}
use Rattle.flat.specs.Erasures.{fatal}
use Rattle.flat.specs.Rebuilding.{Agreeing, agrees, agreeing, restored}
use Rattle.flat.specs.Repairs.{filled, consistent, equation_among}
use Rattle.flat.specs.Faults.{accepted, refused, card_report, rebuild_report, rebuild_stripe}
use Rattle.worked.specs.Table.{Rebuilt, C1, C8, C9, C10}
use Rattle.worked.specs.Worked.{Rebuilds}
use Rattle.demands.specs.Demand3.{RightRebuild}
use Rattle.flat.proofs.Reports.{unless_accepted, unless_refused_lem}
use Rattle.flat.proofs.Agreement.{some-agreeing, all-restored-filled}
use Rattle.flat.proofs.Consistency.{agreeing-consistent}
use Rattle.demands.proofs.Demand3.{right-rebuild}

abbrev card : Card
card = edition_one (card_bytes C1.of)

-- the tests before the search
card_ok : card_report card ≡ accepted (4 ∷ 3 ∷ [])
unfolding card_report card_bytes
card_ok = refl

-- a refused call leaves the stripe
kept : (C : Rebuilt) (n : ℕ) (vs : List ℕ) → rebuild_report (edition_one (card_bytes C.of)) C.L C.lost C.entry ≡ refused (suc n) vs
    → rebuild_stripe (edition_one (card_bytes C.of)) C.L C.lost C.entry ≡ C.entry
unfolding rebuild_stripe
kept C n vs e = unless_refused_lem (rebuild_report (edition_one (card_bytes C.of)) C.L C.lost C.entry) n vs _ C.entry e

-- ---- C8

abbrev content : List ℕ
content = 0x11 ∷ 0x22 ∷ 0x44 ∷ 0x88 ∷ []

content-bytes : Bytes content
content-bytes zero = omega arith
content-bytes (suc zero) = omega arith
content-bytes (suc (suc zero)) = omega arith
content-bytes (suc (suc (suc zero))) = omega arith
content-bytes (suc (suc (suc (suc zero)))) = omega arith
content-bytes (suc (suc (suc (suc (suc i))))) = omega arith

not-fatal : T (fatal (code_of card) 7) → ⊥
unfolding fatal code_of card_bytes
not-fatal t = t

module _ (a b c : ℕ) where
  abbrev stripe : List ℕ
  stripe = a ∷ b ∷ c ∷ drop 3 C8.entry

  content-agrees : Agreeing (code_of card) 1 7 stripe content
  unfolding agrees code_of card_bytes
  content-agrees = record { strips = refl; bytes = content-bytes; agree = tt }

  right : RightRebuild card 7 1 stripe
  unfolding set_ok length_ok disks code_of card_bytes
  right = right-rebuild card 4 3 7 1 stripe card_ok tt tt refl not-fatal

  pub c8-answer : rebuild_report card 1 7 stripe ≡ C8.answer
  unfolding size
  c8-answer = (right.some content content-agrees).answer

  computed : filled (disks (code_of card)) 1 (equation_among (code_of card) 7) 7 stripe ≡ C8.exit
  unfolding filled disks equation_among code_of card_bytes
  computed = refl

  seven : length stripe ≡ disks (code_of card) * 1
  unfolding disks code_of card_bytes
  seven = refl

  pub c8-stripe : rebuild_stripe card 1 7 stripe ≡ C8.exit
  unfolding rebuild_stripe
  c8-stripe =
      let C = code_of card in
      unless_accepted (rebuild_report card 1 7 stripe) (3 ∷ []) (restored C 1 7 stripe (agreeing C 1 7 stripe)) stripe c8-answer
      ∙ all-restored-filled C 1 7 stripe seven not-fatal (some-agreeing C 1 7 stripe content content-agrees) ∙ computed

-- ---- C9

not-fatal-one : T (fatal (code_of card) 1) → ⊥
unfolding fatal code_of card_bytes
not-fatal-one t = t

-- a check word among the survivors does not vanish
inconsistent : T (consistent (code_of card) 1 1 C9.entry) → ⊥
unfolding consistent code_of card_bytes
inconsistent t = t

right_9 : RightRebuild card 1 1 C9.entry
unfolding set_ok length_ok disks code_of card_bytes
right_9 = right-rebuild card 4 3 1 1 C9.entry card_ok tt tt refl not-fatal-one

c9-answer : rebuild_report card 1 1 C9.entry ≡ C9.answer
c9-answer =
    right_9.none.1
    (λ c a. inconsistent (agreeing-consistent (code_of card) 1 1 C9.entry (some-agreeing (code_of card) 1 1 C9.entry c a)))

pub c9 : Rebuilds C9
c9 = record { answer = c9-answer; stripe = kept C9 11 [] c9-answer }

-- ---- C10

c10-answer : rebuild_report card 1 14 C10.entry ≡ C10.answer
unfolding rebuild_report card_bytes
c10-answer = refl

pub c10 : Rebuilds C10
c10 = record { answer = c10-answer; stripe = kept C10 10 [] c10-answer }
