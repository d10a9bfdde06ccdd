-- What quick repair does, in plain words above each statement. The proofs are those of proofs/.
-- Assumes nothing.
use Rattle.std.specs.Prelude.{◌≡◌, ◌≢◌, ◌↔◌, List, [], ◌∷◌, map, ℕ, zero, suc, ◌+◌, ◌-◌, ◌*◌, ◌≤◌, ◌<◌, min, T, length, get_or, take, drop}
use Rattle.gf2.specs.Sets.{has, size}
use Rattle.flat.specs.Lists.{sum}
use Rattle.flat.specs.Cards.{Code, Card, code_of, disks}
use Rattle.flat.specs.Strips.{byte_of, given}
use Rattle.flat.specs.Erasures.{fatal}
use Rattle.flat.specs.Rebuilding.{agrees}
use Rattle.flat.specs.Checks.{check}
use Rattle.flat.specs.Faults.{accepted}
use Rattle.repair_steps.specs.Steps.{Repairs}
use Rattle.peeling.specs.Peeling.{lone, can_step, next_disk, next_check, less_next, with_next, Peeled, rest, more, peeled}
use Rattle.peeling.specs.Trays.{tray_peeled, total, lefts, joined}
use Rattle.peeling.specs.Faults.{tray_report, tray_lefts, tray_bytes}

-- ---- a step

-- The only lost member of a check is a lost member of it, and no other is.
abbrev pub LoneMember : Type 0
LoneMember =
    (C : Code) (S d j : ℕ)
    → T (lone C S d j)
    ↔ (T (has (check C j) d) × T (has S d) × ((i : ℕ) → T (has (check C j) i) → T (has S i) → i ≡ d))

-- There is a step where some disk is the only lost member of some check. It takes the lowest such disk, and the lowest such check.
abbrev pub StepRule : Type 0
StepRule =
    (C : Code) (S : ℕ)
    → (T (can_step C S) ↔ ((d : ℕ) × (j : ℕ) × (j < C.m) × T (lone C S d j)))
    × (T (can_step C S)
    → (next_check C S < C.m) × T (lone C S (next_disk C S) (next_check C S))
    × ((d j : ℕ) → j < C.m → T (lone C S d j) → next_disk C S ≤ d)
    × ((j : ℕ) → T (lone C S (next_disk C S) j) → next_check C S ≤ j))

-- ---- one stripe

-- i steps
unfoldable pub after : Code → ℕ → ℕ → ℕ → List ℕ → Peeled
unfolding less_next with_next
after C L zero S stripe = rest S stripe
after C L (suc i) S stripe = more (after C L i (less_next C S) (with_next C L S stripe))

-- Steps and what is left go by the code, the budget and the set alone.
abbrev pub StepsBySet : Type 0
StepsBySet =
    (C : Code) (L M budget S : ℕ) (stripe other : List ℕ)
    → ((peeled C L budget S stripe).steps ≡ (peeled C M budget S other).steps)
    × ((peeled C L budget S stripe).left ≡ (peeled C M budget S other).left)

-- The steps made are those of the rule, cut at the budget: the smaller of the budget and the steps with a budget of at least as many
-- as are lost. Set and stripe are those after so many steps.
abbrev pub CutAtBudget : Type 0
CutAtBudget =
    (C : Code) (L budget enough S : ℕ) (stripe : List ℕ) → size S ≤ enough
    → ((peeled C L budget S stripe).steps ≡ min budget (peeled C L enough S stripe).steps)
    × (peeled C L budget S stripe ≡ after C L (peeled C L budget S stripe).steps S stripe)

-- Each step takes one disk out of the set.
abbrev pub StepsCount : Type 0
StepsCount =
    (C : Code) (L budget S : ℕ) (stripe : List ℕ)
    → (peeled C L budget S stripe).steps + size (peeled C L budget S stripe).left ≡ size S

-- Where budget is left, no step is: no disk is the only lost member of a check.
abbrev pub StuckBelowBudget : Type 0
StuckBelowBudget =
    (C : Code) (L budget S : ℕ) (stripe : List ℕ) → (peeled C L budget S stripe).steps < budget
    → (d j : ℕ) → d < disks C → j < C.m → T (lone C (peeled C L budget S stripe).left d j) → ⊥

-- It is a repair: so each restored strip is the one that every content agreeing with the survivors has (`RepairGives`), and rebuilding after it is
-- rebuilding at once (`RepairThenRebuild`).
abbrev pub PeelingRepairs : Type 0
PeelingRepairs =
    (C : Code) (L budget S : ℕ) (stripe : List ℕ) → length stripe ≡ disks C * L
    → Repairs C L S stripe (peeled C L budget S stripe).left (peeled C L budget S stripe).stripe

-- It makes no set fatal and none not fatal.
abbrev pub PeelingFatal : Type 0
PeelingFatal = (C : Code) (L budget S : ℕ) (stripe : List ℕ) → T (fatal C S) ↔ T (fatal C (peeled C L budget S stripe).left)

-- ---- a tray

-- how many disks some sets hold in all
unfoldable pub sizes : List ℕ → ℕ
unfolding sum size
sizes Ss = sum (map size Ss)

-- stripe i of a tray
unfoldable pub stripe_of : Code → ℕ → ℕ → List ℕ → List ℕ
unfolding disks
stripe_of C L i tray = take (disks C * L) (drop (i * (disks C * L)) tray)

-- result i
abbrev pub result : List Peeled → ℕ → Peeled
result rs i = get_or rs i (rest 0 [])

-- The steps made are those of the rule, cut at the budget.
abbrev pub TrayCut : Type 0
TrayCut =
    (C : Code) (L budget enough : ℕ) (Ss tray : List ℕ) → sizes Ss ≤ enough
    → total (tray_peeled C L budget Ss tray) ≡ min budget (total (tray_peeled C L enough Ss tray))

-- They never exceed the disks lost in the tray: each takes one of them out.
abbrev pub TrayCount : Type 0
TrayCount =
    (C : Code) (L budget : ℕ) (Ss tray : List ℕ)
    → total (tray_peeled C L budget Ss tray) + sizes (lefts (tray_peeled C L budget Ss tray)) ≡ sizes Ss

-- Stripe i is peeled with what the stripes before it left of the budget, and its place in the tray holds the outcome.
abbrev pub TrayTurn : Type 0
TrayTurn =
    (C : Code) (L budget : ℕ) (Ss tray : List ℕ) (i : ℕ) → i < length Ss → length tray ≡ length Ss * (disks C * L)
    → let rs = tray_peeled C L budget Ss tray in
    (result rs i ≡ peeled C L (budget - total (take i rs)) (get_or Ss i 0) (stripe_of C L i tray))
    × (stripe_of C L i (joined rs) ≡ (result rs i).stripe)

-- With a budget of at least the rule's steps, nothing is cut.
abbrev pub TrayEnough : Type 0
TrayEnough =
    (C : Code) (L budget enough : ℕ) (Ss tray : List ℕ) → sizes Ss ≤ enough → total (tray_peeled C L enough Ss tray) ≤ budget
    → tray_peeled C L budget Ss tray ≡ tray_peeled C L enough Ss tray

-- ---- the call

-- It never gives 11 or 12.
abbrev pub NoDisksFault : Type 0
NoDisksFault =
    (card : Card) (L budget : ℕ) (Ss tray : List ℕ)
    → ((tray_report card L budget Ss tray).number ≢ 11) × ((tray_report card L budget Ss tray).number ≢ 12)

-- An accepted call: its steps are those of the rule, cut at the budget, and never more than the disks lost; the tray keeps its length; each stripe is
-- peeled with what the stripes before it left of the budget, and so repaired; each strip that is not left lost is the one that every content
-- agreeing with the survivors has; and where the budget is not too small every stripe is stuck.
pub record TrayRight (card : Card) (L budget : ℕ) (Ss tray : List ℕ) : Type 0 where
  pub steps : tray_report card L budget Ss tray ≡ accepted (min budget (total (tray_peeled (code_of card) L (sizes Ss) Ss tray)) ∷ [])
  pub most : total (tray_peeled (code_of card) L (sizes Ss) Ss tray) ≤ sizes Ss
  pub long : length (tray_bytes card L budget Ss tray) ≡ length tray
  pub turn : (i : ℕ) → i < length Ss
      → let r = peeled (code_of card) L (budget - total (take i (tray_peeled (code_of card) L budget Ss tray))) (get_or Ss i 0) (stripe_of (code_of card) L i tray) in
      (get_or (tray_lefts card L budget Ss tray) i 0 ≡ r.left) × (stripe_of (code_of card) L i (tray_bytes card L budget Ss tray) ≡ r.stripe)
  pub each : (i : ℕ) → i < length Ss
      → Repairs (code_of card) L (get_or Ss i 0) (stripe_of (code_of card) L i tray) (get_or (tray_lefts card L budget Ss tray) i 0)
      (stripe_of (code_of card) L i (tray_bytes card L budget Ss tray))
  pub restored : (i : ℕ) → i < length Ss → (content : List ℕ) → T (agrees (code_of card) L (get_or Ss i 0) (stripe_of (code_of card) L i tray) content)
      → (d t : ℕ) → d < disks (code_of card) → t < L → (T (has (get_or (tray_lefts card L budget Ss tray) i 0) d) → ⊥)
      → byte_of L (stripe_of (code_of card) L i (tray_bytes card L budget Ss tray)) t d ≡ byte_of L (given (code_of card) L content) t d
  pub stuck : total (tray_peeled (code_of card) L (sizes Ss) Ss tray) ≤ budget
      → (i d j : ℕ) → i < length Ss → d < disks (code_of card) → j < (code_of card).m
      → T (lone (code_of card) (get_or (tray_lefts card L budget Ss tray) i 0) d j) → ⊥

abbrev pub TrayAccepted : Type 0
TrayAccepted =
    (card : Card) (L budget : ℕ) (Ss tray : List ℕ) → (tray_report card L budget Ss tray).number ≡ 0
    → TrayRight card L budget Ss tray
