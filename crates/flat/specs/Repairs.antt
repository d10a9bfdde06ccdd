-- Strips computed from other strips: what the rebuild calls do, and how they decide. Nobody has to believe these: the theorems of Rebuilt
-- say that they are document 01's rebuilding, and no public contract names them.
-- Assumes nothing.
use Rattle.std.specs.Prelude.{Bool, true, ◌&&◌, List, [], ◌∷◌, ℕ, ◌/◌, ◌%◌, ◌^◌, eqb, length, get_or, if◌then◌else◌}
use Rattle.gf2.specs.Sets.{has, ◌⊕◌, ◌∖◌, over}
use Rattle.gf2.specs.Within.{within}
use Rattle.flat.specs.Lists.{every, tabulate}
use Rattle.flat.specs.Cards.{Code, disks}
use Rattle.flat.specs.Strips.{byte_of}
use Rattle.flat.specs.Erasures.{survivors}
use Rattle.flat.specs.Spans.{checks}

-- the stripe in which the strip of each disk d of S becomes the XOR of the strips of the disks of E d below n
unfoldable pub filled : ℕ → ℕ → (ℕ → ℕ) → ℕ → List ℕ → List ℕ
unfolding tabulate has over byte_of
filled n L E S stripe =
    tabulate (length stripe) (λ p. if has S (p / L) then over n (E (p / L)) (byte_of L stripe (p % L)) else get_or stripe p 0)

-- has the XOR of the strips of the disks of E below n no byte but 0?
unfoldable pub vanishes : ℕ → ℕ → List ℕ → ℕ → Bool
unfolding every over byte_of
vanishes n L stripe E = every L (λ t. eqb (over n E (byte_of L stripe t)) 0)

-- is it so of each of some sets?
unfoldable pub all_vanish : ℕ → ℕ → List ℕ → List ℕ → Bool
unfolding vanishes
all_vanish n L stripe [] = true
all_vanish n L stripe (E ∷ Es) = vanishes n L stripe E && all_vanish n L stripe Es

-- is it so of each check word among the survivors of S that `within` leaves?
unfoldable pub consistent : Code → ℕ → ℕ → List ℕ → Bool
unfolding all_vanish disks within survivors checks
consistent C L S stripe = all_vanish (disks C) L stripe (within (survivors C S) (checks C))

-- the first of some sets that holds disk d, and the empty set where there is none
unfoldable pub holder : ℕ → List ℕ → ℕ
unfolding has
holder d [] = 0
holder d (w ∷ ws) = if has w d then w else holder d ws

-- of the span of some check words, one of disk d and of disks of R, less d; the empty set where there is none
unfoldable pub equation_in : List ℕ → ℕ → ℕ → ℕ
unfolding holder within ◌⊕◌ ◌∖◌
equation_in words R d = holder d (within (R ⊕ 2 ^ d) words) ∖ 2 ^ d

-- an equation among the survivors of S, of disk d of S
unfoldable pub equation_among : Code → ℕ → ℕ → ℕ
unfolding equation_in checks survivors
equation_among C S d = equation_in (checks C) (survivors C S) d
