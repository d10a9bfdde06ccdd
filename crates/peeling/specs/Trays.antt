-- Document 02, request [1]: a tray, up to eight stripes of one code in one list of bytes, one stripe of disks C * L bytes after the other.
-- Assumes nothing.
use Rattle.std.specs.Prelude.{List, [], ◌∷◌, ◌++◌, map, ℕ, ◌-◌, ◌*◌, take, drop}
use Rattle.flat.specs.Lists.{sum}
use Rattle.flat.specs.Cards.{Code, disks}
use Rattle.peeling.specs.Peeling.{Peeled, peeled}

-- the stripes in turn, each until it sticks, with one budget for all: a result for each stripe
unfoldable pub tray_peeled : Code → ℕ → ℕ → List ℕ → List ℕ → List Peeled
unfolding disks peeled
tray_peeled C L budget [] tray = []
tray_peeled C L budget (S ∷ Ss) tray =
    let r = peeled C L budget S (take (disks C * L) tray) in r ∷ tray_peeled C L (budget - r.steps) Ss (drop (disks C * L) tray)

-- all steps made, each stripe's remaining set, and the tray
unfoldable pub total : List Peeled → ℕ
unfolding sum
total rs = sum (map (λ r. r.steps) rs)

unfoldable pub lefts : List Peeled → List ℕ
lefts = map (λ r. r.left)

unfoldable pub joined : List Peeled → List ℕ
joined [] = []
joined (r ∷ rs) = r.stripe ++ joined rs
