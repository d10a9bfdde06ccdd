-- Document 01, "Recovery equations", with the order of document 02, request [6].
-- A recovery equation of document 002, without the disk itself.
-- Assumes nothing.
use Rattle.std.specs.Prelude.{◌≡◌, Bool, not, ◌&&◌, ◌⊎◌, List, ℕ, suc, ◌+◌, ◌^◌, ◌<◌, eqb}
use Rattle.gf2.specs.Sets.{has, size, ◌⊂◌, over}
use Rattle.flat.specs.Lists.{some, every, count, range, filter, ordered_by}
use Rattle.flat.specs.Cards.{Code, disks}
use Rattle.flat.specs.Erasures.{holds_bit}

-- is E an equation of disk d: a set without d whose XOR equals disk d for every data word?
unfoldable pub equation : Code → ℕ → ℕ → Bool
unfolding has every over disks holds_bit
equation C d E = not (has E d) && every (2 ^ C.k) (λ x. eqb (over (disks C) E (holds_bit C x)) (holds_bit C x d))

-- has E no smaller equation of d inside?
unfoldable pub minimal_equation : Code → ℕ → ℕ → Bool
unfolding some disks ◌⊂◌ equation
minimal_equation C d E = equation C d E && not (some (2 ^ disks C) (λ F. (F ⊂ E) && equation C d F))

-- how many parity disks a set holds; they are slower
unfoldable pub parity_disks : Code → ℕ → ℕ
unfolding count has
parity_disks C E = count C.m (λ j. has E (C.k + j))

-- smaller size first, then fewer parity disks; sets that are equal in both keep their order
unfoldable pub by_size_and_parities : Code → List ℕ → List ℕ
unfolding ordered_by size disks parity_disks
by_size_and_parities C Es = ordered_by size (suc (disks C)) (ordered_by (parity_disks C) (suc C.m) Es)

-- all equations of d with no smaller one inside: smaller size first, then fewer parity disks, then smaller set number
unfoldable pub equations : Code → ℕ → List ℕ
unfolding by_size_and_parities filter range disks minimal_equation
equations C d = by_size_and_parities C (filter (minimal_equation C d) (range 0 (2 ^ disks C)))

-- does E go before F? It is smaller; or as large, with fewer parity disks; or equal in both, with the smaller set number
abbrev pub Precedes : Code → ℕ → ℕ → Type 0
Precedes C E F =
    (size E < size F)
    ⊎ ((size E ≡ size F) × ((parity_disks C E < parity_disks C F) ⊎ ((parity_disks C E ≡ parity_disks C F) × (E < F))))
