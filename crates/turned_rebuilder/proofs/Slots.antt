-- The sets of slots by which `restore_slots` tests and fills a turned stripe: their answer is that of the stripe turned back, and filling them is
-- filling the stripe turned back, and turning it.
-- Assumes nothing.
use mathlib.Core.Path.{◌≡◌, refl, sym, ap, ◌∙◌, subst}
use mathlib.Core.Bool.{not, ◌&&◌}
use mathlib.Core.List.{List, map}
use Prim.Native.Nat.{ℕ, ◌-◌, ◌*◌, ◌^◌, ◌≤◌, ◌<◌}
use native.Mathlib.Nat.{lt_of_le_of_lt}
use lib.Dec.{T, ltb}
use lib.ListN.{length, get_or}
use Rattle.std.specs.Prelude.{if◌then◌else◌}
use Rattle.gf2.specs.Sets.{has, set_of, ◌⊆◌}
use Rattle.gf2.specs.Within.{within}
use Rattle.gf2.proofs.Made.{set_lt}
use Rattle.gf2.proofs.Subsets.{⊆_le, ⊆_out, member_below}
use Rattle.flat.specs.Lists.{tabulate}
use Rattle.flat.specs.Cards.{Code, disks}
use Rattle.flat.specs.Erasures.{survivors}
use Rattle.flat.specs.Spans.{checks}
use Rattle.flat.specs.Repairs.{filled, all_vanish, consistent, equation_in, equation_among}
use Rattle.flat.proofs.Positions.{filled_cong}
use Rattle.flat.proofs.Duality.{survivor_out}
use Rattle.repairs.proofs.Callers.{words-consistent, equation-inside}
use Rattle.turning.specs.Turning.{disk_in, turned, turned_back, disks_of}
use Rattle.turning.specs.Slots.{slots_of, rotated}
use Rattle.turning.proofs.Slots.{disk_lt}
use Rattle.turning.proofs.Sets.{has_slots, slots_lt, disks_undone}
use Rattle.turning.proofs.Filling.{vanish_turned, filled-turned}
use Rattle.slots.proofs.Callers.{within-turned, equation-turned}

-- the disks of n that are not lost, as the contracts write them
abbrev rest : ℕ → ℕ → ℕ
rest n S = set_of n (λ i. not (has S i))

survivors_lt : (C : Code) (S : ℕ) → survivors C S < 2 ^ disks C
unfolding survivors
survivors_lt C S = set_lt (disks C) (λ i. not (has S i))

module _ (C : Code) (L t lost : ℕ) (stripe bs : List ℕ) (turn : t < disks C) (is : bs ≡ checks C) where
  abbrev n : ℕ
  n = disks C

  -- the check words among the survivors, by slots
  pub slots_consistent : (left words : List ℕ) → left ≡ within (rest n lost) bs → words ≡ map (rotated n (n - t)) left
      → all_vanish n L stripe words ≡ consistent C L lost (turned_back n L t stripe)
  slots_consistent left words e f =
      ap (all_vanish n L stripe)
      (within-turned n t (rest n lost) bs words turn (set_lt n (λ i. not (has lost i))) (f ∙ ap (map (rotated n (n - t))) e))
      ∙ vanish_turned n L t (within (rest n lost) bs) stripe
      ∙ words-consistent C lost bs L (turned_back n L t stripe) (within (rest n lost) bs) is refl

  -- the equations of the lost disks, by slot
  module _ (targets : ℕ) (table : List ℕ) (fits : n ≤ 32) (inside : lost < 2 ^ n) (slots : targets ≡ slots_of n t lost)
      (e : table ≡ tabulate 32 (λ s. if ltb s n && has targets s then rotated n (n - t) (equation_in bs (rest n lost) (disk_in n t s)) else 0)) where
    below : (s : ℕ) → T (has targets s) → s < n
    below s u = member_below n targets s (subst (λ (x : ℕ). x < 2 ^ n) (sym slots) (slots_lt n t lost)) u

    -- the disk in a target is lost
    lost_in : (s : ℕ) → T (has targets s) → T (has lost (disk_in n t s))
    lost_in s u = subst T (has_slots n t lost s (below s u)) (subst (λ (x : ℕ). T (has x s)) slots u)

    by-disk : (d : ℕ) → equation_in bs (rest n lost) d ≡ equation_among C lost d
    unfolding equation_among survivors
    by-disk d = ap (λ (l : List ℕ). equation_in l (rest n lost) d) is

    -- its equation has survivors alone
    among : (s : ℕ) → T (has targets s) → T (equation_among C lost (disk_in n t s) ⊆ survivors C lost)
    among s u = equation-inside C lost bs (disk_in n t s) (disk_lt n t s (below s u)) (lost_in s u)

    by-slot : (s : ℕ) → T (has targets s) → get_or table s 0 ≡ slots_of n t (equation_among C lost (disk_in n t s))
    by-slot s u =
        let d = disk_in n t s in
        equation-turned n t targets (equation_in bs (rest n lost)) table turn fits e s (below s u) u
        (subst (λ (x : ℕ). x < 2 ^ n) (sym (by-disk d)) (lt_of_le_of_lt (⊆_le (equation_among C lost d) (survivors C lost) (among s u)) (survivors_lt C lost)))
        ∙ ap (slots_of n t) (by-disk d)

    -- no target stands in the equation of a target
    pub slots_apart : (s i : ℕ) → T (has targets s) → T (has (get_or table s 0) i) → T (has targets i) → ⊥
    slots_apart s i u v w =
        (survivor_out C lost (disk_in n t i)
        (⊆_out (equation_among C lost (disk_in n t s)) (survivors C lost) (among s u) (disk_in n t i)
        (subst T (has_slots n t (equation_among C lost (disk_in n t s)) i (below i w)) (subst (λ (x : ℕ). T (has x i)) (by-slot s u) v)))).1
        (lost_in i w)

    pub slots_filled : length stripe ≡ n * L
        → filled n L (λ s. get_or table s 0) targets stripe ≡ turned n L t (filled n L (equation_among C lost) lost (turned_back n L t stripe))
    slots_filled whole =
        filled_cong n L (λ s. get_or table s 0) (λ s. slots_of n t (equation_among C lost (disk_in n t s))) targets stripe by-slot
        ∙ filled-turned n L t targets (equation_among C lost) stripe whole
        ∙ ap (λ (S : ℕ). turned n L t (filled n L (equation_among C lost) S (turned_back n L t stripe)))
        (ap (disks_of n t) slots ∙ disks_undone n t lost inside)
