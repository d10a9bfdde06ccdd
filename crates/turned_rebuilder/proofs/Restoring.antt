-- The stripe that is restored, by what the rows and `restore_slots` told; and only r modulo n matters.
-- Assumes nothing.
use mathlib.Core.Path.{◌≡◌, refl, ap, ap₂, ◌∙◌}
use mathlib.Core.Bool.{Bool, true}
use mathlib.Core.List.{List}
use Prim.Native.Nat.{ℕ, ◌%◌, ◌≤◌}
use lib.Dec.{T}
use Rattle.std.specs.Prelude.{if◌then◌else◌}
use Rattle.flat.specs.Lists.{Bytes}
use Rattle.flat.specs.Cards.{Code, disks}
use Rattle.flat.specs.Erasures.{fatal}
use Rattle.flat.specs.Rebuilding.{agreeing, restored}
use Rattle.flat.specs.Repairs.{filled, consistent, equation_among}
use Rattle.flat.specs.Faults.{Report, unless_refused, disks_report}
use Rattle.rebuilder.proofs.Restoring.{all-restored}
use Rattle.turning.specs.Turning.{turned, turned_back, disks_of}
use Rattle.turning.proofs.Turned.{length_back, turned-reduced, back-reduced}
use Rattle.turning.proofs.Sets.{disks-reduced}

module _ (C : Code) (L t S : ℕ) (stripe : List ℕ) where
  abbrev back : List ℕ
  back = turned_back (disks C) L t stripe

  pub turned-all : (T (fatal C S) → ⊥) → 1 ≤ L → Bytes back → (r : Bool) → r ≡ consistent C L S back → (after : List ℕ) → r ≡ true
      → after ≡ (if r then turned (disks C) L t (filled (disks C) L (equation_among C S) S back) else stripe)
      → after ≡ turned (disks C) L t (restored C L S back (agreeing C L S back))
  turned-all safe long bytes r e after told q =
      q ∙ rw told
      (ap (turned (disks C) L t)
      (all-restored C L S back safe long bytes r e (filled (disks C) L (equation_among C S) S back) (length_back (disks C) L t stripe) told (rw told refl)))

-- ---- the turn of stripe r

module _ (C : Code) (n L r t S : ℕ) (stripe : List ℕ) (is : t ≡ r % n) (D : ℕ) (lost : D ≡ disks_of n t S) where
  disks_are : D ≡ disks_of n r S
  disks_are = lost ∙ ap (λ (x : ℕ). disks_of n x S) is ∙ disks-reduced n r S

  back_is : turned_back n L t stripe ≡ turned_back n L r stripe
  back_is = ap (λ (x : ℕ). turned_back n L x stripe) is ∙ back-reduced n L r stripe

  pub report-reduced : (a : Report) → a ≡ disks_report C L D (turned_back n L t stripe) → a ≡ disks_report C L (disks_of n r S) (turned_back n L r stripe)
  report-reduced a e = e ∙ ap₂ (disks_report C L) disks_are back_is

  pub stripe-reduced : (a : Report) (after : List ℕ)
      → after ≡ unless_refused a (turned n L t (restored C L D (turned_back n L t stripe) (agreeing C L D (turned_back n L t stripe)))) stripe
      → after ≡ unless_refused a (turned n L r (restored C L (disks_of n r S) (turned_back n L r stripe) (agreeing C L (disks_of n r S) (turned_back n L r stripe)))) stripe
  stripe-reduced a after e =
      e
      ∙ ap (λ (x : ℕ). unless_refused a (turned n L x (restored C L D (turned_back n L t stripe) (agreeing C L D (turned_back n L t stripe)))) stripe) is
      ∙ ap (λ (s : List ℕ). unless_refused a s stripe)
      (turned-reduced n L r (restored C L D (turned_back n L t stripe) (agreeing C L D (turned_back n L t stripe)))
      ∙ ap₂ (λ (E : ℕ) (s : List ℕ). turned n L r (restored C L E s (agreeing C L E s))) disks_are back_is)
