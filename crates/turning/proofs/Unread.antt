-- The turned rebuild reads no lost slot: the stripes turned back have the same survivors.
-- Assumes nothing.
use mathlib.Core.Path.{◌≡◌, sym, ap, ap₂, ◌∙◌, subst}
use mathlib.Core.List.{List, []}
use Prim.Native.Nat.{ℕ, ◌<◌}
use lib.Dec.{T}
use lib.ListN.{length}
use Rattle.std.specs.Prelude.{if◌then◌else◌}
use Rattle.gf2.specs.Sets.{has}
use Rattle.flat.specs.Cards.{Code, Card, code_of, disks}
use Rattle.flat.specs.Strips.{byte_of}
use Rattle.flat.specs.Erasures.{fatal}
use Rattle.flat.specs.Faults.{Report, refused, stripe_tests, survivors_report, disks_report, rebuild_report, rebuild_stripe}
use Rattle.flat.proofs.Reports.{unless_number, with_cong}
use Rattle.flat.proofs.Rebuilds.{SameLeft, agreeing-alike, lost-bytes_unread}
use Rattle.turning.specs.Turning.{slot, disk_in, turned, turned_back, disks_of}
use Rattle.turning.specs.Faults.{turned_tests, turned_report, turned_stripe}
use Rattle.turning.specs.Theorems.{LostSlotsUnread}
use Rattle.turning.proofs.Slots.{slot_lt, disk_lt}
use Rattle.turning.proofs.Turned.{turned-byte, back-byte, length_back}
use Rattle.turning.proofs.Sets.{has-disks, disk-of}
use Rattle.turning.proofs.Calls.{rebuilt-number}

-- two stripes with the same bytes in slots that are not lost
module _ (C : Code) (L r S : ℕ) (stripe other : List ℕ) (same : SameLeft C L S stripe other) where
  abbrev n : ℕ
  n = disks C

  same_back : SameLeft C L (disks_of n r S) (turned_back n L r stripe) (turned_back n L r other)
  same_back i t l f h =
      back-byte n L r stripe t i h l
      ∙ same (slot n r i) t (slot_lt n r i l) (λ u. f (subst T (sym (has-disks n r S i l)) u)) h
      ∙ sym (back-byte n L r other t i h l)

  same-disks-report : disks_report C L (disks_of n r S) (turned_back n L r stripe) ≡ disks_report C L (disks_of n r S) (turned_back n L r other)
  unfolding disks_report
  same-disks-report =
      ap (λ (found : List (List ℕ)). if fatal C (disks_of n r S) then refused 11 [] else survivors_report (disks_of n r S) found)
      (agreeing-alike C L (disks_of n r S) (turned_back n L r stripe) (turned_back n L r other) same_back)

pub lost_slots_unread : LostSlotsUnread
unfolding turned_report turned_tests turned_stripe
lost_slots_unread card L r S stripe other e same = (report, slots)
  where
    C : Code
    C = code_of card

    n : ℕ
    n = disks C

    D : ℕ
    D = disks_of n r S

    report : turned_report card L r S stripe ≡ turned_report card L r S other
    report =
        with_cong card (λ A. turned_tests A L r S stripe) (λ A. turned_tests A L r S other)
        (ap₂ (λ (m : ℕ) (next : Report). stripe_tests C L S m next) e (same-disks-report C L r S stripe other same))

    slots : (turned_report card L r S stripe).number ≡ 0 → (s t : ℕ) → s < n → T (has S s) → t < L
        → byte_of L (turned_stripe card L r S stripe) t s ≡ byte_of L (turned_stripe card L r S other) t s
    slots z s t l u h =
        let d = disk_in n r s in
        let q = sym (ap (λ (x : Report). x.number) report) ∙ z in
        ap (λ (x : List ℕ). byte_of L x t s) (unless_number (turned_report card L r S stripe) (turned n L r (rebuild_stripe card L D (turned_back n L r stripe))) stripe z)
        ∙ turned-byte n L r (rebuild_stripe card L D (turned_back n L r stripe)) t s h l
        ∙ (lost-bytes_unread card L D (turned_back n L r stripe) (turned_back n L r other) (length_back n L r stripe ∙ sym (length_back n L r other))
        (same_back C L r S stripe other same)).1 (rebuilt-number card L r S stripe z) d t (disk_lt n r s l) (subst T (sym (disk-of n r S s l)) u) h
        ∙ sym (ap (λ (x : List ℕ). byte_of L x t s) (unless_number (turned_report card L r S other) (turned n L r (rebuild_stripe card L D (turned_back n L r other))) other q)
        ∙ turned-byte n L r (rebuild_stripe card L D (turned_back n L r other)) t s h l)
