-- The stripe of a tray that begins at a place: taken out, peeled, and put back.
-- Assumes nothing.
use mathlib.Core.Path.{◌≡◌, sym, ap, ◌∙◌}
use mathlib.Core.List.{List, ◌++◌, append_assoc}
use Prim.Native.Nat.{ℕ, ◌+◌, ◌-◌, ◌*◌, ◌≤◌}
use native.Mathlib.Omega.{arith}
use lib.ListN.{length, take, drop, length-drop}
use lib.Seq.{drop-drop, length-take-le}
use Rattle.flat.specs.Lists.{put}
use Rattle.flat.specs.Cards.{Code, disks}
use Rattle.peeling.specs.Peeling.{peeled}
use Rattle.peeling.proofs.Peels.{peeling_repairs}

module _ (at w : ℕ) (s : List ℕ) where
  part_is : take (at + w - at) (drop at s) ≡ take w (drop at s)
  part_is = ap (λ (n : ℕ). take n (drop at s)) (let e : at + w - at ≡ w = omega arith in e)

  placed : (new : List ℕ) → length new ≡ w → take at s ++ (new ++ drop (at + w - at) (drop at s)) ≡ put s at new
  unfolding put
  placed new e =
      sym (append_assoc (take at s) new (drop (at + w - at) (drop at s)))
      ∙ ap (λ (l : List ℕ). take at s ++ new ++ l)
      (drop-drop (at + w - at) at s ∙ ap (λ (n : ℕ). drop n s) (let z : at + (at + w - at) ≡ at + length new = omega arith in z))

-- what the part became, of the whole
module _ (C : Code) (L at w : ℕ) (s : List ℕ) (wide : w ≡ disks C * L) where
  pub peeled_part : take (at + w - at) (drop at s) ≡ take (disks C * L) (drop at s)
  peeled_part = part_is at w s ∙ ap (λ (x : ℕ). take x (drop at s)) wide

  pub peeled-placed : (budget S : ℕ) (new : List ℕ) → at + disks C * L ≤ length s
      → new ≡ (peeled C L budget S (take (at + w - at) (drop at s))).stripe
      → take at s ++ (new ++ drop (at + w - at) (drop at s)) ≡ put s at (peeled C L budget S (take (disks C * L) (drop at s))).stripe
  peeled-placed budget S new l e =
      let p = take (disks C * L) (drop at s) in
      let is : new ≡ (peeled C L budget S p).stripe = e ∙ ap (λ (x : List ℕ). (peeled C L budget S x).stripe) peeled_part in
      let n : length p ≡ disks C * L = length-take-le (disks C * L) (drop at s) (omega (arith, length-drop at s)) in
      placed at w s new (ap length is ∙ (peeling_repairs C L budget S p n).long ∙ n ∙ sym wide) ∙ ap (put s at) is
