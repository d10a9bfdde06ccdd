-- Repairs and the rebuilder: a stripe with nothing lost is what its content gives.
-- Assumes nothing.
use mathlib.Core.Path.{◌≡◌, sym, ap, ◌∙◌, subst}
use mathlib.Core.Logic.{⊎_elim}
use mathlib.Core.List.{List, ◌∷◌}
use Prim.Native.Nat.{ℕ, ◌*◌, ◌/◌, ◌%◌, ◌<◌}
use lib.Dec.{T}
use lib.ListN.{length, get_or}
use lib.Seq.{ext_get_or}
use Rattle.std.specs.Prelude.{if◌then◌else◌}
use Rattle.gf2.specs.Sets.{has}
use Rattle.gf2.proofs.Tests.{dec, T-ext}
use Rattle.gf2.proofs.Bits.{no_disk}
use Rattle.flat.specs.Cards.{Code, disks}
use Rattle.flat.specs.Strips.{byte_of, holds, given}
use Rattle.flat.specs.Rebuilding.{agrees, contents, agreeing, restored}
use Rattle.flat.proofs.Lists.{length-tabulate}
use Rattle.flat.proofs.Positions.{places, at_place, given-byte}
use Rattle.flat.proofs.Contents.{filter_cong}
use Rattle.flat.proofs.Agreement.{agrees_in, agrees_out, agreeing_cases, first-agreeing}
use Rattle.flat.proofs.Rebuilds.{restored-lost, restored-kept}
use Rattle.repair_steps.specs.Steps.{Repairs}
use Rattle.repair_steps.specs.Theorems.{RepairThenRebuild}

module _ (C : Code) (L : ℕ) where
  given-length : (c : List ℕ) → length (given C L c) ≡ disks C * L
  unfolding given
  given-length c = length-tabulate (disks C * L) (λ p. holds C (byte_of L c (p % L)) (p / L))

  -- nothing is lost
  all-given : (new c : List ℕ) → length new ≡ disks C * L → T (agrees C L 0 new c) → new ≡ given C L c
  all-given new c e a =
      ext_get_or 0 new (given C L c) (e ∙ sym (given-length c))
      (λ p m. let h = places (disks C) L p (subst (λ (x : ℕ). p < x) e m) in
      at_place L new p ∙ sym (agrees_out C L 0 new c a (p % L) h.1 (p / L) h.0 (no_disk (p / L)))
      ∙ sym (given-byte C L c (p % L) (p / L) h.1 h.0) ∙ sym (at_place L (given C L c) p))

  -- the rebuilder's stripe is the whole stripe that the content gives
  restored-length : (S : ℕ) (stripe c : List ℕ) (cs : List (List ℕ)) → length (restored C L S stripe (c ∷ cs)) ≡ disks C * L
  unfolding restored
  restored-length S stripe c cs = length-tabulate (disks C * L) (λ p. if has S (p / L) then get_or (given C L c) p 0 else get_or stripe p 0)

  pub restored-given : (S : ℕ) (stripe c : List ℕ) (cs : List (List ℕ)) → T (agrees C L S stripe c) → restored C L S stripe (c ∷ cs) ≡ given C L c
  restored-given S stripe c cs a =
      all-given (restored C L S stripe (c ∷ cs)) c (restored-length S stripe c cs)
      (agrees_in C L 0 (restored C L S stripe (c ∷ cs)) c
      (λ t h i l f. ⊎_elim (λ s. sym (given-byte C L c t i h l) ∙ sym (restored-lost C L S stripe c cs t i h l s))
      (λ s. agrees_out C L S stripe c a t h i l s ∙ sym (restored-kept C L S stripe c cs t i h l s)) (dec (has S i))))

-- ---- so a repair, rebuilt, is the stripe rebuilt

agreeing-same : (C : Code) (L S left : ℕ) (stripe new : List ℕ) → Repairs C L S stripe left new → agreeing C L left new ≡ agreeing C L S stripe
unfolding agreeing
agreeing-same C L S left stripe new r =
    filter_cong (agrees C L left new) (agrees C L S stripe) (contents (C.k * L)) (λ c. T-ext (r.same c).1 (r.same c).0)

pub repair_then_rebuild : RepairThenRebuild
repair_then_rebuild C L S left stripe new r some =
    ap (restored C L left new) (agreeing-same C L S left stripe new r)
    ∙ ⊎_elim (λ q. absurd (some q))
    (λ (c, cs, q). let a = (first-agreeing C L S stripe c cs q).agree in
    ap (restored C L left new) q ∙ restored-given C L left new c cs ((r.same c).0 a) ∙ sym (restored-given C L S stripe c cs a)
    ∙ ap (restored C L S stripe) (sym q))
    (agreeing_cases C L S stripe)
