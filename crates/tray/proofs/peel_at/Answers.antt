-- `tray::peel_at` meets its contract: a part of the tray is peeled.
-- Assumes nothing.
use mathlib.Core.Path.{ap, ◌∙◌}
use mathlib.Core.List.{List}
use Prim.Native.Nat.{ℕ, ◌*◌}
use Rattle.peeling.specs.Peeling.{peeled}
use Rattle.tray.proofs.Placing.{peeled_part, peeled-placed}
use Rattle.tray.proofs.peel_at.Goals as goal

pub returns : goal.returns
returns c =
    let a = c.args in
    let C = a.code.now in
    let v = c.peel.ensures in
    let wide = ap (λ (n : ℕ). n * a.l) c.n.ensures.value in
    let e = peeled_part C a.l a.at _ a.tray.now wide in
    record {
      steps = v.steps ∙ ap (λ (p : List ℕ). (peeled C a.l a.budget a.lost p).steps) e;
      left = v.left ∙ ap (λ (p : List ℕ). (peeled C a.l a.budget a.lost p).left) e;
      tray = peeled-placed C a.l a.at _ a.tray.now wide a.budget a.lost _ c.requires.1 v.stripe;
    }
