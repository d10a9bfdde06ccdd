-- `bridgecrumb::records::bridgecrumb_record_body` meets its contract: the place is written where the strip is there. Assumes nothing.
use mathlib.Core.Path.{◌≡◌, ap, ◌∙◌}
use native.Mathlib.Omega.{arith}
use Rattle.record_format.specs.Faults.{body_report}
use Rattle.export_bounds.specs.Coded.{coded}
use Rattle.export_bounds.proofs.RecordValues.{body_fits}
use Rattle.bridgecrumb.proofs.Arrays.{refused_kept, place_taken}
use Rattle.bridgecrumb.proofs.records.bridgecrumb_record_body.Goals as goal

pub returns-then-code-ne0-clause-place_after : goal.returns-then-code-ne0-clause-place_after
returns-then-code-ne0-clause-place_after c =
    let told : c.there_code-code.result ≡ coded (body_report c.args.file.now c.args.disk) = c.there_code-code.ensures ∙ ap coded c.body_place-found.ensures.value in
    refused_kept _ (body_fits _ _) _ told _ _ (λ z. c.if-code-ne0.true (omega (arith, z)))

pub returns-clause-place_after : goal.returns-clause-place_after
returns-clause-place_after c =
    let told : c.there_code-code.result ≡ coded (body_report c.args.file.now c.args.disk) = c.there_code-code.ensures ∙ ap coded c.body_place-found.ensures.value in
    place_taken _ (body_fits _ _) _ told _ _ _ (omega (arith, c.if-code-ne0.false)) _ _ c.unwrap_or-at.ensures c.body_place-found.ensures.value c.body_place-found.ensures.place
