-- `bridgecrumb::cards::bridgecrumb_card_write` meets its contract. Assumes nothing.
use mathlib.Core.Path.{sym, ap, ◌∙◌}
use Rattle.export_bounds.specs.Coded.{coded}
use Rattle.export_bounds.proofs.Values.{card-write_fits}
use Rattle.bridgecrumb.proofs.cards.bridgecrumb_card_write.Goals as goal

pub written_code-requires : goal.written_code-requires
written_code-requires c = rw c.write.ensures.result_value (card-write_fits _ _ _ _)

pub returns : goal.returns
returns c =
    let w = c.write in
    record { value = rw (sym c.edition.ensures) (c.written_code.ensures ∙ ap coded w.ensures.result_value); out_after = rw (sym c.edition.ensures) (w.ensures.out_after) }
