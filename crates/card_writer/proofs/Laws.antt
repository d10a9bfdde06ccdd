-- The buffer after each of the card writer's answers.
-- Assumes nothing.
use mathlib.Core.Path.{◌≡◌, sym}
use mathlib.Core.List.{List, []}
use Prim.Native.Nat.{ℕ}
use lib.ListN.{length}
use Rattle.flat.specs.declared.Edition.{Edition}
use Rattle.flat.specs.Cards.{Code, edition_bytes}
use Rattle.flat.specs.Faults.{accepted, refused, card_write_report, card_write_buffer}
use Rattle.flat.proofs.Reports.{unless_accepted, unless_refused_lem}
use Rattle.card.specs.declared.CardFault.{CardFault}
use Rattle.card.specs.Reports.{fault_report}
use Rattle.card.proofs.Laws.{unless_fault}

module _ (e : Edition) (C : Code) (wears buffer : List ℕ) where
  pub buffer_refused : (f : CardFault) → fault_report f ≡ card_write_report e C wears (length buffer) → buffer ≡ card_write_buffer e C wears buffer
  unfolding card_write_buffer
  buffer_refused f r = sym (unless_fault f (card_write_report e C wears (length buffer)) (edition_bytes e C wears) buffer r)

  pub buffer_other : refused 7 [] ≡ card_write_report e C wears (length buffer) → buffer ≡ card_write_buffer e C wears buffer
  unfolding card_write_buffer
  buffer_other r = sym (unless_refused_lem (card_write_report e C wears (length buffer)) 6 [] (edition_bytes e C wears) buffer (sym r))

  pub buffer_written : accepted [] ≡ card_write_report e C wears (length buffer) → edition_bytes e C wears ≡ card_write_buffer e C wears buffer
  unfolding card_write_buffer
  buffer_written r = sym (unless_accepted (card_write_report e C wears (length buffer)) [] (edition_bytes e C wears) buffer (sym r))
