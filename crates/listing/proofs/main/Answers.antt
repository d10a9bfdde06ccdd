-- `listing::main` has the whole text printed: the buffer holds what 16,000 entries can take.
-- Assumes nothing.
use mathlib.Core.Path.{◌≡◌, ap₂, ◌∙◌}
use mathlib.Core.List.{List}
use Prim.Native.Nat.{ℕ, ◌≤◌}
use native.Mathlib.Omega.{arith}
use lib.ListN.{length, replicate, length-replicate}
use Rattle.text.specs.Answers.{text_answer, text_buffer}
use Rattle.render.specs.Printed.{printed, shown_part}
use Rattle.render.specs.Theorems.{longest}
use Rattle.render.proofs.Theorems.{printed-whole}
use Rattle.listing.proofs.main.Goals as goal

-- a buffer of zeros
whole : (card : List ℕ) (n size : ℕ) → longest n ≤ size →
    shown_part (text_answer (printed card n) (length {A = ℕ} (replicate size 0))) (text_buffer (printed card n) (replicate size 0)) ≡ printed card n
whole card n size h = printed-whole card (replicate size 0) n (omega (arith, length-replicate {A = ℕ} size 0))

pub print-requires : goal.print-requires
print-requires c =
    let r = c.render-answer in
    c.shown.ensures ∙ ap₂ shown_part r.ensures.value r.ensures.out_after ∙ whole _ 16000 262144 (omega arith)
