-- The answer and the buffer where a text is too long, and where a pen put it.
-- Assumes nothing.
use mathlib.Core.Path.{◌≡◌, ◌∙◌}
use mathlib.Core.List.{List}
use Prim.Native.Nat.{ℕ, ◌≤◌, ◌<◌}
use native.Mathlib.Nat.{zero-add}
use native.Mathlib.Omega.{arith}
use borrow.Author.Tests.{le-leb, lt-leb}
use lib.ListN.{length}
use lib.Seq.{sets-eq}
use Rattle.std.specs.Prelude.{Ok, Err}
use Rattle.text.specs.Answers.{text_answer, text_buffer}
use Rattle.text.specs.Places.{Put}

-- two buffers are one, by way of what the pen left
pub by-way : {x z : List ℕ} (y : List ℕ) → x ≡ y → y ≡ z → x ≡ z
by-way y p q = p ∙ q

module _ (t old : List ℕ) (n : ℕ) (e : n ≡ length t) where
  pub too_short : length old < n → (Err (record { needed = n }) ≡ text_answer t (length old)) × (old ≡ text_buffer t old)
  unfolding text_answer text_buffer
  too_short h = let f = lt-leb (length t) (length old) (omega arith) in (simp (f, e), simp f)

  pub long-enough : {new : List ℕ} {next : ℕ} → n ≤ length old → Put t 0 old new next → (Ok n ≡ text_answer t (length old)) × (new ≡ text_buffer t old)
  unfolding text_answer text_buffer
  long-enough {new} {next} h p =
      let f = le-leb (length t) (length old) (omega arith) in
      (simp (f, e), p.bytes ∙ sets-eq t old 0 (omega arith) ∙ simp (zero-add, f))
