-- `text::refused` meets its contract: a text that is longer than the buffer is not put, any other is.
-- Assumes nothing.
use native.Mathlib.Omega.{arith}
use borrow.Author.Rules.{rules}
use Rattle.text.specs.Text.{refused_text}
use Rattle.text.proofs.Answers.{too_short, long-enough, by-way}
use Rattle.text.proofs.refused.Goals as goal

pub returns-then-out-length : goal.returns-then-out-length
unfolding refused_text
returns-then-out-length c =
    record {
      value = (too_short _ _ _ c.line_length-length.ensures.value (omega arith)).0;
      out_after = (too_short _ _ _ c.line_length-length.ensures.value (omega arith)).1;
    }

pub returns : goal.returns
unfolding refused_text
returns c =
    record {
      value = (long-enough _ _ _ c.line_length-length.ensures.value (omega arith) c.put_line.ensures.put).0;
      out_after = by-way c.put_line.new.self.out.now (search rules) (long-enough _ _ _ c.line_length-length.ensures.value (omega arith) c.put_line.ensures.put).1;
    }
