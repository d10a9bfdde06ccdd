-- `text::listing` meets its contract: a text that is longer than the buffer is not put, any other is.
-- Assumes nothing.
use native.Mathlib.Omega.{arith}
use borrow.Author.Rules.{rules}
use Rattle.text.proofs.Answers.{too_short, long-enough, by-way}
use Rattle.text.proofs.listing.Goals as goal

pub returns-then-out-needed : goal.returns-then-out-needed
returns-then-out-needed c =
    record {
      value = (too_short _ _ _ c.listing_length-needed.ensures (omega arith)).0;
      out_after = (too_short _ _ _ c.listing_length-needed.ensures (omega arith)).1;
    }

pub returns : goal.returns
returns c =
    record {
      value = (long-enough _ _ _ c.listing_length-needed.ensures (omega arith) c.put_listing.ensures.put).0;
      out_after = by-way c.put_listing.new.self.out.now (search rules) (long-enough _ _ _ c.listing_length-needed.ensures (omega arith) c.put_listing.ensures.put).1;
    }
