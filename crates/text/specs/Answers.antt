-- What is answered for a text and a lent buffer, and what the buffer then holds.
-- Assumes nothing.
use Rattle.std.specs.Prelude.{List, ◌++◌, ℕ, Result, Ok, Err, leb, length, drop, if◌then◌else◌}
use Rattle.text.specs.declared.TooShort.{TooShort}

-- the answer for text t and a buffer of n bytes
unfoldable pub text_answer : List ℕ → ℕ → Result ℕ TooShort
text_answer t n = if leb (length t) n then Ok (length t) else Err (record { needed = length t })

-- a text that fits replaces the first bytes; one that does not leaves the buffer as it was
unfoldable pub text_buffer : List ℕ → List ℕ → List ℕ
text_buffer t old = if leb (length t) (length old) then t ++ drop (length t) old else old
