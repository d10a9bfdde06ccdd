-- A test of each number below a bound, as `all` makes it, and the test of an entry.
-- Assumes nothing.
use mathlib.Core.Path.{◌≡◌, sym, ◌∙◌, subst}
use mathlib.Core.Bool.{Bool, true, false}
use mathlib.Core.List.{List}
use Prim.Native.Nat.{ℕ, suc, ◌+◌, ◌*◌, ◌<◌}
use native.Mathlib.Omega.{arith}
use lib.ListN.{length, get_or, take, drop}
use Rattle.std.specs.Bool.{MatchBool}
use Rattle.std.specs.List.{AllWithin, HoldsAt, range_with_len}
use Rattle.std.proofs.lemmas.List.FromFn.{length-range_with_len, get_or-range_with_len}
use Rattle.gf2.proofs.Tests.{T_true, true-T, T_false, false-T}
use Rattle.flat.specs.Lists.{every, same}
use Rattle.record_format.specs.Records.{entry_in, strip_entry}
use Rattle.flat.proofs.Quantifiers.{every_in, every_out}

-- ---- tests

module _ (n : ℕ) (p : ℕ → Bool) where
  at-place : (P : Bool → Type 0) (k : ℕ) → k < n → P (p (get_or (range_with_len 0 n) k 0)) → P (p k)
  at-place P k l h = let e : get_or (range_with_len 0 n) k 0 ≡ k = omega (arith, get_or-range_with_len 0 n k 0 l) in subst (λ (x : ℕ). P (p x)) e h

  -- what `all` tells of the numbers below n
  pub every-all : (r : Bool)
      → MatchBool r (AllWithin (λ i. p i ≡ true) (range_with_len 0 n) 0 (length (range_with_len 0 n)))
      ((k : ℕ) × (k < length (range_with_len 0 n)) × HoldsAt (λ i. p i ≡ false) (range_with_len 0 n) k)
      → r ≡ every n p
  every-all true h =
      sym (T_true (every_in n p (λ k l. true-T (at-place (λ b. b ≡ true) k l (h k 0 (omega arith) (omega (arith, length-range_with_len 0 n)))))))
  every-all false h =
      let l : h.0 < n = omega (arith, h.1, length-range_with_len 0 n) in
      sym (T_false (λ t. false-T (at-place (λ b. b ≡ false) h.0 l (h.2 0)) (every_out n p t h.0 l)))

-- ---- entries

-- whether disk i has the entry that is written for it
abbrev pub entry_stands : List ℕ → ℕ → ℕ → ℕ → ℕ → Bool
entry_stands file start L S i = same (entry_in file (suc i)) (strip_entry start L S i)

pub entry-stands : (file wanted : List ℕ) (start L S i : ℕ) (b : Bool) → length wanted ≡ 10 → wanted ≡ strip_entry start L S i
    → b ≡ same (take (length wanted) (drop (20 + 10 * i) file)) wanted → entry_stands file start L S i ≡ b
unfolding entry_in
entry-stands file wanted start L S i b n e q =
    let at : 10 + 10 * suc i ≡ 20 + 10 * i = omega arith in
    sym (q ∙ rw (n, e, sym at))
