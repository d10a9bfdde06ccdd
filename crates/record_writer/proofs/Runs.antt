-- The runs of bytes f 0, .., f (i - 1), put in order by a loop.
-- Assumes nothing.
use mathlib.Core.Path.{◌≡◌, refl, sym, ap, ◌∙◌}
use mathlib.Core.List.{List}
use Prim.Native.Nat.{ℕ, ◌+◌, ◌≤◌}
use native.Mathlib.Numerals.{add-one}
use native.Mathlib.Omega.{arith}
use lib.ListN.{length}
use Rattle.flat.specs.Lists.{range, each}
use Rattle.record_format.proofs.Standing.{each_last}
use Rattle.record_format.proofs.Entries.{length-strip-entry}
use Rattle.record_format.proofs.Places.{length-entries, strip-room, body_grows}
use Rattle.flat.specs.Lists.{put}
use Rattle.flat.proofs.Lists.{put-none, length-put, put_next}

pub record Laid (f : ℕ → List ℕ) (s₀ : List ℕ) (at i : ℕ) (s : List ℕ) : Type 0 where
  pub so_far : s ≡ put s₀ at (each f (range 0 i))
  pub long : length s ≡ length s₀

pub laid_none : (f : ℕ → List ℕ) (s : List ℕ) (at : ℕ) → Laid f s at 0 s
unfolding each range
laid_none f s at = record { so_far = sym (put-none s at); long = refl }

-- the next run goes to b, right after those before it
pub laid_more : (f : ℕ → List ℕ) (s₀ s next new : List ℕ) (at i b : ℕ) → Laid f s₀ at i s → next ≡ put s b new → new ≡ f i
    → b ≡ at + length (each f (range 0 i)) → b + length (f i) ≤ length s₀ → Laid f s₀ at (i + 1) next
laid_more f s₀ s next new at i b r q w e h =
    let p : next ≡ put s b (f i) = q ∙ ap (put s b) w in
    record {
      so_far =
          p ∙ ap (λ (x : List ℕ). put x b (f i)) r.so_far ∙ put_next s₀ at b (each f (range 0 i)) (f i) e (omega arith)
          ∙ ap (put s₀ at) (sym (each_last f i) ∙ ap (λ (n : ℕ). each f (range 0 n)) (sym (add-one i)));
      long = ap length p ∙ length-put s b (f i) (omega (arith, r.long)) ∙ r.long;
    }

pub laid-all : (f : ℕ → List ℕ) (s₀ s : List ℕ) (at i n : ℕ) → Laid f s₀ at i s → i ≡ n → s ≡ put s₀ at (each f (range 0 n))
laid-all f s₀ s at i n r e = r.so_far ∙ ap (λ (m : ℕ). put s₀ at (each f (range 0 m))) e

-- ---- what the proofs of the loops cite

pub ruleset entries_laws = (laid_none, laid_more, laid-all, length-entries, length-strip-entry)

pub ruleset bodies_laws = (laid_none, laid-all, strip-room, body_grows)
