-- What a caller makes of the answers: where the sets have n bits, rotated words are the slots of words, and rotated equations the slots of equations.
-- Assumes nothing.
use mathlib.Core.Path.{◌≡◌, refl, sym, ap, ap₂, ◌∙◌}
use mathlib.Core.Bool.{◌&&◌}
use mathlib.Core.Logic.{inl}
use mathlib.Core.List.{List, [], ◌∷◌, map}
use Prim.Native.Nat.{ℕ, ◌-◌, ◌^◌, ◌≤◌, ◌<◌}
use native.Mathlib.Nat.{lt_of_lt_of_le, lt_of_le_of_lt}
use lib.Dec.{T, ltb}
use lib.ListN.{get_or}
use Rattle.std.specs.Prelude.{if◌then◌else◌}
use Rattle.gf2.specs.Sets.{has}
use Rattle.gf2.specs.Span.{InSpan}
use Rattle.gf2.specs.Within.{within}
use Rattle.gf2.proofs.Tests.{and_in, if_true, ltb_in}
use Rattle.gf2.proofs.Spans.{first_in}
use Rattle.gf2.proofs.Subsets.{⊆_le}
use Rattle.gf2.proofs.Elimination.{within-spans}
use Rattle.flat.specs.Lists.{tabulate}
use Rattle.flat.proofs.Lists.{get_d_tabulate}
use Rattle.turning.specs.Turning.{disk_in}
use Rattle.turning.specs.Slots.{rotated, slots_of}
use Rattle.turning.proofs.Sets.{slots_rotated}

-- ---- words

words-turned : (n t : ℕ) (ws : List ℕ) → t < n → ((w : ℕ) → InSpan ws w → w < 2 ^ n) → map (rotated n (n - t)) ws ≡ map (slots_of n t) ws
words-turned n t [] l h = refl
words-turned n t (b ∷ bs) l h =
    ap₂ (λ (x : ℕ) (xs : List ℕ). x ∷ xs) (sym (slots_rotated n t b l (h b (first_in b bs)))) (words-turned n t bs l (λ w i. h w (inl i)))

-- those that `within` leaves lie inside its set
pub within-turned : (n t S : ℕ) (bs words : List ℕ) → t < n → S < 2 ^ n → words ≡ map (rotated n (n - t)) (within S bs)
    → words ≡ map (slots_of n t) (within S bs)
within-turned n t S bs words l h e =
    e ∙ words-turned n t (within S bs) l (λ w i. lt_of_le_of_lt (⊆_le w S ((within-spans S bs w).0 i).1) h)

-- ---- equations

pub equation-turned : (n t targets : ℕ) (E : ℕ → ℕ) (table : List ℕ) → t < n → n ≤ 32
    → table ≡ tabulate 32 (λ s. if ltb s n && has targets s then rotated n (n - t) (E (disk_in n t s)) else 0)
    → (s : ℕ) → s < n → T (has targets s) → E (disk_in n t s) < 2 ^ n → get_or table s 0 ≡ slots_of n t (E (disk_in n t s))
equation-turned n t targets E table l few e s m u h =
    ap (λ (r : List ℕ). get_or r s 0) e
    ∙ get_d_tabulate 32 (λ i. if ltb i n && has targets i then rotated n (n - t) (E (disk_in n t i)) else 0) s (lt_of_lt_of_le m few)
    ∙ if_true (ltb s n && has targets s) (rotated n (n - t) (E (disk_in n t s))) 0 (and_in (ltb s n) (has targets s) (ltb_in m) u)
    ∙ sym (slots_rotated n t (E (disk_in n t s)) l h)
