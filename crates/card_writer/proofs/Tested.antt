-- The card writer's report at each way out of its tests.
-- Assumes nothing.
use mathlib.Core.Path.{◌≡◌, refl, sym, ap, ◌∙◌}
use mathlib.Core.Bool.{Bool, true, false, not, ◌&&◌}
use mathlib.Core.Logic.{◌≢◌}
use mathlib.Core.List.{List, [], ◌∷◌}
use Prim.Native.Nat.{ℕ, ◌+◌, ◌≤◌, ◌<◌}
use native.Mathlib.Omega.{arith}
use borrow.Author.Tests.{eq-eqb, ne_eqb}
use lib.Dec.{eqb}
use lib.ListN.{length}
use Rattle.std.specs.Prelude.{if◌then◌else◌}
use Rattle.flat.specs.declared.Edition.{Edition}
use Rattle.flat.specs.Lists.{member}
use Rattle.flat.specs.Cards.{Code, code, count_ok, first_bad, edition_length, wear_count, disks}
use Rattle.flat.specs.Faults.{Report, accepted, refused, code_report, card_write_report}
use Rattle.flat.proofs.Cards.{count_in, first_le}
use Rattle.card.proofs.Places.{length_parts}
use Rattle.card_writer.specs.Forms.{Sound}
use Rattle.card.proofs.Laws.{code_data, code-parity, code-length, code-column, code_good}

module _ (e : Edition) (k m : ℕ) (cs wears : List ℕ) where
  abbrev C : Code
  C = code k m cs

  abbrev report : ℕ → Report
  report n = card_write_report e C wears n

  counted : Bool
  counted = eqb (length cs) m && eqb (length wears) (wear_count e (disks C))

  abbrev last : ℕ → Report
  last n = if not (eqb n (edition_length e C)) then refused 7 [] else accepted []

  next : ℕ → Report
  next n = if member 0 wears then refused 23 [] else last n

  is : (n : ℕ) → code_report C counted (next n) ≡ report n
  unfolding card_write_report counted next
  is n = refl

  pub bad_data : count_ok k ≡ false → (n : ℕ) → refused 2 [] ≡ report n
  bad_data h n = code_data C counted (next n) h ∙ is n

  module _ (k_ok : count_ok k ≡ true) where
    pub bad_parity : count_ok m ≡ false → (n : ℕ) → refused 3 [] ≡ report n
    bad_parity h n = code-parity C counted (next n) k_ok h ∙ is n

    module _ (m_ok : count_ok m ≡ true) where
      pub other_columns : length cs ≢ m → (n : ℕ) → refused 4 [] ≡ report n
      unfolding counted
      other_columns h n = code-length C counted (next n) k_ok m_ok (simp (ne_eqb _ _ h)) ∙ is n

      pub few_disks : (k ≤ 16) × (m ≤ 16)
      few_disks = ((count_in _ k_ok).1, (count_in _ m_ok).1)

      module _ (many : length cs ≡ m) (w : ℕ) (worn : w ≡ wear_count e (k + m)) where
        pub other_wears : length wears ≢ w → (n : ℕ) → refused 4 [] ≡ report n
        unfolding counted disks
        other_wears h n = code-length C counted (next n) k_ok m_ok (simp (eq-eqb _ _ many, ne_eqb _ _ (λ q. h (q ∙ sym worn)))) ∙ is n

        module _ (each : length wears ≡ w) where
          all : counted ≡ true
          unfolding counted disks
          all = simp (eq-eqb _ _ many, eq-eqb _ _ (each ∙ worn))

          pub bad_column : (j : ℕ) → j ≡ first_bad k cs → j < length cs → (n : ℕ) → refused 5 (j ∷ []) ≡ report n
          bad_column j first h n = code-column C counted (next n) k_ok m_ok all j first (let z : j < m = omega arith in z) ∙ is n

          module _ (none : length cs ≡ first_bad k cs) where
            passed : (n : ℕ) → next n ≡ report n
            passed n = code_good C counted (next n) k_ok m_ok all (length cs) none (let z : m ≤ length cs = omega arith in z) ∙ is n

            pub zero_wear : true ≡ member 0 wears → (n : ℕ) → refused 23 [] ≡ report n
            unfolding next
            zero_wear h n = ap (λ (b : Bool). if b then refused 23 [] else last n) h ∙ passed n

            pub sound : false ≡ member 0 wears → Sound e C wears
            unfolding disks
            sound h = (k_ok, m_ok, many, each ∙ worn, omega arith, sym h)

-- ---- a card without a fault, and a buffer of n bytes

module _ (e : Edition) (k m : ℕ) (cs wears : List ℕ) (s : Sound e (code k m cs) wears) where
  pub counts_small : (k ≤ 16) × (m ≤ 16)
  counts_small = ((count_in _ s.0).1, (count_in _ s.1).1)

  module _ (n size : ℕ) (long : size ≡ edition_length e (code k m [])) where
    fits : size ≡ edition_length e (code k m cs)
    fits = long ∙ length_parts e k m [] ∙ sym (length_parts e k m cs)

    worn-all : last e k m cs wears n ≡ card_write_report e (code k m cs) wears n
    unfolding next disks
    worn-all =
        ap (λ (b : Bool). if b then refused 23 [] else last e k m cs wears n) (sym s.5)
        ∙ passed e k m cs wears s.0 s.1 s.2 _ refl s.3 (omega (arith, first_le k cs)) n

    pub other_buffer : n ≢ size → refused 7 [] ≡ card_write_report e (code k m cs) wears n
    other_buffer h = sym (ap (λ (b : Bool). if not b then refused 7 [] else accepted []) (ne_eqb n (edition_length e (code k m cs)) (λ q. h (q ∙ sym fits)))) ∙ worn-all

    pub all_right : n ≡ size → accepted [] ≡ card_write_report e (code k m cs) wears n
    all_right h = sym (ap (λ (b : Bool). if not b then refused 7 [] else accepted []) (eq-eqb n (edition_length e (code k m cs)) (h ∙ fits))) ∙ worn-all

    -- what the writing of the card needs
    pub may_put : n ≡ size → (k ≤ 16) × (1 ≤ m) × (m ≤ 16) × (length cs ≡ m) × (length wears ≡ wear_count e (k + m)) × (n ≡ edition_length e (code k m []))
    unfolding disks
    may_put h = ((count_in _ s.0).1, (count_in _ s.1).0, (count_in _ s.1).1, s.2, s.3, h ∙ long)
