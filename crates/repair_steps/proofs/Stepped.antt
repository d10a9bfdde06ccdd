-- One step: its bytes, and that the same contents agree before and after.
-- Assumes nothing.
use mathlib.Core.Path.{◌≡◌, refl, sym, ap, ◌∙◌, subst}
use mathlib.Core.Bool.{Bool}
use mathlib.Core.Logic.{◌⊎◌, inl, inr, ◌≢◌}
use mathlib.Core.List.{List}
use Prim.Native.Nat.{ℕ, ◌+◌, ◌*◌, ◌/◌, ◌%◌, ◌^◌, ◌<◌}
use lib.Arith.{digits_div, digits_mod}
use lib.Dec.{T, eqb}
use lib.ListN.{length, get_or}
use Rattle.std.specs.Prelude.{if◌then◌else◌}
use Rattle.gf2.specs.Sets.{has, ◌⊆◌, ◌∖◌, over}
use Rattle.gf2.proofs.Tests.{dec, eqb_in, eqb_out, if_true, if_false}
use Rattle.gf2.proofs.Bits.{has_if, bit-pow}
use Rattle.gf2.proofs.Subsets.{⊆_in, ⊆-refl, ⊆_out, ⊆_trans, ∖_in, ∖_out, power_in, power_out}
use Rattle.flat.specs.Lists.{tabulate}
use Rattle.flat.specs.Cards.{Code, disks}
use Rattle.flat.specs.Strips.{byte_of, holds}
use Rattle.flat.specs.Erasures.{survivors, fatal}
use Rattle.flat.specs.Equations.{equation}
use Rattle.flat.specs.Spans.{codeword}
use Rattle.flat.specs.Rebuilding.{agrees}
use Rattle.flat.specs.Repairs.{filled}
use Rattle.flat.proofs.Lists.{length-tabulate, tabulate_cong}
use Rattle.flat.proofs.Positions.{byte_at, given-byte}
use Rattle.flat.proofs.Fatal.{fatal_in, fatal_out}
use Rattle.flat.proofs.Duality.{told-not-held}
use Rattle.flat.proofs.CheckWords.{equation-sum}
use Rattle.flat.proofs.Told.{among_lt}
use Rattle.flat.proofs.Agreement.{agrees_in, agrees_out, agree-sum}
use Rattle.repair_steps.specs.Steps.{xored}
use Rattle.repair_steps.specs.Theorems.{XoredFilled, StepAgrees, RepairNone, RepairBoth, RepairGives}

pub xored-filled : XoredFilled
unfolding xored filled
xored-filled C L d E stripe =
    tabulate_cong (length stripe) (λ p. if eqb (p / L) d then over (disks C) E (byte_of L stripe (p % L)) else get_or stripe p 0)
    (λ p. if has (2 ^ d) (p / L) then over (disks C) E (byte_of L stripe (p % L)) else get_or stripe p 0)
    (λ p l. ap (λ (b : Bool). if b then over (disks C) E (byte_of L stripe (p % L)) else get_or stripe p 0)
    (sym (has_if (2 ^ d) (p / L) (eqb (p / L) d) (bit-pow d (p / L)))))

pub xored-long : (C : Code) (L d E : ℕ) (stripe : List ℕ) → length (xored C L d E stripe) ≡ length stripe
unfolding xored
xored-long C L d E stripe =
    length-tabulate (length stripe) (λ p. if eqb (p / L) d then over (disks C) E (byte_of L stripe (p % L)) else get_or stripe p 0)

-- ---- its bytes

module _ (C : Code) (L d E : ℕ) (stripe : List ℕ) (long : length stripe ≡ disks C * L) where
  xored-byte : (t i : ℕ) → t < L → i < disks C
      → byte_of L (xored C L d E stripe) t i ≡ (if eqb i d then over (disks C) E (byte_of L stripe t) else byte_of L stripe t i)
  unfolding xored byte_of
  xored-byte t i h l =
      let new : ℕ → ℕ = λ p. if eqb (p / L) d then over (disks C) E (byte_of L stripe (p % L)) else get_or stripe p 0 in
      ap (λ (n : ℕ). byte_of L (tabulate n new) t i) long ∙ byte_at (disks C) L new t i h l
      ∙ ap (λ (e : ℕ). if eqb e d then over (disks C) E (byte_of L stripe ((i * L + t) % L)) else get_or stripe (i * L + t) 0) (digits_div i h)
      ∙ ap (λ (u : ℕ). if eqb i d then over (disks C) E (byte_of L stripe u) else get_or stripe (i * L + t) 0) (digits_mod i h)

  pub xored-same : (t : ℕ) → t < L → d < disks C → byte_of L (xored C L d E stripe) t d ≡ over (disks C) E (byte_of L stripe t)
  xored-same t h l = xored-byte t d h l ∙ if_true (eqb d d) (over (disks C) E (byte_of L stripe t)) (byte_of L stripe t d) (eqb_in {a = d} refl)

  pub xored_other : (t i : ℕ) → t < L → i < disks C → i ≢ d → byte_of L (xored C L d E stripe) t i ≡ byte_of L stripe t i
  xored_other t i h l f =
      xored-byte t i h l ∙ if_false (eqb i d) (over (disks C) E (byte_of L stripe t)) (byte_of L stripe t i) (λ e. f (eqb_out i d e))

-- ---- a step

pub step-agrees : StepAgrees
step-agrees C L S d E stripe long l s u q =
    record {
      inside = ⊆_in (S ∖ 2 ^ d) S (λ i m. (∖_out S (2 ^ d) i m).0);
      long = xored-long C L d E stripe;
      kept = λ i t b h o. xored_other C L d E stripe long t i h b (other i o);
      same = λ content. (
        λ a. agrees_in C L (S ∖ 2 ^ d) (xored C L d E stripe) content (λ t h i b f. at content a t h i b f (dec (eqb i d))),
        λ a. agrees_in C L S stripe content
            (λ t h i b f. agrees_out C L (S ∖ 2 ^ d) (xored C L d E stripe) content a t h i b (λ m. f (∖_out S (2 ^ d) i m).0)
            ∙ xored_other C L d E stripe long t i h b (other i (inl f))),
      );
    }
  where
    other : (i : ℕ) → (T (has S i) → ⊥) ⊎ T (has (S ∖ 2 ^ d) i) → i ≢ d
    other i (inl f) e = f (subst (λ (x : ℕ). T (has S x)) (sym e) s)
    other i (inr m) e = (∖_out S (2 ^ d) i m).1 (subst (λ (x : ℕ). T (has (2 ^ d) x)) (sym e) (power_in d))

    at : (content : List ℕ) → T (agrees C L S stripe content) → (t : ℕ) → t < L → (i : ℕ) → i < disks C
        → (T (has (S ∖ 2 ^ d) i) → ⊥) → T (eqb i d) ⊎ (T (eqb i d) → ⊥)
        → holds C (byte_of L content t) i ≡ byte_of L (xored C L d E stripe) t i
    at content a t h i b f (inl e) =
        subst (λ (x : ℕ). holds C (byte_of L content t) x ≡ byte_of L (xored C L d E stripe) t x) (sym (eqb_out i d e))
        (sym (equation-sum C d l E (among_lt C S E u) q (byte_of L content t))
        ∙ agree-sum C S E (byte_of L stripe t) (byte_of L content t) (agrees_out C L S stripe content a t h) u
        ∙ sym (xored-same C L d E stripe long t h l))
    at content a t h i b f (inr g) =
        let e : i ≢ d = λ x. g (eqb_in x) in
        agrees_out C L S stripe content a t h i b (λ m. f (∖_in S (2 ^ d) i m (λ p. e (power_out d i p))))
        ∙ sym (xored_other C L d E stripe long t i h b e)

pub repair_gives : RepairGives
repair_gives C L S left stripe new content r a i t l h f =
    sym (agrees_out C L left new content ((r.same content).0 a) t h i l f) ∙ sym (given-byte C L content t i h l)

-- where the set is fatal it stays so: a codeword inside it avoids each disk that survivors tell
pub still_fatal : (C : Code) (S d E : ℕ) → d < disks C → T (E ⊆ survivors C S) → T (equation C d E) → T (fatal C S) → T (fatal C (S ∖ 2 ^ d))
still_fatal C S d E l u q t =
    let r = fatal_out C S t in
    let x = r.0 in
    fatal_in C (S ∖ 2 ^ d) x r.1 r.2
    (⊆_in (codeword C x) (S ∖ 2 ^ d)
    (λ i m. ∖_in S (2 ^ d) i (⊆_out (codeword C x) S r.3 i m)
    (λ p. told-not-held C S d l (E, u, q) (x, r.1, r.3, subst (λ (e : ℕ). T (has (codeword C x) e)) (power_out d i p) m))))

-- ---- no step, and one repair after another

pub repair-none : RepairNone
repair-none C L S stripe = record { inside = ⊆-refl S; long = refl; kept = λ i t l h o. refl; same = λ content. (λ a. a, λ a. a) }

pub repair-both : RepairBoth
repair-both C L S R Q s r q a b =
    record {
      inside = ⊆_trans Q R S b.inside a.inside;
      long = b.long ∙ a.long;
      kept = λ i t l h o. b.kept i t l h (later i o) ∙ a.kept i t l h (earlier i o);
      same = λ content. (λ x. (b.same content).0 ((a.same content).0 x), λ x. (a.same content).1 ((b.same content).1 x));
    }
  where
    later : (i : ℕ) → (T (has S i) → ⊥) ⊎ T (has Q i) → (T (has R i) → ⊥) ⊎ T (has Q i)
    later i (inl f) = inl (λ m. f (⊆_out R S a.inside i m))
    later i (inr m) = inr m

    earlier : (i : ℕ) → (T (has S i) → ⊥) ⊎ T (has Q i) → (T (has S i) → ⊥) ⊎ T (has R i)
    earlier i (inl f) = inl f
    earlier i (inr m) = inr (⊆_out Q R b.inside i m)
