-- On an undetermined disk two contents that agree differ: to one of them, 1 times a data word whose codeword lies inside the lost set is added.
-- Assumes nothing.
use mathlib.Core.Path.{◌≡◌, sym, ap, ap₂, ◌∙◌}
use mathlib.Core.Logic.{◌≢◌}
use mathlib.Core.List.{List}
use Prim.Native.Nat.{ℕ, ◌*◌, ◌+◌, ◌^◌, ◌<◌}
use native.Mathlib.Omega.{arith}
use lib.Dec.{T}
use Rattle.gf2.specs.Sets.{bit, has, ◌⊕◌, ◌⊆◌}
use Rattle.gf2.proofs.Bits.{bit_lt, has_out, has-not}
use Rattle.gf2.proofs.Xor.{⊕_self, ⊕-zero, ⊕-back, ⊕_lt}
use Rattle.gf2.proofs.Subsets.{⊆_out}
use Rattle.flat.specs.Cards.{Code}
use Rattle.flat.specs.Strips.{byte_of, holds, given}
use Rattle.flat.specs.Erasures.{holds_bit}
use Rattle.flat.specs.Spans.{codeword}
use Rattle.flat.specs.Rebuilding.{Agreeing}
use Rattle.flat.proofs.Words.{holds-⊕, codeword-bit}
use Rattle.flat.proofs.Duality.{disk-below}
use Rattle.flat.proofs.Undetermined.{set-held}
use Rattle.flat.proofs.Positions.{given-byte}
use Rattle.flat.proofs.Agreement.{agrees_out, tabled, tabled_holds, tabled_agrees}
use Rattle.partial_rebuilding.specs.Theorems.{UndeterminedDiffer}

module _ (C : Code) (L S : ℕ) (stripe content : List ℕ) (x : ℕ) (inside : T (codeword C x ⊆ S)) (a : Agreeing C L S stripe content) where
  values : ℕ → ℕ → ℕ
  values t d = byte_of L content t d ⊕ bit x d

  -- what each disk then holds
  held : (t i : ℕ) → holds C (values t) i ≡ holds C (byte_of L content t) i ⊕ holds_bit C x i
  unfolding values holds_bit
  held t i = holds-⊕ C (byte_of L content t) (bit x) i

  small : (t d : ℕ) → values t d < 2 ^ 8
  unfolding values byte_of
  small t d = ⊕_lt 8 (byte_of L content t d) (bit x d) (a.bytes (d * L + t)) (omega (arith, bit_lt x d))

  agrees : Agreeing C L S stripe (tabled C L values)
  agrees =
      tabled_agrees C L values S stripe small
      (λ t h i l s. held t i
      ∙ ap₂ (λ (u v : ℕ). u ⊕ v) (agrees_out C L S stripe content a.agree t h i l s)
      (sym (codeword-bit C x i l) ∙ has-not (codeword C x) i (λ m. s (⊆_out (codeword C x) S inside i m)))
      ∙ ⊕-zero (byte_of L stripe t i))

  differs : (d : ℕ) → T (has (codeword C x) d) → (t : ℕ) → t < L → byte_of L (given C L content) t d ≢ byte_of L (given C L (tabled C L values)) t d
  differs d m t h e =
      let l = disk-below C x d m in
      let v = holds C (byte_of L content t) d in
      let q : v ≡ v ⊕ 1 =
      sym (given-byte C L content t d h l) ∙ e ∙ given-byte C L (tabled C L values) t d h l ∙ tabled_holds C L values t d h ∙ held t d
      ∙ ap (λ (u : ℕ). v ⊕ u) (sym (codeword-bit C x d l) ∙ has_out (codeword C x) d m) in
      let z : ◌≡◌ {A = ℕ} 0 1 = sym (⊕_self v) ∙ ap (λ (u : ℕ). v ⊕ u) q ∙ ⊕-back v 1 in
      omega arith

pub undetermined-differ : UndeterminedDiffer
undetermined-differ C L S stripe content d a t =
    let (x, b, u, m) = set-held C S d t in
    (tabled C L (values C L S stripe content x u a), agrees C L S stripe content x u a, differs C L S stripe content x u a d m)
