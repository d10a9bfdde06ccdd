-- Some content agrees with the survivors exactly where the check words among them vanish.
-- Assumes nothing.
use mathlib.Core.Path.{◌≡◌, sym, ap, ◌∙◌}
use mathlib.Core.Logic.{inl, inr, ◌≢◌, ⊎_elim}
use mathlib.Core.List.{List, [], ◌∷◌}
use Prim.Native.Nat.{ℕ, ◌+◌, ◌*◌, ◌%◌, ◌^◌, ◌<◌}
use native.Mathlib.Nat.{mod-lt, mod-eq_of_lt}
use lib.Dec.{T, eqb}
use Rattle.gf2.specs.Sets.{◌⊕◌, over}
use Rattle.gf2.specs.Span.{InSpan}
use Rattle.gf2.specs.Within.{within}
use Rattle.gf2.proofs.Tests.{and_in, and_out, eqb_in, eqb_out}
use Rattle.gf2.proofs.Xor.{zero-⊕}
use Rattle.gf2.proofs.Sums.{over-⊕, over_none}
use Rattle.gf2.proofs.Spans.{first_in}
use Rattle.gf2.proofs.Elimination.{within-spans}
use Rattle.flat.specs.Lists.{Bytes}
use Rattle.flat.specs.Cards.{Code, disks}
use Rattle.flat.specs.Strips.{byte_of}
use Rattle.flat.specs.Erasures.{survivors}
use Rattle.flat.specs.Spans.{checks}
use Rattle.flat.specs.Rebuilding.{Agreeing, agreeing}
use Rattle.flat.specs.Repairs.{vanishes, all_vanish, consistent}
use Rattle.flat.specs.Rebuilt.{ConsistentAgrees}
use Rattle.flat.proofs.Quantifiers.{every_in, every_out}
use Rattle.flat.proofs.Rows.{word_sum}
use Rattle.flat.proofs.Agreement.{Agree, agrees_out, agree-sum, some-agreeing, first-agreeing, agreeing_cases, tabled, tabled_agrees}
use Rattle.flat.proofs.Solving.{Vanishing, solved}

-- ---- each of some sets vanishes, and so each word of their span

module _ (n L : ℕ) (stripe : List ℕ) where
  vanishes_out : (E : ℕ) → T (vanishes n L stripe E) → (t : ℕ) → t < L → over n E (byte_of L stripe t) ≡ 0
  unfolding vanishes
  vanishes_out E v t h = eqb_out (over n E (byte_of L stripe t)) 0 (every_out L (λ u. eqb (over n E (byte_of L stripe u)) 0) v t h)

  vanishes_in : (E : ℕ) → ((t : ℕ) → t < L → over n E (byte_of L stripe t) ≡ 0) → T (vanishes n L stripe E)
  unfolding vanishes
  vanishes_in E h = every_in L (λ u. eqb (over n E (byte_of L stripe u)) 0) (λ t l. eqb_in (h t l))

  all_out : (Es : List ℕ) → T (all_vanish n L stripe Es) → (t : ℕ) → t < L → (E : ℕ) → InSpan Es E → over n E (byte_of L stripe t) ≡ 0
  unfolding all_vanish
  all_out [] v t h E s = ap (λ (x : ℕ). over n x (byte_of L stripe t)) s ∙ over_none n (byte_of L stripe t)
  all_out (F ∷ Es) v t h E (inl s) = all_out Es (and_out (vanishes n L stripe F) (all_vanish n L stripe Es) v).1 t h E s
  all_out (F ∷ Es) v t h E (inr s) =
      let f = byte_of L stripe t in
      let a = and_out (vanishes n L stripe F) (all_vanish n L stripe Es) v in
      sym (zero-⊕ (over n E f)) ∙ ap (λ (x : ℕ). x ⊕ over n E f) (sym (vanishes_out F a.0 t h)) ∙ sym (over-⊕ n F E f)
      ∙ all_out Es a.1 t h (F ⊕ E) s

  all_in : (Es : List ℕ) → ((t : ℕ) → t < L → (E : ℕ) → InSpan Es E → over n E (byte_of L stripe t) ≡ 0) → T (all_vanish n L stripe Es)
  unfolding all_vanish
  all_in [] h = tt
  all_in (F ∷ Es) h =
      and_in (vanishes n L stripe F) (all_vanish n L stripe Es) (vanishes_in F (λ t l. h t l F (first_in F Es))) (all_in Es (λ t l E s. h t l E (inl s)))

module _ (C : Code) (L S : ℕ) (stripe : List ℕ) where
  pub consistent_out : T (consistent C L S stripe) → (t : ℕ) → t < L → Vanishing C S (byte_of L stripe t)
  unfolding consistent
  consistent_out v t h E s u =
      all_out (disks C) L stripe (within (survivors C S) (checks C)) v t h E ((within-spans (survivors C S) (checks C) E).1 (s, u))

  pub consistent_in : ((t : ℕ) → t < L → Vanishing C S (byte_of L stripe t)) → T (consistent C L S stripe)
  unfolding consistent
  consistent_in v =
      all_in (disks C) L stripe (within (survivors C S) (checks C))
      (λ t h E s. let w = (within-spans (survivors C S) (checks C) E).0 s in v t h E w.0 w.1)

-- ---- where a content agrees, they vanish

pub agree_vanishing : (C : Code) (S : ℕ) (f v : ℕ → ℕ) → Agree C S f v → Vanishing C S f
agree_vanishing C S f v a E s t = sym (agree-sum C S E f v a t) ∙ word_sum C E s v

-- ---- where they vanish, a content agrees

module _ (C : Code) (L S : ℕ) (stripe : List ℕ) (z : 0 < L) (bytes : Bytes stripe) (ok : T (consistent C L S stripe)) where
  byte_lt : (t i : ℕ) → byte_of L stripe t i < 2 ^ 8
  unfolding byte_of
  byte_lt t i = bytes (i * L + t)

  -- the data of place t; t % L is t
  found : (t : ℕ) → (v : ℕ → ℕ) × ((d : ℕ) → v d < 2 ^ 8) × Agree C S (byte_of L stripe (t % L)) v
  found t = solved C S (byte_of L stripe (t % L)) (byte_lt (t % L)) (consistent_out C L S stripe ok (t % L) (mod-lt t z))

  abbrev content : List ℕ
  content = tabled C L (λ t. (found t).0)

  content-agrees : Agreeing C L S stripe content
  content-agrees =
      tabled_agrees C L (λ t. (found t).0) S stripe (λ t. (found t).1)
      (λ t h i l s. (found t).2 i l s ∙ ap (λ (u : ℕ). byte_of L stripe u i) (mod-eq_of_lt h))

-- this direction needs no bytes and no length
pub agreeing-consistent : (C : Code) (L S : ℕ) (stripe : List ℕ) → agreeing C L S stripe ≢ [] → T (consistent C L S stripe)
agreeing-consistent C L S stripe some =
    ⊎_elim (λ e. absurd (some e))
    (λ (c, cs, e). let a = first-agreeing C L S stripe c cs e in
    consistent_in C L S stripe (λ t h. agree_vanishing C S (byte_of L stripe t) (byte_of L c t) (agrees_out C L S stripe c a.agree t h)))
    (agreeing_cases C L S stripe)

pub consistent-agrees : ConsistentAgrees
consistent-agrees C L S stripe z bytes = (
  λ ok. some-agreeing C L S stripe (content C L S stripe z bytes ok) (content-agrees C L S stripe z bytes ok),
  agreeing-consistent C L S stripe,
)
