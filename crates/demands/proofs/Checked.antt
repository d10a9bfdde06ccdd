-- With nothing lost, a content agrees with the whole stripe: it is the stripe's own data strips, and the stripe is their encoding.
-- Assumes nothing.
use mathlib.Core.Path.{◌≡◌, refl, sym, ap, ◌∙◌}
use mathlib.Core.Logic.{⊎_elim}
use mathlib.Core.List.{List, [], ◌∷◌}
use Prim.Native.Nat.{ℕ, ◌*◌, ◌/◌, ◌%◌, ◌≤◌, ◌<◌}
use native.Mathlib.Nat.{add-mul}
use native.Mathlib.Omega.{arith}
use lib.Dec.{T}
use lib.ListN.{length, get_or, take}
use lib.Pow.{pow_pos}
use lib.Seq.{ext_get_or, length-take-le}
use Rattle.std.specs.Prelude.{if◌then◌else◌}
use Rattle.gf2.specs.Sets.{has, size}
use Rattle.gf2.proofs.Tests.{if_false, ltb_in}
use Rattle.gf2.proofs.Bits.{no_disk}
use Rattle.gf2.proofs.Subsets.{⊆-zero}
use Rattle.flat.specs.Lists.{Bytes}
use Rattle.flat.specs.Cards.{Code, Card, code_of, disks, set_ok}
use Rattle.flat.specs.Strips.{length_ok, byte_of, given, encoded}
use Rattle.flat.specs.Erasures.{fatal}
use Rattle.flat.specs.Rebuilding.{Agreeing, restored, agreeing}
use Rattle.flat.specs.Faults.{Report, accepted, refused, card_report, rebuild_report, rebuild_stripe}
use Rattle.flat.specs.Spans.{codeword}
use Rattle.flat.proofs.Reports.{unless_either}
use Rattle.flat.proofs.Lists.{length-tabulate, get_d_tabulate, bytes_part}
use Rattle.flat.proofs.Words.{holds_data, holds_cong, codeword-nonzero}
use Rattle.flat.proofs.Fatal.{fatal_out}
use Rattle.flat.proofs.Positions.{places, at_place, byte-take, given-byte}
use Rattle.flat.proofs.Agreement.{Agree, agrees_in, agrees_out}
use Rattle.demands.specs.Demand3.{RightRebuild}
use Rattle.demands.specs.Checked.{NothingLost}
use Rattle.demands.proofs.Demand3.{right-rebuild}

-- the loss of nothing is not fatal
none-fatal : (C : Code) → T (fatal C 0) → ⊥
none-fatal C t =
    let r = fatal_out C 0 t in
    codeword-nonzero C r.0 r.1 r.2 (⊆-zero (codeword C r.0) r.3)

module _ (card : Card) (L : ℕ) (stripe : List ℕ) (whole : length stripe ≡ disks (code_of card) * L) where
  abbrev C : Code
  C = code_of card

  abbrev own : List ℕ
  own = take (C.k * L) stripe

  room : C.k * L ≤ length stripe
  unfolding disks
  room = omega (arith, whole, add-mul C.k C.m L)

  long : length (given C L own) ≡ disks C * L
  unfolding given
  long = length-tabulate (disks C * L) _

  data_disk : (d : ℕ) → d < C.k → d < disks C
  unfolding disks
  data_disk d k = omega arith

  -- a content that agrees gives the data strips, and so the whole
  agreed_whole : (content : List ℕ) → Agreeing C L 0 stripe content → encoded C L stripe ≡ stripe
  unfolding encoded
  agreed_whole content a =
      ext_get_or 0 (given C L own) stripe (long ∙ sym whole)
      (λ p l. let q = places (disks C) L p (omega (arith, long)) in
      let agree : Agree C 0 (byte_of L stripe (p % L)) (byte_of L content (p % L)) = agrees_out C L 0 stripe content a.agree (p % L) q.1 in
      at_place L (given C L own) p ∙ given-byte C L own (p % L) (p / L) q.1 q.0
      ∙ holds_cong C (byte_of L own (p % L)) (byte_of L content (p % L)) (p / L)
      (λ d k. byte-take C.k L stripe (p % L) d q.1 k ∙ sym (agree d (data_disk d k) (no_disk d)) ∙ holds_data C (byte_of L content (p % L)) d k)
      ∙ agree (p / L) q.0 (no_disk (p / L)) ∙ sym (at_place L stripe p))

  -- and the stripe's own data strips agree where it is their encoding
  own-agrees : Bytes stripe → encoded C L stripe ≡ stripe → Agreeing C L 0 stripe own
  unfolding encoded
  own-agrees b e = record {
    strips = length-take-le (C.k * L) stripe room;
    bytes = bytes_part 0 (C.k * L) stripe b;
    agree = agrees_in C L 0 stripe own (λ t h i l f. sym (given-byte C L own t i h l) ∙ ap (λ (s : List ℕ). byte_of L s t i) e);
  }

differ : accepted (0 ∷ []) ≡ refused 12 [] → ⊥
differ e = let z : ◌≡◌ {A = ℕ} 0 12 = ap (λ (r : Report). r.number) e in omega arith

module _ (card : Card) (k m L : ℕ) (stripe : List ℕ) (ok : card_report card ≡ accepted (k ∷ m ∷ [])) (len : T (length_ok L))
    (whole : length stripe ≡ disks (code_of card) * L) where
  rebuild : RightRebuild card 0 L stripe
  unfolding set_ok
  rebuild = right-rebuild card k m 0 L stripe ok (ltb_in (pow_pos (disks (code_of card)))) len whole (none-fatal (code_of card))

  -- what it leaves in the stripe
  same : (contents : List (List ℕ)) → restored (code_of card) L 0 stripe contents ≡ stripe
  unfolding restored
  same [] = refl
  same (content ∷ others) =
      let n = disks (code_of card) * L in
      ext_get_or 0 _ stripe (length-tabulate n _ ∙ sym whole)
      (λ p l. get_d_tabulate n _ p (omega (arith, length-tabulate n (λ q. if has 0 (q / L) then get_or (given (code_of card) L content) q 0 else get_or stripe q 0)))
      ∙ if_false (has 0 (p / L)) (get_or (given (code_of card) L content) p 0) (get_or stripe p 0) (no_disk (p / L)))

  kept : rebuild_stripe card L 0 stripe ≡ stripe
  unfolding rebuild_stripe
  kept = unless_either (λ (s : List ℕ). s ≡ stripe) (rebuild_report card L 0 stripe) _ stripe (same (agreeing (code_of card) L 0 stripe)) refl

pub nothing_lost : NothingLost
unfolding size
nothing_lost card k m L stripe ok len whole b =
    let r = rebuild card k m L stripe ok len whole in (
      (
        λ e. ⊎_elim (λ n. absurd (differ (sym e ∙ n))) (λ (content, a). agreed_whole card L stripe whole content a) r.decided,
        λ e. (r.some (own card L stripe whole) (own-agrees card L stripe whole b e)).answer,
      ),
      kept card k m L stripe ok len whole,
    )
