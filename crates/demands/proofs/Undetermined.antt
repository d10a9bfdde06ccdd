-- Disk by disk, verdict call, list, equations and the two rebuild calls agree with the set of undetermined disks.
-- Assumes nothing.
use mathlib.Core.Path.{sym, subst}
use mathlib.Core.Bool.{Bool, not, ◌&&◌, ◌||◌}
use mathlib.Core.Logic.{◌↔◌}
use mathlib.Core.List.{List}
use Prim.Native.Nat.{ℕ, ◌^◌}
use lib.Dec.{T, eqb}
use lib.ListN.{length}
use Rattle.gf2.specs.Sets.{has, ◌⊆◌}
use Rattle.gf2.proofs.Tests.{and_in, and_out, unless_in, unless_out, eqb_in, eqb_out, neqb_in, neqb_out}
use Rattle.flat.specs.Lists.{some, member}
use Rattle.flat.specs.Cards.{Code, code_of, disks}
use Rattle.flat.specs.Erasures.{holds_bit, agree_outside, undetermined, undetermined_set}
use Rattle.flat.specs.Equations.{equations}
use Rattle.flat.proofs.Quantifiers.{some_in, some_out, every_in, every_out, set_in, set_out}
use Rattle.flat.proofs.Duality.{undetermined-untold}
use Rattle.flat.proofs.Undetermined.{fatal-undetermined, undetermined-lost}
use Rattle.flat.proofs.UndeterminedListed.{undetermined-listed}
use Rattle.flat.proofs.Verdicts.{verdict-is, equation-listed}
use Rattle.partial_rebuilding.proofs.Calls.{partial-right}
use Rattle.demands.specs.Undetermined.{Differing, OneSet}
use Rattle.demands.proofs.Demand3.{written, told-counted, one-verdict}

-- undetermined is what two data words say
module _ (C : Code) (S d : ℕ) where
  abbrev differs : ℕ → ℕ → Bool
  differs x y = agree_outside C S x y && not (eqb (holds_bit C x d) (holds_bit C y d))

  words_out : T (undetermined C S d) → Differing C S d
  unfolding undetermined agree_outside
  words_out t =
      let a = some_out (2 ^ C.k) (λ x. some (2 ^ C.k) (differs x)) t in
      let b = some_out (2 ^ C.k) (differs a.0) a.2 in
      let c = and_out (agree_outside C S a.0 b.0) (not (eqb (holds_bit C a.0 d) (holds_bit C b.0 d))) b.2 in
      record {
        x = a.0;
        y = b.0;
        x_word = a.1;
        y_word = b.1;
        alike = λ i l f. eqb_out (holds_bit C a.0 i) (holds_bit C b.0 i)
            (unless_out (has S i) (eqb (holds_bit C a.0 i) (holds_bit C b.0 i))
            (every_out (disks C) (λ j. has S j || eqb (holds_bit C a.0 j) (holds_bit C b.0 j)) c.0 i l) f);
        differ = neqb_out (holds_bit C a.0 d) (holds_bit C b.0 d) c.1;
      }

  words_in : Differing C S d → T (undetermined C S d)
  unfolding undetermined agree_outside
  words_in w =
      some_in (2 ^ C.k) (λ x. some (2 ^ C.k) (differs x)) (
        w.x,
        w.x_word,
        some_in (2 ^ C.k) (differs w.x) (
          w.y,
          w.y_word,
          and_in (agree_outside C S w.x w.y) (not (eqb (holds_bit C w.x d) (holds_bit C w.y d)))
              (every_in (disks C) (λ i. has S i || eqb (holds_bit C w.x i) (holds_bit C w.y i))
              (λ i l. unless_in (has S i) (eqb (holds_bit C w.x i) (holds_bit C w.y i)) (λ f. eqb_in (w.alike i l f))))
              (neqb_in w.differ),
        ),
      )

pub one_set : OneSet
unfolding undetermined_set
one_set card k m S L stripe slice slices ok set len whole fits fit =
    let C = code_of card in
    let f = fatal-undetermined C S in
    let r = (one-verdict card k m S L stripe ok set len whole slice slices fits fit).rebuilder in
    record {
      verdict = verdict-is card k m ok S set;
      lost = undetermined-lost C S;
      words = λ d l. (
        λ t. words_out C S d (set_out (disks C) (undetermined C S) d t).1,
        λ w. set_in (disks C) (undetermined C S) d l (words_in C S d w),
      );
      not_empty = f;
      rebuilder = (λ e. f.0 (r.1 e), λ u. r.0 (f.1 u));
      entry = λ d. subst (λ (l : List ℕ). T (has (undetermined_set C S) d) ↔ ((R : ℕ) × T (member R l) × T (R ⊆ S) × T (has R d)))
          (sym (written card k m ok slice fits)) (undetermined-listed C d S);
      untold = λ d l s.
          let q = equation-listed card (slices d) S d k m (length (equations C d)) ok (told-counted card k m ok d l (slices d) (fit d l)) in
          let u = undetermined-untold C S d l s in (
            λ t x. u.0 (set_out (disks C) (undetermined C S) d t).1 (q.1 x),
            λ x. set_in (disks C) (undetermined C S) d l (u.1 (λ y. x (q.0 y))),
          );
      partial = λ content a. ((partial-right card k m S L stripe ok set len whole).some content a).answer;
    }
