-- The parity disks as the call makes them, and what it has counted and put in order, by what its calls promise of the checks, the counts and the
-- places.
-- Assumes nothing.
use mathlib.Core.Path.{◌≡◌, sym, ap, ap₂, ◌∙◌, subst}
use mathlib.Core.Bool.{not}
use mathlib.Core.Logic.{◌⊎◌, inl, inr}
use mathlib.Core.List.{List}
use Prim.Native.Nat.{ℕ, ◌+◌, ◌^◌, ◌≤◌, ◌<◌}
use native.Mathlib.Omega.{arith}
use borrow.Author.Tests.{lt-ltb, le-ltb, le-leb, lt-leb}
use lib.Dec.{leb, ltb}
use lib.ListN.{length, get_or}
use Rattle.gf2.specs.Sets.{has, first, set_of}
use Rattle.gf2.proofs.Tests.{below_or}
use Rattle.gf2.proofs.Made.{set_cong}
use Rattle.gf2.proofs.Unions.{first-has}
use Rattle.flat.specs.Cards.{Code, disks}
use Rattle.flat.specs.Equations.{equations}
use Rattle.flat.specs.Spans.{checks}
use Rattle.flat.proofs.Rows.{checks-length}
use Rattle.minimal_words.specs.Listed.{keys, Listable, listed, tally, starts}
use Rattle.minimal_marks.proofs.Passes.{tally-small}
use Rattle.minimal_lists.proofs.Filling.{starts-last}
use Rattle.card.specs.Codes.{Legal}
use Rattle.bases.proofs.Systematic.{checks_listable}
use Rattle.equations.specs.Parities.{parities}
use Rattle.equations.proofs.Enumerated.{listed-equations}

-- those below n that are not the first k
pub parities_are : (k m n S r : ℕ) → r ≡ set_of n (λ i. not (has S i)) → S ≡ first k → n ≡ k + m → r ≡ parities k m
parities_are k m n S r e f q =
    e ∙ ap₂ (λ (a T : ℕ). set_of a (λ i. not (has T i))) q f
    ∙ set_cong (k + m) (λ i. not (has (first k) i)) (leb k) (λ i l. ap not (first-has k i) ∙ other i (below_or i k))
  where
    other : (i : ℕ) → (i < k) ⊎ (k ≤ i) → not (ltb i k) ≡ leb k i
    other i (inl l) = ap not (lt-ltb i k l) ∙ sym (lt-leb k i l)
    other i (inr l) = ap not (le-ltb i k l) ∙ sym (le-leb k i l)

module _ (C : Code) (legal : Legal C) (bs : List ℕ) (is : bs ≡ checks C) where
  pub may_list : (n : ℕ) → n ≡ disks C → Listable n bs
  may_list n e = rw (e, is) (checks_listable C legal)

  pub counts_small : (set mask : ℕ) (counts : List ℕ) → counts ≡ tally bs set mask → (v : ℕ) → v < keys → get_or counts v 0 < 65536
  counts_small set mask counts e v h =
      subst (λ (l : List ℕ). get_or l v 0 < 65536) (sym e) (tally-small bs set mask v (omega (arith, ap length is, checks-length C, legal.3)) h)

  module _ (d set mask : ℕ) (below : d < disks C) (one : set ≡ 2 ^ d) (held : mask ≡ parities C.k C.m) where
    pub all_listed : listed bs set mask ≡ equations C d
    all_listed =
        ap (λ (l : List ℕ). listed l set mask) is ∙ ap₂ (λ (S T : ℕ). listed (checks C) S T) one held ∙ listed-equations C d below legal.1

    pub all_counted : (counts places : List ℕ) → counts ≡ tally bs set mask → places ≡ starts counts → get_or places keys 0 ≡ length (equations C d)
    all_counted counts places tallied e =
        ap (λ (l : List ℕ). get_or l keys 0) (e ∙ ap starts tallied) ∙ starts-last bs set mask (equations C d) all_listed
