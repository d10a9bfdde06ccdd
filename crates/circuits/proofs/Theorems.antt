-- An entry is a minimal codeword. Two codewords' XOR is one, and not 0 where they differ, so that its disks are fatal.
-- Assumes nothing.
use mathlib.Core.Path.{◌≡◌, sym, ap, subst}
use Prim.Native.Nat.{ℕ}
use native.Mathlib.Omega.{arith}
use lib.Dec.{T}
use Rattle.gf2.specs.Sets.{has, ◌⊕◌}
use Rattle.gf2.specs.Span.{Minimal}
use Rattle.gf2.proofs.Xor.{⊕_cancel}
use Rattle.gf2.proofs.Subsets.{⊆-refl, ⊆_out, ⊕-both}
use Rattle.gf2.proofs.Spans.{sum_in}
use Rattle.flat.specs.Lists.{member}
use Rattle.flat.specs.Cards.{Code, code_of}
use Rattle.flat.specs.Erasures.{erasures}
use Rattle.flat.specs.Spans.{rows}
use Rattle.flat.proofs.Editions.{accepted-card}
use Rattle.flat.proofs.Fatal.{fatal-inside, minimal_out}
use Rattle.flat.proofs.ErasuresListed.{erasures_out, fatal-listed}
use Rattle.flat.proofs.Vector.{entry-sizes}
use Rattle.demands.proofs.Demand3.{written}
use Rattle.circuits.specs.Circuits.{Circuits}
use Rattle.circuits.specs.Theorems.{ErasuresAreCircuits, EntriesAreCircuits, ThirdIsAnother}

pub erasures_are_circuits : ErasuresAreCircuits
erasures_are_circuits C =
    let minimal : (R : ℕ) → T (member R (erasures C)) → Minimal (rows C) R = λ R r. minimal_out C R (erasures_out C R r).1 in
    record {
      none_inside = λ R S r s differ inside. differ ((minimal S s).alone R (minimal R r).word (minimal R r).nonzero inside);
      none_larger = λ R r. omega (arith, entry-sizes C R r);
      third = λ R S r s differ.
          (fatal-listed C (R ⊕ S)).0
          ((fatal-inside C (R ⊕ S)).1
          (R ⊕ S, sum_in (rows C) R S (minimal R r).word (minimal S s).word, λ e. differ (⊕_cancel R S e), ⊆-refl (R ⊕ S)));
    }

pub entries_are_circuits : EntriesAreCircuits
entries_are_circuits card slice k m ok fits =
    let C = code_of card in
    let same : C.m ≡ m = ap (λ (D : Code). D.m) (accepted-card card k m ok).is in
    subst (Circuits m) (sym (written card k m ok slice fits)) (subst (λ (n : ℕ). Circuits n (erasures C)) same (erasures_are_circuits C))

pub third-is_another : ThirdIsAnother
third-is_another R S Q d r s inside =
    let other : (P : ℕ) → T (has P d) → Q ≡ P → ⊥ =
    λ P p e. ⊕-both R S d (⊆_out Q (R ⊕ S) inside d (subst (λ (x : ℕ). T (has x d)) (sym e) p)) r s in
    (other R r, other S s)
