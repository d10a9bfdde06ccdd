-- One pass over the checks finds the step of the rule.
-- Assumes nothing.
use mathlib.Core.Path.{◌≡◌, refl, sym, ap, ◌∙◌, subst}
use mathlib.Core.Bool.{Bool, true, false, ◌||◌}
use mathlib.Core.Logic.{◌⊎◌, inl, inr, ⊎_elim, ◌≢◌, ◌↔◌}
use mathlib.Core.List.{List}
use Prim.Native.Nat.{ℕ, zero, suc, ◌^◌, ◌≤◌, ◌<◌}
use native.Mathlib.Nat.{not-suc-le-zero}
use native.Mathlib.Omega.{arith}
use lib.Dec.{T, eqb, ltb}
use lib.ListN.{get_or}
use lib.Pow.{pow-lt, pow_pos}
use Rattle.std.specs.Prelude.{if◌then◌else◌}
use Rattle.gf2.specs.Sets.{size, ◌∩◌}
use Rattle.gf2.specs.Within.{lowest}
use Rattle.gf2.proofs.Tests.{and_in, and_out, unless_in, unless_out, eqb_in, eqb_out, ltb_in, ltb_out, below_suc, below_or}
use Rattle.gf2.proofs.Subsets.{power_same, power_less}
use Rattle.gf2.proofs.Sizes.{size_power, size-one}
use Rattle.flat.specs.Cards.{Code}
use Rattle.flat.specs.Checks.{check}
use Rattle.peeling.specs.Peeling.{lone, can_step, next_disk, next_check}
use Rattle.peeling.proofs.Rules.{step_rule}
use Rattle.peeler.specs.Forms.{Found, better, found, NextFound}

-- ---- what was found in the first n checks

None : Code → ℕ → ℕ → Found → Type 0
None C S n r = (r.set ≡ 0) × ((d j : ℕ) → j < n → T (lone C S d j) → ⊥)

record Best (C : Code) (S n : ℕ) (r : Found) : Type 0 where
  disk : ℕ
  by : ℕ
  set : r.set ≡ 2 ^ disk
  word : r.word ≡ check C by
  early : by < n
  only : T (lone C S disk by)
  least : (d j : ℕ) → j < n → T (lone C S d j) → disk ≤ d
  first : (j : ℕ) → j < n → T (lone C S disk j) → by ≤ j

pub better_in : (c w : ℕ) → size c ≡ 1 → (w ≢ 0 → c < w) → T (better c w)
unfolding better
better_in c w e f =
    and_in (eqb (size c) 1) (eqb w 0 || ltb c w) (eqb_in e) (unless_in (eqb w 0) (ltb c w) (λ g. ltb_in (f (λ z. g (eqb_in z)))))

pub better_out : (c w : ℕ) → T (better c w) → (size c ≡ 1) × (w ≢ 0 → c < w)
unfolding better
better_out c w t =
    let p = and_out (eqb (size c) 1) (eqb w 0 || ltb c w) t in
    (eqb_out (size c) 1 p.0, λ f. ltb_out c w (unless_out (eqb w 0) (ltb c w) p.1 (λ z. f (eqb_out w 0 z))))

-- ---- one check more, w

module _ (C : Code) (S n w : ℕ) (is : w ≡ check C n) where
  c : ℕ
  c = w ∩ S

  lone_is : (d : ℕ) → T (lone C S d n) → c ≡ 2 ^ d
  unfolding lone c
  lone_is d t = ap (λ (x : ℕ). x ∩ S) is ∙ eqb_out (check C n ∩ S) (2 ^ d) t

  is-lone : (d : ℕ) → c ≡ 2 ^ d → T (lone C S d n)
  unfolding lone c
  is-lone d e = eqb_in (ap (λ (x : ℕ). x ∩ S) (sym is) ∙ e)

  -- it is better
  newer : (r : Found) → T (better c r.set) → None C S n r ⊎ Best C S n r → Best C S (suc n) (record { set = c; word = w })
  unfolding None
  newer r t inv =
      record {
        disk = e;
        by = n;
        set = q;
        word = is;
        early = omega arith;
        only = is-lone e q;
        least = λ d j l u. go d j u (below_suc j n l) inv;
        first = λ j l u. late j u (below_suc j n l) inv;
      }
    where
      e : ℕ
      e = lowest c

      q : c ≡ 2 ^ e
      q = size-one c (better_out c r.set t).0

      lower : (b : Best C S n r) → e < b.disk
      lower b =
          power_less e b.disk
          (let h = (better_out c r.set t).1 (λ z. let p = pow_pos b.disk in let o = b.set in absurd (omega arith)) in
          let o = b.set in let v = q in omega arith)

      go : (d j : ℕ) → T (lone C S d j) → (j < n) ⊎ (j ≡ n) → None C S n r ⊎ Best C S n r → e ≤ d
      go d j u (inl l) (inl v) = absurd (v.1 d j l u)
      go d j u (inl l) (inr b) = let h = lower b in let k = b.least d j l u in omega arith
      go d j u (inr z) v =
          let k = power_same e d (sym q ∙ lone_is d (subst (λ (i : ℕ). T (lone C S d i)) z u)) in omega arith

      late : (j : ℕ) → T (lone C S e j) → (j < n) ⊎ (j ≡ n) → None C S n r ⊎ Best C S n r → n ≤ j
      late j u (inl l) (inl v) = absurd (v.1 e j l u)
      late j u (inl l) (inr b) = let h = lower b in let k = b.least e j l u in absurd (omega arith)
      late j u (inr z) v = omega arith

  -- it is no better
  older : (r : Found) → (T (better c r.set) → ⊥) → None C S n r ⊎ Best C S n r → None C S (suc n) r ⊎ Best C S (suc n) r
  unfolding None
  older r f (inl v) = inl (v.0, λ d j l u. go d j u (below_suc j n l))
    where
      go : (d j : ℕ) → T (lone C S d j) → (j < n) ⊎ (j ≡ n) → ⊥
      go d j u (inl l) = v.1 d j l u
      go d j u (inr z) =
          let q = lone_is d (subst (λ (i : ℕ). T (lone C S d i)) z u) in
          f (better_in c r.set (ap size q ∙ size_power d) (λ o. absurd (o v.0)))
  older r f (inr b) =
      inr
      (record {
        disk = b.disk;
        by = b.by;
        set = b.set;
        word = b.word;
        early = let h = b.early in omega arith;
        only = b.only;
        least = λ d j l u. go d j u (below_suc j n l);
        first = λ j l u. ⊎_elim (λ h. b.first j h u) (λ z. let h = b.early in omega arith) (below_suc j n l);
      })
    where
      go : (d j : ℕ) → T (lone C S d j) → (j < n) ⊎ (j ≡ n) → b.disk ≤ d
      go d j u (inl l) = b.least d j l u
      go d j u (inr z) =
          let q = lone_is d (subst (λ (i : ℕ). T (lone C S d i)) z u) in
          ⊎_elim
          (λ l. absurd (f (better_in c r.set (ap size q ∙ size_power d)
          (λ o. subst (λ (x : ℕ). c < x) (sym b.set) (subst (λ (x : ℕ). x < 2 ^ b.disk) (sym q) (pow-lt l))))))
          (λ l. l) (below_or d b.disk)

-- ---- all of them

found_best : (C : Code) (S : ℕ) (ws : List ℕ) (n : ℕ) → ((j : ℕ) → j < n → get_or ws j 0 ≡ check C j)
    → None C S n (found ws S n) ⊎ Best C S n (found ws S n)
unfolding found None c
found_best C S ws zero is = inl (refl, λ d j l u. not-suc-le-zero l)
found_best C S ws (suc n) is =
    go (better (get_or ws n 0 ∩ S) (found ws S n).set) (λ t. t) (λ t. t) (found_best C S ws n (λ j l. is j (omega arith)))
  where
    r : Found
    r = found ws S n

    new : Found
    new = record { set = get_or ws n 0 ∩ S; word = get_or ws n 0 }

    go : (b : Bool) → (T b → T (better (get_or ws n 0 ∩ S) r.set)) → (T (better (get_or ws n 0 ∩ S) r.set) → T b)
        → None C S n r ⊎ Best C S n r
        → None C S (suc n) (if b then new else r) ⊎ Best C S (suc n) (if b then new else r)
    go true f g inv = inr (newer C S n (get_or ws n 0) (is n (omega arith)) r (f tt) inv)
    go false f g inv = older C S n (get_or ws n 0) (is n (omega arith)) r g inv

pub next-found : NextFound
unfolding None
next-found C S ws is = go (found_best C S ws C.m is)
  where
    r : Found
    r = found ws S C.m

    go : None C S C.m r ⊎ Best C S C.m r
        → (T (can_step C S) ↔ (r.set ≢ 0)) × (T (can_step C S) → (r.set ≡ 2 ^ next_disk C S) × (r.word ≡ check C (next_check C S)))
    go (inl v) =
        let none : T (can_step C S) → ⊥ = λ t. let p = (step_rule C S).0.0 t in v.1 p.0 p.1 p.2 p.3 in
        ((λ t. absurd (none t), λ f. absurd (f v.0)), λ t. absurd (none t))
    go (inr b) = (
      (
        λ t z. let p = pow_pos b.disk in let o = b.set in omega arith,
        λ f. (step_rule C S).0.1 (b.disk, b.by, b.early, b.only),
      ),
      λ t. let p = (step_rule C S).1 t in
          let d = next_disk C S in
          let j = next_check C S in
          let e : b.disk ≡ d = let x = b.least d j p.0 p.1 in let y = p.2 b.disk b.by b.early b.only in omega arith in
          let x = b.first j p.0 (subst (λ (i : ℕ). T (lone C S i j)) (sym e) p.1) in
          let y = p.3 b.by (subst (λ (i : ℕ). T (lone C S i b.by)) e b.only) in
          (b.set ∙ ap (λ (i : ℕ). 2 ^ i) e, b.word ∙ ap (check C) (let z : b.by ≡ j = omega arith in z)),
    )
