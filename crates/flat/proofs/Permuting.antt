-- Sums over the numbers below n, taken in another order: any sum whose terms may change places, and with it counts and XORs.
-- Assumes nothing.
use mathlib.Core.Path.{◌≡◌, refl, sym, ap, ap₂, ◌∙◌}
use mathlib.Core.Bool.{Bool}
use mathlib.Core.Logic.{◌⊎◌, inl, inr, ◌≢◌, ⊎_elim}
use Prim.Native.Nat.{ℕ, zero, suc, ◌+◌, ◌<◌}
use native.Mathlib.Nat.{add_comm, add_assoc}
use native.Mathlib.Omega.{arith}
use lib.Dec.{eqb}
use Rattle.std.specs.Prelude.{if◌then◌else◌}
use Rattle.gf2.specs.Sets.{has, ◌⊕◌, over}
use Rattle.gf2.proofs.Tests.{dec, eqb_in, eqb_out, if_true, if_false, below_suc}
use Rattle.gf2.proofs.Xor.{⊕_comm, ⊕_assoc}
use Rattle.flat.specs.Lists.{Permutes, count}
use Rattle.flat.proofs.Quantifiers.{find, Some}
use Rattle.flat.proofs.Counts.{count_none, count-one}

-- ---- two places exchanged

pub swapped : ℕ → ℕ → ℕ → ℕ
swapped p q i = if eqb i p then q else (if eqb i q then p else i)

module _ (p q : ℕ) where
  swap-first : swapped p q p ≡ q
  unfolding swapped
  swap-first = if_true (eqb p p) q (if eqb p q then p else p) (eqb_in {a = p} refl)

  pub swap_second : swapped p q q ≡ p
  unfolding swapped
  swap_second =
      ⊎_elim (λ t. if_true (eqb q p) q (if eqb q q then p else q) t ∙ eqb_out q p t)
      (λ f. if_false (eqb q p) q (if eqb q q then p else q) f ∙ if_true (eqb q q) p q (eqb_in {a = q} refl)) (dec (eqb q p))

  swap_other : (i : ℕ) → i ≢ p → i ≢ q → swapped p q i ≡ i
  unfolding swapped
  swap_other i f g =
      if_false (eqb i p) q (if eqb i q then p else i) (λ t. f (eqb_out i p t)) ∙ if_false (eqb i q) p i (λ t. g (eqb_out i q t))

  -- a number is one of the two, or stays
  swap_cases : (i : ℕ) → ((i ≡ p) ⊎ (i ≡ q)) ⊎ (swapped p q i ≡ i)
  swap_cases i =
      ⊎_elim (λ t. inl (inl (eqb_out i p t)))
      (λ f. ⊎_elim (λ t. inl (inr (eqb_out i q t))) (λ g. inr (swap_other i (λ e. f (eqb_in e)) (λ e. g (eqb_in e)))) (dec (eqb i q))) (dec (eqb i p))

  swap-back : (i : ℕ) → swapped p q (swapped p q i) ≡ i
  swap-back i = go (swap_cases i)
    where
      go : ((i ≡ p) ⊎ (i ≡ q)) ⊎ (swapped p q i ≡ i) → swapped p q (swapped p q i) ≡ i
      go (inl (inl e)) = ap (λ (x : ℕ). swapped p q (swapped p q x)) e ∙ ap (swapped p q) swap-first ∙ swap_second ∙ sym e
      go (inl (inr e)) = ap (λ (x : ℕ). swapped p q (swapped p q x)) e ∙ ap (swapped p q) swap_second ∙ swap-first ∙ sym e
      go (inr e) = ap (swapped p q) e ∙ e

  pub swap-distinct : (i j : ℕ) → swapped p q i ≡ swapped p q j → i ≡ j
  swap-distinct i j e = sym (swap-back i) ∙ ap (swapped p q) e ∙ swap-back j

  pub swap-below : (n i : ℕ) → p < n → q < n → i < n → swapped p q i < n
  swap-below n i l m h = go (swap_cases i)
    where
      go : ((i ≡ p) ⊎ (i ≡ q)) ⊎ (swapped p q i ≡ i) → swapped p q i < n
      go (inl (inl e)) = omega (arith, ap (swapped p q) e ∙ swap-first)
      go (inl (inr e)) = omega (arith, ap (swapped p q) e ∙ swap_second)
      go (inr e) = omega arith

-- ---- terms f 0, .., f (n - 1) added up by any operation, in any order

module _ {A : Type 0} (op : A → A → A) (e : A) (comm : (x y : A) → op x y ≡ op y x) (assoc : (x y z : A) → op (op x y) z ≡ op x (op y z)) where
  abbrev folded : ℕ → (ℕ → A) → A
  folded zero f = e
  folded (suc n) f = op (folded n f) (f n)

  folded_cong : (n : ℕ) (f g : ℕ → A) → ((i : ℕ) → i < n → f i ≡ g i) → folded n f ≡ folded n g
  folded_cong zero f g h = refl
  folded_cong (suc n) f g h = ap₂ op (folded_cong n f g (λ i l. h i (omega arith))) (h n (omega arith))

  exchange : (a b c : A) → op (op a b) c ≡ op (op a c) b
  exchange a b c = assoc a b c ∙ ap (op a) (comm b c) ∙ sym (assoc a c b)

  -- terms that differ at one place
  folded_but : (n q : ℕ) (f g : ℕ → A) → q < n → ((i : ℕ) → i < n → i ≢ q → g i ≡ f i) → op (folded n g) (f q) ≡ op (folded n f) (g q)
  folded_but zero q f g l h = absurd (omega arith)
  folded_but (suc n) q f g l h = ⊎_elim (before (folded_but n q f g)) last (below_suc q n l)
    where
      before : (q < n → ((i : ℕ) → i < n → i ≢ q → g i ≡ f i) → op (folded n g) (f q) ≡ op (folded n f) (g q)) → q < n
          → op (op (folded n g) (g n)) (f q) ≡ op (op (folded n f) (f n)) (g q)
      before rest m =
          ap (λ (x : A). op (op (folded n g) x) (f q)) (h n (omega arith) (λ k. omega arith))
          ∙ exchange (folded n g) (f n) (f q) ∙ ap (λ (x : A). op x (f n)) (rest m (λ i s. h i (omega arith))) ∙ exchange (folded n f) (g q) (f n)

      last : q ≡ n → op (op (folded n g) (g n)) (f q) ≡ op (op (folded n f) (f n)) (g q)
      last k =
          ap₂ (λ (x : A) (j : ℕ). op (op x (g n)) (f j))
          (folded_cong n g f (λ i s. h i (omega arith) (λ r. omega arith))) k
          ∙ exchange (folded n f) (g n) (f n) ∙ ap (λ (j : ℕ). op (op (folded n f) (f n)) (g j)) (sym k)

  -- the last place, exchanged with another
  folded_swapped : (n q : ℕ) (f : ℕ → A) → q < suc n → folded (suc n) (λ i. f (swapped q n i)) ≡ folded (suc n) f
  folded_swapped n q f l =
      ap (λ (x : A). op (folded n (λ i. f (swapped q n i))) x) (ap f (swap_second q n)) ∙ ⊎_elim early late (below_suc q n l)
    where
      same : (i : ℕ) → i < n → i ≢ q → f (swapped q n i) ≡ f i
      same i m h = ap f (swap_other q n i h (λ k. omega arith))

      early : q < n → op (folded n (λ i. f (swapped q n i))) (f q) ≡ op (folded n f) (f n)
      early m = folded_but n q f (λ i. f (swapped q n i)) m same ∙ ap (λ (j : ℕ). op (folded n f) (f j)) (swap-first q n)

      late : q ≡ n → op (folded n (λ i. f (swapped q n i))) (f q) ≡ op (folded n f) (f n)
      late k =
          ap₂ (λ (x : A) (j : ℕ). op x (f j))
          (folded_cong n (λ i. f (swapped q n i)) f (λ i m. same i m (λ h. omega arith))) k

  folded_permuted : (n : ℕ) (π : ℕ → ℕ) → Permutes n π → (f : ℕ → A) → folded n (λ i. f (π i)) ≡ folded n f
  folded_permuted zero π h f = refl
  folded_permuted (suc n) π h f =
      folded_cong (suc n) (λ i. f (π i)) (λ i. g (ρ i)) (λ i l. ap f (sym (swap-back q n (π i))))
      ∙ ap₂ op (folded_permuted n ρ rest g) (ap g (swap-first q n)) ∙ folded_swapped n q f (h.below n (omega arith))
    where
      q : ℕ
      q = π n

      -- n goes to n once π n and n are exchanged, and the others permute
      ρ : ℕ → ℕ
      ρ i = swapped q n (π i)

      g : ℕ → A
      g i = f (swapped q n i)

      rest : Permutes n ρ
      rest = record {
        below = λ i l. ⊎_elim (λ m. m)
            (λ k. absurd (omega (arith, h.distinct i n (omega arith) (omega arith) (swap-distinct q n (π i) q (k ∙ sym (swap-first q n))))))
            (below_suc (ρ i) n (swap-below q n (suc n) (π i) (h.below n (omega arith)) (omega arith) (h.below i (omega arith))));
        distinct = λ i j l m k. h.distinct i j (omega arith) (omega arith) (swap-distinct q n (π i) (π j) k);
      }

-- ---- counts

count_fold : (n : ℕ) (p : ℕ → Bool) → count n p ≡ folded ◌+◌ 0 add_comm add_assoc n (λ i. if p i then 1 else 0)
unfolding count
count_fold zero p = refl
count_fold (suc n) p = ap (λ (x : ℕ). x + (if p n then 1 else 0)) (count_fold n p)

pub count_permuted : (n : ℕ) (π : ℕ → ℕ) → Permutes n π → (p : ℕ → Bool) → count n (λ i. p (π i)) ≡ count n p
count_permuted n π h p =
    count_fold n (λ i. p (π i)) ∙ folded_permuted ◌+◌ 0 add_comm add_assoc n π h (λ i. if p i then 1 else 0) ∙ sym (count_fold n p)

pub count_swapped : (n q : ℕ) (p : ℕ → Bool) → q < suc n → count (suc n) (λ i. p (swapped q n i)) ≡ count (suc n) p
count_swapped n q p l =
    count_fold (suc n) (λ i. p (swapped q n i)) ∙ folded_swapped ◌+◌ 0 add_comm add_assoc n q (λ i. if p i then 1 else 0) l ∙ sym (count_fold (suc n) p)

-- each place is taken
pub taken : (n : ℕ) (π : ℕ → ℕ) → Permutes n π → (j : ℕ) → j < n → Some n (λ i. π i ≡ j)
taken n π h j l =
    ⊎_elim (λ (i, m, t). (i, m, eqb_out (π i) j t))
    (λ f. absurd (omega (arith, count_none n (λ i. eqb (π i) j) f, count_permuted n π h (λ i. eqb i j), count-one n j l)))
    (find n (λ i. eqb (π i) j))

-- ---- XORs over sets

over_fold : (n S : ℕ) (f : ℕ → ℕ) → over n S f ≡ folded ◌⊕◌ 0 ⊕_comm ⊕_assoc n (λ i. if has S i then f i else 0)
unfolding over
over_fold zero S f = refl
over_fold (suc n) S f = ap (λ (x : ℕ). x ⊕ (if has S n then f n else 0)) (over_fold n S f)

-- over the set R of the places π i of the disks i of S
pub over_permuted : (n : ℕ) (π : ℕ → ℕ) → Permutes n π → (R S : ℕ) (f : ℕ → ℕ) → ((i : ℕ) → i < n → has R (π i) ≡ has S i)
    → over n R f ≡ over n S (λ i. f (π i))
over_permuted n π h R S f e =
    over_fold n R f ∙ sym (folded_permuted ◌⊕◌ 0 ⊕_comm ⊕_assoc n π h (λ i. if has R i then f i else 0))
    ∙ folded_cong ◌⊕◌ 0 ⊕_comm ⊕_assoc n (λ i. if has R (π i) then f (π i) else 0) (λ i. if has S i then f (π i) else 0)
    (λ i l. ap (λ (b : Bool). if b then f (π i) else 0) (e i l))
    ∙ sym (over_fold n S (λ i. f (π i)))
