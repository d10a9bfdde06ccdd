-- The first of the least key in a filtered list: where it stands, and what the others have.
-- Assumes nothing.
use mathlib.Core.Path.{◌≡◌, refl, sym, ap, ◌∙◌, subst}
use mathlib.Core.Bool.{Bool}
use mathlib.Core.Logic.{◌⊎◌, inl, inr, ⊎_elim}
use mathlib.Core.List.{List, [], ◌∷◌}
use Prim.Native.Nat.{ℕ, zero, suc, ◌≤◌, ◌<◌}
use native.Mathlib.Omega.{arith}
use lib.Dec.{T, leb}
use lib.ListN.{length, get_or}
use Rattle.std.specs.Prelude.{if◌then◌else◌}
use Rattle.gf2.proofs.Tests.{dec, leb_in, leb_out, below_or, if_true, if_false}
use Rattle.flat.specs.Lists.{filter}
use Rattle.flat.specs.Faults.{Report, accepted, refused}
use Rattle.flat.proofs.Members.{In, in_head, in_tail, in_cons, in_nil, filter_in}
use Rattle.flat.proofs.Filters.{filter-yes, filter-not}
use Rattle.wear.specs.Wear.{first_least, least_report}

-- r is one of which p holds, at a place; each earlier one has a larger key, and none a smaller
pub record First (key : ℕ → ℕ) (p : ℕ → Bool) (xs : List ℕ) (r : ℕ) : Type 0 where
  pub place : ℕ
  pub stands : place < length xs
  pub is : get_or xs place 0 ≡ r
  pub passes : T (p r)
  pub earlier : (i : ℕ) → i < place → T (p (get_or xs i 0)) → key r < key (get_or xs i 0)
  pub all : (x : ℕ) → In x xs → T (p x) → key r ≤ key x

pub value-is : (r s : ℕ) → accepted (r ∷ []) ≡ accepted (s ∷ []) → r ≡ s
value-is r s e = ap (λ (x : Report). get_or x.values 0 0) e

module _ (key : ℕ → ℕ) where
  pub least_cases : (ys : List ℕ) → (ys ≡ []) ⊎ ((r : ℕ) × (least_report key ys ≡ accepted (r ∷ [])))
  unfolding least_report
  least_cases [] = inl refl
  least_cases (y ∷ ys) = inr (first_least key y ys, refl)

  pub least-none : (ys : List ℕ) → least_report key ys ≡ refused 11 [] → ys ≡ []
  unfolding least_report
  least-none [] e = refl
  least-none (y ∷ ys) e = absurd (let z : ◌≡◌ {A = ℕ} 0 11 = ap (λ (x : Report). x.number) e in omega arith)

  pub least-nil : least_report key [] ≡ refused 11 []
  unfolding least_report
  least-nil = refl

  -- ---- one more in front

  abbrev chosen : ℕ → ℕ → ℕ
  chosen x s = if leb (key x) (key s) then x else s

  -- it is taken where its key is no larger than the other's
  choose : (P : ℕ → Type 0) (x s : ℕ) → (key x ≤ key s → P x) → (key s < key x → P s) → P (chosen x s)
  choose P x s f g =
      ⊎_elim (λ t. subst P (sym (if_true (leb (key x) (key s)) x s t)) (f (leb_out (key x) (key s) t)))
      (λ n. subst P (sym (if_false (leb (key x) (key s)) x s n)) (g (⊎_elim (λ k. k) (λ k. absurd (n (leb_in k))) (below_or (key s) (key x)))))
      (dec (leb (key x) (key s)))

  first_in : (x : ℕ) (ys : List ℕ) → In (first_least key x ys) (x ∷ ys)
  unfolding first_least
  first_in x [] = in_head [] refl
  first_in x (y ∷ ys) =
      let s = first_least key y ys in
      let t = first_in y ys in
      choose (λ (r : ℕ). In r (x ∷ y ∷ ys)) x s (λ l. in_head (y ∷ ys) refl) (λ l. in_tail s x (y ∷ ys) t)

  -- where no later one has a smaller key, the first is taken
  pub first-least : (x : ℕ) (ys : List ℕ) → ((y : ℕ) → In y ys → key x ≤ key y) → least_report key (x ∷ ys) ≡ accepted (x ∷ [])
  unfolding least_report first_least
  first-least x [] h = refl
  first-least x (y ∷ ys) h =
      let s = first_least key y ys in
      let l = h s (first_in y ys) in
      choose (λ (r : ℕ). accepted (r ∷ []) ≡ accepted (x ∷ [])) x s (λ m. refl) (λ m. absurd (omega arith))

  -- ---- in a filtered list

  module _ (p : ℕ → Bool) where
    skipped : (x r : ℕ) (xs : List ℕ) → (T (p x) → key r < key x) → First key p xs r → First key p (x ∷ xs) r
    skipped x r xs h f =
        record {
          place = suc f.place;
          stands = let l = f.stands in omega arith;
          is = f.is;
          passes = f.passes;
          earlier = before;
          all = λ z t q. ⊎_elim (λ e. let l = h (subst (λ (y : ℕ). T (p y)) e q) in rw e (omega arith)) (λ u. f.all z u q) (in_cons z x xs t);
        }
      where
        before : (i : ℕ) → i < suc f.place → T (p (get_or (x ∷ xs) i 0)) → key r < key (get_or (x ∷ xs) i 0)
        before zero l t = h t
        before (suc i) l t = f.earlier i (omega arith) t

    taken : (x : ℕ) (xs : List ℕ) → T (p x) → ((z : ℕ) → In z xs → T (p z) → key x ≤ key z) → First key p (x ∷ xs) x
    taken x xs t h =
        record {
          place = 0;
          stands = omega arith;
          is = refl;
          passes = t;
          earlier = λ i l. absurd (omega arith);
          all = λ z u q. ⊎_elim (λ e. rw e (omega arith)) (λ v. h z v q) (in_cons z x xs u);
        }

    pub least_first : (xs : List ℕ) (r : ℕ) → least_report key (filter p xs) ≡ accepted (r ∷ []) → First key p xs r
    unfolding filter least_report first_least
    least_first [] r e = absurd (let z : ◌≡◌ {A = ℕ} 11 0 = ap (λ (x : Report). x.number) e in omega arith)
    least_first (x ∷ xs) r e = go (dec (p x)) (least_first xs)
      where
        rest : T (p x) → (ys : List ℕ) → filter p xs ≡ ys → least_report key (x ∷ ys) ≡ accepted (r ∷ [])
            → ((s : ℕ) → least_report key ys ≡ accepted (s ∷ []) → First key p xs s) → First key p (x ∷ xs) r
        rest t [] q h later =
            subst (First key p (x ∷ xs)) (value-is x r h) (taken x xs t (λ z u v. absurd (in_nil z (subst (In z) q (filter_in p z xs v u)))))
        rest t (y ∷ ys) q h later =
            let s = first_least key y ys in
            let f : First key p xs s = later s refl in
            subst (First key p (x ∷ xs)) (value-is (chosen x s) r h)
            (choose (First key p (x ∷ xs)) x s (λ m. taken x xs t (λ z u v. let k = f.all z u v in omega arith)) (λ m. skipped x s xs (λ u. m) f))

        go : T (p x) ⊎ (T (p x) → ⊥) → ((s : ℕ) → least_report key (filter p xs) ≡ accepted (s ∷ []) → First key p xs s) → First key p (x ∷ xs) r
        go (inl t) later = rest t (filter p xs) refl (ap (least_report key) (sym (filter-yes p x xs t)) ∙ e) later
        go (inr n) later = skipped x r xs (λ t. absurd (n t)) (later r (ap (least_report key) (sym (filter-not p x xs n)) ∙ e))
