-- The equation of least total wear: what it is, that there is one only, and that one which none goes before is it.
-- Assumes nothing.
use mathlib.Core.Path.{◌≡◌, refl, sym, ap, ◌∙◌, subst}
use mathlib.Core.Logic.{◌⊎◌, inl, inr, ⊎_elim, ◌↔◌}
use mathlib.Core.List.{List, [], ◌∷◌}
use Prim.Native.Nat.{ℕ, ◌*◌, ◌≤◌, ◌<◌}
use native.Mathlib.Nat.{mul-le-mul_right}
use native.Mathlib.Omega.{arith}
use lib.Dec.{T, eqb}
use lib.ListN.{get_or}
use Rattle.gf2.specs.Sets.{size, ◌⊆◌}
use Rattle.gf2.proofs.Tests.{dec, eqb_in, eqb_out, below_or}
use Rattle.gf2.proofs.Subsets.{⊆_trans}
use Rattle.flat.specs.Cards.{Code, disks}
use Rattle.flat.specs.Erasures.{undetermined}
use Rattle.flat.specs.Equations.{equation, equations, Precedes}
use Rattle.flat.specs.Faults.{accepted, refused}
use Rattle.flat.proofs.Counts.{size-count}
use Rattle.flat.proofs.Members.{In, in_nil, in_at, in_place, in_head, in_tail, filter_in, filter_out}
use Rattle.flat.proofs.Order.{Sorted, sorted_filter}
use Rattle.flat.proofs.Theorems.{equations-ordered}
use Rattle.flat.proofs.Duality.{undetermined-untold}
use Rattle.flat.proofs.EquationsListed.{equations_sorted, equation-listed}
use Rattle.flat.proofs.Told.{among_lt}
use Rattle.wear.specs.Wear.{total_wear, lost_with, equations_left, least_report}
use Rattle.wear.specs.Theorems.{Least, LeastOnly, Left, Better}
use Rattle.wear.proofs.Sums.{over_mono, over-less, over-alike}
use Rattle.wear.proofs.Picking.{least_cases, least-none, least-nil, first-least, least_first}
use Rattle.wear.proofs.Left.{left, with_disk, listed-equation}

module _ (C : Code) (ws : List ℕ) (d S : ℕ) where
  abbrev total : ℕ → ℕ
  total = total_wear C ws

  wear_mono : (E F : ℕ) → T (E ⊆ F) → total E ≤ total F
  unfolding total_wear
  wear_mono = over_mono (disks C) (λ i. get_or ws i 0)

  -- an equation among the survivors has a listed one inside
  inside : (E : ℕ) → T (E ⊆ left C d S) → T (equation C d E) → (F : ℕ) × In F (equations C d) × T (F ⊆ E) × T (F ⊆ left C d S)
  inside E t q =
      let r = equation-listed C d E (among_lt C (lost_with S d) E t) q in
      (r.0, r.1, r.2, ⊆_trans r.0 E (left C d S) r.2 t)

  pub least-of : (E : ℕ) → least_report total (equations_left C d S) ≡ accepted (E ∷ []) → Least C ws d S E
  unfolding equations_left
  least-of E h =
      let f = least_first total (λ F. F ⊆ left C d S) (equations C d) E h in
      record {
        place = f.place;
        stands = f.stands;
        is = f.is;
        survives = f.passes;
        earlier = f.earlier;
        listed = λ F t u. omega (arith, f.all F t u);
        any = λ F q t. let r = inside F t q in omega (arith, f.all r.0 r.1 r.3, wear_mono r.0 F r.2);
      }

  -- it is listed, so an equation
  pub least_in : (E : ℕ) → Least C ws d S E → In E (equations C d)
  least_in E g = subst (λ (x : ℕ). In x (equations C d)) g.is (in_at (equations C d) g.place g.stands)

  -- ---- 11

  pub none_left : (least_report total (equations_left C d S) ≡ refused 11 []) ↔ (Left C d S → ⊥)
  unfolding equations_left
  none_left = (
    λ h (E, t, q). let r = inside E t q in
        in_nil r.0 (subst (In r.0) (least-none total (equations_left C d S) h) (filter_in (λ F. F ⊆ left C d S) r.0 (equations C d) r.3 r.1)),
    λ f. ⊎_elim (λ e. ap (least_report total) e ∙ least-nil total)
        (λ (r, e). let g = least-of r e in absurd (f (r, g.survives, (listed-equation C d r (least_in r g)).1)))
        (least_cases total (equations_left C d S)),
  )

  pub none-untold : d < disks C → (least_report total (equations_left C d S) ≡ refused 11 []) ↔ T (undetermined C (lost_with S d) d)
  none-untold l =
      let u = undetermined-untold C (lost_with S d) d l (with_disk S d) in
      (λ h. u.1 (none_left.0 h), λ t. none_left.1 (u.0 t))

  pub some-given : Left C d S → (E : ℕ) × (least_report total (equations_left C d S) ≡ accepted (E ∷ []))
  some-given s =
      ⊎_elim (λ e. absurd (none_left.0 (ap (least_report total) e ∙ least-nil total) s)) (λ r. r) (least_cases total (equations_left C d S))

  -- ---- one that none goes before

  module _ (worn : (i : ℕ) → i < disks C → 1 ≤ get_or ws i 0) where
    -- an equation that totals no more than the least is listed: a smaller one inside would total less
    least-listed : (E F : ℕ) → Least C ws d S E → T (F ⊆ left C d S) → T (equation C d F) → total F ≤ total E → In F (equations C d)
    unfolding total_wear
    least-listed E F g t q h =
        let r = inside F t q in
        ⊎_elim (λ e. subst (λ (x : ℕ). In x (equations C d)) (eqb_out r.0 F e) r.1)
        (λ f. absurd (omega (
          arith,
          over-less (disks C) (λ i. get_or ws i 0) r.0 F r.2 (λ e. f (eqb_in e)) (among_lt C (lost_with S d) F t) worn,
          g.listed r.0 r.1 r.3,
        )))
        (dec (eqb r.0 F))

    best_same : (E F : ℕ) → Least C ws d S E → T (F ⊆ left C d S) → T (equation C d F) → (Better C ws E F → ⊥) → E ≡ F
    best_same E F g t q worse =
        let le : total E ≤ total F = g.any F q t in
        let ge : total F ≤ total E = ⊎_elim (λ h. absurd (worse (inl h))) (λ h. h) (below_or (total E) (total F)) in
        let r = in_place F (equations C d) (least-listed E F g t q ge) in
        let same : total (get_or (equations C d) r.0 0) ≡ total F = ap total r.2 in
        ⊎_elim
        (λ h. absurd (omega (arith, g.earlier r.0 h (subst (λ (x : ℕ). T (x ⊆ left C d S)) (sym r.2) t), same)))
        (λ h. ⊎_elim
        (λ k. absurd (worse (inr (
          let e : total E ≡ total F = omega arith in e,
          subst (λ (x : ℕ). Precedes C x F) g.is
              (subst (Precedes C (get_or (equations C d) g.place 0)) r.2 (equations-ordered C d g.place r.0 k r.1)),
        ))))
        (λ k. sym g.is ∙ ap (λ (i : ℕ). get_or (equations C d) i 0) (let z : g.place ≡ r.0 = omega arith in z) ∙ r.2)
        (below_or g.place r.0))
        (below_or r.0 g.place)

    pub best_least : (F : ℕ) → T (F ⊆ left C d S) → T (equation C d F)
        → ((E : ℕ) → T (E ⊆ left C d S) → T (equation C d E) → Better C ws E F → ⊥)
        → least_report total (equations_left C d S) ≡ accepted (F ∷ [])
    best_least F t q best =
        let r = some-given (F, t, q) in
        let g = least-of r.0 r.1 in
        r.1 ∙ ap (λ (x : ℕ). accepted (x ∷ []))
        (best_same r.0 F g t q (best r.0 g.survives (listed-equation C d r.0 (least_in r.0 g)).1))

  -- ---- all worn alike

  pub alike-first : (w E : ℕ) (Es : List ℕ) → ((i : ℕ) → i < disks C → get_or ws i 0 ≡ w) → equations_left C d S ≡ E ∷ Es
      → least_report total (equations_left C d S) ≡ accepted (E ∷ [])
  unfolding total_wear equations_left
  alike-first w E Es alike e =
      ap (least_report total) e ∙ first-least total E Es (λ F t. smaller F (in_tail F E Es t) (sorted.0 F t))
    where
      sorted : ((F : ℕ) → In F Es → Precedes C E F) × Sorted (Precedes C) Es
      sorted = subst (Sorted (Precedes C)) e (sorted_filter (Precedes C) (λ F. F ⊆ left C d S) (equations C d) (equations_sorted C d))

      sized : (F : ℕ) → In F (E ∷ Es) → total F ≡ size F * w
      sized F t =
          let r = filter_out (λ F. F ⊆ left C d S) F (equations C d) (subst (In F) (sym e) t) in
          over-alike (disks C) (λ i. get_or ws i 0) w F alike
          ∙ ap (λ (n : ℕ). n * w) (sym (size-count (disks C) F (listed-equation C d F r.1).0))

      smaller : (F : ℕ) → In F (E ∷ Es) → Precedes C E F → total E ≤ total F
      smaller F t p =
          let h : size E ≤ size F = ⊎_elim (λ l. let z : size E ≤ size F = omega arith in z) (λ s. let q = s.0 in let z : size E ≤ size F = omega arith in z) p in
          omega (arith, sized E (in_head Es refl), sized F t, mul-le-mul_right w h)

-- ---- one only

pub least-only : LeastOnly
least-only C ws d S E F g h =
    ⊎_elim (λ l. absurd (before F E h g l))
    (λ l. ⊎_elim (λ k. absurd (before E F g h k))
    (λ k. sym g.is ∙ ap (λ (i : ℕ). get_or (equations C d) i 0) (let z : g.place ≡ h.place = omega arith in z) ∙ h.is)
    (below_or h.place g.place))
    (below_or g.place h.place)
  where
    before : (E F : ℕ) (g : Least C ws d S E) (h : Least C ws d S F) → h.place < g.place → ⊥
    before E F g h l =
        let t = subst (λ (x : ℕ). T (x ⊆ left C d S)) (sym h.is) h.survives in
        omega (arith, g.earlier h.place l t, ap (total_wear C ws) h.is, h.listed E (least_in C ws d S E g) g.survives)
