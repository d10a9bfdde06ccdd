-- The sizes of parity sets one after the other, from d - 1 on, step by step.
-- Assumes nothing.
use mathlib.Core.Path.{◌≡◌, sym, ap, ◌∙◌}
use mathlib.Core.Bool.{Bool, true, false}
use mathlib.Core.Logic.{◌⊎◌, inl, inr}
use mathlib.Core.List.{List, [], ◌∷◌, map, map-id}
use Prim.Native.Nat.{ℕ, suc, ◌+◌, ◌-◌, ◌≤◌, ◌<◌}
use native.Mathlib.Omega.{arith}
use lib.Dec.{T, eqb}
use Rattle.std.specs.Prelude.{if◌then◌else◌}
use Rattle.flat.specs.Lists.{range, filter}
use Rattle.flat.proofs.Filters.{coming, coming-kept, coming-none, coming_past}
use Rattle.stepped_codes.specs.Stepped.{distance_ok, step, size_ok}
use Rattle.stepped_codes.specs.Placing.{sizes}
use Rattle.stepped_codes.proofs.Sizes.{three_or_four, sizes_are}

-- ---- which sizes there are

module _ (d : ℕ) (ok : T (distance_ok d)) where
  pub step-up : (s : ℕ) → T (size_ok d s) → T (size_ok d (s + step d))
  unfolding step
  step-up s = go (three_or_four d ok)
    where
      go : (d ≡ 3) ⊎ (d ≡ 4) → T (size_ok d s) → T (size_ok d (s + step d))
      go (inl e) = rw e (λ t. let r = (sizes_are s).0.0 t in let h = r.1 in (sizes_are (s + 1)).0.1 (suc r.0, omega arith))
      go (inr e) = rw e (λ t. let r = (sizes_are s).1.0 t in let h = r.1 in (sizes_are (s + 2)).1.1 (suc r.0, omega arith))

  pub first-size : T (size_ok d (d - 1))
  first-size = go (three_or_four d ok)
    where
      go : (d ≡ 3) ⊎ (d ≡ 4) → T (size_ok d (d - 1))
      go (inl e) = rw e ((sizes_are 2).0.1 (0, omega arith))
      go (inr e) = rw e ((sizes_are 3).1.1 (0, omega arith))

  -- none is smaller
  pub least_size : (s : ℕ) → T (size_ok d s) → d ≤ s + 1
  least_size s = go (three_or_four d ok)
    where
      go : (d ≡ 3) ⊎ (d ≡ 4) → T (size_ok d s) → d ≤ s + 1
      go (inl e) = rw e (λ t. let r = (sizes_are s).0.0 t in let h = r.1 in omega arith)
      go (inr e) = rw e (λ t. let r = (sizes_are s).1.0 t in let h = r.1 in omega arith)

  -- and none is between one and the next
  none_between : (s u : ℕ) → T (size_ok d s) → s < u → u < s + step d → T (size_ok d u) → ⊥
  unfolding step
  none_between s u = go (three_or_four d ok)
    where
      go : (d ≡ 3) ⊎ (d ≡ 4) → T (size_ok d s) → s < u → u < s + step d → T (size_ok d u) → ⊥
      go (inl e) = rw e (λ t l h v. omega arith)
      go (inr e) =
          rw e (λ t l h v. let p = (sizes_are s).1.0 t in let q = (sizes_are u).1.0 v in let a = p.1 in let b = q.1 in omega arith)

-- a step goes up
step_pos : (d : ℕ) → 1 ≤ step d
unfolding step
step_pos d = go (eqb d 3)
  where
    go : (b : Bool) → 1 ≤ (if b then 1 else 2)
    go true = omega arith
    go false = omega arith

-- ---- their list

-- those from s on
abbrev pub sizes_from : ℕ → ℕ → ℕ → List ℕ
sizes_from d m s = coming (size_ok d) (λ t. t) (suc m) s

module _ (d m : ℕ) where
  pub sizes-none : (s : ℕ) → m < s → sizes_from d m s ≡ []
  sizes-none s l = coming-none (size_ok d) (λ t. t) (suc m) s l

  module _ (ok : T (distance_ok d)) where
    pub sizes-first : sizes d m ≡ sizes_from d m (d - 1)
    unfolding sizes coming
    sizes-first =
        let e : 0 + (d - 1) ≡ d - 1 = omega arith in
        let z : suc m - 0 ≡ suc m = omega arith in
        sym (map-id (filter (size_ok d) (range 0 (suc m)))) ∙ ap (λ (n : ℕ). map (λ t. t) (filter (size_ok d) (range 0 n))) (sym z)
        ∙ coming_past (size_ok d) (λ t. t) (suc m) 0 (d - 1) (λ s l h t. let b = least_size d ok s t in omega arith)
        ∙ ap (sizes_from d m) e

    pub sizes-next : (s : ℕ) → T (size_ok d s) → s ≤ m → sizes_from d m s ≡ s ∷ sizes_from d m (s + step d)
    sizes-next s t l =
        let p = step_pos d in
        let e : s + 1 + (step d - 1) ≡ s + step d = omega arith in
        coming-kept (size_ok d) (λ u. u) (suc m) s (omega arith) t
        ∙ ap (λ (xs : List ℕ). s ∷ xs)
        (coming_past (size_ok d) (λ u. u) (suc m) (s + 1) (step d - 1) (λ u a b. none_between d ok s u t (omega arith) (omega arith))
        ∙ ap (sizes_from d m) e)
