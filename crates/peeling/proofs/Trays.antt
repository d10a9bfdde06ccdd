-- Trays: the stripes of a tray one by one.
-- Assumes nothing.
use mathlib.Core.Path.{◌≡◌, refl, sym, ap, ap₂, ◌∙◌, subst}
use mathlib.Core.List.{List, [], ◌∷◌, ◌++◌}
use Prim.Native.Nat.{ℕ, zero, suc, ◌+◌, ◌-◌, ◌*◌, ◌≤◌, ◌<◌, min}
use native.Mathlib.Nat.{not-suc-le-zero, mul-le-mul_right}
use native.Mathlib.Omega.{arith}
use lib.Dec.{T}
use lib.ListN.{length, get_or, take, drop, length-append, length-drop}
use lib.Seq.{take_at, drop_at, drop-drop, length-take-le}
use Rattle.gf2.specs.Sets.{size}
use Rattle.flat.specs.Cards.{Code, disks}
use Rattle.repair_steps.specs.Steps.{Repairs}
use Rattle.peeling.specs.Peeling.{lone, Peeled, peeled}
use Rattle.peeling.specs.Trays.{tray_peeled, total, lefts, joined}
use Rattle.peeling.specs.Theorems.{after, sizes, stripe_of, result, TrayCut, TrayCount, TrayTurn, TrayEnough}
use Rattle.peeling.proofs.Peels.{steps-count, stuck-below_budget, peeling_repairs, cut-at_budget}

-- ---- steps

pub tray_cut : TrayCut
unfolding tray_peeled total sizes
tray_cut C L b c [] tray h = omega arith
tray_cut C L b c (S ∷ Ss) tray h =
    let w = disks C * L in
    let r = peeled C L b S (take w tray) in
    let s = peeled C L c S (take w tray) in
    let n = steps-count C L c S (take w tray) in
    let e : r.steps ≡ min b s.steps = (cut-at_budget C L b c S (take w tray) (omega arith)).0 in
    let q = tray_cut C L (b - r.steps) (c - s.steps) Ss (drop w tray) (omega arith) in omega arith

pub tray_count : TrayCount
unfolding tray_peeled total lefts sizes
tray_count C L budget [] tray = refl
tray_count C L budget (S ∷ Ss) tray =
    let r = peeled C L budget S (take (disks C * L) tray) in
    let e = steps-count C L budget S (take (disks C * L) tray) in
    let q = tray_count C L (budget - r.steps) Ss (drop (disks C * L) tray) in omega arith

pub tray_enough : TrayEnough
unfolding tray_peeled total sizes
tray_enough C L b c [] tray h k = refl
tray_enough C L b c (S ∷ Ss) tray h k =
    let w = disks C * L in
    let r = peeled C L b S (take w tray) in
    let q = peeled C L c S (take w tray) in
    let n = steps-count C L c S (take w tray) in
    let x = cut-at_budget C L b c S (take w tray) (omega arith) in
    let y = cut-at_budget C L c c S (take w tray) (omega arith) in
    let e : r.steps ≡ q.steps = omega (arith, x.0) in
    let same : r ≡ q = x.1 ∙ ap (λ (i : ℕ). after C L i S (take w tray)) e ∙ sym y.1 in
    let tail = tray_enough C L (b - q.steps) (c - q.steps) Ss (drop w tray) (omega arith) (omega arith) in
    ap₂ (λ (x : Peeled) (xs : List Peeled). x ∷ xs) same (ap (λ (i : ℕ). tray_peeled C L (b - i) Ss (drop w tray)) e ∙ tail)

pub tray_stuck : (C : Code) (L budget : ℕ) (Ss tray : List ℕ) → total (tray_peeled C L budget Ss tray) < budget
    → (i : ℕ) → i < length Ss
    → (d j : ℕ) → d < disks C → j < C.m → T (lone C (result (tray_peeled C L budget Ss tray) i).left d j) → ⊥
unfolding tray_peeled total
tray_stuck C L b [] tray h i l = absurd (not-suc-le-zero l)
tray_stuck C L b (S ∷ Ss) tray h zero l = stuck-below_budget C L b S (take (disks C * L) tray) (omega arith)
tray_stuck C L b (S ∷ Ss) tray h (suc i) l =
    tray_stuck C L (b - (peeled C L b S (take (disks C * L) tray)).steps) Ss (drop (disks C * L) tray) (omega arith) i (omega arith)

-- sets of at most n disks each
pub sizes-most : (n : ℕ) (Ss : List ℕ) → ((i : ℕ) → i < length Ss → size (get_or Ss i 0) ≤ n) → sizes Ss ≤ length Ss * n
unfolding sizes
sizes-most n [] h = omega arith
sizes-most n (S ∷ Ss) h =
    let a = h 0 (omega arith) in
    let b = sizes-most n Ss (λ i l. h (suc i) (omega arith)) in
    let c : suc (length Ss) * n ≡ n + length Ss * n = suc-mul-left (length Ss) n in omega arith
  where
    suc-mul-left : (a b : ℕ) → suc a * b ≡ b + a * b
    suc-mul-left a b = omega arith

-- ---- stripe by stripe

module _ (C : Code) (L : ℕ) where
  stripe-first : (tray : List ℕ) → take (disks C * L) tray ≡ stripe_of C L 0 tray
  unfolding stripe_of
  stripe-first tray =
      let z : 0 * (disks C * L) ≡ 0 = omega arith in ap (λ (x : ℕ). take (disks C * L) (drop x tray)) (sym z)

  stripe-next : (i : ℕ) (tray : List ℕ) → stripe_of C L i (drop (disks C * L) tray) ≡ stripe_of C L (suc i) tray
  unfolding stripe_of
  stripe-next i tray =
      ap (take (disks C * L)) (drop-drop (i * (disks C * L)) (disks C * L) tray)
      ∙ ap (λ (x : ℕ). take (disks C * L) (drop x tray)) (let e : disks C * L + i * (disks C * L) ≡ suc i * (disks C * L) = omega arith in e)

  pub stripe_long : (i n : ℕ) (tray : List ℕ) → i < n → length tray ≡ n * (disks C * L) → length (stripe_of C L i tray) ≡ disks C * L
  unfolding stripe_of
  stripe_long i n tray l e =
      let w = disks C * L in
      let h : suc i * w ≤ n * w = mul-le-mul_right w l in
      length-take-le w (drop (i * w) tray) (omega (arith, length-drop (i * w) tray))

  -- the joined stripes, each of its length
  joined_at : (rs : List Peeled) → ((i : ℕ) → i < length rs → length (result rs i).stripe ≡ disks C * L)
      → (i : ℕ) → i < length rs → stripe_of C L i (joined rs) ≡ (result rs i).stripe
  unfolding joined stripe_of
  joined_at [] h i l = absurd (not-suc-le-zero l)
  joined_at (r ∷ rs) h zero l = sym (stripe-first (r.stripe ++ joined rs)) ∙ take_at r.stripe (joined rs) (disks C * L) (h 0 (omega arith))
  joined_at (r ∷ rs) h (suc i) l =
      sym (stripe-next i (r.stripe ++ joined rs)) ∙ ap (stripe_of C L i) (drop_at r.stripe (joined rs) (disks C * L) (h 0 (omega arith)))
      ∙ joined_at rs (λ j m. h (suc j) (omega arith)) i (omega arith)

  joined-long : (rs : List Peeled) → ((i : ℕ) → i < length rs → length (result rs i).stripe ≡ disks C * L)
      → length (joined rs) ≡ length rs * (disks C * L)
  unfolding joined
  joined-long [] h = let z : 0 ≡ 0 * (disks C * L) = omega arith in z
  joined-long (r ∷ rs) h =
      let e = joined-long rs (λ j m. h (suc j) (omega arith)) in
      let a = h 0 (omega arith) in omega (arith, length-append r.stripe (joined rs))

  peeled-long : (budget S : ℕ) (stripe : List ℕ) → length stripe ≡ disks C * L → length (peeled C L budget S stripe).stripe ≡ disks C * L
  peeled-long budget S stripe e = (peeling_repairs C L budget S stripe e).long ∙ e

-- ---- one budget

pub tray_length : (C : Code) (L budget : ℕ) (Ss tray : List ℕ) → length (tray_peeled C L budget Ss tray) ≡ length Ss
unfolding tray_peeled
tray_length C L budget [] tray = refl
tray_length C L budget (S ∷ Ss) tray =
    ap suc (tray_length C L (budget - (peeled C L budget S (take (disks C * L) tray)).steps) Ss (drop (disks C * L) tray))

tray_at : (C : Code) (L budget : ℕ) (Ss tray : List ℕ) (i : ℕ) → i < length Ss
    → result (tray_peeled C L budget Ss tray) i
    ≡ peeled C L (budget - total (take i (tray_peeled C L budget Ss tray))) (get_or Ss i 0) (stripe_of C L i tray)
unfolding tray_peeled total
tray_at C L budget [] tray i l = absurd (not-suc-le-zero l)
tray_at C L budget (S ∷ Ss) tray zero l =
    ap₂ (λ (b : ℕ) (s : List ℕ). peeled C L b S s) (let e : budget ≡ budget - 0 = omega arith in e) (stripe-first C L tray)
tray_at C L budget (S ∷ Ss) tray (suc i) l =
    let r = peeled C L budget S (take (disks C * L) tray) in
    let rs = tray_peeled C L (budget - r.steps) Ss (drop (disks C * L) tray) in
    tray_at C L (budget - r.steps) Ss (drop (disks C * L) tray) i (omega arith)
    ∙ ap₂ (λ (b : ℕ) (s : List ℕ). peeled C L b (get_or Ss i 0) s)
    (let e : budget - r.steps - total (take i rs) ≡ budget - (r.steps + total (take i rs)) = omega arith in e) (stripe-next C L i tray)

pub tray_longs : (C : Code) (L budget : ℕ) (Ss tray : List ℕ) → length tray ≡ length Ss * (disks C * L)
    → (j : ℕ) → j < length (tray_peeled C L budget Ss tray) → length (result (tray_peeled C L budget Ss tray) j).stripe ≡ disks C * L
tray_longs C L budget Ss tray e j m =
    let n : j < length Ss = subst (λ (x : ℕ). j < x) (tray_length C L budget Ss tray) m in
    ap (λ (r : Peeled). length r.stripe) (tray_at C L budget Ss tray j n)
    ∙ peeled-long C L (budget - total (take j (tray_peeled C L budget Ss tray))) (get_or Ss j 0) (stripe_of C L j tray)
    (stripe_long C L j (length Ss) tray n e)

pub tray_long : (C : Code) (L budget : ℕ) (Ss tray : List ℕ) → length tray ≡ length Ss * (disks C * L)
    → length (joined (tray_peeled C L budget Ss tray)) ≡ length tray
tray_long C L budget Ss tray e =
    joined-long C L (tray_peeled C L budget Ss tray) (tray_longs C L budget Ss tray e)
    ∙ ap (λ (n : ℕ). n * (disks C * L)) (tray_length C L budget Ss tray) ∙ sym e

pub tray_turn : TrayTurn
tray_turn C L budget Ss tray i l e = (
  tray_at C L budget Ss tray i l,
  joined_at C L (tray_peeled C L budget Ss tray) (tray_longs C L budget Ss tray e) i
      (subst (λ (x : ℕ). i < x) (sym (tray_length C L budget Ss tray)) l),
)

pub tray_repairs : (C : Code) (L budget : ℕ) (Ss tray : List ℕ) (i : ℕ) → i < length Ss → length tray ≡ length Ss * (disks C * L)
    → let rs = tray_peeled C L budget Ss tray in
    Repairs C L (get_or Ss i 0) (stripe_of C L i tray) (result rs i).left (stripe_of C L i (joined rs))
tray_repairs C L budget Ss tray i l e =
    let rs = tray_peeled C L budget Ss tray in
    let t = tray_turn C L budget Ss tray i l e in
    let S = get_or Ss i 0 in
    let s = stripe_of C L i tray in
    subst (Repairs C L S s (result rs i).left) (sym t.1)
    (subst (λ (r : Peeled). Repairs C L S s r.left r.stripe) (sym t.0)
    (peeling_repairs C L (budget - total (take i rs)) S s (stripe_long C L i (length Ss) tray l e)))
