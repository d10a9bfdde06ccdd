-- The stripes of a tray in turn: what stands after some of them, and after all.
-- Assumes nothing.
use mathlib.Core.Path.{◌≡◌, refl, sym, ap, ap₂, ◌∙◌, subst}
use mathlib.Core.List.{List, [], ◌∷◌, ◌++◌, map, append-nil, append_assoc, map-append}
use Prim.Native.Nat.{ℕ, zero, suc, ◌+◌, ◌-◌, ◌*◌, ◌≤◌, ◌<◌}
use native.Mathlib.Nat.{mul-le-mul_right}
use native.Mathlib.Numerals.{add-one}
use native.Mathlib.Omega.{arith}
use lib.ListN.{length, get_or, take, drop, replicate, set, length-append, length-map, drop_of_length-le, get_or-map}
use lib.Seq.{take-suc, take_all, drop_at, ext_get_or}
use Rattle.flat.specs.Lists.{sum, tabulate, padded, put}
use Rattle.flat.specs.Cards.{Code, disks}
use Rattle.flat.proofs.Lists.{length-tabulate, get_d_tabulate, fill_none, fill_more, put_next}
use Rattle.flat.proofs.Totals.{sum-append}
use Rattle.peeling.specs.Peeling.{Peeled, rest, peeled}
use Rattle.peeling.specs.Trays.{tray_peeled, total, lefts, joined}
use Rattle.peeling.specs.Theorems.{stripe_of, result}
use Rattle.peeling.proofs.Peels.{steps-most}
use Rattle.peeling.proofs.Trays.{tray_length, tray_longs, tray_turn}

-- ---- results one after the other

joined_two : (a b : List Peeled) → joined (a ++ b) ≡ joined a ++ joined b
unfolding joined
joined_two [] b = refl
joined_two (r ∷ a) b = ap (λ (x : List ℕ). r.stripe ++ x) (joined_two a b) ∙ sym (append_assoc r.stripe (joined a) (joined b))

total_two : (a b : List Peeled) → total (a ++ b) ≡ total a + total b
unfolding total
total_two a b = ap sum (map-append (λ r. r.steps) a b) ∙ sum-append (map (λ r. r.steps) a) (map (λ r. r.steps) b)

-- ---- the first i stripes are done

-- the steps made, what is left of their sets, and the tray
pub record Turned (C : Code) (L budget : ℕ) (Ss tray : List ℕ) (i steps : ℕ) (left now : List ℕ) : Type 0 where
  pub most : steps ≤ budget
  pub made : steps ≡ total (take i (tray_peeled C L budget Ss tray))
  pub sets : left ≡ padded 8 (tabulate i (λ j. (result (tray_peeled C L budget Ss tray) j).left))
  pub bytes : now ≡ put tray 0 (joined (take i (tray_peeled C L budget Ss tray)))

-- what is put at the beginning
put_front : (s new : List ℕ) → put s 0 new ≡ new ++ drop (length new) s
unfolding put
put_front s new = ap (λ (n : ℕ). new ++ drop n s) (let z : 0 + length new ≡ length new = omega arith in z)

module _ (C : Code) (L budget : ℕ) (Ss tray : List ℕ) (long : length tray ≡ length Ss * (disks C * L)) where
  abbrev rs : List Peeled
  rs = tray_peeled C L budget Ss tray

  abbrev w : ℕ
  w = disks C * L

  take_more : (i : ℕ) → i < length Ss → take (i + 1) rs ≡ take i rs ++ (result rs i ∷ [])
  take_more i l = rw add-one (take-suc rs i (rest 0 []) (subst (λ (n : ℕ). i < n) (sym (tray_length C L budget Ss tray)) l))

  joined-more : (i : ℕ) → i < length Ss → joined (take (i + 1) rs) ≡ joined (take i rs) ++ (result rs i).stripe
  unfolding joined
  joined-more i l =
      ap joined (take_more i l) ∙ joined_two (take i rs) (result rs i ∷ [])
      ∙ ap (λ (x : List ℕ). joined (take i rs) ++ x) (append-nil (result rs i).stripe)

  total-more : (i : ℕ) → i < length Ss → total (take (i + 1) rs) ≡ total (take i rs) + (result rs i).steps
  unfolding total
  total-more i l =
      ap total (take_more i l) ∙ total_two (take i rs) (result rs i ∷ [])
      ∙ (let z : total (take i rs) + ((result rs i).steps + 0) ≡ total (take i rs) + (result rs i).steps = omega arith in z)

  joined_length : (i : ℕ) → i ≤ length Ss → length (joined (take i rs)) ≡ i * w
  unfolding joined
  joined_length zero h = let z : 0 ≡ 0 * w = omega arith in z
  joined_length (suc i) h =
      let e = joined_length i (omega arith) in
      let m = tray_longs C L budget Ss tray long i (subst (λ (n : ℕ). i < n) (sym (tray_length C L budget Ss tray)) h) in
      ap (λ (n : ℕ). length (joined (take n rs))) (let z : suc i ≡ i + 1 = omega arith in z) ∙ ap length (joined-more i h)
      ∙ length-append (joined (take i rs)) (result rs i).stripe ∙ (let z : length (joined (take i rs)) + length (result rs i).stripe ≡ suc i * w = omega arith in z)

  pub turn-start : Turned C L budget Ss tray 0 0 (replicate 8 0) tray
  unfolding total joined
  turn-start =
      record {
        most = omega arith;
        made = refl;
        sets = fill_none 8 (λ j. (result rs j).left);
        bytes = sym (put_front tray []);
      }

  -- the next stripe stands as it was
  pub turn-place : (i : ℕ) → i < length Ss → i * w + w ≤ length tray
  turn-place i l = let h : suc i * w ≤ length Ss * w = mul-le-mul_right w l in omega arith

  turn_part : (i steps : ℕ) (left now : List ℕ) → Turned C L budget Ss tray i steps left now → i < length Ss
      → take w (drop (i * w) now) ≡ stripe_of C L i tray
  unfolding stripe_of
  turn_part i steps left now t l =
      let x = joined (take i rs) in
      let e = joined_length i (omega arith) in
      ap (λ (s : List ℕ). take w (drop (i * w) s)) (t.bytes ∙ put_front tray x)
      ∙ ap (take w) (drop_at x (drop (length x) tray) (i * w) e ∙ ap (λ (n : ℕ). drop n tray) e)

  -- and is peeled with what is left of the budget
  turn-result : (i steps : ℕ) (left now : List ℕ) → Turned C L budget Ss tray i steps left now → i < length Ss
      → peeled C L (budget - steps) (get_or Ss i 0) (take w (drop (i * w) now)) ≡ result rs i
  turn-result i steps left now t l =
      ap₂ (λ (b : ℕ) (s : List ℕ). peeled C L b (get_or Ss i 0) s) (ap (λ (n : ℕ). budget - n) t.made) (turn_part i steps left now t l)
      ∙ sym (tray_turn C L budget Ss tray i l long).0

  pub turn-steps : (i steps more : ℕ) (left now : List ℕ) → Turned C L budget Ss tray i steps left now → i < length Ss
      → more ≡ (peeled C L (budget - steps) (get_or Ss i 0) (take w (drop (i * w) now))).steps → steps + more ≤ budget
  turn-steps i steps more left now t l e =
      let h = steps-most C L (budget - steps) (get_or Ss i 0) (take w (drop (i * w) now)) in
      let k = t.most in omega arith

  pub turn_more : (i steps more set' : ℕ) (left now new : List ℕ) → Turned C L budget Ss tray i steps left now → i < length Ss → length Ss ≤ 8
      → more ≡ (peeled C L (budget - steps) (get_or Ss i 0) (take w (drop (i * w) now))).steps
      → set' ≡ (peeled C L (budget - steps) (get_or Ss i 0) (take w (drop (i * w) now))).left
      → new ≡ put now (i * w) (peeled C L (budget - steps) (get_or Ss i 0) (take w (drop (i * w) now))).stripe
      → Turned C L budget Ss tray (i + 1) (steps + more) (set left i set') new
  turn_more i steps more set' left now new t l few em es en =
      let q = turn-result i steps left now t l in
      let x = joined (take i rs) in
      let e = joined_length i (omega arith) in
      let p = turn-place i l in
      record {
        most = turn-steps i steps more left now t l em;
        made = ap₂ (λ (a b : ℕ). a + b) t.made (em ∙ ap (λ (r : Peeled). r.steps) q) ∙ sym (total-more i l);
        sets = fill_more 8 i set' (λ j. (result rs j).left) left (omega arith) t.sets (es ∙ ap (λ (r : Peeled). r.left) q);
        bytes = en ∙ ap₂ (λ (s y : List ℕ). put s (i * w) y) t.bytes (ap (λ (r : Peeled). r.stripe) q)
            ∙ put_next tray 0 (i * w) x (result rs i).stripe (let z : i * w ≡ 0 + length x = omega arith in z) (omega arith)
            ∙ ap (put tray 0) (sym (joined-more i l));
      }

  -- all of them
  lefts_are : tabulate (length Ss) (λ j. (result rs j).left) ≡ lefts rs
  unfolding lefts
  lefts_are =
      let n = tray_length C L budget Ss tray in
      ext_get_or 0 (tabulate (length Ss) (λ j. (result rs j).left)) (lefts rs)
      (length-tabulate (length Ss) (λ j. (result rs j).left) ∙ sym n ∙ sym (length-map rs (λ (r : Peeled). r.left)))
      (λ i l. get_d_tabulate (length Ss) (λ j. (result rs j).left) i (subst (λ (m : ℕ). i < m) (length-tabulate (length Ss) (λ j. (result rs j).left)) l)
      ∙ sym (get_or-map (λ (r : Peeled). r.left) rs i (rest 0 [])))

  pub turn_end : (i steps : ℕ) (left now : List ℕ) → Turned C L budget Ss tray i steps left now → i ≡ length Ss
      → (steps ≡ total rs) × (left ≡ padded 8 (lefts rs)) × (now ≡ joined rs)
  turn_end i steps left now t e =
      let n = tray_length C L budget Ss tray in
      let all : take i rs ≡ rs = take_all i rs (omega arith) in
      let k : length (joined rs) ≡ length tray =
      ap (λ (x : List Peeled). length (joined x)) (sym all) ∙ joined_length i (omega arith) ∙ ap (λ (x : ℕ). x * w) e ∙ sym long in (
        t.made ∙ ap total all,
        t.sets ∙ ap (λ (x : ℕ). padded 8 (tabulate x (λ j. (result rs j).left))) e ∙ ap (padded 8) lefts_are,
        t.bytes ∙ ap (λ (x : List Peeled). put tray 0 (joined x)) all ∙ put_front tray (joined rs)
            ∙ ap (λ (x : List ℕ). joined rs ++ x) (drop_of_length-le tray {i = length (joined rs)} (omega arith)) ∙ append-nil (joined rs),
      )
