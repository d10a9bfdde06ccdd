-- The last byte of a card: in edition 1 the high byte of the last column, in edition 2 the last wear. With two data disks, as byte 0x02 says in
-- edition 1, the first has to be 0, and the second never is.
-- Assumes nothing.
use mathlib.Core.Path.{◌≡◌, sym, ap, ◌∙◌, subst}
use mathlib.Core.List.{List}
use Prim.Native.Nat.{ℕ, zero, suc, ◌+◌, ◌-◌, ◌*◌, ◌≤◌}
use native.Mathlib.Omega.{arith}
use borrow.Author.Tests.{eqb-true}
use lib.ListN.{length, get_or, drop}
use lib.Seq.{get_or-take, get_or-drop}
use Rattle.flat.specs.declared.Edition.TheVariants.{Second}
use Rattle.flat.specs.Cards.{Code, card_length, columns_in, edition_one, edition_two, edition_length, start, first_byte_ok, parity_count, column_bytes, code_of, disks, wears_of}
use Rattle.flat.specs.Faults.{card_report}
use Rattle.flat.proofs.Lists.{field_two}
use Rattle.flat.proofs.Cards.{count_in, column_in, none_bad, length-columns, column-at}
use Rattle.flat.proofs.Editions.{Accepted, accepted-card, card-accepted, one_size, some_wear}
use Rattle.editions.specs.Theorems.{OneEdition}
use Rattle.editions.proofs.Converted.{read-own, each_disk}

-- edition 1: the high byte of the last column
last-column : (card : List ℕ) (m : ℕ) → Accepted (edition_one card) 2 (suc m) → get_or card (2 + (2 * m + 1)) 0 ≡ 0
unfolding start
last-column card m a =
    let bs = column_bytes (edition_one card) in
    let many : parity_count (edition_one card) ≡ suc m = a.parity_count_lem in
    let n = length-columns (suc m) bs in
    let c = (column_in 2 _ (none_bad 2 (columns_in (suc m) bs) (omega (arith, a.sound.first)) m (omega arith))).1 in
    let e : get_or (columns_in (suc m) bs) m 0 ≡ get_or bs (2 * m) 0 + 256 * get_or bs (suc (2 * m)) 0 = column-at (suc m) bs m (omega arith) ∙ field_two (2 * m) bs in
    let h : get_or bs (suc (2 * m)) 0 ≡ get_or card (2 + suc (2 * m)) 0 =
    get_or-take (2 * parity_count (edition_one card)) (drop 2 card) (suc (2 * m)) 0 (omega arith) ∙ get_or-drop 2 card (suc (2 * m)) 0 in
    let i : 2 + (2 * m + 1) ≡ 2 + suc (2 * m) = omega arith in
    ap (λ (j : ℕ). get_or card j 0) i ∙ sym h ∙ omega arith

-- edition 2: the last wear
last_wear : (card : List ℕ) → (card_report (edition_two card)).number ≡ 0 → 1 ≤ get_or card (length card - 1) 0
unfolding start card_length edition_length disks
last_wear card ok =
    let C = code_of (edition_two card) in
    let a = accepted-card (edition_two card) C.k C.m (card-accepted (edition_two card) ok) in
    let n = each_disk card ok in
    let some = count_in C.k a.sound.k_ok in
    let w = some_wear (wears_of (edition_two card)) a.worn (C.k + C.m - 1) (omega arith) in
    let at = start Second + card_length C.m in
    let e : get_or (wears_of (edition_two card)) (C.k + C.m - 1) 0 ≡ get_or card (length card - 1) 0 =
    ap (λ (ws : List ℕ). get_or ws (C.k + C.m - 1) 0) (read-own card ok) ∙ get_or-drop at card (C.k + C.m - 1) 0
    ∙ ap (λ (j : ℕ). get_or card j 0) (omega (arith, a.size)) in
    subst (λ (x : ℕ). 1 ≤ x) e w

pub one-edition : OneEdition
unfolding first_byte_ok start card_length
one-edition card one two = go C.m (subst (λ (k : ℕ). Accepted (edition_one card) k C.m) data_two accepts) (count_in C.m accepts.sound.m_ok).0
  where
    C : Code
    C = code_of (edition_one card)

    accepts : Accepted (edition_one card) C.k C.m
    accepts = accepted-card (edition_one card) C.k C.m (card-accepted (edition_one card) one)

    data_two : C.k ≡ 2
    data_two =
        let D = code_of (edition_two card) in
        sym accepts.data_count_lem ∙ eqb-true (get_or card 0 0) 2 (accepted-card (edition_two card) D.k D.m (card-accepted (edition_two card) two)).begins

    go : (m : ℕ) → Accepted (edition_one card) 2 m → 1 ≤ m → ⊥
    go zero a l = omega arith
    go (suc m) a l =
        let n = one_size card 2 (suc m) a in
        let i : length card - 1 ≡ 2 + (2 * m + 1) = omega arith in
        let z = ap (λ (j : ℕ). get_or card j 0) i ∙ last-column card m a in
        omega (arith, z, last_wear card two)
