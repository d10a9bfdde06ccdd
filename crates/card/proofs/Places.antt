-- Where the parts of an edition stand.
-- Assumes nothing.
use mathlib.Core.Path.{◌≡◌, sym, ap, ◌∙◌}
use mathlib.Core.List.{List}
use Prim.Native.Nat.{ℕ, ◌+◌, ◌-◌, ◌*◌, ◌≤◌}
use native.Mathlib.Omega.{arith}
use lib.ListN.{length, get_or, take, drop, replicate}
use Rattle.flat.specs.declared.Edition.{Edition}
use Rattle.flat.specs.declared.Edition.TheVariants.{First, Second}
use Rattle.flat.specs.Lists.{padded}
use Rattle.flat.specs.Cards.{code, start, card_length, edition_length, wear_count, card_of, parity_count, column_bytes, code_of, disks, each_wear, wears_of}
use Rattle.flat.proofs.Lists.{rest}
use Rattle.card.specs.Editions.{held_bytes}

-- no edition begins later
pub start_small : (e : Edition) → start e ≤ 1
unfolding start
start_small First = omega arith
start_small Second = omega arith

-- a card's length by its parts
pub length_parts : (e : Edition) (k m : ℕ) (cs : List ℕ) → edition_length e (code k m cs) ≡ start e + 2 + 2 * m + wear_count e (k + m)
unfolding edition_length card_length disks start wear_count
length_parts First k m cs = omega arith
length_parts Second k m cs = omega arith

-- the parts that are lent
pub parity-read : (e : Edition) (bs : List ℕ) (at : ℕ) → at ≡ start e → get_or bs (at + 1) 0 ≡ parity_count (card_of e bs)
parity-read e bs at h = rw h

module _ (e : Edition) (bs : List ℕ) (at m : ℕ) (begins : at ≡ start e + 2) (many : m ≡ parity_count (card_of e bs)) where
  pub columns_lent : take (at + 2 * m - at) (drop at bs) ≡ column_bytes (card_of e bs)
  columns_lent =
      let n : at + 2 * m - at ≡ 2 * m = omega arith in
      ap (λ (x : ℕ). take x (drop at bs)) n ∙ rw (many, begins)

  pub held_lent : take (length bs - (at + 2 * m)) (drop (at + 2 * m) bs) ≡ held_bytes (card_of e bs)
  held_lent = rest (at + 2 * m) bs ∙ rw (many, begins)

-- the wears that are read from a card
pub wears_are : (e : Edition) (bs : List ℕ) → wears_of (card_of e bs) ≡ each_wear e (disks (code_of (card_of e bs))) (held_bytes (card_of e bs))
unfolding wears_of code_of card_length
wears_are e bs =
    let m = get_or bs (start e + 1) 0 in
    let n : start e + (2 + 2 * m) ≡ start e + 2 + 2 * m = omega arith in
    ap (λ (x : ℕ). each_wear e (disks (code_of (card_of e bs))) (drop x bs)) n

module _ (e : Edition) (bs : List ℕ) where
  each_first : (n : ℕ) (ws : List ℕ) → e ≡ First → replicate n 1 ≡ each_wear e n ws
  unfolding each_wear
  each_first n ws is = rw is

  each_second : (n : ℕ) (ws : List ℕ) → e ≡ Second → ws ≡ each_wear e n ws
  unfolding each_wear
  each_second n ws is = rw is

  pub wears_first : (n : ℕ) → e ≡ First → n ≡ disks (code_of (card_of e bs)) → padded 32 (replicate n 1) ≡ padded 32 (wears_of (card_of e bs))
  wears_first n is many =
      ap (padded 32) (ap (λ (x : ℕ). replicate x 1) many ∙ each_first (disks (code_of (card_of e bs))) (held_bytes (card_of e bs)) is ∙ sym (wears_are e bs))

  pub wears_second : e ≡ Second → padded 32 (held_bytes (card_of e bs)) ≡ padded 32 (wears_of (card_of e bs))
  wears_second is = ap (padded 32) (each_second (disks (code_of (card_of e bs))) (held_bytes (card_of e bs)) is ∙ sym (wears_are e bs))

-- no edition holds more wears than there are disks
pub held_few : (e : Edition) (n : ℕ) (held ws : List ℕ) → held ≡ ws → length ws ≡ wear_count e n → n ≤ 32 → length held ≤ 32
unfolding wear_count
held_few First n held ws e h l = rw e (omega arith)
held_few Second n held ws e h l = rw e (omega arith)
