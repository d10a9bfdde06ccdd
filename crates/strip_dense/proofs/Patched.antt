-- A slice of which some bytes are new and the others those at entry; a block of every target filled so, and offset after offset the
-- whole strips; and the blocks at one offset gathered.
-- Assumes nothing.
use mathlib.Core.Path.{◌≡◌, refl, sym, ap, ap₂, ◌∙◌, subst}
use mathlib.Core.Bool.{Bool, ◌&&◌}
use mathlib.Core.Logic.{◌⊎◌, inl, inr}
use mathlib.Core.List.{List}
use Prim.Native.Nat.{ℕ, ◌+◌, ◌-◌, ◌*◌, ◌/◌, ◌%◌, ◌≤◌, ◌<◌}
use native.Mathlib.Nat.{add_assoc, div-add-mod', zero-add}
use native.Mathlib.Omega.{arith}
use lib.Arith.{digits_lt, digits_div, digits_mod}
use lib.Dec.{T, leb, ltb}
use lib.ListN.{length, get_or, take, drop, length-drop}
use lib.Seq.{ext_get_or, get_or-take, get_or-drop, length-take-le}
use Rattle.std.specs.Prelude.{if◌then◌else◌}
use Rattle.gf2.specs.Sets.{has, over}
use Rattle.gf2.proofs.Tests.{dec, and_in, and_out, leb_in, leb_out, ltb_in, ltb_out, below_suc, below_or, if_true, if_false}
use Rattle.gf2.proofs.Sums.{over_cong}
use Rattle.flat.specs.Lists.{tabulate, put}
use Rattle.flat.specs.Strips.{byte_of}
use Rattle.flat.specs.Repairs.{filled}
use Rattle.flat.proofs.Lists.{length-tabulate, get_d_tabulate, length-put, put-before, put-new, put-after}
use Rattle.flat.proofs.Positions.{places}

-- a strip is the places of one disk
pub disk-of : (l d p : ℕ) → 0 < l → d * l ≤ p → p < d * l + l → (p / l ≡ d) × (p % l ≡ p - d * l)
disk-of l d p z h k =
    let t : p - d * l < l = omega arith in
    let e : p ≡ d * l + (p - d * l) = omega arith in (
      ap (λ (x : ℕ). x / l) e ∙ digits_div d t,
      ap (λ (x : ℕ). x % l) e ∙ digits_mod d t,
    )

-- ---- the bytes at the places that are done are new, the others those at entry

module _ (s₀ : List ℕ) (new : ℕ → ℕ) where
  pub record Patched (done : ℕ → Type 0) (s : List ℕ) : Type 0 where
    pub long : length s ≡ length s₀
    pub fresh : (p : ℕ) → p < length s₀ → done p → get_or s p 0 ≡ new p
    pub kept : (p : ℕ) → p < length s₀ → (done p → ⊥) → get_or s p 0 ≡ get_or s₀ p 0

  pub patched_none : (done : ℕ → Type 0) → ((p : ℕ) → done p → ⊥) → Patched done s₀
  patched_none done f = record { long = refl; fresh = λ p h x. absurd (f p x); kept = λ p h g. refl }

  -- the same places, in other words
  pub patched_same : (done done' : ℕ → Type 0) (s : List ℕ) → Patched done s → ((p : ℕ) → done' p → done p) → ((p : ℕ) → done p → done' p)
      → Patched done' s
  patched_same done done' s r f g =
      record { long = r.long; fresh = λ p h x. r.fresh p h (f p x); kept = λ p h k. r.kept p h (λ x. k (g p x)) }

  -- the places of a block are done too
  pub patched_more : (done block done' : ℕ → Type 0) (s s' : List ℕ) → Patched done s → length s' ≡ length s
      → ((p : ℕ) → p < length s₀ → block p → get_or s' p 0 ≡ new p)
      → ((p : ℕ) → p < length s₀ → (block p → ⊥) → get_or s' p 0 ≡ get_or s p 0)
      → ((p : ℕ) → done' p → block p ⊎ (block p → ⊥) × done p)
      → ((p : ℕ) → block p → done' p) → ((p : ℕ) → done p → done' p) → Patched done' s'
  patched_more done block done' s s' r e fresh old split f g =
      record {
        long = e ∙ r.long;
        fresh = λ p h x. go p h (split p x);
        kept = λ p h k. old p h (λ x. k (f p x)) ∙ r.kept p h (λ x. k (g p x));
      }
    where
      go : (p : ℕ) → p < length s₀ → block p ⊎ (block p → ⊥) × done p → get_or s' p 0 ≡ new p
      go p h (inl x) = fresh p h x
      go p h (inr x) = old p h x.0 ∙ r.fresh p h x.1

  pub patched_all : (done : ℕ → Type 0) (test : ℕ → Bool) (s : List ℕ) → Patched done s → ((p : ℕ) → p < length s₀ → T (test p) → done p)
      → ((p : ℕ) → done p → T (test p)) → s ≡ tabulate (length s₀) (λ p. if test p then new p else get_or s₀ p 0)
  patched_all done test s r f g =
      ext_get_or 0 s (tabulate (length s₀) all) (r.long ∙ sym (length-tabulate (length s₀) all))
      (λ p h. let u : p < length s₀ = omega (arith, r.long) in go p u (dec (test p)) ∙ sym (get_d_tabulate (length s₀) all p u))
    where
      all : ℕ → ℕ
      all p = if test p then new p else get_or s₀ p 0

      go : (p : ℕ) → p < length s₀ → T (test p) ⊎ (T (test p) → ⊥) → get_or s p 0 ≡ all p
      go p u (inl t) = r.fresh p u (f p u t) ∙ sym (if_true (test p) (new p) (get_or s₀ p 0) t)
      go p u (inr k) = r.kept p u (λ x. k (g p x)) ∙ sym (if_false (test p) (new p) (get_or s₀ p 0) k)

-- ---- the blocks at one offset

pub record Gathered (s : List ℕ) (l o i : ℕ) (local : List ℕ) : Type 0 where
  pub places : length local ≡ 4096
  pub byte : (t j : ℕ) → t < 128 → j < i → byte_of 128 local t j ≡ byte_of l s (o + t) j

pub gathered_none : (s : List ℕ) (l o : ℕ) (local : List ℕ) → length local ≡ 4096 → Gathered s l o 0 local
gathered_none s l o local e = record { places = e; byte = λ t j h m. absurd (omega arith) }

pub gathered_more : (s : List ℕ) (l o i : ℕ) (local : List ℕ) → Gathered s l o i local → i < 32 → i * l + o + 128 ≤ length s
    → Gathered s l o (i + 1) (put local (i * 128) (take 128 (drop (i * l + o) s)))
unfolding byte_of
gathered_more s l o i local r h f =
    record {
      places = length-put local (i * 128) block (omega (arith, fits, long)) ∙ r.places;
      byte = λ t j k m. go t j k (below_suc j i (omega arith));
    }
  where
    block : List ℕ
    block = take 128 (drop (i * l + o) s)

    fits : i * 128 + 128 ≤ length local
    fits = omega (arith, r.places)

    long : length block ≡ 128
    long = length-take-le 128 (drop (i * l + o) s) (omega (arith, length-drop (i * l + o) s))

    go : (t j : ℕ) → t < 128 → (j < i) ⊎ (j ≡ i) → get_or (put local (i * 128) block) (j * 128 + t) 0 ≡ get_or s (j * l + (o + t)) 0
    go t j k (inl m) = put-before local (i * 128) block 128 fits long (j * 128 + t) (omega arith) ∙ r.byte t j k m
    go t j k (inr q) =
        ap (λ (x : ℕ). get_or (put local (i * 128) block) (x * 128 + t) 0) q
        ∙ put-new local (i * 128) block 128 fits long t k
        ∙ get_or-take 128 (drop (i * l + o) s) t 0 k
        ∙ get_or-drop (i * l + o) s t 0
        ∙ ap (λ (x : ℕ). get_or s x 0) (add_assoc (i * l) o t)
        ∙ ap (λ (x : ℕ). get_or s (x * l + (o + t)) 0) (sym q)

-- ---- the bytes from o on of the strips of the targets, from the blocks

module _ (n l : ℕ) (E : ℕ → ℕ) (S : ℕ) where
  -- byte p, from the blocks
  abbrev block_byte : List ℕ → ℕ → ℕ → ℕ
  block_byte local o p = over n (E (p / l)) (byte_of 128 local (p % l - o))

  abbrev in_block : ℕ → ℕ → Bool
  in_block o p = has S (p / l) && (leb o (p % l) && ltb (p % l) (o + 128))

  abbrev BlockTo : ℕ → ℕ → ℕ → Type 0
  BlockTo o d p = T (has S (p / l)) × (p / l < d) × (o ≤ p % l) × (p % l < o + 128)

  -- those of the targets below d are filled
  abbrev pub Blocks : List ℕ → List ℕ → ℕ → ℕ → List ℕ → Type 0
  Blocks s₀ local o d s = Patched s₀ (block_byte local o) (BlockTo o d) s

  pub block_none : (s local : List ℕ) (o : ℕ) → Blocks s local o 0 s
  block_none s local o = patched_none s (block_byte local o) (BlockTo o 0) (λ p x. let z : p / l < 0 = x.1 in omega arith)

  -- disk d is no target
  pub block_skip : (s₀ local : List ℕ) (o d : ℕ) (s : List ℕ) → Blocks s₀ local o d s → (T (has S d) → ⊥)
      → Blocks s₀ local o (d + 1) s
  block_skip s₀ local o d s r f =
      patched_same s₀ (block_byte local o) (BlockTo o d) (BlockTo o (d + 1)) s r
      (λ p x. (x.0, less p x.0 (below_suc (p / l) d (let z : p / l < d + 1 = x.1 in omega arith)), x.2, x.3))
      (λ p x. (x.0, (let z : p / l < d = x.1 in omega arith), x.2, x.3))
    where
      less : (p : ℕ) → T (has S (p / l)) → (p / l < d) ⊎ (p / l ≡ d) → p / l < d
      less p t (inl m) = m
      less p t (inr e) = absurd (f (subst (λ (x : ℕ). T (has S x)) e t))

  -- disk d is a target
  pub block_more : (s₀ local : List ℕ) (o d : ℕ) (s block : List ℕ) → Blocks s₀ local o d s → T (has S d) → o + 128 ≤ l
      → d * l + l ≤ length s₀ → block ≡ tabulate 128 (λ t. over n (E d) (byte_of 128 local (0 + t)))
      → Blocks s₀ local o (d + 1) (put s (d * l + o) block)
  block_more s₀ local o d s block r t h fits e =
      patched_more s₀ (block_byte local o) (BlockTo o d) In (BlockTo o (d + 1)) s (put s (d * l + o) block) r
      (length-put s (d * l + o) block (omega (arith, room, long))) fresh (λ p u k. old p k (below_or p (d * l + o)) (below_or p (d * l + o + 128)))
      (λ p x. split p x (below_suc (p / l) d (let z : p / l < d + 1 = x.1 in omega arith)))
      (λ p x. (subst (λ (y : ℕ). T (has S y)) (sym x.0) t, (let z : p / l ≡ d = x.0 in omega arith), x.1, x.2))
      (λ p x. (x.0, (let z : p / l < d = x.1 in omega arith), x.2, x.3))
    where
      In : ℕ → Type 0
      In p = (p / l ≡ d) × (o ≤ p % l) × (p % l < o + 128)

      room : d * l + o + 128 ≤ length s
      room = omega (arith, r.long)

      long : length block ≡ 128
      long = ap length e ∙ length-tabulate 128 (λ t. over n (E d) (byte_of 128 local (0 + t)))

      fresh : (p : ℕ) → p < length s₀ → In p → get_or (put s (d * l + o) block) p 0 ≡ block_byte local o p
      fresh p u x =
          let whole : d * l + p % l ≡ p = ap (λ (y : ℕ). y * l + p % l) (sym x.0) ∙ div-add-mod' p l in
          let at : d * l + o + (p % l - o) ≡ p = omega (arith, x.1) in
          ap (λ (y : ℕ). get_or (put s (d * l + o) block) y 0) (sym at)
          ∙ put-new s (d * l + o) block 128 room long (p % l - o) (omega (arith, x.1, x.2))
          ∙ ap (λ (b : List ℕ). get_or b (p % l - o) 0) e
          ∙ get_d_tabulate 128 (λ t. over n (E d) (byte_of 128 local (0 + t))) (p % l - o) (omega (arith, x.1, x.2))
          ∙ ap₂ (λ (y i : ℕ). over n (E i) (byte_of 128 local y)) (zero-add (p % l - o)) (sym x.0)

      old : (p : ℕ) → (In p → ⊥) → (p < d * l + o) ⊎ (d * l + o ≤ p) → (p < d * l + o + 128) ⊎ (d * l + o + 128 ≤ p)
          → get_or (put s (d * l + o) block) p 0 ≡ get_or s p 0
      old p k (inl a) c = put-before s (d * l + o) block 128 room long p a
      old p k (inr a) (inr c) = put-after s (d * l + o) block 128 room long p c
      old p k (inr a) (inl c) =
          let q = disk-of l d p (omega arith) (omega arith) (omega arith) in
          absurd (k (q.0, omega (arith, q.1), omega (arith, q.1)))

      split : (p : ℕ) → BlockTo o (d + 1) p → (p / l < d) ⊎ (p / l ≡ d) → In p ⊎ (In p → ⊥) × BlockTo o d p
      split p x (inl m) = inr (λ y. let z : p / l ≡ d = y.0 in omega arith, (x.0, m, x.2, x.3))
      split p x (inr q) = inl (q, x.2, x.3)

  pub block-all : (s₀ local : List ℕ) (o d : ℕ) (s : List ℕ) → Blocks s₀ local o d s → d ≡ n → n * l ≡ length s₀
      → s ≡ tabulate (length s₀) (λ p. if in_block o p then block_byte local o p else get_or s₀ p 0)
  block-all s₀ local o d s r e m =
      patched_all s₀ (block_byte local o) (BlockTo o d) (in_block o) s r
      (λ p h t. let a = and_out (has S (p / l)) (leb o (p % l) && ltb (p % l) (o + 128)) t in
      let b = and_out (leb o (p % l)) (ltb (p % l) (o + 128)) a.1 in
      (a.0, subst (λ (x : ℕ). p / l < x) (sym e) (places n l p (omega arith)).0, leb_out o (p % l) b.0, ltb_out (p % l) (o + 128) b.1))
      (λ p x. and_in (has S (p / l)) (leb o (p % l) && ltb (p % l) (o + 128)) x.0
      (and_in (leb o (p % l)) (ltb (p % l) (o + 128)) (leb_in x.2) (ltb_in x.3)))

  -- ---- offset after offset

  -- byte p, from the strips at entry
  abbrev strip_byte : List ℕ → ℕ → ℕ
  strip_byte s₀ p = over n (E (p / l)) (byte_of l s₀ (p % l))

  abbrev StripsTo : ℕ → ℕ → Type 0
  StripsTo o p = T (has S (p / l)) × (p % l < o)

  -- the bytes below o of the strips of the targets are filled
  abbrev pub Strips : List ℕ → ℕ → List ℕ → Type 0
  Strips s₀ o s = Patched s₀ (strip_byte s₀) (StripsTo o) s

  pub strips-none : (s : List ℕ) → Strips s 0 s
  strips-none s = patched_none s (strip_byte s) (StripsTo 0) (λ p x. let z : p % l < 0 = x.1 in omega arith)

  -- a strip that is no target's is as at entry
  strip-kept : (s₀ : List ℕ) (o : ℕ) (s : List ℕ) → Strips s₀ o s → (i t : ℕ) → t < l → i * l + t < length s₀
      → (T (has S i) → ⊥) → byte_of l s t i ≡ byte_of l s₀ t i
  unfolding byte_of
  strip-kept s₀ o s r i t v u f = r.kept (i * l + t) u (λ x. f (subst (λ (y : ℕ). T (has S y)) (digits_div i v) x.0))

  -- a block at q, which leaves no gap; what was gathered is no target's, so it is as at entry
  pub strips-more : (s₀ : List ℕ) (o q : ℕ) (s local s' : List ℕ) → ((d i : ℕ) → T (has S d) → i < n → T (has (E d) i) → T (has S i) → ⊥)
      → Strips s₀ o s → q ≤ o → o ≤ q + 128 → q + 128 ≤ l → n * l ≡ length s₀
      → ((t i : ℕ) → t < 128 → i < n → byte_of 128 local t i ≡ byte_of l s (q + t) i)
      → s' ≡ tabulate (length s) (λ p. if in_block q p then block_byte local q p else get_or s p 0)
      → Strips s₀ (q + 128) s'
  strips-more s₀ o q s local s' apart r h k m fits got e =
      patched_more s₀ (strip_byte s₀) (StripsTo o) In (StripsTo (q + 128)) s s' r (ap length e ∙ length-tabulate (length s) all)
      (λ p u x. at p u ∙ if_true (in_block q p) (block_byte local q p) (get_or s p 0)
      (and_in (has S (p / l)) (leb q (p % l) && ltb (p % l) (q + 128)) x.0 (and_in (leb q (p % l)) (ltb (p % l) (q + 128)) (leb_in x.1) (ltb_in x.2)))
      ∙ read p x.0 x.1 x.2)
      (λ p u f. at p u ∙ if_false (in_block q p) (block_byte local q p) (get_or s p 0)
      (λ t. let a = and_out (has S (p / l)) (leb q (p % l) && ltb (p % l) (q + 128)) t in
      let b = and_out (leb q (p % l)) (ltb (p % l) (q + 128)) a.1 in
      f (a.0, leb_out q (p % l) b.0, ltb_out (p % l) (q + 128) b.1)))
      (λ p x. split p x (below_or (p % l) q))
      (λ p x. (x.0, x.2))
      (λ p x. (x.0, (let z : p % l < o = x.1 in omega arith)))
    where
      In : ℕ → Type 0
      In p = T (has S (p / l)) × (q ≤ p % l) × (p % l < q + 128)

      all : ℕ → ℕ
      all p = if in_block q p then block_byte local q p else get_or s p 0

      at : (p : ℕ) → p < length s₀ → get_or s' p 0 ≡ all p
      at p u = ap (λ (x : List ℕ). get_or x p 0) e ∙ get_d_tabulate (length s) all p (omega (arith, r.long))

      same : (i d t : ℕ) → T (has S d) → i < n → T (has (E d) i) → t < l → byte_of l s t i ≡ byte_of l s₀ t i
      same i d t w b g v = strip-kept s₀ o s r i t v (subst (λ (x : ℕ). i * l + t < x) fits (digits_lt b v)) (apart d i w b g)

      read : (p : ℕ) → T (has S (p / l)) → q ≤ p % l → p % l < q + 128 → block_byte local q p ≡ strip_byte s₀ p
      read p w a c =
          let v : q + (p % l - q) ≡ p % l = omega arith in
          over_cong n (E (p / l)) (byte_of 128 local (p % l - q)) (byte_of l s₀ (p % l))
          (λ i b g. got (p % l - q) i (omega arith) b ∙ ap (λ (x : ℕ). byte_of l s x i) v ∙ same i (p / l) (p % l) w b g (omega arith))

      split : (p : ℕ) → StripsTo (q + 128) p → (p % l < q) ⊎ (q ≤ p % l) → In p ⊎ (In p → ⊥) × StripsTo o p
      split p x (inl a) = inr (λ y. let z : q ≤ p % l = y.1 in omega arith, (x.0, omega arith))
      split p x (inr a) = inl (x.0, a, x.1)

  pub strips-all : (s₀ : List ℕ) (o : ℕ) (s : List ℕ) → Strips s₀ o s → o ≡ l → n * l ≡ length s₀ → s ≡ filled n l E S s₀
  unfolding filled
  strips-all s₀ o s r e m =
      patched_all s₀ (strip_byte s₀) (StripsTo o) (λ p. has S (p / l)) s r
      (λ p h t. (t, subst (λ (x : ℕ). p % l < x) (sym e) (places n l p (omega arith)).1)) (λ p x. x.0)
