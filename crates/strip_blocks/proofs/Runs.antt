-- A run of entries written into a list, block after block or one by one: entry t of the run is g t. Blocks may have any width and lie
-- over each other.
-- Assumes nothing.
use mathlib.Core.Path.{◌≡◌, refl, sym, ap, ◌∙◌}
use mathlib.Core.Logic.{◌⊎◌, inl, inr}
use mathlib.Core.List.{List, [], ◌∷◌}
use Prim.Native.Nat.{ℕ, ◌+◌, ◌-◌, ◌≤◌, ◌<◌}
use native.Mathlib.Numerals.{add-one}
use native.Mathlib.Nat.{zero-add}
use native.Mathlib.Omega.{arith}
use lib.ListN.{length, get_or, set}
use lib.Seq.{ext_get_or, set_split, append_snoc}
use Rattle.gf2.proofs.Tests.{below_or}
use Rattle.flat.specs.Lists.{tabulate, put}
use Rattle.flat.proofs.Lists.{length-tabulate, get_d_tabulate, length-put, put-before, put-new, put-after}

module _ (s₀ : List ℕ) (a : ℕ) (g : ℕ → ℕ) where
  -- the first o entries from a on are written, the others are those at entry
  pub record Run (o : ℕ) (s : List ℕ) : Type 0 where
    pub long : length s ≡ length s₀
    pub before : (p : ℕ) → p < a → get_or s p 0 ≡ get_or s₀ p 0
    pub new : (t : ℕ) → t < o → get_or s (a + t) 0 ≡ g t
    pub after : (p : ℕ) → a + o ≤ p → get_or s p 0 ≡ get_or s₀ p 0

  -- n entries that are there already, or none
  pub run_there : (n : ℕ) → ((t : ℕ) → t < n → get_or s₀ (a + t) 0 ≡ g t) → Run n s₀
  run_there n e = record { long = refl; before = λ p h. refl; new = e; after = λ p h. refl }

  pub run_none : Run 0 s₀
  run_none = run_there 0 (λ t h. absurd (omega arith))

  -- one more block, which leaves no gap
  pub run_more : (s s' block : List ℕ) (o q n : ℕ) → Run o s → q ≤ o → o ≤ q + n → a + q + n ≤ length s₀ → length block ≡ n
      → ((t : ℕ) → t < n → get_or block t 0 ≡ g (q + t)) → s' ≡ put s (a + q) block → Run (q + n) s'
  run_more s s' block o q n r h k fits long right e =
      rw e
      (record {
        long = length-put s (a + q) block (omega (arith, room)) ∙ r.long;
        before = λ p m. put-before s (a + q) block n room long p (omega arith) ∙ r.before p m;
        new = λ t m. go t m (below_or t q);
        after = λ p m. put-after s (a + q) block n room long p (omega arith) ∙ r.after p (omega arith);
      })
    where
      room : a + q + n ≤ length s
      room = omega (arith, r.long)

      go : (t : ℕ) → t < q + n → (t < q) ⊎ (q ≤ t) → get_or (put s (a + q) block) (a + t) 0 ≡ g t
      go t m (inl c) = put-before s (a + q) block n room long (a + t) (omega arith) ∙ r.new t (omega arith)
      go t m (inr c) =
          let x : a + q + (t - q) ≡ a + t = omega arith in
          let y : q + (t - q) ≡ t = omega arith in
          ap (λ (p : ℕ). get_or (put s (a + q) block) p 0) (sym x) ∙ put-new s (a + q) block n room long (t - q) (omega arith)
          ∙ right (t - q) (omega arith) ∙ ap g y

  -- one more entry
  pub run_byte : (s : List ℕ) (o v : ℕ) → Run o s → a + o < length s₀ → v ≡ g o → Run (o + 1) (set s (a + o) v)
  unfolding put
  run_byte s o v r fits e =
      run_more s (set s (a + o) v) (v ∷ []) o o 1 r (omega arith) (omega arith) (omega arith) refl
      (λ t m. let x : t ≡ 0 = omega arith in let y : o ≡ o + t = omega arith in ap (λ (i : ℕ). get_or (v ∷ []) i 0) x ∙ e ∙ ap g y)
      (rw (append_snoc, add-one) (set_split s (a + o) v (omega (arith, r.long))))

  -- all of it
  pub run_all : (n o : ℕ) (s : List ℕ) → Run o s → o ≡ n → a + n ≤ length s₀ → s ≡ put s₀ a (tabulate n g)
  run_all n o s r e fits =
      ext_get_or 0 s (put s₀ a (tabulate n g)) (r.long ∙ sym (length-put s₀ a (tabulate n g) (omega (arith, length-tabulate n g))))
      (λ p h. go p (below_or p a) (below_or p (a + n)))
    where
      go : (p : ℕ) → (p < a) ⊎ (a ≤ p) → (p < a + n) ⊎ (a + n ≤ p) → get_or s p 0 ≡ get_or (put s₀ a (tabulate n g)) p 0
      go p (inl h) k = r.before p h ∙ sym (put-before s₀ a (tabulate n g) n fits (length-tabulate n g) p h)
      go p (inr h) (inr k) = r.after p (omega arith) ∙ sym (put-after s₀ a (tabulate n g) n fits (length-tabulate n g) p k)
      go p (inr h) (inl k) =
          let x : a + (p - a) ≡ p = omega arith in
          ap (λ (q : ℕ). get_or s q 0) (sym x) ∙ r.new (p - a) (omega arith)
          ∙ sym (ap (λ (q : ℕ). get_or (put s₀ a (tabulate n g)) q 0) (sym x) ∙ put-new s₀ a (tabulate n g) n fits (length-tabulate n g) (p - a) (omega arith)
          ∙ get_d_tabulate n g (p - a) (omega arith))

-- a run from the beginning to the end
pub run_whole : (s₀ : List ℕ) (g : ℕ → ℕ) (n o : ℕ) (s : List ℕ) → Run s₀ 0 g o s → o ≡ n → length s₀ ≡ n → s ≡ tabulate n g
run_whole s₀ g n o s r e long =
    ext_get_or 0 s (tabulate n g) (r.long ∙ long ∙ sym (length-tabulate n g))
    (λ t h. let m : t < n = omega (arith, r.long) in ap (λ (p : ℕ). get_or s p 0) (sym (zero-add t)) ∙ r.new t (omega arith) ∙ sym (get_d_tabulate n g t m))

-- the whole run once more, of other entries
pub run_again : (s₀ : List ℕ) (a : ℕ) (g g' : ℕ → ℕ) (n : ℕ) (s s' block : List ℕ) → Run s₀ a g n s → a + n ≤ length s₀ → length block ≡ n
    → ((t : ℕ) → t < n → get_or block t 0 ≡ g' t) → s' ≡ put s a block → Run s₀ a g' n s'
run_again s₀ a g g' n s s' block r fits long right e =
    rw e
    (record {
      long = length-put s a block (omega (arith, room)) ∙ r.long;
      before = λ p h. put-before s a block n room long p h ∙ r.before p h;
      new = λ t h. put-new s a block n room long t h ∙ right t h;
      after = λ p h. put-after s a block n room long p h ∙ r.after p h;
    })
  where
    room : a + n ≤ length s
    room = omega (arith, r.long)
