-- Fields one behind the other: places, entries, and going back over them by halves.
-- Assumes nothing.
use mathlib.Core.Path.{◌≡◌, refl, sym, ap, ◌∙◌}
use mathlib.Core.List.{List, [], ◌∷◌, ◌++◌}
use Prim.Native.Nat.{ℕ, zero, suc, ◌+◌, ◌-◌, ◌<◌, ◌≤◌}
use native.Mathlib.Omega.{arith}
use lib.IntN.{ℤ}
use lib.ListN.{length, drop}
use lib.Seq.{drop_at}
use Rattle.entry.specs.Field.{field_at}
use Rattle.journal.specs.Entries.{give_back, restore, next_at, entries_at, place_at}
use Rattle.journal.proofs.Restore.{restore_append}

module _ (s : List ℕ) where
  -- ---- places

  pub place_done : (p i n : ℕ) → n ≤ i → place_at s p (n - i) ≡ p
  unfolding place_at
  place_done p i n h = let z : n - i ≡ 0 = omega arith in rw z

  pub place_more : (p i n : ℕ) → i < n → place_at s (next_at s p) (n - (i + 1)) ≡ place_at s p (n - i)
  unfolding place_at
  place_more p i n h = let z : n - i ≡ suc (n - (i + 1)) = omega arith in rw z

  pub place_none : (p : ℕ) → p ≡ place_at s p 0
  unfolding place_at
  place_none p = refl

  pub place_next : (p n : ℕ) → place_at s p (n + 1) ≡ next_at s (place_at s p n)
  unfolding place_at
  place_next p zero = refl
  place_next p (suc n) = let z : suc n + 1 ≡ suc (n + 1) = omega arith in rw z (place_next (next_at s p) n)

  -- ---- entries

  pub entries_length : (p n : ℕ) → length (entries_at s p n) ≡ n
  unfolding entries_at
  entries_length p zero = refl
  entries_length p (suc n) = ap suc (entries_length (next_at s p) n)

  -- the entries of two stretches
  pub entries_add : (p a b : ℕ) → entries_at s p (a + b) ≡ entries_at s p a ++ entries_at s (place_at s p a) b
  unfolding entries_at place_at
  entries_add p zero b = let z : 0 + b ≡ b = omega arith in rw z
  entries_add p (suc a) b = let z : suc a + b ≡ suc (a + b) = omega arith in rw z (ap (λ l. field_at s p ∷ l) (entries_add (next_at s p) a b))

  pub entries_one : (n : ℕ) → entries_at s 0 (n + 1) ≡ entries_at s 0 n ++ (field_at s (place_at s 0 n) ∷ [])
  unfolding entries_at
  entries_one n = entries_add 0 n 1

  pub entries_from : (m n : ℕ) → m ≤ n → entries_at s (place_at s 0 m) (n - m) ≡ drop m (entries_at s 0 n)
  entries_from m n h =
      let z : m + (n - m) ≡ n = omega arith in
      sym (ap (λ k. drop m (entries_at s 0 k)) (sym z) ∙ ap (drop m) (entries_add 0 m (n - m)) ∙ drop_at (entries_at s 0 m) (entries_at s (place_at s 0 m) (n - m)) m (entries_length 0 m))

  -- ---- going back

  module _ (ps : List ℕ) (p : ℕ) (t : List ℤ) where
    pub back_none : t ≡ restore ps (entries_at s p 0) t
    unfolding restore entries_at
    back_none = refl

    pub back_one : give_back ps (field_at s p) t ≡ restore ps (entries_at s p 1) t
    unfolding restore entries_at
    back_one = refl

    pub back_halves : (h n : ℕ) → h ≤ n → restore ps (entries_at s p h) (restore ps (entries_at s (place_at s p h) (n - h)) t) ≡ restore ps (entries_at s p n) t
    back_halves h n l =
        let z : h + (n - h) ≡ n = omega arith in
        sym (restore_append ps (entries_at s p h) (entries_at s (place_at s p h) (n - h)) t) ∙ ap (λ l. restore ps l t) (sym (entries_add p h (n - h)) ∙ ap (entries_at s p) z)
