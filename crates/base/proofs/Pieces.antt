-- Reading in pieces: what a piece that reads, and one that doesn't, make of the whole. Writing in pieces: how long it is, one piece behind
-- another, and that only the cells that the pieces take matter.
-- Assumes nothing.
use mathlib.Core.Path.{◌≡◌, refl, sym, ◌∙◌}
use mathlib.Core.List.{List, [], ◌∷◌, ◌++◌, map, append_assoc}
use Prim.Native.Nat.{ℕ, ◌+◌, ◌-◌, ◌≤◌}
use native.Mathlib.Omega.{arith}
use lib.ListN.{length, take, drop, length-append}
use lib.Seq.{take-take, drop-drop}
use Rattle.base.specs.Pieces.{Got, done, bad, both, emit, Own}
use Rattle.base.specs.Sum.{sum}
use Rattle.base.proofs.Taken.{drop_none, drop_take}

module _ {B C : Type 0} where
  -- both pieces read, with these cells
  pub record BothDone (g h : Got B C) (cs : List C) : Type 0 where
    pub first : List C
    pub second : List C
    pub first_is : g ≡ done first
    pub second_is : h ≡ done second
    pub all : cs ≡ first ++ second

  no_done : {A : Type 0} {r : B} {cs : List C} → ◌≡◌ {A = Got B C} (bad r) (done cs) → A
  no_done e = let z : ◌≡◌ {A = ℕ} 0 1 = cc in absurd (omega arith)

  -- what is read as a whole was read piece by piece
  pub both_done : (g h : Got B C) (cs : List C) → both g h ≡ done cs → BothDone g h cs
  both_done (done a) (done b) cs e = record { first = a; second = b; first_is = refl; second_is = refl; all = cc }
  both_done (done a) (bad r) cs e = no_done e
  both_done (bad q) h cs e = no_done e

-- ---- writing: each piece from its own cells

module _ {A C : Type 0} (size : A → ℕ) where
  pub own_imply : (P Q : A → List C → Type 0) (bs : List A) (cs : List C) → ((a : A) (c : List C) → P a c → Q a c) → Own size P bs cs → Own size Q bs cs
  unfolding Own
  own_imply P Q [] cs h o = tt
  own_imply P Q (a ∷ bs) cs h o = (h a (take (size a) cs) o.0, own_imply P Q bs (drop (size a) cs) h o.1)

  -- only the cells that the pieces take matter
  pub own_take : (P : A → List C → Type 0) (bs : List A) (cs : List C) (n : ℕ) → sum (map size bs) ≤ n → Own size P bs cs → Own size P bs (take n cs)
  unfolding Own sum
  own_take P [] cs n h o = tt
  own_take P (a ∷ bs) cs n h o =
      rw (take-take (size a) n cs (omega arith), drop_take (size a) n cs)
      (o.0, own_take P bs (drop (size a) cs) (n - size a) (omega arith) o.1)

  pub own_append : (P : A → List C → Type 0) (ks bs : List A) (cs : List C) → Own size P ks cs → Own size P bs (drop (sum (map size ks)) cs) → Own size P (ks ++ bs) cs
  unfolding Own sum
  own_append P [] bs cs o u = rw (drop_none cs) at u
  own_append P (a ∷ ks) bs cs o u =
      (o.0, own_append P ks bs (drop (size a) cs) o.1 (rw (drop_after a ks cs) at u))
    where
      drop_after : (a : A) (ks : List A) (cs : List C) → drop (size a + sum (map size ks)) cs ≡ drop (sum (map size ks)) (drop (size a) cs)
      drop_after a ks cs = sym (drop-drop (sum (map size ks)) (size a) cs)

  module _ (text : A → List C → List ℕ) where
    pub emit_length : (wide : A → ℕ) (bs : List A) (cs : List C) → Own size (λ a c. length (text a c) ≡ wide a) bs cs → length (emit size text bs cs) ≡ sum (map wide bs)
    unfolding Own emit sum
    emit_length wide [] cs o = refl
    emit_length wide (a ∷ bs) cs o =
        length-append (text a (take (size a) cs)) (emit size text bs (drop (size a) cs))
        ∙ rw (o.0, emit_length wide bs (drop (size a) cs) o.1)

    pub emit_take : (bs : List A) (cs : List C) (n : ℕ) → sum (map size bs) ≤ n → emit size text bs (take n cs) ≡ emit size text bs cs
    unfolding emit sum
    emit_take [] cs n h = refl
    emit_take (a ∷ bs) cs n h =
        rw (take-take (size a) n cs (omega arith), drop_take (size a) n cs, emit_take bs (drop (size a) cs) (n - size a) (omega arith))

    -- some pieces, and others behind them
    pub emit_append : (ks bs : List A) (cs : List C) → emit size text (ks ++ bs) cs ≡ emit size text ks cs ++ emit size text bs (drop (sum (map size ks)) cs)
    unfolding emit sum
    emit_append [] bs cs = rw (drop_none cs)
    emit_append (a ∷ ks) bs cs =
        rw (
          emit_append ks bs (drop (size a) cs),
          drop-drop (sum (map size ks)) (size a) cs,
          append_assoc (text a (take (size a) cs)) (emit size text ks (drop (size a) cs))
              (emit size text bs (drop (size a + sum (map size ks)) cs)),
        )
