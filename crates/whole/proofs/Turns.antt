-- Groups in turn: one before others, all of them, the first that is refused; and where each group's cells stand among those of all.
-- Assumes nothing.
use mathlib.Core.Path.{◌≡◌, refl, sym, ◌∙◌, ap, ap₂}
use mathlib.Core.List.{List, [], ◌∷◌, ◌++◌, map, flat_map}
use mathlib.Core.Logic.{⊎_elim}
use Prim.Native.Nat.{ℕ, zero, suc, ◌+◌, ◌-◌, ◌<◌, ◌≤◌}
use native.Mathlib.Omega.{arith}
use lib.IntN.{ℤ}
use lib.ListN.{length, length-append}
use Rattle.base.specs.Every
use Rattle.base.specs.Every.{up_from}
use Rattle.base.specs.Part.{part}
use Rattle.base.specs.Pieces.{done, bad, both, cells_got}
use Rattle.base.specs.Sum
use Rattle.base.specs.Sum.{sum}
use Rattle.base.proofs.FirstBad.{IsDone, InPieces, Sized, first_bad, piece_done}
use Rattle.base.proofs.Order.{le_or_lt}
use Rattle.base.proofs.Pieces.{both_done}
use Rattle.reply.specs.declared.Refusal.{Refusal}
use Rattle.reading.specs.Read.{Cells}
use Rattle.whole.specs.Turn.{Turn, on_group, in_turn}

-- groups that read the same give the same in turn
pub turn_same : (f h : ℕ → Cells) (a k : ℕ) → ((g : ℕ) → a ≤ g → g < a + k → f g ≡ h g) → in_turn f (up_from a k) ≡ in_turn h (up_from a k)
unfolding in_turn Every.up_from
turn_same f h a zero e = refl
turn_same f h a (suc k) e = ap₂ both (ap (on_group a) (e a (omega arith) (omega arith))) (turn_same f h (suc a) k (λ g l m. e g (omega arith) (omega arith)))

module _ (read : ℕ → Cells) where
  -- ---- a group before others

  module _ (g : ℕ) (gs : List ℕ) where
    pub turn_done : {cs : List ℤ} → read g ≡ done cs → in_turn read (g ∷ gs) ≡ both (done cs) (in_turn read gs)
    unfolding in_turn
    turn_done e = rw e refl

    pub turn_bad : {r : Refusal} → read g ≡ bad r → in_turn read (g ∷ gs) ≡ bad (g, r)
    unfolding in_turn
    turn_bad e = rw e refl

  on_done : (g : ℕ) (c : Cells) (cs : List ℤ) → on_group g c ≡ done cs → c ≡ done cs
  on_done g (done ds) cs e = let p : ds ≡ cs = cc in ap done p
  on_done g (bad r) cs e = let z : ◌≡◌ {A = ℕ} 0 1 = cc in absurd (omega arith)

  on_bad : (g : ℕ) (c : Cells) (u : ℕ × Refusal) → on_group g c ≡ bad u → (g ≡ u.0) × (c ≡ bad u.1)
  on_bad g (done cs) u e = let z : ◌≡◌ {A = ℕ} 0 1 = cc in absurd (omega arith)
  on_bad g (bad r) u e = let p : ◌≡◌ {A = ℕ × Refusal} (g, r) u = cc in (ap (λ v. v.0) p, ap (λ v. bad v.1) p)

  -- a group, and the others behind it
  pub record FirstDone (g : ℕ) (gs : List ℕ) (cs : List ℤ) : Type 0 where
    pub first : List ℤ
    pub others : List ℤ
    pub first_is : read g ≡ done first
    pub others_are : in_turn read gs ≡ done others
    pub all : cs ≡ first ++ others

  pub turn_split : (g : ℕ) (gs : List ℕ) (cs : List ℤ) → in_turn read (g ∷ gs) ≡ done cs → FirstDone g gs cs
  unfolding in_turn
  turn_split g gs cs e =
      let b = both_done (on_group g (read g)) (in_turn read gs) cs e in
      record { first = b.first; others = b.second; first_is = on_done g (read g) b.first b.first_is; others_are = b.second_is; all = b.all }

  -- ---- all of them are read

  abbrev pub cells_of_group : ℕ → List ℤ
  cells_of_group g = cells_got (read g)

  pub record AllRead (a k : ℕ) (cs : List ℤ) : Type 0 where
    pub each : (g : ℕ) → a ≤ g → g < a + k → read g ≡ done (cells_of_group g)
    pub joined : cs ≡ flat_map cells_of_group (up_from a k)

  pub all_read : (a k : ℕ) (cs : List ℤ) → in_turn read (up_from a k) ≡ done cs → AllRead a k cs
  unfolding in_turn Every.up_from flat_map
  all_read a zero cs e =
      let p : [] ≡ cs = cc in
      record { each = λ g l m. absurd (omega arith); joined = sym p }
  all_read a (suc k) cs e =
      let b = turn_split a (up_from (suc a) k) cs e in
      let more = all_read (suc a) k b.others b.others_are in
      record { each = λ g l m. by a k b.first_is more g l m; joined = b.all ∙ ap₂ ◌++◌ (sym (ap cells_got b.first_is)) more.joined }
    where
      by : (a k : ℕ) {cs ds : List ℤ} → read a ≡ done cs → AllRead (suc a) k ds → (g : ℕ) → a ≤ g → g < a + suc k → read g ≡ done (cells_of_group g)
      by a k h more g l m =
          ⊎_elim
          (λ (p : g ≤ a). let q : a ≡ g = omega arith in ap read (sym q) ∙ h ∙ ap done (sym (ap cells_got (ap read (sym q) ∙ h))))
          (λ (p : a < g). more.each g p (omega arith))
          (le_or_lt g a)

  pub read_all : (cells : ℕ → List ℤ) (a k : ℕ) → ((g : ℕ) → a ≤ g → g < a + k → read g ≡ done (cells g)) → in_turn read (up_from a k) ≡ done (flat_map cells (up_from a k))
  unfolding in_turn Every.up_from flat_map
  read_all cells a zero each = refl
  read_all cells a (suc k) each = rw (each a (omega arith) (omega arith), read_all cells (suc a) k (λ g l m. each g (omega arith) (omega arith))) refl

  -- as many cells as the groups have, if each has so many
  pub turn_length : (size : ℕ → ℕ) → ((g : ℕ) (cs : List ℤ) → read g ≡ done cs → length cs ≡ size g) → (gs : List ℕ) (cs : List ℤ) → in_turn read gs ≡ done cs → length cs ≡ sum (map size gs)
  unfolding in_turn Sum.sum
  turn_length size each [] cs e = let p : [] ≡ cs = cc in ap length (sym p)
  turn_length size each (g ∷ gs) cs e =
      let b = turn_split g gs cs e in
      ap length b.all ∙ length-append b.first b.others ∙ ap₂ ◌+◌ (each g b.first b.first_is) (turn_length size each gs b.others b.others_are)

  -- ---- groups 1 to 60, as pieces

  abbrev piece : ℕ → Turn
  piece i = on_group (suc i) (read (suc i))

  in_turn_lem : InPieces 60 piece (λ i. in_turn read (up_from (suc i) (60 - i)))
  unfolding in_turn Every.up_from
  in_turn_lem = record { more = λ i l. ap (in_turn read) (next i l); none = refl }
    where
      next : (i : ℕ) → i < 60 → up_from (suc i) (60 - i) ≡ suc i ∷ up_from (suc (suc i)) (60 - suc i)
      next i l = let e : 60 - i ≡ suc (60 - suc i) = omega arith in rw e

  -- the first group that is refused
  pub record First (g : ℕ) (r : Refusal) : Type 0 where
    pub low : 1 ≤ g
    pub high : g ≤ 60
    pub earlier : (h : ℕ) → 1 ≤ h → h < g → IsDone (read h)
    pub told : read g ≡ bad r

  pub turn_first : (u : ℕ × Refusal) → in_turn read (up_from 1 60) ≡ bad u → First u.0 u.1
  turn_first u e =
      let b = (first_bad in_turn_lem u).0 e in
      let t = on_bad (suc b.at) (read (suc b.at)) u b.told in
      record {
        low = omega (arith, t.0);
        high = omega (arith, t.0, b.inside);
        earlier = earlier b.at u.0 t.0 b.earlier;
        told = ap read (sym t.0) ∙ t.1;
      }
    where
      earlier : (k g : ℕ) → suc k ≡ g → ((i : ℕ) → i < k → IsDone (piece i)) → (h : ℕ) → 1 ≤ h → h < g → IsDone (read h)
      earlier k g e d zero l m = absurd (omega arith)
      earlier k g e d (suc h) l m =
          let i = d h (omega arith) in
          record { cells = i.cells; is = on_done (suc h) (read (suc h)) i.cells i.is }

  pub first_turn : (g : ℕ) (r : Refusal) → First g r → in_turn read (up_from 1 60) ≡ bad (g, r)
  first_turn zero r f = absurd (omega (arith, f.low))
  first_turn (suc k) r f = (first_bad in_turn_lem (suc k, r)).1 record {
    at = k;
    inside = omega (arith, f.high);
    earlier = λ i l. let d = f.earlier (suc i) (omega arith) (omega arith) in record { cells = d.cells; is = rw d.is refl };
    told = rw f.told refl;
  }

  -- where each group's cells stand among those of all, if each has so many
  pub turn_stands : (place : ℕ → ℕ) → place 1 ≡ 0 → ((g : ℕ) → 1 ≤ g → g ≤ 60 → (cs : List ℤ) → read g ≡ done cs → place g + length cs ≡ place (suc g))
      → (cs : List ℤ) → in_turn read (up_from 1 60) ≡ done cs → (g : ℕ) → 1 ≤ g → g ≤ 60 → read g ≡ done (part (place g) (place (suc g)) cs)
  turn_stands place begin size cs e zero low high = absurd (omega arith)
  turn_stands place begin size cs e (suc i) low high =
      on_done (suc i) (read (suc i)) (part (place (suc i)) (place (suc (suc i))) cs) (piece_done in_turn_lem sized cs e i (omega arith))
    where
      sized : Sized 60 piece (λ i. place (suc i))
      sized = record { begin = begin; size = λ i l ds d. size (suc i) (omega arith) (omega arith) ds (on_done (suc i) (read (suc i)) ds d) }
