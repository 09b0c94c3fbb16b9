-- Pieces one behind the other: what is told of them as bad is told of the first that is bad, and of no other; where all are done they are
-- done as a whole, and each has its part of the cells.
-- Assumes nothing.
use mathlib.Core.Path.{◌≡◌, refl, sym, ◌∙◌, ap}
use mathlib.Core.List.{List, [], ◌++◌}
use mathlib.Core.Logic.{◌↔◌, ⊎_elim}
use Prim.Native.Nat.{ℕ, zero, suc, ◌+◌, ◌-◌, ◌<◌, ◌≤◌}
use native.Mathlib.Nat.{eq-or-lt_of_le}
use native.Mathlib.Omega.{arith}
use lib.ListN.{length, take, drop}
use lib.Seq.{drop_at, take_at, drop-drop}
use Rattle.base.specs.Part.{part}
use Rattle.base.specs.Pieces.{Got, done, bad, both}
use Rattle.base.proofs.Pieces.{both_done}
use Rattle.base.proofs.Taken.{drop_none}

pub record IsDone {B C : Type 0} (g : Got B C) : Type 0 where
  pub cells : List C
  pub is : g ≡ done cells

-- m pieces: what is read from piece i on is piece i, and then what is read from the next on
pub record InPieces {B C : Type 0} (m : ℕ) (piece from : ℕ → Got B C) : Type 0 where
  pub more : (i : ℕ) → i < m → from i ≡ both (piece i) (from (suc i))
  pub none : from m ≡ done []

-- r is told of a piece before which all are done
pub record FirstBad {B C : Type 0} (m : ℕ) (piece : ℕ → Got B C) (r : B) : Type 0 where
  pub at : ℕ
  pub inside : at < m
  pub earlier : (i : ℕ) → i < at → IsDone (piece i)
  pub told : piece at ≡ bad r

-- the cells of piece i begin at `at i`, and end where those of the next begin
pub record Sized {B C : Type 0} (m : ℕ) (piece : ℕ → Got B C) (at : ℕ → ℕ) : Type 0 where
  pub begin : at 0 ≡ 0
  pub size : (i : ℕ) → i < m → (cs : List C) → piece i ≡ done cs → at i + length cs ≡ at (suc i)

module _ {B C : Type 0} {m : ℕ} {piece from : ℕ → Got B C} (p : InPieces m piece from) where
  -- ---- a bad piece

  -- what is told from piece i on, behind pieces that are done, is told of all
  told_back : (r : B) (i : ℕ) → i ≤ m → ((k : ℕ) → k < i → IsDone (piece k)) → from i ≡ bad r → from 0 ≡ bad r
  told_back r zero h d e = e
  told_back r (suc i) h d e =
      let c = d i (omega arith) in
      told_back r i (omega arith) (λ k l. d k (omega arith)) (p.more i h ∙ rw (c.is, e))

  pub bad_told : (r : B) → FirstBad m piece r → from 0 ≡ bad r
  bad_told r b = told_back r b.at (omega (arith, b.inside)) b.earlier (p.more b.at b.inside ∙ rw b.told)

  next_bad : (r : B) (cs : List C) (g : Got B C) → both (done cs) g ≡ bad r → g ≡ bad r
  next_bad r cs (done ds) w = let z : ◌≡◌ {A = ℕ} 0 1 = cc in absurd (omega arith)
  next_bad r cs (bad q) w = w

  one_more : (i : ℕ) {cs : List C} → ((j : ℕ) → j < i → IsDone (piece j)) → piece i ≡ done cs → (j : ℕ) → j < suc i → IsDone (piece j)
  one_more i d u j l =
      ⊎_elim
      (λ (e : j ≡ i). record { cells = _; is = ap piece e ∙ u })
      (λ (h : j < i). d j h)
      (eq-or-lt_of_le (omega arith))

  -- at piece i: it is the first that is bad, or one behind it is
  bad_here : (r : B) (i : ℕ) → i < m → ((j : ℕ) → j < i → IsDone (piece j)) → (g : Got B C) → piece i ≡ g → both g (from (suc i)) ≡ bad r
      → (((j : ℕ) → j < suc i → IsDone (piece j)) → from (suc i) ≡ bad r → FirstBad m piece r) → FirstBad m piece r
  bad_here r i h d (done cs) u w later = later (one_more i d u) (next_bad r cs (from (suc i)) w)
  bad_here r i h d (bad q) u w later = record { at = i; inside = h; earlier = d; told = u ∙ w }

  -- from piece i on, with k pieces left
  bad_search : (r : B) (k i : ℕ) → i + k ≡ m → ((j : ℕ) → j < i → IsDone (piece j)) → from i ≡ bad r → FirstBad m piece r
  bad_search r zero i e d b =
      let n : i ≡ m = omega arith in
      let w : ◌≡◌ {A = Got B C} (done []) (bad r) = sym p.none ∙ ap from (sym n) ∙ b in
      let z : ◌≡◌ {A = ℕ} 0 1 = cc in
      absurd (omega arith)
  bad_search r (suc k) i e d b =
      bad_here r i (omega arith) d (piece i) refl (sym (p.more i (omega arith)) ∙ b) (bad_search r k (suc i) (omega arith))

  -- both directions: r is told of all exactly if it is told of the first bad piece
  pub first_bad : (r : B) → from 0 ≡ bad r ↔ FirstBad m piece r
  first_bad r = (bad_search r m 0 (omega arith) (λ j l. absurd (omega arith)), bad_told r)

  -- ---- all pieces done

  done_from : (k i : ℕ) → i + k ≡ m → ((j : ℕ) → j < m → IsDone (piece j)) → IsDone (from i)
  done_from zero i e d =
      let n : i ≡ m = omega arith in
      record { cells = []; is = ap from n ∙ p.none }
  done_from (suc k) i e d =
      let a = d i (omega arith) in
      let b = done_from k (suc i) (omega arith) d in
      record { cells = a.cells ++ b.cells; is = p.more i (omega arith) ∙ rw (a.is, b.is) }

  pub all_done : ((j : ℕ) → j < m → IsDone (piece j)) → IsDone (from 0)
  all_done d = done_from m 0 (omega arith) d

  module _ {at : ℕ → ℕ} (z : Sized m piece at) (cs : List C) (e : from 0 ≡ done cs) where
    record PieceDone (i : ℕ) : Type 0 where
      here : piece i ≡ done (part (at i) (at (suc i)) cs)
      behind : from (suc i) ≡ done (drop (at (suc i)) cs)

    piece_cut : (i : ℕ) → i < m → from i ≡ done (drop (at i) cs) → PieceDone i
    piece_cut i h u =
        let b = both_done (piece i) (from (suc i)) (drop (at i) cs) (sym (p.more i h) ∙ u) in
        let n = z.size i h b.first b.first_is in
        let w : at (suc i) - at i ≡ length b.first = omega arith in
        let d : drop (at (suc i)) cs ≡ b.second =
        ap (λ k. drop k cs) (sym n) ∙ sym (drop-drop (length b.first) (at i) cs) ∙ ap (drop (length b.first)) b.all ∙ drop_at b.first b.second (length b.first) refl in
        record {
          here = b.first_is ∙ ap done (sym (ap (λ k. take k (drop (at i) cs)) w ∙ ap (take (length b.first)) b.all ∙ take_at b.first b.second (length b.first) refl));
          behind = b.second_is ∙ ap done (sym d);
        }

    rest_done : (i : ℕ) → i ≤ m → from i ≡ done (drop (at i) cs)
    rest_done zero h = e ∙ ap done (sym (drop_none cs) ∙ ap (λ k. drop k cs) (sym z.begin))
    rest_done (suc i) h = (piece_cut i h (rest_done i (omega arith))).behind

    -- each piece is its part of the cells
    pub piece_done : (i : ℕ) → i < m → piece i ≡ done (part (at i) (at (suc i)) cs)
    piece_done i h = (piece_cut i h (rest_done i (omega arith))).here
