-- Replies that fill a row of a question's table.
-- Assumes nothing.
use mathlib.Core.Path.{◌≡◌, refl, sym, subst}
use mathlib.Core.Bool.{Bool, true, false, ◌||◌, cond}
use mathlib.Core.List.{List, [], ◌∷◌, ◌++◌, map}
use mathlib.Core.Logic.{inl, inr}
use Prim.Native.Nat.{ℕ, zero, suc, ◌<◌, ◌≤◌}
use native.Mathlib.Nat.{le_of_suc-le-suc}
use native.Mathlib.Omega.{arith}
use borrow.Author.Tests.{eq-eqb, eqb-true}
use lib.Dec.{T, eqb}
use lib.ListN.{length, get_or}
use Rattle.base.specs.Every.{has}
use Rattle.base.proofs.Choice.{or_right}
use Rattle.reply.specs.declared.Reply.{Reply}
use Rattle.reply.specs.declared.Refusal.{Refusal}
use Rattle.reply.specs.Table.{Beside, Given, told, amount_of, kinds_of, Row, row, Shown, Fills, Numbered, kind_code, is_kind, next, cells, bytes, group, line, element, position, savepoint, place}
use Rattle.reply.specs.Refusals.{refusal_reply, refusal_number, beside_of, refusal_row, rows}

-- the least that a number can be, by the code of its kind: a group may have no cells, and a field of a journal may be its first
abbrev pub least_of : ℕ → ℕ
least_of c = cond (eqb c 1 || eqb c 8) 0 1

-- each of these numbers is at least that
abbrev pub Counted : Given → Type 0
Counted [] = Unit {0}
Counted (b ∷ bs) = (least_of (kind_code b.0) ≤ b.1) × Counted bs

abbrev codes_of : Given → List ℕ
codes_of bs = map kind_code (kinds_of bs)

-- a kind of number that is named is given, and one that isn't is 0
shown_one : (b : Beside) (bs : Given) → Counted bs → Shown (has (codes_of bs) (kind_code b)) (least_of (kind_code b)) (amount_of (is_kind b) bs)
shown_one b [] c = refl
shown_one b (g ∷ gs) c = by (eqb (kind_code g.0) (kind_code b)) refl (shown_one b gs c.1)
  where
    by : (t : Bool) → eqb (kind_code g.0) (kind_code b) ≡ t → Shown (has (codes_of gs) (kind_code b)) (least_of (kind_code b)) (amount_of (is_kind b) gs)
        → Shown (t || has (codes_of gs) (kind_code b)) (least_of (kind_code b)) (cond t g.1 (amount_of (is_kind b) gs))
    by true e h = subst (λ k. least_of k ≤ g.1) (eqb-true (kind_code g.0) (kind_code b) e) c.0
    by false e h = h

-- the same of cells and bytes, which both are what was written
shown_written : (bs : Given) → Counted bs → Shown (has (codes_of bs) 1 || has (codes_of bs) 2) (cond (has (codes_of bs) 1) 0 1) (amount_of (λ c. is_kind cells c || is_kind bytes c) bs)
shown_written [] c = refl
shown_written (g ∷ gs) c = by (eqb (kind_code g.0) 1) (eqb (kind_code g.0) 2) (has (codes_of gs) 1) refl (shown_written gs c.1)
  where
    by : (t u v : Bool) → eqb (kind_code g.0) 2 ≡ u → Shown (v || has (codes_of gs) 2) (cond v 0 1) (amount_of (λ c. is_kind cells c || is_kind bytes c) gs)
        → Shown ((t || v) || (u || has (codes_of gs) 2)) (cond (t || v) 0 1) (cond (t || u) g.1 (amount_of (λ c. is_kind cells c || is_kind bytes c) gs))
    by true u v e h = omega arith
    by false true true e h = omega arith
    by false true false e h = subst (λ k. least_of k ≤ g.1) (eqb-true (kind_code g.0) 2 e) c.0
    by false false v e h = h

-- the numbers beside a reply fill the row that names them
pub fills : (k : ℕ) (bs : Given) → Counted bs → Fills (row k (kinds_of bs)) (told k bs)
fills k bs c =
    record {
      numbered = refl;
      with_next = shown_one next bs c;
      with_written = shown_written bs c;
      with_group = shown_one group bs c;
      with_line = shown_one line bs c;
      with_element = shown_one element bs c;
      with_position = shown_one position bs c;
      with_savepoint = shown_one savepoint bs c;
      with_place = shown_one place bs c;
    }

pub refusal_fills : (r : Refusal) → Counted (beside_of r) → Fills (refusal_row r) (refusal_reply r)
refusal_fills r c = fills (refusal_number r) (beside_of r) c

-- ---- which row

pub at_row : (k : ℕ) (ws : List Row) (r : Reply) → k < length ws → Fills (get_or ws k (row 0 [])) r → Numbered ws r
at_row k [] r l f = absurd (omega arith)
at_row zero (w ∷ ws) r l f = inl f
at_row (suc k) (w ∷ ws) r l f = inr (at_row k ws r (le_of_suc-le-suc l) f)

-- refusals that begin with others
pub rows_left : (a b : List Refusal) (r : Reply) → Numbered (rows a) r → Numbered (rows (a ++ b)) r
rows_left [] b r n = absurd n
rows_left (x ∷ a) b r (inl f) = inl f
rows_left (x ∷ a) b r (inr n) = inr (rows_left a b r n)

pub rows_right : (a b : List Refusal) (r : Reply) → Numbered (rows b) r → Numbered (rows (a ++ b)) r
rows_right [] b r n = n
rows_right (x ∷ a) b r n = inr (rows_right a b r n)

-- the number is one of the table's
pub numbered_known : (ws : List Row) (r : Reply) → Numbered ws r → T (has (map (λ w. w.number) ws) r.number)
numbered_known [] r n = n
numbered_known (w ∷ ws) r (inl f) = rw (eq-eqb w.number r.number (sym f.numbered)) tt
numbered_known (w ∷ ws) r (inr n) = or_right (eqb w.number r.number) (has (map (λ w. w.number) ws) r.number) (numbered_known ws r n)
