-- What is promised of reading the lines of a group: each answer fills a row of its table; a refusal keeps the table, and 0 keeps what
-- stands behind the cells; a broken rule on counts is 7 for every group; a group reads the same into every table with room; a count of 0
-- gives 0 and no cells.
-- Assumes nothing.
use Rattle.std.specs.Prelude.{Option, Some, None, Ok}
use mathlib.Core.Path.{◌≡◌, refl, sym, ◌∙◌, ap}
use mathlib.Core.Bool.{Bool}
use mathlib.Core.List.{List, [], ◌∷◌, map, ◌++◌}
use mathlib.Core.Logic.{inl, inr}
use Prim.Native.Nat.{ℕ, ◌+◌, ◌≤◌, ◌<◌}
use native.Mathlib.Nat.{zero-add}
use native.Mathlib.Omega.{arith}
use borrow.Author.Tests.{le-leb, ne_eqb}
use lib.Dec.{lit<}
use lib.IntN.{ℤ}
use lib.ListN.{length, take, drop}
use lib.Seq.{drop_at, take_at}
use Rattle.rules.specs.declared.Rules.{Rules}
use Rattle.base.specs.Every
use Rattle.base.specs.Pieces
use Rattle.base.specs.Pieces.{done, bad}
use Rattle.form.specs.declared.Form.{Form}
use Rattle.form.specs.Table.{form_of, NoSuchGroup}
use Rattle.form.specs.Count
use Rattle.form.specs.Count.{lines_of, cells_of}
use Rattle.form.proofs.Counted.{lines_none, cells_none}
use Rattle.reply.specs.Table.{Numbered, cells}
use Rattle.reply.specs.Refusals.{refusal_reply, answer_reply, rows, asked_refusals}
use Rattle.reply.proofs.Replies.{fills, refusal_fills, at_row, rows_left, rows_right}
use Rattle.base.specs.Sign.{size_of}
use Rattle.count.proofs.Rulings.{broken_group}
use Rattle.date.proofs.Due.{blamed_position}
use Rattle.count.specs.Tally.{count_of}
use Rattle.count.specs.Rules.{ruling_of}
use Rattle.reply.specs.declared.Refusal.{Refusal}
use Rattle.reply.specs.declared.Reply.{Reply}
use Rattle.reply.specs.declared.Refusal.TheVariants.{NoSuchNumber, BrokenRule, NoRoom, BadLine, BadField, BadDate}
use Rattle.reading.specs.Numbered.{group_refusals, given_refusals, reading_rows}
use Rattle.reading.specs.Due.{RuleDue, TableShort, RefusedFor, no_group, broken_rule, no_room, bad_line, bad_field, bad_date, Due}
use Rattle.reading.specs.Blanks.{may_be_short}
use Rattle.reading.specs.Plan.{plan_from, plan_of}
use Rattle.reading.specs.Read.{Cells, read_lines_of, read_lines, read_form, read_ruled, read_group, reading_of, table_by}
use Rattle.reading.proofs.Steps.{kept_letters}

-- ---- numbered

-- refusals among which 12 and 7 are, as whoever asks for a group has them before its lines are looked at
pub record HasAsked (asked : List Refusal) : Type 0 where
  pub no_group_row : Numbered (rows asked) (refusal_reply NoSuchNumber)
  pub broken_row : (h : ℕ) → 0 < h → Numbered (rows asked) (refusal_reply (BrokenRule h))

-- what is refused by a group's own lines has a row there, whatever the question makes of 12, 7 and 11
module _ (ρ : Rules) (ns : List ℕ) (g : ℕ) (x : List ℕ) (room : ℕ) where
  pub record Besides (P : Reply → Type 0) : Type 0 where
    pub none : NoSuchGroup g → P (refusal_reply NoSuchNumber)
    pub broken : (h : ℕ) → RuleDue ρ ns g x room h → P (refusal_reply (BrokenRule h))
    pub short : TableShort ρ ns g x room → P (refusal_reply NoRoom)
    pub own : (r : Reply) → Numbered (rows group_refusals) r → P r

  pub refusal_cases : (P : Reply → Type 0) → Besides P → (r : Refusal) → RefusedFor ρ ns g x room r → P (refusal_reply r)
  refusal_cases P b r (no_group d) = b.none d
  refusal_cases P b r (broken_rule h d) = b.broken h d
  refusal_cases P b r (no_room d) = b.short d
  refusal_cases P b r (bad_line l d) = b.own (refusal_reply (BadLine l)) (inl (refusal_fills (BadLine l) (omega (arith, d.line.number), tt)))
  refusal_cases P b r (bad_field l e d) =
      b.own (refusal_reply (BadField l e)) (inr (inl (refusal_fills (BadField l e) (omega (arith, d.field.number), (omega (arith, d.field.element), tt)))))
  refusal_cases P b r (bad_date p d) = b.own (refusal_reply (BadDate p)) (inr (inr (inl (refusal_fills (BadDate p) (blamed_position (map size_of d.cs) p d.wrong, tt)))))

-- what is refused by the counts and the lines, behind these
pub refusal_behind : (asked : List Refusal) → HasAsked asked → (ρ : Rules) (ns : List ℕ) (g : ℕ) (x : List ℕ) (room : ℕ) (r : Refusal) → RefusedFor ρ ns g x room r
    → Numbered (rows (asked ++ given_refusals)) (refusal_reply r)
refusal_behind asked h ρ ns g x room r d =
    refusal_cases ρ ns g x room (Numbered (rows (asked ++ given_refusals))) record {
      none = λ u. rows_left asked given_refusals _ h.no_group_row;
      broken = λ b u. rows_left asked given_refusals _ (h.broken_row b (broken_group ns u.broken).0);
      short = λ u. rows_right asked given_refusals _ (inl (refusal_fills NoRoom tt));
      own = λ q u. rows_right asked given_refusals q (inr u);
    }
    r
    d

-- 12 and placing's replies
pub has_asked : HasAsked asked_refusals
has_asked =
    record {
      no_group_row = inl (refusal_fills NoSuchNumber tt);
      broken_row = λ h l. at_row 7 (rows asked_refusals) (refusal_reply (BrokenRule h)) (lit< tt) (refusal_fills (BrokenRule h) (l, tt));
    }

pub cells_numbered : (ρ : Rules) (ns : List ℕ) (g : ℕ) (x : List ℕ) (room : ℕ) (c : Cells) → Due ρ ns g x room c → Numbered reading_rows (answer_reply (reading_of c))
cells_numbered ρ ns g x room (done cs) d = inl (fills 0 ((cells, length cs) ∷ []) (omega arith, tt))
cells_numbered ρ ns g x room (bad r) d = inr (refusal_behind asked_refusals has_asked ρ ns g x room r d)

-- ---- the table

-- R267: a refused reading leaves the whole table as it was
pub refused_read_keeps : (g : Cells) (old : List ℤ) → ((answer_reply (reading_of g)).number ≡ 0 → ⊥) → table_by g old ≡ old
refused_read_keeps (done cs) old n = absurd (n refl)
refused_read_keeps (bad r) old n = refl

-- R266: under 0 the first cells of the table are those that were read
pub done_read_holds : (B : Type 0) (cs old : List ℤ) → take (length cs) (table_by {B = B} (done cs) old) ≡ cs
done_read_holds B cs old = take_at cs (drop (0 + length cs) old) (length cs) refl

-- R266: and those behind them are what they were
pub cells_keep_rest : (B : Type 0) (cs old : List ℤ) → drop (length cs) (table_by {B = B} (done cs) old) ≡ drop (length cs) old
cells_keep_rest B cs old = rw (zero-add (length cs)) (drop_at cs (drop (length cs) old) (length cs) refl)

pub done_read_keeps_rest : (g : Cells) (old : List ℤ) (n : ℕ) → reading_of g ≡ Ok n → drop n (table_by g old) ≡ drop n old
done_read_keeps_rest (done cs) old n e =
    let m : length cs ≡ n = cc in
    rw (← m) (cells_keep_rest Refusal cs old)
done_read_keeps_rest (bad r) old n e = let z : ◌≡◌ {A = ℕ} 0 1 = cc in absurd (omega arith)

module _ (ρ : Rules) where
  -- R261: a record that breaks a rule on counts gives 7 for every group, whatever its lines hold
  pub read_broken : (ns : List ℕ) (g : ℕ) (x : List ℕ) (room h : ℕ) (f : Form) → form_of g ≡ Some f → ruling_of ns ≡ Some h → read_group ρ ns g x room ≡ bad (BrokenRule h)
  unfolding read_group
  read_broken ns g x room h f e r = rw (e, r)

module _ (ρ : Rules) where
  -- R264: a group reads the same into every table with room for what its counts, if they keep the rules on counts, let it fill
  pub read_room : (ns : List ℕ) (g : ℕ) (x : List ℕ) (room more : ℕ) (f : Form) → form_of g ≡ Some f
      → (ruling_of ns ≡ None → (cells_of ρ f (count_of ns g) ≤ room) × (cells_of ρ f (count_of ns g) ≤ more)) → read_group ρ ns g x room ≡ read_group ρ ns g x more
  unfolding read_group read_form
  read_room ns g x room more f e h = rw e (by (ruling_of ns) refl)
    where
      by : (k : Option ℕ) → ruling_of ns ≡ k → read_ruled ρ f ns g x room k ≡ read_ruled ρ f ns g x more k
      by None u =
          let m = h u in
          rw (le-leb (cells_of ρ f (count_of ns g)) room m.0, le-leb (cells_of ρ f (count_of ns g)) more m.1) refl
      by (Some b) u = refl

-- ---- R268: a group without elements reads with 0 and no cells, into an empty table too

pub no_elements : (ρ : Rules) (f : Form) → (lines_of ρ f 0 ≡ 0) × (cells_of ρ f 0 ≡ 0)
no_elements ρ f = (lines_none ρ f, cells_none ρ f)

no_lines : (ρ : Rules) (f : Form) (short : Bool) (x : List ℕ) → read_lines ρ f short 0 x ≡ done []
unfolding read_lines read_lines_of plan_of Count.lines_of plan_from Pieces.gather Every.up_from
no_lines ρ f short x = rw (no_elements ρ f).0

module _ (ρ : Rules) where
  pub read_none : (ns : List ℕ) (g : ℕ) (x : List ℕ) (room : ℕ) (f : Form) → form_of g ≡ Some f → ruling_of ns ≡ None → count_of ns g ≡ 0 → read_group ρ ns g x room ≡ done []
  unfolding read_group read_form
  read_none ns g x room f e r c =
      rw (e, r, c, (no_elements ρ f).1, le-leb 0 room (omega arith), no_lines ρ f (may_be_short g) x, ne_eqb g 3 other)
    where
      other : g ≡ 3 → ⊥
      other t =
          let k : count_of ns 3 ≡ 0 = ap (count_of ns) (sym t) ∙ c in
          omega (arith, kept_letters ns r)
