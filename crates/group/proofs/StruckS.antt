-- R270 has an instance: S twice (R382) with bytes of three groups exchanged. In the first record commas stand for the points of group 1's first
-- field and of group 4's, and both groups are refused, 9 at line 1, element 1. In the second the field of group 4 is `   8.250`, and reads so. Two
-- records are placed as before, and all other groups of both give what they gave, the dates of group 3 among them.
-- Assumes nothing.
use mathlib.Core.Path.{◌≡◌, refl, sym, ◌∙◌, ap}
use mathlib.Core.List.{List, [], ◌∷◌}
use mathlib.Core.Logic.{◌⊎◌, inl, inr}
use Prim.Native.Nat.{ℕ, ◌≤◌}
use native.Mathlib.Omega.{arith}
use lib.IntN.{ℤ, pos}
use lib.ListN.{length, get_or, set}
use Rattle.rules.specs.declared.Rules.{Rules}
use Rattle.base.specs.Every
use Rattle.base.specs.Part.{part}
use Rattle.base.specs.Pieces.{done, bad}
use Rattle.form.specs.declared.Form.TheVariants.{F7}
use Rattle.form.specs.Table
use Rattle.line.specs.Alike
use Rattle.line.specs.Lines.{is_feed}
use Rattle.count.specs.Rules
use Rattle.place.specs.RecordS
use Rattle.place.specs.RecordS.{quoted_line, counts_s, twice_s}
use Rattle.place.specs.Walk.{spot, Stops}
use Rattle.place.proofs.TwiceS.{twice, spot_one, two_records}
use Rattle.place.proofs.Walked.{spot_start}
use Rattle.reply.specs.declared.Refusal.TheVariants.{End, BadField}
use Rattle.reading.specs.Read
use Rattle.reading.specs.Read.{Cells, read_form, read_group}
use Rattle.reading.proofs.FourS.{four_reads, one_refused}
use Rattle.group.specs.Answers.{SameReading}
use Rattle.group.specs.Damage.{OneGroup, Outside, InLines, Damaged, Confined}
use Rattle.group.specs.Text.{read_at}
use Rattle.group.proofs.Damage.{damage_stays, damaged_none, damaged_more}
use Rattle.group.proofs.DamageInstance.{four_by, Stand, stand_at, stand_within, first_four, given}

-- group 1 of the first record, and group 4 of both
abbrev pub struck : ℕ → ℕ → Type 0
struck j h = OneGroup 0 1 j h ⊎ (OneGroup 0 4 j h ⊎ OneGroup 1 4 j h)

unfoldable pub struck_s : List ℕ
struck_s = set (set (set twice_s 247 44) 299 44) 603 56

-- none of the bytes is a line feed, and the lines that they stand in
record StruckLines : Type 0 where
  points : (is_feed (get_or twice_s 247 0) ≡ is_feed 44) × (is_feed (get_or twice_s 299 0) ≡ is_feed 44)
  seven : is_feed (get_or twice_s 603 0) ≡ is_feed 56
  first_one : part 244 274 struck_s ≡ quoted_line "  1,200 67.000-23.500143.000"
  first_four : part 295 305 struck_s ≡ quoted_line "   7,250"
  second_four : part 600 610 struck_s ≡ quoted_line "   8.250"

struck_lines : StruckLines
unfolding struck_s RecordS.record_s RecordS.twice_s Alike.ended_by
struck_lines = record { points = (refl, refl); seven = refl; first_one = refl; first_four = refl; second_four = refl }

-- group 1 of a record with S's counts
one_by : (ρ : Rules) (x : List ℕ) (room : ℕ) → read_group ρ counts_s 1 x room ≡ read_form ρ F7 1 4 x room
unfolding RecordS.counts_s Read.read_group Every.up_from Table.listed_as Table.form_among Table.form_of Rules.ruling_of Rules.lowest Rules.head_rules Rules.sets Rules.keeps Rules.letter_rules
one_by ρ x room = refl

-- ---- the damage, and that it is confined

module _ (ρ : Rules) where
  first_one : Stand ρ 0 1 244 274
  first_one = stand_at ρ 0 1 (spot_start ρ twice_s) (twice ρ).first (twice ρ).one_from (twice ρ).one_to

  second_four : Stand ρ 1 4 600 610
  second_four = stand_at ρ 1 4 (sym (spot_one ρ)) (twice ρ).second (twice ρ).second_from (twice ρ).second_to

  pub struck_damages : Damaged ρ twice_s struck_s struck
  unfolding struck_s
  struck_damages =
      let long = (twice ρ).long in
      let one : InLines ρ twice_s struck 247 = stand_within ρ first_one (omega arith, omega arith) (inl (refl, refl)) 247 (omega arith) (omega arith) in
      let four : InLines ρ twice_s struck 299 = stand_within ρ (first_four ρ) (omega arith, omega arith) (inr (inl (refl, refl))) 299 (omega arith) (omega arith) in
      let second : InLines ρ twice_s struck 603 = stand_within ρ second_four (omega arith, omega arith) (inr (inr (refl, refl))) 603 (omega arith) (omega arith) in
      let once = damaged_more ρ twice_s struck 247 44 (damaged_none ρ twice_s struck) one (omega (arith, long)) struck_lines.points.0 in
      let more = damaged_more ρ twice_s struck 299 44 once four (omega (arith, long)) struck_lines.points.1 in
      damaged_more ρ twice_s struck 603 56 more second (omega (arith, long)) struck_lines.seven

  pub struck_confined : Confined ρ twice_s struck_s struck
  struck_confined = damage_stays ρ twice_s struck_s struck struck_damages

  -- group 3 is none of the three, in either record, and group 1 of the second record is none
  outside_three : (j : ℕ) → Outside struck j 3
  outside_three j (inl p) = omega (arith, p.1)
  outside_three j (inr (inl p)) = omega (arith, p.1)
  outside_three j (inr (inr p)) = omega (arith, p.1)

  outside_one : Outside struck 1 1
  outside_one (inl p) = omega (arith, p.0)
  outside_one (inr (inl p)) = omega (arith, p.0)
  outside_one (inr (inr p)) = omega (arith, p.1)

  -- ---- what that says here

  here_first : 0 ≡ spot ρ struck_s 0
  here_first = spot_start ρ struck_s

  here_second : 305 ≡ spot ρ struck_s 1
  here_second = sym (struck_confined.places 1 ∙ spot_one ρ)

  module _ (table : List ℤ) where
    -- a group of the set, by what stands in its lines now
    struck_gives : {at k g from to : ℕ} {x : List ℕ} {c : Cells} → at ≡ spot ρ struck_s k → Stand ρ k g from to → part from to struck_s ≡ x → read_group ρ counts_s g x (length table) ≡ c
        → SameReading (read_at ρ struck_s at g (length table)) c table
    struck_gives {k = k} {g = g} here w e f =
        given ρ struck_s g table here (struck_confined.altered k g w.placed table) (rw (w.begins, w.ends, w.counts, e) f)

    -- any other group
    struck_spares : {at k g bt : ℕ} → at ≡ spot ρ struck_s k → spot ρ twice_s k ≡ bt → Outside struck k g
        → SameReading (read_at ρ struck_s at g (length table)) (read_at ρ twice_s bt g (length table)) table
    struck_spares {k = k} {g = g} here e out =
        given ρ struck_s g table here (struck_confined.others k g out table) (ap (λ p. read_at ρ twice_s p g (length table)) e)

    pub record StruckGives : Type 0 where
      -- still two records
      pub two_still : Stops ρ struck_s 2 End
      -- the three groups
      pub first_one : SameReading (read_at ρ struck_s 0 1 (length table)) (bad (BadField 1 1)) table
      pub first_four : SameReading (read_at ρ struck_s 0 4 (length table)) (bad (BadField 1 1)) table
      pub second_four : SameReading (read_at ρ struck_s 305 4 (length table)) (done (pos 8250 ∷ [])) table
      -- others
      pub first_three : SameReading (read_at ρ struck_s 0 3 (length table)) (read_at ρ twice_s 0 3 (length table)) table
      pub second_three : SameReading (read_at ρ struck_s 305 3 (length table)) (read_at ρ twice_s 305 3 (length table)) table
      pub second_one : SameReading (read_at ρ struck_s 305 1 (length table)) (read_at ρ twice_s 305 1 (length table)) table

    pub struck_reads : 4 ≤ length table → StruckGives
    struck_reads room =
        let n = length table in
        let four = four_reads ρ n (omega arith) in
        record {
          two_still = (struck_confined.as_many 2 End).0 (two_records ρ);
          first_one = struck_gives here_first first_one struck_lines.first_one (one_by ρ (quoted_line "  1,200 67.000-23.500143.000") n ∙ one_refused ρ n room);
          first_four = struck_gives here_first (first_four ρ) struck_lines.first_four (four_by ρ (quoted_line "   7,250") n ∙ four.comma);
          second_four = struck_gives here_second second_four struck_lines.second_four (four_by ρ (quoted_line "   8.250") n ∙ four.eight);
          first_three = struck_spares here_first (sym (spot_start ρ twice_s)) (outside_three 0);
          second_three = struck_spares here_second (spot_one ρ) (outside_three 1);
          second_one = struck_spares here_second (spot_one ρ) outside_one;
        }
