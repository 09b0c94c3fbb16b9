-- R233: when each reply of a question with a record is due: its own condition holds, and none earlier in the order of the question (R285, R297):
-- 12; 4, 5, 6 and 7 by the counts; 22; and then what reading's own Due says.
use Rattle.std.specs.Prelude.{◌≡◌, List, [], ◌⊎◌, ℕ, ◌≤◌, Result, Ok, Err}
use Rattle.rules.specs.declared.Rules.{Rules}
use Rattle.base.specs.Part.{part}
use Rattle.base.specs.Pieces.{done, bad}
use Rattle.form.specs.Table.{NoSuchGroup}
use Rattle.line.specs.Parts.{AreLines}
use Rattle.count.specs.Due.{HasRules, CountsRefusedFor}
use Rattle.count.specs.Tally.{count_of, lines_in}
use Rattle.place.specs.Placing.{Carried}
use Rattle.reading.specs.Read.{Cells}
use Rattle.reading.specs.Due as Reading
use Rattle.group.specs.declared.Characteristic.{Characteristic}
use Rattle.group.specs.Due.{ToldDue}
use Rattle.reply.specs.declared.Refusal.{Refusal}
use Rattle.reply.specs.declared.Refusal.TheVariants.{NoSuchNumber, BadPart}
use Rattle.view.specs.With.{place_of}

module _ (ρ : Rules) (s : List ℕ) (r : Carried) where
  module _ (g : ℕ) where
    -- the lines that the record names for the group
    abbrev pub named_part : List ℕ
    named_part = part (place_of r.starts_of g) (place_of r.ends_of g) s

    -- R286: nothing of them is beyond the text; a line may begin where they do; of line feeds they have as many as the group has lines by its count,
    -- one of them as their last byte; a count of 0 has none, and then they are empty, where a line may begin
    abbrev pub PartHolds : Type 0
    PartHolds = AreLines s (place_of r.starts_of g) (place_of r.ends_of g) (lines_in ρ r.counts_of g)

    -- neither 12 nor 4, 5, 6 or 7
    pub record Answerable : Type 0 where
      pub low : 1 ≤ g
      pub high : g ≤ 60
      pub rules : HasRules r.counts_of

    -- nor 22
    pub record Held : Type 0 where
      pub answerable : Answerable
      pub lines : PartHolds

    -- R222
    pub record LacksPart : Type 0 where
      pub answerable : Answerable
      pub fails : PartHolds → ⊥

    -- ---- the lines of a group

    pub data RefusedFor : Refusal → Type 0 where
      no_group : NoSuchGroup g → RefusedFor NoSuchNumber
      bad_counts : (q : Refusal) → 1 ≤ g → g ≤ 60 → CountsRefusedFor r.counts_of q → RefusedFor q
      bad_part : LacksPart → RefusedFor BadPart

    abbrev pub LinesDue : Result (Unit {0}) Refusal → Type 0
    LinesDue (Ok _) = Held
    LinesDue (Err q) = RefusedFor q

    -- R280, R283: the part: with 0 these lines; else the empty part at the text's start
    pub record PartGiven (from : ℕ) (x : List ℕ) : Type 0 where
      pub held : Held
      pub begins : from ≡ place_of r.starts_of g
      pub lines : x ≡ named_part

    pub record PartRefused (from : ℕ) (x : List ℕ) : Type 0 where
      pub why : Refusal
      pub missing : RefusedFor why
      pub text_start : from ≡ 0
      pub empty : x ≡ []

    abbrev pub PartWithDue : ℕ → List ℕ → Type 0
    PartWithDue from x = PartGiven from x ⊎ PartRefused from x

    -- ---- reading a group: the same, and behind it 11, 8 and 9, 10, by the counts and these lines

    pub record ReadsPart (room : ℕ) (c : Cells) : Type 0 where
      pub held : Held
      pub reading : Reading.Due ρ r.counts_of g named_part room c

    abbrev pub Due : ℕ → Cells → Type 0
    Due room (done cs) = ReadsPart room (done cs)
    Due room (bad q) = RefusedFor q ⊎ ReadsPart room (bad q)

  -- ---- a characteristic

  abbrev pub ToldWithDue : ℕ → Characteristic → Type 0
  ToldWithDue k = ToldDue (Due 4) (count_of r.counts_of 4) k
