-- R251: what placing answers, in its order: 2, 1, 3 for the index, 4, 5, 6, 3 for the record's other lines, 7. Locating a record
-- tries all of these but the last; the counts that it finds are then held to their rules.
use Rattle.std.specs.Prelude.{cond, List, map, ℕ, suc, ◌+◌, ◌-◌, eqb, leb, ltb, length, drop, replicate, ◌≡◌, Option, Some, None, Result, Ok, Err}
use Rattle.rules.specs.declared.Rules.{Rules}
use Rattle.base.specs.Every.{up_from}
use Rattle.line.specs.Places.{behind_at}
use Rattle.line.specs.Lines.{feeds, reach}
use Rattle.count.specs.Tally.{lines_before, record_lines}
use Rattle.count.specs.Rules.{release_of, ruling_of}
use Rattle.place.specs.Index.{Indexed, counts, misformed, read_index}
use Rattle.place.specs.Parts.{start}
use Rattle.place.specs.declared.Placing.{Placing}
use Rattle.place.specs.declared.Record.{Record}
use Rattle.reply.specs.declared.Refusal.{Refusal}
use Rattle.reply.specs.declared.Refusal.TheVariants.{End, Beyond, TooFewLines, Misformed}
use Rattle.place.specs.declared.Placing.TheVariants.{Placed, BrokenRule, Refused}

-- the next place and the counts, or why there is no record
pub data Located : Type 0 where
  located : ℕ → List ℕ → Located
  refused : Refusal → Located

module _ (ρ : Rules) where
  -- xs is the text from the place `at` on

  -- R203: from the place on there are fewer line feeds than the record has lines
  abbrev pub locate_lines : List ℕ → ℕ → List ℕ → Located
  locate_lines xs at ns = cond (leb (record_lines ρ ns) (feeds xs)) (located (at + reach xs (record_lines ρ ns)) ns) (refused TooFewLines)

  -- R205, R206: another release, or one of 61 to 79 has a count
  abbrev pub locate_release : List ℕ → ℕ → List ℕ → Result (Unit {0}) Refusal → Located
  locate_release xs at ns (Ok five) = locate_lines xs at ns
  locate_release xs at ns (Err r) = refused r

  -- R204: one of the two is no index line, or an entry is misformed; all 80 are looked at before the release is (R252)
  abbrev pub locate_index : List ℕ → ℕ → Indexed → Located
  locate_index xs at (counts ns) = locate_release xs at ns (release_of ns)
  locate_index xs at misformed = refused Misformed

  -- R203: from the place on there are fewer than two line feeds
  abbrev pub locate_here : List ℕ → ℕ → Located
  locate_here xs at = cond (leb 2 (feeds xs)) (locate_index xs at (read_index ρ xs)) (refused TooFewLines)

  -- R202: the place lies behind where the text ends; R201: it is there
  unfoldable pub locate : List ℕ → ℕ → Located
  locate s at =
      cond (ltb (length s) at) (refused Beyond) (cond (eqb (length s) at) (refused End) (locate_here (drop at s) at))

-- R207: counts that break a rule have a next place all the same
abbrev pub ruled_at : ℕ → Option ℕ → Placing
ruled_at n None = Placed n
ruled_at n (Some g) = BrokenRule g n

abbrev pub placing_by : Located → Placing
placing_by (located n ns) = ruled_at n (ruling_of ns)
placing_by (refused r) = Refused r

-- R253: zeros where nothing is placed
abbrev pub counts_by : Located → List ℕ
counts_by (located n ns) = ns
counts_by (refused r) = replicate 80 0

-- a number for each of groups 1 to 60, by where it begins; zeros where nothing is placed
abbrev pub places_by : (List ℕ → ℕ → ℕ) → Located → List ℕ
places_by begins (located n ns) = map (begins ns) (up_from 1 60)
places_by begins (refused r) = replicate 60 0

module _ (ρ : Rules) where
  -- R250: what placing answers, and the counts beside it
  unfoldable pub placing_of : List ℕ → ℕ → Placing
  placing_of s at = placing_by (locate ρ s at)

  unfoldable pub counts_at : List ℕ → ℕ → List ℕ
  counts_at s at = counts_by (locate ρ s at)

  -- R259: where the lines of each group begin, and where they end
  unfoldable pub starts_at : List ℕ → ℕ → List ℕ
  starts_at s at = places_by (start ρ s at) (locate ρ s at)

  unfoldable pub ends_at : List ℕ → ℕ → List ℕ
  ends_at s at = places_by (λ ns g. start ρ s at ns (suc g)) (locate ρ s at)

-- R259: what a record carries beside its answer, whether it was placed or made up
pub record Carried : Type 0 where
  pub counts_of : List ℕ
  pub starts_of : List ℕ
  pub ends_of : List ℕ

abbrev pub carried : (ns starts ends : List ℕ) → Carried
carried ns starts ends = record { counts_of = ns; starts_of = starts; ends_of = ends }

abbrev pub carried_by : Record → Carried
carried_by r = carried r.counts r.starts r.ends

-- what the record that is placed there carries; zeros where nothing is placed
abbrev pub carried_at : Rules → List ℕ → ℕ → Carried
carried_at ρ s at = carried (counts_at ρ s at) (starts_at ρ s at) (ends_at ρ s at)

-- ---- the same from the data lines on, as the code goes (proofs/Steps.antt)

abbrev pub located_behind : List ℕ → Option ℕ → Located
located_behind ns (Some n) = located n ns
located_behind ns None = refused TooFewLines

module _ (ρ : Rules) where
  unfoldable pub locate_lines_from : List ℕ → ℕ → List ℕ → Located
  locate_lines_from s from ns = located_behind ns (behind_at s from (record_lines ρ ns - 2))

  abbrev pub locate_five : List ℕ → ℕ → List ℕ → Result (Unit {0}) Refusal → Located
  locate_five s from ns (Ok five) = locate_lines_from s from ns
  locate_five s from ns (Err r) = refused r

  unfoldable pub locate_from : List ℕ → ℕ → List ℕ → Located
  locate_from s from ns = locate_five s from ns (release_of ns)

  -- where the lines of group g, 1 or more, begin, if the data lines do at `from`: behind those of the groups before it
  abbrev pub start_from : List ℕ → ℕ → List ℕ → ℕ → ℕ
  start_from s from ns g = from + reach (drop from s) (lines_before ρ ns g - 2)

  pub record Answers (s : List ℕ) (from : ℕ) (l : Located) (r : Record) : Type 0 where
    pub placing : r.answer ≡ placing_by l
    pub beside : r.counts ≡ counts_by l
    pub begin : r.starts ≡ places_by (start_from s from) l
    pub end : r.ends ≡ places_by (λ ns g. start_from s from ns (suc g)) l

  -- the record that is located, or why none is
  abbrev pub Answered : List ℕ → ℕ → Located → Result Record Refusal → Type 0
  Answered s from l (Ok r) = Answers s from l r
  Answered s from l (Err why) = l ≡ refused why
