-- The second demand, D2: answers are right.
-- D2.1: what is read are the values that the rules give to the text. D2.2: what is refused is refused with the first reply that is due in the
-- order of its question (R233). D2.3: what is written is the canonical text of the values, of which there is one (R100). D2.4: reading what was
-- written gives these values again, wherever in a text it stands. D2.5: writing what was read from canonical text gives its bytes again.
--
-- s is a text, ns are counts, cs the cells of all groups, group 1's first (R47).
use Rattle.std.specs.Prelude.{◌≡◌, true, List, ◌++◌, ◌↔◌, ◌⊎◌, ℕ, ◌+◌, ◌-◌, ◌≤◌, ℤ, length, take, Result, Ok, Err}
use Rattle.rules.specs.declared.LineEnds.{LineEnds}
use Rattle.rules.specs.declared.Rules.{Rules}
use Rattle.rules.specs.Choice.{ended}
use Rattle.base.specs.Part.{part, over}
use Rattle.base.specs.Pieces.{done}
use Rattle.decimal.specs.Writing.{put_bytes}
use Rattle.place.specs.declared.Placing.{Placing}
use Rattle.place.specs.Placing.{placing_of, counts_at, starts_at, ends_at, Carried}
use Rattle.place.specs.Walk.{Walks, records_in}
use Rattle.place.specs.Due as PlacingIs
use Rattle.reading.specs.Read.{Cells, table_by}
use Rattle.group.specs.declared.Characteristic.{Characteristic}
use Rattle.group.specs.Text.{read_at}
use Rattle.group.specs.Held.{found_at, part_start, part_end, part_at}
use Rattle.group.specs.Characteristics.{characteristic_at}
use Rattle.group.specs.Due as GroupIs
use Rattle.view.specs.With.{found_with, start_with, end_with, part_with, read_with, characteristic_with}
use Rattle.view.specs.Due as RecordIs
use Rattle.view.specs.Placed.{BadPartExactly, LinesDecide, PlacedAnswers}
use Rattle.writing.specs.Canonical.{CanonicalRecord}
use Rattle.writing.specs.RoundTrip.{ReadsBack, ReadWhole}
use Rattle.writing.specs.Text.{record_text}
use Rattle.writing.specs.Writing.{writing_of, output_by}
use Rattle.writing.specs.Due as WritingIs
use Rattle.count.specs.Due.{HasCells}
use Rattle.count.specs.Tally.{record_cells, joined}
use Rattle.entry.specs.Bytes.{AllBytes}
use Rattle.entry.specs.Codec.{BothWays}
use Rattle.journal.specs.Model.{Call}
use Rattle.journal.specs.Calls.{answer_of}
use Rattle.journal.specs.Plays.{replay_of, replayed_cells, replayed_open}
use Rattle.journal.specs.Due as JournalIs
use Rattle.journal.specs.Runs.{Fit, FitCalls, Kept, kept, answer_to, left_by, left_to, entries_to, behind_replay}
use Rattle.journal.specs.Runs.{JournalIsStack, AddsField, ReadsEntries, ReplaysTo, FirstBytes, Torn, MadeBy}
use Rattle.listing.specs.Listing.{listing, listed_in, IsListing, ListingDue}
use Rattle.rewriting.specs.declared.Rewritten.{Rewritten}
use Rattle.whole.specs.declared.Unread.{Unread}
use Rattle.rewriting.specs.Canonical.{CanonicalRecords}
use Rattle.rewriting.specs.Due as RewritingIs
use Rattle.rewriting.specs.Printed.{printed}
use Rattle.rewriting.specs.Record.{rewriting_of, buffer_by, table_after}
use Rattle.date.specs.declared.Date.{Date}
use Rattle.date.specs.Asked.{dated_by}
use Rattle.date.specs.Date.{dated_of}
use Rattle.date.specs.Order.{Greater, seven, AtOrAfter, not_before}
use Rattle.since.specs.declared.Found.{Found}
use Rattle.since.specs.declared.Unfound.{Unfound}
use Rattle.since.specs.Due as FirstIs
use Rattle.since.specs.Kept.{StopsThere}
use Rattle.since.specs.Since.{first_in, whole_walk, stop_of, first_from}
use Rattle.salvaging.specs.declared.Piece.{Piece}
use Rattle.salvaging.specs.Confined.{DamageConfined}
use Rattle.salvaging.specs.Cover.{Salvages}
use Rattle.salvaging.specs.Due as StretchIs
use Rattle.salvaging.specs.Pieces.{Salvaged, pieces}
use Rattle.salvaging.specs.Stretch.{stretch_of}
use Rattle.whole.specs.Due as WholeIs
use Rattle.whole.specs.InTurn.{AsInTurn}
use Rattle.whole.specs.Turn.{Turn}
use Rattle.whole.specs.Whole.{whole_read}
use Rattle.reply.specs.declared.Refusal.{Refusal}

module _ (ρ : Rules) where
  -- D2.1, D2.2: every answer is given exactly if it is due. Where a Due cites another answer (the placing, the counts, what a group reads as),
  -- that answer's own Due is a field here. So a reader comes to plain words: of an index that its columns are entries (R22, R23; place's IsIndex);
  -- of a rule that some rule which blames the group is broken and none that blames a lower one (R120; count's Blame); of 0 that the cells are the
  -- values of the fields in their columns (R45, R61; reading's Values), each field blanks, at most one minus, digits (R70 to R77; number's
  -- Grammar); of a date that the first field which fails alone is blamed (R147; date's Due); of a refusal that its condition holds and none
  -- earlier in the order does (R233).
  pub record GivenAsDue : Type 0 where
    pub placing : (s : List ℕ) (at : ℕ) (p : Placing) → placing_of ρ s at ≡ p ↔ PlacingIs.Due ρ s at p
    pub counts : (s : List ℕ) (at : ℕ) (ns : List ℕ) → counts_at ρ s at ≡ ns ↔ PlacingIs.CountsDue ρ s at ns
    pub places : (s : List ℕ) (at : ℕ) (starts ends : List ℕ) → ((starts_at ρ s at ≡ starts) × (ends_at ρ s at ≡ ends)) ↔ PlacingIs.PlacesDue ρ s at starts ends
    -- the records one after another, by what placing gives
    pub walk : (s : List ℕ) → Walks ρ s
    pub reading : (s : List ℕ) (at g room : ℕ) (c : Cells) → read_at ρ s at g room ≡ c ↔ GroupIs.Due ρ s at g room c
    pub lines : (s : List ℕ) (at g : ℕ) (r : Result (Unit {0}) Refusal) → found_at ρ s at g ≡ r ↔ GroupIs.FoundDue ρ s at g r
    -- R280: the part is exactly those lines, and stands there
    pub part : (s : List ℕ) (at g from : ℕ) (x : List ℕ) → ((part_start ρ s at g ≡ from) × (part_at ρ s at g ≡ x)) ↔ GroupIs.PartDue ρ s at g from x
    pub part_end_lem : (s : List ℕ) (at g : ℕ) → part_end ρ s at g ≡ part_start ρ s at g + length (part_at ρ s at g)
    pub characteristic : (s : List ℕ) (at k : ℕ) (c : Characteristic) → characteristic_at ρ s at k ≡ c ↔ GroupIs.CharacteristicDue ρ s at k c
    -- R285, R297: with a record r, whichever it is
    pub record_reading : (s : List ℕ) (r : Carried) (g room : ℕ) (c : Cells) → read_with ρ s r g room ≡ c ↔ RecordIs.Due ρ s r g room c
    pub record_lines : (s : List ℕ) (r : Carried) (g : ℕ) (a : Result (Unit {0}) Refusal) → found_with ρ s r g ≡ a ↔ RecordIs.LinesDue ρ s r g a
    pub record_part : (s : List ℕ) (r : Carried) (g from : ℕ) (x : List ℕ) → ((start_with ρ s r g ≡ from) × (part_with ρ s r g ≡ x)) ↔ RecordIs.PartWithDue ρ s r g from x
    pub record_part_end : (s : List ℕ) (r : Carried) (g : ℕ) → end_with ρ s r g ≡ start_with ρ s r g + length (part_with ρ s r g)
    pub record_characteristic : (s : List ℕ) (r : Carried) (k : ℕ) (c : Characteristic) → characteristic_with ρ s r k ≡ c ↔ RecordIs.ToldWithDue ρ s r k c
    -- R272: a whole record: its cells, or the refusal with the group that was being read
    pub whole : (s : List ℕ) (at room : ℕ) (t : Turn) → whole_read ρ s at room ≡ t ↔ WholeIs.Due ρ s at room t
    -- R334: the first record from a date on: its place and the records passed, or the refusal with these
    pub first : (s : List ℕ) (from : Date) (x : Result Found Unfound) → first_from ρ s from ≡ x ↔ FirstIs.Due ρ s from x
    -- R352: the end of the stretch that begins at a place
    pub stretch : (s : List ℕ) (at : ℕ) (x : Result ℕ Refusal) → stretch_of ρ s at ≡ x ↔ StretchIs.Due ρ s at x
    pub writing : (ns : List ℕ) (cs : List ℤ) (room : ℕ) (r : Result ℕ Refusal) → writing_of ρ ns cs room ≡ r ↔ WritingIs.Due ρ ns cs room r
    pub rewriting : (s : List ℕ) (at cells room : ℕ) (r : Result Rewritten Unread) → rewriting_of ρ s at cells room ≡ r ↔ RewritingIs.Due ρ s at cells room r
    pub listed : (s : List ℕ) (room : ℕ) (r : Result ℕ Refusal) → listed_in (listing ρ s) room ≡ r ↔ ListingDue (listing ρ s) room r
    pub listing_is : (s x : List ℕ) → listing ρ s ≡ x ↔ IsListing ρ s x
    -- the edit journal: a call, and what it leaves: bytes used, journal and cells (R512 to R520); a replay, and what it leaves: cells and open
    -- savepoints (R540 to R542). Fields in order, and a field at fault, are said of one field after the other (R530, R531; journal's Order)
    pub call : (ns j : List ℕ) (used cells : ℕ) (c : Call) (a : Result ℕ Refusal) → answer_of ρ ns j used cells c ≡ a ↔ JournalIs.Due ρ ns j used cells c a
    pub call_left : (ns : List ℕ) (c : Call) (k : Kept) (a : Result ℕ Refusal) (k' : Kept) → answer_to ρ ns c k ≡ a → left_by ρ ns c k a ≡ k' ↔ JournalIs.LeftDue ρ ns c k a k'
    pub replay : (ns j : List ℕ) (used : ℕ) (cs : List ℤ) (a : Result (Unit {0}) Refusal) → replay_of ρ ns j used cs ≡ a ↔ JournalIs.ReplayDue ρ ns j used cs a
    pub replay_left : (ns j : List ℕ) (used : ℕ) (cs : List ℤ) (a : Result (Unit {0}) Refusal) (cs' : List ℤ) (d : ℕ) → replay_of ρ ns j used cs ≡ a
        → ((replayed_cells ρ ns j used cs a ≡ cs') × (replayed_open ρ ns j used cs a ≡ d)) ↔ JournalIs.ReplayLeftDue ρ ns j used cs a cs' d

  -- what rewriting leaves under 0: in the output the canonical text of the counts and of what every group read as, in the table these cells
  pub record Rewrites (s : List ℕ) (at bytes next : ℕ) (buffer : List ℕ) (table : List ℤ) : Type 0 where
    pub cells : ℕ → List ℤ
    pub read : ReadWhole ρ s at next cells
    pub text : List ℕ
    pub canonical : CanonicalRecord ρ (counts_at ρ s at) text (joined cells)
    pub long : length text ≡ bytes
    pub front : take bytes buffer ≡ text
    pub cells_first : take (record_cells ρ (counts_at ρ s at)) table ≡ joined cells

  -- R266, R275, R306, R311, R324: what is lent holds what the answer says: under 0 the table's first cells are the cells read, and the output's first
  -- bytes the text
  pub record LentHolds : Type 0 where
    pub reading : (s : List ℕ) (at g : ℕ) (table cs : List ℤ) → read_at ρ s at g (length table) ≡ done cs → take (length cs) (table_by (read_at ρ s at g (length table)) table) ≡ cs
    pub record_reading : (s : List ℕ) (r : Carried) (g : ℕ) (table cs : List ℤ) → read_with ρ s r g (length table) ≡ done cs → take (length cs) (table_by (read_with ρ s r g (length table)) table) ≡ cs
    pub whole : (s : List ℕ) (at : ℕ) (table cs : List ℤ) → whole_read ρ s at (length table) ≡ done cs → take (length cs) (table_by (whole_read ρ s at (length table)) table) ≡ cs
    pub writing : (ns : List ℕ) (cs : List ℤ) (out : List ℕ) (n : ℕ) → writing_of ρ ns cs (length out) ≡ Ok n → take n (output_by ρ ns cs (writing_of ρ ns cs (length out)) out) ≡ record_text ρ ns cs
    pub listed : (s out : List ℕ) (n : ℕ) → listed_in (listing ρ s) (length out) ≡ Ok n → take n (put_bytes 0 (listing ρ s) out) ≡ listing ρ s
    pub rewriting : (s : List ℕ) (at : ℕ) (table : List ℤ) (out : List ℕ) (bytes next : ℕ) → rewriting_of ρ s at (length table) (length out) ≡ Ok (record { bytes = bytes; next = next })
        → Rewrites s at bytes next (buffer_by ρ s at (rewriting_of ρ s at (length table) (length out)) out) (table_after ρ s at (rewriting_of ρ s at (length table) (length out)) table)

  -- R286 to R288: what a record's part decides
  pub record RecordAnswers : Type 0 where
    -- 22 exactly if the part does not hold
    pub exactly : (s : List ℕ) (r : Carried) → BadPartExactly ρ s r
    -- D2.1: if it holds, its lines and the counts decide
    pub decide : (s : List ℕ) (r : Carried) → LinesDecide ρ s r
    -- a record that was placed in the text at hand, under the same rules: as asking by its place, and 22 never comes
    pub placed : PlacedAnswers ρ

  -- R330, R332, R336: the first record from a date on
  pub record FirstRecord : Type 0 where
    -- all records of the walk are listed with their dates, and the first that is at or after is the answer; if none is, the stop is
    pub full_walk : (s : List ℕ) (from : Date) → dated_by from ≡ Ok from → first_from ρ s from ≡ first_in from (whole_walk ρ s) 0 (Err (record { passed = records_in ρ s; why = stop_of ρ s }))
    -- what stands behind the record that is found has no part in it
    pub stops_there : (s : List ℕ) (from : Date) (place passed : ℕ) → first_from ρ s from ≡ Ok (record { place = place; passed = passed }) → StopsThere ρ s from place passed
    -- year, day of the year and time of day order right dates as all seven numbers do; and that test is the statement
    pub order : (d e : Date) → dated_by d ≡ Ok d → dated_by e ≡ Ok e → AtOrAfter d e ↔ ((seven d ≡ seven e) ⊎ Greater (seven d) (seven e))
    -- dates that letters tell are right ones
    pub told_right : (s : List ℕ) (d : Date) → dated_of s ≡ Ok d → dated_by d ≡ Ok d
    pub at_or_after : (d e : Date) → (not_before d e ≡ true) ↔ AtOrAfter d e

  -- R353 to R355: what is copied past stretches, and what is left out
  pub record SalvagesAsDue : Type 0 where
    -- the list of pieces is the one that the rule gives
    pub exactly : (s : List ℕ) (ps : List Piece) → pieces ρ s ≡ ps ↔ Salvaged ρ s 0 ps
    -- they cover the text, no record of the walk is lost, and the copy stays as it is
    pub covers : (s : List ℕ) → Salvages ρ s
    -- a ruined index costs its own record
    pub confined : DamageConfined ρ

  -- D2.3: n bytes, canonical with these counts and cells, and no other text is (R100)
  pub record OneCanonical (ns : List ℕ) (cs : List ℤ) (n : ℕ) : Type 0 where
    pub long : length (record_text ρ ns cs) ≡ n
    pub canonical : CanonicalRecord ρ ns (record_text ρ ns cs) cs
    pub one : (x : List ℕ) → CanonicalRecord ρ ns x cs → x ≡ record_text ρ ns cs

  abbrev pub WritesCanonical : Type 0
  WritesCanonical = (ns : List ℕ) (cs : List ℤ) (room n : ℕ) → writing_of ρ ns cs room ≡ Ok n → OneCanonical ns cs n

  -- D2.4: what was written reads as its counts and cells, wherever it stands in whatever text, by each rule for line ends (R12)
  abbrev pub WrittenReadsBack : Type 0
  WrittenReadsBack =
      (ns : List ℕ) (cs : List ℤ) (room n : ℕ) → writing_of ρ ns cs room ≡ Ok n
      → (e : LineEnds) (a b : List ℕ) → ReadsBack (ended e ρ) ns cs n (a ++ (record_text ρ ns cs ++ b)) (length a)

  -- D2.5: what was read from canonical text is written as that text
  pub record ReadWrites : Type 0 where
    -- a record of any text whose groups all read with 0 and whose bytes are canonical
    pub record_returns : {ds : List ℤ} (s : List ℕ) (at next : ℕ) (cells : ℕ → List ℤ) → ReadWhole ρ s at next cells → CanonicalRecord ρ (counts_at ρ s at) (part at next s) ds
        → (out : List ℕ) → next - at ≤ length out
        → (writing_of ρ (counts_at ρ s at) (joined cells) (length out) ≡ Ok (next - at))
        × (output_by ρ (counts_at ρ s at) (joined cells) (writing_of ρ (counts_at ρ s at) (joined cells) (length out)) out ≡ over 0 (part at next s) out)
    -- R348: what the program prints for a text of canonical records, each of at most 8,192 bytes, by each rule for line ends
    pub text_returns : (s : List ℕ) → CanonicalRecords ρ s → length s ≤ 65536 → (e : LineEnds) → printed (ended e ρ) s ≡ s
    -- and for what it printed itself
    pub printed_returns : (s : List ℕ) → length (printed ρ s) ≤ 65536 → CanonicalRecords ρ (printed ρ s) × (printed ρ (printed ρ s) ≡ printed ρ s)

  -- R516, R520, R543, R544: what the calls of the edit journal leave, over any counts, table t and buffer j: on a fresh journal all that they
  -- answer and leave is that of a plain stack of whole tables.
  pub record Edits : Type 0 where
    pub stack : (ns : List ℕ) (t : List ℤ) (j : List ℕ) (cs : List Call) → Fit t → FitCalls cs → JournalIsStack ρ ns t j cs
    -- a call that is accepted adds its field and nothing else, on whatever journal; a refused one adds nothing
    pub adds : (ns : List ℕ) (c : Call) (k : Kept) → AddsField ρ ns c k
    -- an entry and its bytes, both ways; and the bytes used read as the accepted calls, one after the other
    pub codec : BothWays
    pub reads_as : (ns : List ℕ) (t : List ℤ) (j : List ℕ) (cs : List Call) → Fit t → FitCalls cs → ReadsEntries (left_to ρ ns cs (kept t j 0)) (entries_to ρ ns cs (kept t j 0))
    -- replayed over t, the journal comes to the same cells and open savepoints
    pub replayed : (ns : List ℕ) (t : List ℤ) (j : List ℕ) (cs : List Call) → Fit t → FitCalls cs
        → HasCells ρ ns (length t)
        → ReplaysTo ρ ns t (left_to ρ ns cs (kept t j 0)).journal (left_to ρ ns cs (kept t j 0))
    -- and behind the replay all is as it was kept, so that further calls are answered, and leave, what they would have without it
    pub goes_on : (ns : List ℕ) (t : List ℤ) (j : List ℕ) (cs : List Call) → Fit t → FitCalls cs
        → HasCells ρ ns (length t)
        → behind_replay ρ ns t (left_to ρ ns cs (kept t j 0)) ≡ left_to ρ ns cs (kept t j 0)
    -- cut behind its first n bytes, and with whatever else in the buffer j', it comes to what the calls left that are whole in them
    pub torn : (ns : List ℕ) (t : List ℤ) (j : List ℕ) (cs : List Call) → Fit t → FitCalls cs
        → HasCells ρ ns (length t)
        → {n : ℕ} {j' : List ℕ} → FirstBytes (left_to ρ ns cs (kept t j 0)) n j'
        → Torn ρ ns t cs (kept t j 0) n j'
    -- what replays with 0, whoever wrote it, is a journal that calls have made
    pub made : (ns : List ℕ) (t : List ℤ) (k : Kept) → Fit t → AllBytes (take k.used k.journal)
        → replay_of ρ ns k.journal k.used t ≡ Ok tt
        → MadeBy ρ ns (kept t k.journal 0) (behind_replay ρ ns t k)

  pub record Demand2 : Type 0 where
    pub due : GivenAsDue
    pub lent : LentHolds
    pub records : RecordAnswers
    -- R274: one call for a whole record is equal to asking for its groups in turn
    pub in_turn_lem : (s : List ℕ) (at : ℕ) → AsInTurn ρ s at
    pub first_record : FirstRecord
    pub salvaging : SalvagesAsDue
    pub canonical : WritesCanonical
    pub reads_back : WrittenReadsBack
    pub read_writes : ReadWrites
    pub edits : Edits
