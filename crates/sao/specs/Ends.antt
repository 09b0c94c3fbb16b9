-- R9, R12: what the rules for line ends promise of one another. Strict: a line ends in a carriage return and a line feed. Either: in these, or in a
-- line feed alone. The demands hold under each rule; here is what moves between them, and what does not.
--
-- s and t are texts, p and q places of them; ρ are the rules that are asked with, whatever they are.
use Rattle.std.specs.Prelude.{◌≡◌, Bool, List, [], ◌∷◌, ◌++◌, ◌↔◌, ℕ, ◌<◌, ◌≤◌, ℤ, length, Some, None, Result, Ok}
use Rattle.rules.specs.Choice.{ended}
use Rattle.rules.specs.declared.LineEnds.{LineEnds}
use Rattle.rules.specs.declared.LineEnds.TheVariants.{Strict, Either}
use Rattle.rules.specs.declared.Rules.{Rules}
use Rattle.base.specs.Pieces.{done, bad}
use Rattle.form.specs.declared.Form.{Form}
use Rattle.line.specs.Alike.{Alike, AlikeFrom, ended_by, EitherWay}
use Rattle.line.specs.Contents.{EndsInReturn, content_of}
use Rattle.line.specs.Lines.{Whole, Plain}
use Rattle.place.specs.Alike.{SamePlacing}
use Rattle.place.specs.Index.{misformed, read_index_line}
use Rattle.place.specs.Placing.{placing_of, counts_at, carried_at}
use Rattle.place.specs.Walk.{PlacedAt, spot, Stops}
use Rattle.reading.specs.Plan.{Line}
use Rattle.reading.specs.Read.{read_line}
use Rattle.reply.specs.declared.Refusal.{Refusal}
use Rattle.reply.specs.declared.Refusal.TheVariants.{BadLine}
use Rattle.group.specs.declared.Characteristic.TheVariants.{Refused}
use Rattle.group.specs.Characteristics.{characteristic_at}
use Rattle.group.specs.Ends.{SameAnswers}
use Rattle.group.specs.Held.{found_at, part_start, part_at}
use Rattle.group.specs.Text.{read_at}
use Rattle.journal.specs.Model.{Call}
use Rattle.journal.specs.Plays.{replay_of, replayed_cells, replayed_open}
use Rattle.journal.specs.Runs.{Kept, answer_to, left_by}
use Rattle.writing.specs.RoundTrip.{ReadsBack}
use Rattle.writing.specs.Writing.{writing_of, output_by}
use Rattle.date.specs.declared.Date.{Date}
use Rattle.since.specs.Kept.{SameFirst}
use Rattle.since.specs.Since.{first_from}
use Rattle.whole.specs.Whole.{whole_read}
use Rattle.rewriting.specs.Alike.{SameRewriting}
use Rattle.rewriting.specs.Canonical.{RightRecord}
use Rattle.rewriting.specs.Printed.{printed}
use Rattle.rewriting.specs.Record.{rewriting_of, text_at}

-- R9: under strict, a line whose line feed has no carriage return before it
pub record UnderStrict (ρ : Rules) : Type 0 where
  -- has no content
  pub no_end : (a : List ℕ) → (EndsInReturn a → ⊥) → content_of ρ (a ++ (10 ∷ [])) ≡ None
  -- R204: as an index line it is misformed, which is reply 4
  pub index_line : (a : List ℕ) → (EndsInReturn a → ⊥) → read_index_line ρ (a ++ (10 ∷ [])) ≡ misformed
  -- R208: as a data line it is wrong, which is reply 8 with the line's number, whatever its form and fields
  pub data_line : (f : Form) (short : Bool) (l : Line) (a : List ℕ) → (EndsInReturn a → ⊥) → read_line ρ f short l (a ++ (10 ∷ [])) ≡ bad (BadLine l.number)

-- R9: under either
pub record UnderEither (ρ : Rules) : Type 0 where
  -- with a line feed behind it a is the content of a line; unless it ends in a carriage return, which is then part of the line end (`one_return`)
  pub either_end : (a : List ℕ) → (EndsInReturn a → ⊥) → content_of ρ (a ++ (10 ∷ [])) ≡ Some (length a)
  -- every line has a content, so that the missing carriage return gives neither 4 nor 8: these are given for what the content is
  pub some_content : (x : List ℕ) → Whole 1 x → content_of ρ x ≡ None → ⊥
  -- lines with these contents are alike, wherever carriage returns stand and wherever they lack
  pub here_and_there : (cs : List (List ℕ)) → EitherWay cs → (v w : ℕ → Bool) → Alike ρ (ended_by v cs) (ended_by w cs)
  -- and so are texts that differ in one carriage return, behind whole lines and before whatever else: also what is no line, or no right one
  pub one_line : (k : ℕ) (x : List ℕ) → Whole k x → (a : List ℕ) → Plain a → (EndsInReturn a → ⊥) → (y : List ℕ)
      → Alike ρ (x ++ ((a ++ (10 ∷ [])) ++ y)) (x ++ ((a ++ (13 ∷ 10 ∷ [])) ++ y))

-- R9, R12: σ is strict, and as ρ in all else: what is right under σ is the same under ρ; so only refusals of σ can move
pub record StrictStays (σ ρ : Rules) : Type 0 where
  pub content : (x : List ℕ) (n : ℕ) → content_of σ x ≡ Some n → content_of ρ x ≡ Some n
  -- replies 0 and 7 with their numbers, and what the record carries
  pub placing : (s : List ℕ) (at : ℕ) → PlacedAt σ s at → placing_of ρ s at ≡ placing_of σ s at
  pub carried : (s : List ℕ) (at : ℕ) → PlacedAt σ s at → carried_at ρ s at ≡ carried_at σ s at
  -- there, whether a group's lines can be given, where they begin, and they themselves
  pub found : (s : List ℕ) (at : ℕ) → PlacedAt σ s at → (g : ℕ) → found_at ρ s at g ≡ found_at σ s at g
  pub begins : (s : List ℕ) (at : ℕ) → PlacedAt σ s at → (g : ℕ) → part_start ρ s at g ≡ part_start σ s at g
  pub lines : (s : List ℕ) (at : ℕ) → PlacedAt σ s at → (g : ℕ) → part_at ρ s at g ≡ part_at σ s at g
  -- R254: the walk, as far as σ places its records
  pub spots : (s : List ℕ) (k : ℕ) → ((j : ℕ) → j < k → PlacedAt σ s (spot σ s j)) → spot ρ s k ≡ spot σ s k
  -- reply 0 of a group with its cells
  pub reading : (s : List ℕ) (at g room : ℕ) (cs : List ℤ) → read_at σ s at g room ≡ done cs → read_at ρ s at g room ≡ done cs
  -- a characteristic that is not refused
  pub characteristic : (s : List ℕ) (at k : ℕ) → ((r : Refusal) → characteristic_at σ s at k ≡ Refused r → ⊥) → characteristic_at ρ s at k ≡ characteristic_at σ s at k
  -- reply 0 of a whole record with its cells
  pub whole : (s : List ℕ) (at room : ℕ) (cs : List ℤ) → whole_read σ s at room ≡ done cs → whole_read ρ s at room ≡ done cs
  -- reply 0 of rewriting with its numbers, and its text
  pub rewriting : (s : List ℕ) (at cells room bytes next : ℕ) → rewriting_of σ s at cells room ≡ Ok (record { bytes = bytes; next = next }) → rewriting_of ρ s at cells room ≡ Ok (record { bytes = bytes; next = next })
  pub text : (s : List ℕ) (at cells room bytes next : ℕ) → rewriting_of σ s at cells room ≡ Ok (record { bytes = bytes; next = next }) → text_at ρ s at ≡ text_at σ s at

-- R9: where s from p on and t from q on have the same contents line by line, what is asked there is answered the same
pub record AnsweredAlike (ρ : Rules) (s : List ℕ) (p : ℕ) (t : List ℕ) (q : ℕ) : Type 0 where
  -- the same reply with its numbers but the next place, and from the next places on the texts are alike again
  pub placing : SamePlacing ρ s t (placing_of ρ s p) (placing_of ρ t q)
  pub counts : counts_at ρ s p ≡ counts_at ρ t q
  -- every group: the cells, or the refusal with its numbers
  pub reading : (g room : ℕ) → read_at ρ s p g room ≡ read_at ρ t q g room
  -- the whole record
  pub whole : (room : ℕ) → whole_read ρ s p room ≡ whole_read ρ t q room
  -- its lines, which have the same contents
  pub lines : (g : ℕ) → found_at ρ s p g ≡ found_at ρ t q g
  pub part : (g : ℕ) → Alike ρ (part_at ρ s p g) (part_at ρ t q g)
  pub characteristic : (k : ℕ) → characteristic_at ρ s p k ≡ characteristic_at ρ t q k
  -- rewriting gives the same reply with its numbers but the next place, and the canonical text is the same: its line ends are those of R101
  pub rewriting : (cells room : ℕ) → SameRewriting ρ s t (rewriting_of ρ s p cells room) (rewriting_of ρ t q cells room)
  pub text : text_at ρ s p ≡ text_at ρ t q

-- R9, R254: where whole texts are alike, so is the walk. A listing is not the same for both: it holds places, which line ends move
pub record WalkedAlike (ρ : Rules) (s t : List ℕ) : Type 0 where
  -- record k of the one is record k of the other, and is answered alike
  pub spots : (k : ℕ) → AlikeFrom ρ s (spot ρ s k) t (spot ρ t k)
  -- as many records, and the same refusal behind them
  pub stops : (many : ℕ) (r : Refusal) → Stops ρ s many r ↔ Stops ρ t many r
  -- the same record is the first from a date on, or the same refusal is given
  pub first : (from : Date) → SameFirst ρ s t (first_from ρ s from) (first_from ρ t from)
  -- R341: the rewriting program prints the same for both, where both are within its limit
  pub prints : length s ≤ 65536 → length t ≤ 65536 → printed ρ s ≡ printed ρ t

-- R9, R101: canonical text ends its lines with a carriage return and a line feed: each rule reads it as what it is
pub record CanonicalStays (ρ : Rules) : Type 0 where
  -- 0 with the place behind it, its counts and each group's cells, wherever it stands, by each rule for line ends
  pub reads_back : (e : LineEnds) (x : List ℕ) (r : RightRecord ρ x) (a b : List ℕ) → ReadsBack (ended e ρ) r.ns r.cs (length x) (a ++ (x ++ b)) (length a)
  -- so any other rule for line ends answers the same
  pub same : (e : LineEnds) (x : List ℕ) → RightRecord ρ x → (a b : List ℕ) → SameAnswers ρ (ended e ρ) (a ++ (x ++ b)) (length a)

-- R12: what reads no text has no use for line ends: σ has another rule for them, and is as ρ in all else
pub record UnreadSame (σ ρ : Rules) : Type 0 where
  -- writing: the answer, and what the output holds behind it
  pub writing : (ns : List ℕ) (cs : List ℤ) (room : ℕ) → writing_of σ ns cs room ≡ writing_of ρ ns cs room
  pub output : (ns : List ℕ) (cs : List ℤ) (a : Result ℕ Refusal) (old : List ℕ) → output_by σ ns cs a old ≡ output_by ρ ns cs a old
  -- a call of the journal: the answer, and what is left of cells, journal and bytes used
  pub call : (ns : List ℕ) (c : Call) (k : Kept) → answer_to σ ns c k ≡ answer_to ρ ns c k
  pub call_left : (ns : List ℕ) (c : Call) (k : Kept) (a : Result ℕ Refusal) → left_by σ ns c k a ≡ left_by ρ ns c k a
  -- a replay: the answer, the cells and the open savepoints
  pub replay : (ns j : List ℕ) (used : ℕ) (cs : List ℤ) → replay_of σ ns j used cs ≡ replay_of ρ ns j used cs
  pub replay_left : (ns j : List ℕ) (used : ℕ) (cs : List ℤ) (a : Result (Unit {0}) Refusal)
      → (replayed_cells σ ns j used cs a ≡ replayed_cells ρ ns j used cs a) × (replayed_open σ ns j used cs a ≡ replayed_open ρ ns j used cs a)

pub record LineEndsKept (ρ : Rules) : Type 0 where
  -- R5: whatever a is, exactly one carriage return is dropped with the line feed
  pub one_return : (a : List ℕ) → content_of ρ (a ++ (13 ∷ 10 ∷ [])) ≡ Some (length a)
  pub strictly : ρ.ends ≡ Strict → UnderStrict ρ
  pub either : ρ.ends ≡ Either → UnderEither ρ
  pub strict_stays : StrictStays (ended Strict ρ) ρ
  pub alike : (s : List ℕ) (p : ℕ) (t : List ℕ) (q : ℕ) → AlikeFrom ρ s p t q → AnsweredAlike ρ s p t q
  pub walk : (s t : List ℕ) → Alike ρ s t → WalkedAlike ρ s t
  pub canonical : CanonicalStays ρ
  pub unread : (e : LineEnds) → UnreadSame (ended e ρ) ρ
