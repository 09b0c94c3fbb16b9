-- D3, the third demand: damage stays where it is; R270: also if bytes are exchanged in any number of groups of any number of records at once.
-- Damaged says what is done to a text (D3.1, D3.2), Confined what follows (D3.3 to D3.7); proofs/Damage.antt proves the one from the other.
--
-- t is the text, u the text with bytes exchanged. Records are counted from 0: record k stands where the walk does after k steps (`spot`).
-- `among k g` says that group g of record k is one of those that are damaged; the demand's own single group is `OneGroup k g`.
use Rattle.std.specs.Prelude.{◌≡◌, List, ◌↔◌, ℕ, suc, ◌+◌, ◌≤◌, ℤ, length, drop}
use Rattle.rules.specs.declared.Rules.{Rules}
use Rattle.base.specs.Agree.{Agree, Misses, Between}
use Rattle.base.specs.Part.{part}
use Rattle.line.specs.Lines.{reach}
use Rattle.line.specs.Texts.{SameLines}
use Rattle.reply.specs.declared.Refusal.{Refusal}
use Rattle.place.specs.Parts.{start, group_part}
use Rattle.place.specs.Placing.{located, locate, placing_of, counts_at, carried_at}
use Rattle.place.specs.Walk.{PlacedAt, spot, Stops}
use Rattle.reading.specs.Read.{read_group}
use Rattle.group.specs.Answers.{SameReading}
use Rattle.group.specs.Characteristics.{characteristic_at}
use Rattle.group.specs.Held.{lines_start, found_at, part_start, part_at}
use Rattle.group.specs.Text.{read_at}

-- D3.2: a single group of a single record
abbrev pub OneGroup : (k g j h : ℕ) → Type 0
OneGroup k g j h = (j ≡ k) × (h ≡ g)

-- group h of record j is none of the set
abbrev pub Outside : (ℕ → ℕ → Type 0) → ℕ → ℕ → Type 0
Outside among j h = among j h → ⊥

-- R27: the places of the lines of group g of the record at a place
abbrev pub LinesAt : Rules → List ℕ → ℕ → ℕ → ℕ → Type 0
LinesAt ρ s at g = Between (lines_start ρ s at g) (lines_start ρ s at (suc g))

-- i is a place of the data lines of a group of the set
pub record InLines (ρ : Rules) (t : List ℕ) (among : ℕ → ℕ → Type 0) (i : ℕ) : Type 0 where
  pub k : ℕ
  pub g : ℕ
  pub chosen : among k g
  -- D3.1: record k is one of the walk
  pub placed : PlacedAt ρ t (spot ρ t k)
  -- D3.2: g is a group of it, and i a place of that group's lines
  pub low : 1 ≤ g
  pub high : g ≤ 60
  pub lies : LinesAt ρ t (spot ρ t k) g i

module _ (ρ : Rules) (t u : List ℕ) (among : ℕ → ℕ → Type 0) where
  -- u is t with bytes exchanged for others in the lines of these groups
  pub record Damaged : Type 0 where
    -- D3.2: a byte for a byte, and no line feed appears or disappears: u is as long as t, with its line feeds at the same places
    pub lines : SameLines t u
    -- D3.2: only bytes of these groups' data lines are exchanged: all others are what they were
    pub elsewhere : Agree (InLines ρ t among) t u

  -- the damage is confined to these groups
  pub record Confined : Type 0 where
    -- D3.3: the walk has the same number of records; D3.7: and behind them it stops with the reply and group that it had
    pub as_many : (n : ℕ) (r : Refusal) → Stops ρ t n r ↔ Stops ρ u n r
    -- D3.4: each record is where it was; D3.7: and so is the place where the walk stops
    pub places : (j : ℕ) → spot ρ u j ≡ spot ρ t j
    -- D3.4, D3.7: so each has the reply, blamed group and next place that it had
    pub answers : (j : ℕ) → placing_of ρ u (spot ρ u j) ≡ placing_of ρ t (spot ρ t j)
    -- D3.4: each record has the counts that it had; D3.7, R259: and carries them with the places that it carried
    pub carries : (j : ℕ) → carried_at ρ u (spot ρ u j) ≡ carried_at ρ t (spot ρ t j)
    -- D3.7: the lines of every group, an altered one too, begin and end where they did
    pub starts : (j h : ℕ) → lines_start ρ u (spot ρ u j) h ≡ lines_start ρ t (spot ρ t j) h
    -- so the question for a group's part has the same answer, and the part lies at the same offsets: it begins there and is as long
    pub part_answers : (j h : ℕ) → found_at ρ u (spot ρ u j) h ≡ found_at ρ t (spot ρ t j) h
    pub part_starts : (j h : ℕ) → part_start ρ u (spot ρ u j) h ≡ part_start ρ t (spot ρ t j) h
    pub part_lengths : (j h : ℕ) → length (part_at ρ u (spot ρ u j) h) ≡ length (part_at ρ t (spot ρ t j) h)
    -- every other group's lines have the same bytes, whether the record's reply is 0 or 7
    pub line_bytes : (j h : ℕ) → PlacedAt ρ t (spot ρ t j) → Outside among j h
        → group_part ρ u (spot ρ u j) (counts_at ρ u (spot ρ u j)) h ≡ group_part ρ t (spot ρ t j) (counts_at ρ t (spot ρ t j)) h
    -- and so has its part
    pub part_bytes : (j h : ℕ) → Outside among j h → part_at ρ u (spot ρ u j) h ≡ part_at ρ t (spot ρ t j) h
    -- D3.5: all groups but these, in all records, give the reply that they gave and put the same cells into the same table; also where h is
    -- no group (12)
    pub others : (j h : ℕ) → Outside among j h → (table : List ℤ) → SameReading (read_at ρ u (spot ρ u j) h (length table)) (read_at ρ t (spot ρ t j) h (length table)) table
    -- D3.6: each of these is read or refused as D2 says, decided by its lines, the counts of its record and the table's length alone: by
    -- `read_group`, in which the text does not occur, from the counts that the record has in t and what u has in place of the lines. So is every
    -- group of every record
    pub altered : (j h : ℕ) → PlacedAt ρ t (spot ρ t j) → (table : List ℤ)
        → SameReading (read_at ρ u (spot ρ u j) h (length table))
        (read_group ρ (counts_at ρ t (spot ρ t j)) h (part (lines_start ρ t (spot ρ t j) h) (lines_start ρ t (spot ρ t j) (suc h)) u) (length table)) table
    -- D3.7: a characteristic is a cell of group 4: where that is none of these, every one is what it was
    pub characteristics : (j : ℕ) → Outside among j 4 → (number : ℕ) → characteristic_at ρ u (spot ρ u j) number ≡ characteristic_at ρ t (spot ρ t j) number

-- ---- the same over places: D is any set of places outside the index lines of the walk (`replaced_stays`)

module _ (ρ : Rules) (D : ℕ → Type 0) (t : List ℕ) where
  -- D misses the lines of group g of the record at a place, if a record stands there
  abbrev pub Spares : ℕ → ℕ → Type 0
  Spares at g = (n : ℕ) (ns : List ℕ) → locate ρ t at ≡ located n ns → Misses D (start ρ t at ns g) (start ρ t at ns (suc g))

  -- bytes of t are exchanged for others at places among D, line feeds stay where they are, and no index line along the walk is touched
  pub record Replaced (u : List ℕ) : Type 0 where
    pub lines : SameLines t u
    pub elsewhere : Agree D t u
    pub heads : (j : ℕ) → Misses D (spot ρ t j) (spot ρ t j + reach (drop (spot ρ t j) t) 2)
