-- R233: when each reply of a question about a group at a place is due: its own condition holds, and none earlier in the order of the
-- question (R260, R281, R294): 12; the reply of placing, if it is not 0; and then what place's and reading's own Due say.
use Rattle.std.specs.Prelude.{◌≡◌, List, [], ◌⊎◌, ℕ, ◌-◌, ◌<◌, ◌≤◌, ℤ, pos, get_or, Result, Ok, Err}
use Rattle.rules.specs.declared.Rules.{Rules}
use Rattle.base.specs.Pieces.{done, bad}
use Rattle.form.specs.Table.{NoSuchGroup}
use Rattle.count.specs.Tally.{count_of}
use Rattle.place.specs.declared.Placing.{Placing}
use Rattle.place.specs.declared.Placing.TheVariants as P
use Rattle.place.specs.Placing.{counts_at}
use Rattle.place.specs.Parts.{IsPart}
use Rattle.place.specs.Due as Place
use Rattle.reply.specs.declared.Refusal.{Refusal}
use Rattle.reply.specs.declared.Refusal.TheVariants.{NoSuchNumber, BrokenRule}
use Rattle.reading.specs.Read.{Cells}
use Rattle.reading.specs.Due as Reading
use Rattle.characteristic.specs.NoReading.{IsNoReading}
use Rattle.group.specs.declared.Characteristic.{Characteristic}
use Rattle.group.specs.declared.Characteristic.TheVariants.{Value, NoReading, NotReported, Refused}

module _ (ρ : Rules) where
  module _ (s : List ℕ) (at g : ℕ) where
    -- not 12, and placing's reply is p
    pub record PlacingDue (p : Placing) : Type 0 where
      pub low : 1 ≤ g
      pub high : g ≤ 60
      pub placing : Place.Due ρ s at p

    -- R235: 7 has its group; the next place is not asked for
    pub record BrokenDue (h : ℕ) : Type 0 where
      pub next : ℕ
      pub broken : PlacingDue (P.BrokenRule h next)

    -- neither 12 nor a placing reply but 0
    pub record IsPlaced : Type 0 where
      pub next : ℕ
      pub placed : PlacingDue (P.Placed next)

    -- ---- R281: the lines of a group: 12, or what placing refuses with

    pub data RefusedFor : Refusal → Type 0 where
      no_group : NoSuchGroup g → RefusedFor NoSuchNumber
      broken_rule : (h : ℕ) → BrokenDue h → RefusedFor (BrokenRule h)
      unplaced : (r : Refusal) → PlacingDue (P.Refused r) → RefusedFor r

    abbrev pub FoundDue : Result (Unit {0}) Refusal → Type 0
    FoundDue (Ok _) = IsPlaced
    FoundDue (Err r) = RefusedFor r

    -- R280, R283: the part: with 0 the lines of the group, which follow those of the index and of the groups before it; else the empty part
    -- at the text's start
    pub record GivenPart (from : ℕ) (x : List ℕ) : Type 0 where
      pub placed : IsPlaced
      pub lines : IsPart ρ s at placed.placed.placing.ns g from x

    pub record NoPart (from : ℕ) (x : List ℕ) : Type 0 where
      pub why : Refusal
      pub missing : RefusedFor why
      pub text_start : from ≡ 0
      pub empty : x ≡ []

    abbrev pub PartDue : ℕ → List ℕ → Type 0
    PartDue from x = GivenPart from x ⊎ NoPart from x

    -- ---- R260: reading a group: the same, and behind it 11, 8 and 9, 10

    module _ (room : ℕ) where
      -- R269: neither 12 nor a placing reply but 0: the record's counts and the group's own lines decide
      pub record ReadingDue (c : Cells) : Type 0 where
        pub next : ℕ
        pub placed : PlacingDue (P.Placed next)
        pub from : ℕ
        pub x : List ℕ
        pub lines : IsPart ρ s at placed.placing.ns g from x
        pub reading : Reading.Due ρ placed.placing.ns g x room c

      abbrev pub Due : Cells → Type 0
      Due (done cs) = ReadingDue (done cs)
      Due (bad r) = RefusedFor r ⊎ ReadingDue (bad r)

-- ---- R294: a characteristic: 12, or what group 4 is refused with where there is room; then by its number and its cell. `four room c` is when
-- group 4, of this count, is due to read as c into a table of this length

module _ (k : ℕ) where
  -- R212: the number is none of 1 to 49
  pub record NoNumber (r : Refusal) : Type 0 where
    pub none : (1 ≤ k) × (k ≤ 49) → ⊥
    pub twelve : r ≡ NoSuchNumber

  -- not 12, and group 4 reads as c into every table with room (49 cells have room: proofs/Rooms.antt)
  pub record FourReads (four : ℕ → Cells → Type 0) (c : Cells) : Type 0 where
    pub low : 1 ≤ k
    pub high : k ≤ 49
    pub reads_as : (room : ℕ) → 49 ≤ room → four room c

module _ (four : ℕ → Cells → Type 0) (count k : ℕ) where
  -- R292: not reported, since group 4's count is smaller than the number
  pub record Above : Type 0 where
    pub cs : List ℤ
    pub reads : FourReads k four (done cs)
    pub above : count < k

  -- the number is one of group 4's, and z its cell
  pub record HasCell (z : ℤ) : Type 0 where
    pub cs : List ℤ
    pub reads : FourReads k four (done cs)
    pub within : k ≤ count
    pub cell : get_or cs (k - 1) (pos 0) ≡ z

  -- R293: the value is the cell; R291: unless the cell is no reading of this number
  pub record HasValue (z : ℤ) : Type 0 where
    pub cell : HasCell z
    pub reading : IsNoReading k z → ⊥

  pub record HasNoReading : Type 0 where
    pub z : ℤ
    pub cell : HasCell z
    pub none : IsNoReading k z

  abbrev pub ToldDue : Characteristic → Type 0
  ToldDue (Refused r) = NoNumber k r ⊎ FourReads k four (bad r)
  ToldDue NotReported = Above
  ToldDue NoReading = HasNoReading
  ToldDue (Value z) = HasValue z

-- of the record at a place
abbrev pub CharacteristicDue : Rules → List ℕ → (at k : ℕ) → Characteristic → Type 0
CharacteristicDue ρ s at k = ToldDue (Due ρ s at 4) (count_of (counts_at ρ s at) 4) k
