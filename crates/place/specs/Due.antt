-- R233, R251: when each reply of placing is due: its own condition holds, and none earlier in placing's order.
use Rattle.std.specs.Prelude.{◌≡◌, List, ◌⊎◌, ℕ, ◌+◌, ◌-◌, ◌<◌, ◌≤◌, length, drop, get_or, replicate}
use Rattle.rules.specs.declared.Rules.{Rules}
use Rattle.line.specs.Lines.{feeds, reach}
use Rattle.count.specs.Tally.{count_of, record_lines}
use Rattle.count.specs.Blame.{KeepsRules, BreaksRules}
use Rattle.count.specs.Due.{ReleaseFive, LowestFilled}
use Rattle.place.specs.declared.Placing.{Placing}
use Rattle.reply.specs.declared.Refusal.{Refusal}
use Rattle.reply.specs.declared.Refusal.TheVariants.{End, Beyond, TooFewLines, Misformed, OtherRelease, FilledVacant}
use Rattle.place.specs.declared.Placing.TheVariants.{Placed, BrokenRule, Refused}
use Rattle.place.specs.Index.{IsIndex}
use Rattle.place.specs.Parts.{IsPart}

module _ (ρ : Rules) (s : List ℕ) (at : ℕ) where
  -- neither 2, 1 nor 3 for the index lines: the place is inside, and two line feeds are left
  pub record HasIndex : Type 0 where
    pub inside : at < length s
    pub lines : 2 ≤ feeds (drop at s)

  -- nor 4: the two lines are the index of these counts
  pub record HasEntries (ns : List ℕ) : Type 0 where
    pub place : HasIndex
    pub index : IsIndex ρ (drop at s) ns

  -- nor 5 and 6: the release is 5, and no vacant group has a count
  pub record HasRelease (ns : List ℕ) : Type 0 where
    pub index : HasEntries ns
    pub release : ReleaseFive ns

  -- nor 3 for the data lines: so many line feeds are left, and n is the place behind them
  pub record HasLines (ns : List ℕ) (n : ℕ) : Type 0 where
    pub head : HasRelease ns
    pub enough : record_lines ρ ns ≤ feeds (drop at s)
    pub next : n ≡ at + reach (drop at s) (record_lines ρ ns)

  -- R203: not as many line feeds are left as an index has lines, or not as many as the record has
  pub record FewForIndex : Type 0 where
    pub inside : at < length s
    pub few : feeds (drop at s) < 2

  pub record FewForData : Type 0 where
    pub ns : List ℕ
    pub head : HasRelease ns
    pub few : feeds (drop at s) < record_lines ρ ns

  -- R204: they are the index of no counts
  pub record BadIndex : Type 0 where
    pub place : HasIndex
    pub none : (ns : List ℕ) → IsIndex ρ (drop at s) ns → ⊥

  -- R205: the release is another than 5
  pub record BadRelease : Type 0 where
    pub ns : List ℕ
    pub index : HasEntries ns
    pub other : count_of ns 80 ≡ 5 → ⊥

  -- R206: g is the lowest of 61 to 79 that has a count
  pub record FillsVacant (g : ℕ) : Type 0 where
    pub ns : List ℕ
    pub index : HasEntries ns
    pub filled : LowestFilled ns g

  -- R207 and R200: n is the next place, and the counts break a rule or keep all
  pub record StandsBroken (g n : ℕ) : Type 0 where
    pub ns : List ℕ
    pub lines : HasLines ns n
    pub broken : BreaksRules ns g

  pub record StandsRight (n : ℕ) : Type 0 where
    pub ns : List ℕ
    pub lines : HasLines ns n
    pub kept : KeepsRules ns

  -- R253: the counts beside the answer: those of the record, or 80 zeros where none stands
  pub record HasRecord (ns : List ℕ) : Type 0 where
    pub next : ℕ
    pub lines : HasLines ns next

  abbrev pub NoneStands : Type 0
  NoneStands = (ns : List ℕ) → HasRecord ns → ⊥

  pub record NoRecord (ns : List ℕ) : Type 0 where
    pub none : NoneStands
    pub zeros : ns ≡ replicate 80 0

  abbrev pub CountsDue : List ℕ → Type 0
  CountsDue ns = HasRecord ns ⊎ NoRecord ns

  -- R27: the lines of group g follow those of the index and of the groups before it, and begin and end here
  pub record GroupStands (ns : List ℕ) (g from to : ℕ) : Type 0 where
    pub lines : List ℕ
    pub part : IsPart ρ s at ns g from lines
    pub ends : to ≡ from + length lines

  -- R259: the places beside the answer: those of the record's groups 1 to 60, or 60 zeros each where none stands
  pub record HasPlaces (starts ends : List ℕ) : Type 0 where
    pub ns : List ℕ
    pub stands : HasRecord ns
    pub many_starts : length starts ≡ 60
    pub many_ends : length ends ≡ 60
    pub each : (g : ℕ) → 1 ≤ g → g ≤ 60 → GroupStands ns g (get_or starts (g - 1) 0) (get_or ends (g - 1) 0)

  pub record NoPlaces (starts ends : List ℕ) : Type 0 where
    pub none : NoneStands
    pub zero_starts : starts ≡ replicate 60 0
    pub zero_ends : ends ≡ replicate 60 0

  abbrev pub PlacesDue : (starts ends : List ℕ) → Type 0
  PlacesDue starts ends = HasPlaces starts ends ⊎ NoPlaces starts ends

  -- what placing refuses with, and when
  pub data RefusedFor : Refusal → Type 0 where
    beyond : length s < at → RefusedFor Beyond
    text_end : length s ≡ at → RefusedFor End
    few_for_index : FewForIndex → RefusedFor TooFewLines
    few_for_data : FewForData → RefusedFor TooFewLines
    bad_index : BadIndex → RefusedFor Misformed
    bad_release : BadRelease → RefusedFor OtherRelease
    fills_vacant : (g : ℕ) → FillsVacant g → RefusedFor (FilledVacant g)

  abbrev pub Due : Placing → Type 0
  Due (Placed n) = StandsRight n
  Due (BrokenRule g n) = StandsBroken g n
  Due (Refused r) = RefusedFor r
