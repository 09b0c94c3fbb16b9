-- R233, R302: when each answer about counts is due, and about counts and a table's length: its own condition holds, and none earlier in the
-- order 4, 5, 6, 7, 14.
use Rattle.std.specs.Prelude.{◌≡◌, List, ℕ, ◌<◌, ◌≤◌, length, get_or, Result, Ok, Err}
use Rattle.rules.specs.declared.Rules.{Rules}
use Rattle.form.specs.Count.{most_count}
use Rattle.count.specs.Tally.{count_of, record_cells}
use Rattle.count.specs.Blame.{KeepsRules, BreaksRules}
use Rattle.reply.specs.declared.Refusal.{Refusal}
use Rattle.reply.specs.declared.Refusal.TheVariants.{Misformed, OtherRelease, FilledVacant, BrokenRule, OtherLength}

module _ (ns : List ℕ) where
  -- ---- R205, R206: the release

  -- R24, R25, so neither 5 nor 6: the release is 5, and no vacant group has a count
  pub record ReleaseFive : Type 0 where
    pub five : count_of ns 80 ≡ 5
    pub vacant : (g : ℕ) → 61 ≤ g → g ≤ 79 → count_of ns g ≡ 0

  -- R206: g is the lowest of 61 to 79 that has a count
  pub record LowestFilled (g : ℕ) : Type 0 where
    pub five : count_of ns 80 ≡ 5
    pub low : 61 ≤ g
    pub high : g ≤ 79
    pub filled : count_of ns g ≡ 0 → ⊥
    pub lowest : (h : ℕ) → 61 ≤ h → h < g → count_of ns h ≡ 0

  abbrev pub ReleaseDue : Result (Unit {0}) Refusal → Type 0
  ReleaseDue (Ok five) = ReleaseFive
  ReleaseDue (Err OtherRelease) = count_of ns 80 ≡ 5 → ⊥
  ReleaseDue (Err (FilledVacant g)) = LowestFilled g
  ReleaseDue (Err _) = ⊥

  -- ---- the check of counts

  -- R129, so not 4: 80 counts, each 0 to 999
  pub record HasCounts : Type 0 where
    pub many : length ns ≡ 80
    pub small : (i : ℕ) → i < 80 → get_or ns i 0 ≤ most_count

  -- not 4, and what is said of the release
  pub record Released (r : Result (Unit {0}) Refusal) : Type 0 where
    pub counts : HasCounts
    pub release : ReleaseDue r

  -- R207: none of 4, 5 and 6, but a rule is broken
  pub record Breaks (g : ℕ) : Type 0 where
    pub released : Released (Ok tt)
    pub broken : BreaksRules ns g

  -- nor 7
  pub record HasRules : Type 0 where
    pub released : Released (Ok tt)
    pub kept : KeepsRules ns

  -- what counts are refused with, and when
  pub data CountsRefusedFor : Refusal → Type 0 where
    misformed : (HasCounts → ⊥) → CountsRefusedFor Misformed
    other_release : Released (Err OtherRelease) → CountsRefusedFor OtherRelease
    filled_vacant : (g : ℕ) → Released (Err (FilledVacant g)) → CountsRefusedFor (FilledVacant g)
    broken_rule : (g : ℕ) → Breaks g → CountsRefusedFor (BrokenRule g)

  abbrev pub AcceptedDue : Result (Unit {0}) Refusal → Type 0
  AcceptedDue (Ok right) = HasRules
  AcceptedDue (Err r) = CountsRefusedFor r

module _ (ρ : Rules) (ns : List ℕ) where
  -- ---- the whole check

  -- R214: none of these, but more or fewer cells than the counts ask for
  pub record Differs (cells : ℕ) : Type 0 where
    pub rules : HasRules ns
    pub other : cells ≡ record_cells ρ ns → ⊥

  -- none of them: the table is as long as the counts need
  pub record HasCells (cells : ℕ) : Type 0 where
    pub rules : HasRules ns
    pub needed : cells ≡ record_cells ρ ns

  -- what it refuses with, and when
  pub data RefusedFor (cells : ℕ) : Refusal → Type 0 where
    refused_counts : (r : Refusal) → CountsRefusedFor ns r → RefusedFor cells r
    other_length : Differs cells → RefusedFor cells OtherLength

  abbrev pub Due : ℕ → Result (Unit {0}) Refusal → Type 0
  Due cells (Ok right) = HasCells cells
  Due cells (Err r) = RefusedFor cells r
