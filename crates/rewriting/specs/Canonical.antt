-- R348, D2.5: the texts that the program prints as they stand: canonical records, one behind the other, within its limits.
use Rattle.std.specs.Prelude.{List, [], ◌++◌, ℕ, ◌≤◌, ℤ, length}
use Rattle.rules.specs.declared.Rules.{Rules}
use Rattle.count.specs.Blame.{KeepsRules}
use Rattle.count.specs.Due.{ReleaseFive}
use Rattle.date.specs.Due.{IsDate}
use Rattle.date.specs.declared.Date.{Date}
use Rattle.writing.specs.Canonical.{CanonicalRecord}
use Rattle.writing.specs.Writing.{date_letters}

module _ (ρ : Rules) where
  -- a canonical record that nothing but its length could have refused: release 5 and no vacant group, the rules on counts, a right date
  pub record RightRecord (x : List ℕ) : Type 0 where
    pub ns : List ℕ
    pub cs : List ℤ
    pub canonical : CanonicalRecord ρ ns x cs
    pub release : ReleaseFive ns
    pub rules : KeepsRules ns
    pub date : Date
    pub dated : IsDate (date_letters ρ ns cs) date

  -- such records, one behind the other, none of which has more than 8,192 bytes
  pub data CanonicalRecords : List ℕ → Type 0 where
    none : CanonicalRecords []
    more : (x : List ℕ) {y : List ℕ} → RightRecord x → length x ≤ 8192 → CanonicalRecords y → CanonicalRecords (x ++ y)
