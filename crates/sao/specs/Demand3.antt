-- The third demand, D3: damage stays where it is.
-- D3.1, D3.2: given a text and its walk (R254), bytes are exchanged for others, each for one, in the data lines of a single group of a single
-- record, and line feeds are where they were. D3.3, D3.4: the walk has the same number of records, each where it was and with its counts. D3.5:
-- all other groups, in all records, give the reply that they gave, and put the same cells into the same table. D3.6: that group is read or
-- refused as D2 says, and nothing but its lines, the counts of its record and the table's length decides this (R269). D3.7: what else follows.
-- R270: the same holds where the lines of several groups, of one record or of more, are touched together; the single group is one such set.
--
-- group's specs/Damage.antt has it sentence by sentence: Damaged is D3.1 and D3.2, Confined is D3.3 to D3.7; view's specs/Placed.antt says it of
-- questions with a record (R288), whole's specs/Kept.antt of a whole record (R277), since's specs/Kept.antt of the first record from a date on (R336).
use Rattle.std.specs.Prelude.{List, ℕ}
use Rattle.rules.specs.declared.Rules.{Rules}
use Rattle.group.specs.Damage.{OneGroup, Damaged, Confined}
use Rattle.view.specs.Placed.{DamageKept}
use Rattle.since.specs.Kept.{DamageKeepsFirst}
use Rattle.whole.specs.Kept.{DamageKeepsWhole}

-- what is asked by place in u, what is asked in u with a record that was placed in t, whole records of u, and which of them is the first from a date on
pub record DamageLeaves (ρ : Rules) (t u : List ℕ) (among : ℕ → ℕ → Type 0) : Type 0 where
  pub confined : Confined ρ t u among
  pub records : DamageKept ρ t u among
  pub whole : DamageKeepsWhole ρ t u among
  pub first : DamageKeepsFirst ρ t u among

-- R270: t is a text, u the same with bytes of these groups exchanged; `among k g` says that group g of record k is one of them
abbrev pub AnyDamage : Rules → Type 1
AnyDamage ρ = (t u : List ℕ) (among : ℕ → ℕ → Type 0) → Damaged ρ t u among → DamageLeaves ρ t u among

-- D3: group g of record k alone
abbrev pub Demand3 : Rules → Type 0
Demand3 ρ = (t u : List ℕ) (k g : ℕ) → Damaged ρ t u (OneGroup k g) → DamageLeaves ρ t u (OneGroup k g)
