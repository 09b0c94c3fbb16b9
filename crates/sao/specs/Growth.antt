-- R256 to R258: a text that still grows. Bytes b are added at the end of a text s, whatever bytes they are. What was answered stays, with its
-- numbers, counts and cells, but for what placing's replies 1, 2 and 3 are the answer to: so who reads a file that is being written may keep all
-- that was found, and asks again only from where the walk stopped.
use Rattle.std.specs.Prelude.{List, ℕ}
use Rattle.rules.specs.declared.Rules.{Rules}
use Rattle.place.specs.Growth.{GrowthKeeps}
use Rattle.place.specs.Walk.{PlacedAt}
use Rattle.group.specs.Growth.{GroupsStay}
use Rattle.view.specs.Placed.{GrowthKept}
use Rattle.date.specs.declared.Date.{Date}
use Rattle.since.specs.Kept.{GrowthKeepsFirst}
use Rattle.whole.specs.Kept.{GrowthKeepsWhole}
use Rattle.rewriting.specs.Growth.{RewritingStays}

pub record Growth (ρ : Rules) : Type 0 where
  -- at each place, and along the walk
  pub placing : (s b : List ℕ) → GrowthKeeps ρ s b
  -- groups, their parts and characteristics, wherever placing's answer stays
  pub groups : (s b : List ℕ) → GroupsStay ρ s b
  -- a record that was placed serves as before
  pub records : (s b : List ℕ) (at : ℕ) → PlacedAt ρ s at → GrowthKept ρ s b at
  -- whole records, there: the cells, or the refusal with its numbers
  pub whole : (s b : List ℕ) → GrowthKeepsWhole ρ s b
  -- the first record from a date on: one that was found, and every refusal but 1 and 3
  pub first : (s b : List ℕ) (from : Date) → GrowthKeepsFirst ρ s b from
  -- and rewriting, there: its answer, and what it leaves in the output and in the table
  pub rewriting : (s b : List ℕ) → RewritingStays ρ s b
