-- R259: what a record carries, if it is to be read by: counts that keep their rules, and a part of the text for each group.
use Rattle.std.specs.Prelude.{◌≡◌, List, ℕ, ◌-◌, ◌<◌, ◌≤◌, length, get_or, None}
use Rattle.base.specs.Part.{part}
use Rattle.count.specs.Rules.{ruling_of}
use Rattle.place.specs.Placing.{Carried}

pub record Parted (s : List ℕ) (r : Carried) : Type 0 where
  pub kept : ruling_of r.counts_of ≡ None
  pub listed : (60 ≤ length r.starts_of) × (60 ≤ length r.ends_of)
  pub within : (i : ℕ) → i < 60 → (get_or r.starts_of i 0 ≤ get_or r.ends_of i 0) × (get_or r.ends_of i 0 ≤ length s)

-- the lines that the record names for group g
abbrev pub lines_named : List ℕ → Carried → ℕ → List ℕ
lines_named s r g = part (get_or r.starts_of (g - 1) 0) (get_or r.ends_of (g - 1) 0) s
