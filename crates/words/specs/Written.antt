-- What an error of reading or writing leaves. Where the system fails a program, that is no matter of the rules: it ends there (docs/DECISIONS.md, on
-- R341).
use Rattle.std.specs.Prelude.{ℕ, ◌≤◌, List, length, take}
use Rattle.std.specs.declared.option.Option.{Option}
use Rattle.std.specs.Io.KnownBytes.{Appends, Consumes}

-- known bytes grew by a front part of these, and by no more
abbrev pub AppendsFront : Option (List ℕ) → Option (List ℕ) → List ℕ → Type 0
AppendsFront old new bs = (n : ℕ) × (n ≤ length bs) × Appends old new (take n bs)

-- known bytes lost a front part, which a space begins with
abbrev pub ConsumesInto : Option (List ℕ) → Option (List ℕ) → List ℕ → Type 0
ConsumesInto old new space = (n : ℕ) × (n ≤ length space) × Consumes old new (take n space)
