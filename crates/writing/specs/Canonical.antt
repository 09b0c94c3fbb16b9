-- R100: canonical text as a statement about a record's bytes, apart from the function that makes them. Here is how its lines end (R101) and
-- that they end with their last field (R102); field's Canonical and Entry say how fields and index entries are written (R103 to R109).
use Rattle.std.specs.Prelude.{◌≡◌, List, [], ◌∷◌, ◌++◌, ℕ, ℤ, length, take, drop, Option, Some, None}
use Rattle.rules.specs.declared.Rules.{Rules}
use Rattle.base.specs.Every.{up_from}
use Rattle.base.specs.Pieces.{Each}
use Rattle.form.specs.declared.Form.{Form}
use Rattle.form.specs.Table.{form_of}
use Rattle.field.specs.Canonical.{IsCanonical}
use Rattle.field.specs.Entry.{CanonicalEntry}
use Rattle.count.specs.Tally.{count_of}
use Rattle.reading.specs.Plan.{Line, plan_of, elements_in}
use Rattle.writing.specs.Text.{line_end}

-- R101: a line whose content is as P says, with its line end
pub record Ended (P : List ℕ → Type 0) (x : List ℕ) : Type 0 where
  pub content : List ℕ
  pub good : P content
  pub is : x ≡ content ++ line_end

-- R22, R103: an index line of these counts
abbrev pub EntryOf : ℕ → List ℕ → List ℕ → Type 0
EntryOf n x c = CanonicalEntry x n × (c ≡ n ∷ [])

abbrev pub CanonicalIndexLine : List ℕ → List ℕ → Type 0
CanonicalIndexLine ns x = Ended (λ s. Each EntryOf ns s ns) x

-- R102: a line of a group: its elements' fields and nothing behind them
abbrev pub CanonicalLine : Form → Line → List ℕ → List ℤ → Type 0
CanonicalLine f l x cs = Ended (λ s. Each (λ (e : ℕ). IsCanonical f) (elements_in l) s cs) x

module _ (ρ : Rules) where
  abbrev pub CanonicalLines : Form → ℕ → List ℕ → List ℤ → Type 0
  CanonicalLines f count x cs = Each (CanonicalLine f) (plan_of ρ f count) x cs

  abbrev pub CanonicalGroupBy : Option Form → ℕ → List ℕ → List ℤ → Type 0
  CanonicalGroupBy (Some f) count x cs = CanonicalLines f count x cs
  CanonicalGroupBy None count x cs = ⊥

  abbrev pub CanonicalGroup : List ℕ → ℕ → List ℕ → List ℤ → Type 0
  CanonicalGroup ns g x cs = CanonicalGroupBy (form_of g) (count_of ns g) x cs

  -- R20: x is a canonical record with these counts and cells
  pub record CanonicalRecord (ns : List ℕ) (x : List ℕ) (cs : List ℤ) : Type 0 where
    pub many : length ns ≡ 80
    pub first : List ℕ
    pub second : List ℕ
    pub groups : List ℕ
    pub first_line : CanonicalIndexLine (take 40 ns) first
    pub second_line : CanonicalIndexLine (drop 40 ns) second
    pub each : Each (CanonicalGroup ns) (up_from 1 60) groups cs
    pub is : x ≡ (first ++ second) ++ groups
