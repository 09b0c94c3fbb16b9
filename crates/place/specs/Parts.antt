-- R20, R27: where each group's lines are, for a record at a place with these counts: behind the index and all groups below it. Group 0 is
-- the index.
use Rattle.std.specs.Prelude.{◌≡◌, List, ◌++◌, ℕ, suc, ◌+◌, length, drop}
use Rattle.rules.specs.declared.Rules.{Rules}
use Rattle.base.specs.Part.{part}
use Rattle.line.specs.Lines.{reach, Whole}
use Rattle.count.specs.Tally.{lines_in, lines_before}

module _ (ρ : Rules) where
  -- R27: where the lines of group g begin; they end where those of the next group begin, and 61 begins where the record ends (R28)
  unfoldable pub start : List ℕ → ℕ → List ℕ → ℕ → ℕ
  start s at ns g = at + reach (drop at s) (lines_before ρ ns g)

  unfoldable pub group_part : List ℕ → ℕ → List ℕ → ℕ → List ℕ
  group_part s at ns g = part (start s at ns g) (start s at ns (suc g)) s

  -- ---- as a statement: x is the lines of group g, and begins at the place `from` (`part_is`, `is_part` in proofs/Tiling.antt)
  pub record IsPart (s : List ℕ) (at : ℕ) (ns : List ℕ) (g from : ℕ) (x : List ℕ) : Type 0 where
    -- the text is what stands before the record, the lines of the index and of the groups before g, these lines, and the rest
    pub ahead : List ℕ
    pub before : List ℕ
    pub rest : List ℕ
    pub text : s ≡ ahead ++ (before ++ (x ++ rest))
    pub place : length ahead ≡ at
    pub lines_before_lem : Whole (lines_before ρ ns g) before
    pub lines : Whole (lines_in ρ ns g) x
    pub begins : from ≡ at + length before
