-- R9: lines with the same contents read the same, and so does a group whose lines they are.
-- Assumes nothing.
use mathlib.Core.Path.{◌≡◌, refl, ap, ap₂}
use mathlib.Core.Bool.{Bool, cond}
use mathlib.Core.List.{List, [], ◌∷◌}
use Prim.Native.Nat.{ℕ}
use Rattle.rules.specs.declared.Rules.{Rules}
use Rattle.base.specs.Pieces
use Rattle.base.specs.Pieces.{bad, both}
use Rattle.form.specs.declared.Form.{Form}
use Rattle.line.specs.Alike.{SameLine, Alike}
use Rattle.line.specs.Lines.{lines, behind}
use Rattle.line.proofs.Alike.{same_line_told, alike_first, alike_behind}
use Rattle.count.specs.Tally.{count_of}
use Rattle.reply.specs.declared.Refusal.TheVariants.{BadLine}
use Rattle.reading.specs.Blanks.{may_be_short, is_right, filled_to}
use Rattle.reading.specs.Plan.{Line, plan_of}
use Rattle.reading.specs.Read.{columns_of, read_fields, read_content, read_line, read_lines_of, read_lines, read_group}
use Rattle.reading.proofs.ByLines.{group_by_lines}

module _ (ρ : Rules) where
  alike_line_read : (f : Form) (short : Bool) (l : Line) (a b : List ℕ) → SameLine ρ a b → read_line ρ f short l a ≡ read_line ρ f short l b
  unfolding read_line
  alike_line_read f short l a b h =
      same_line_told ρ (read_content f short l) a b
      (λ n e. ap (λ c. cond (is_right short (columns_of f l) c) (read_fields f l (filled_to (columns_of f l) c)) (bad (BadLine l.number))) e)
      refl h

  alike_lines_read : (f : Form) (short : Bool) (ls : List Line) (x y : List ℕ) → Alike ρ x y → read_lines_of ρ f short ls x ≡ read_lines_of ρ f short ls y
  unfolding read_lines_of Pieces.gather
  alike_lines_read f short [] x y r = refl
  alike_lines_read f short (l ∷ ls) x y r =
      ap₂ both (alike_line_read f short l (lines 1 x) (lines 1 y) (alike_first ρ x y r)) (alike_lines_read f short ls (behind 1 x) (behind 1 y) (alike_behind ρ x y r 1))

  -- a group of a record with these counts
  pub alike_group_read : (ns : List ℕ) (g : ℕ) (x y : List ℕ) → Alike ρ x y → (room : ℕ) → read_group ρ ns g x room ≡ read_group ρ ns g y room
  unfolding read_lines
  alike_group_read ns g x y r room = group_by_lines ρ ρ ns g x y refl (λ f u. alike_lines_read f (may_be_short g) (plan_of ρ f (count_of ns g)) x y r) room
