-- R9: a data line without its carriage return is wrong under the strict rule. What reads with 0 under it reads so under each: a line, the
-- lines of a group, and under each that counts alike the group.
-- Assumes nothing.
use Rattle.std.specs.Prelude.{Option, Some, None}
use mathlib.Core.Path.{◌≡◌, refl, sym, ◌∙◌, ap}
use mathlib.Core.Bool.{Bool}
use mathlib.Core.List.{List, [], ◌∷◌, ◌++◌}
use Prim.Native.Nat.{ℕ}
use native.Mathlib.Omega.{arith}
use lib.IntN.{ℤ}
use Rattle.rules.specs.declared.LineEnds.TheVariants.{Strict}
use Rattle.rules.specs.declared.Rules.{Rules}
use Rattle.base.specs.Pieces
use Rattle.base.specs.Pieces.{done, bad}
use Rattle.base.proofs.Pieces.{both_done}
use Rattle.form.specs.declared.Form.{Form}
use Rattle.form.specs.Table.{form_of}
use Rattle.line.specs.Contents.{EndsInReturn, content_of}
use Rattle.line.specs.Lines.{lines, behind}
use Rattle.line.proofs.Ends.{strict_none, strict_content}
use Rattle.count.specs.Tally.{count_of}
use Rattle.reply.specs.declared.Refusal.TheVariants.{BadLine}
use Rattle.reading.specs.Blanks.{may_be_short}
use Rattle.reading.specs.Plan.{Line, plan_of}
use Rattle.reading.specs.Read.{read_content, read_line, read_lines_of, read_lines, read_group}
use Rattle.reading.proofs.ByLines.{plan_same, group_by_lines}
use Rattle.reading.proofs.GroupRead.{group_reads}

pub strict_bad_line : (σ : Rules) → σ.ends ≡ Strict → (f : Form) (short : Bool) (l : Line) (a : List ℕ) → (EndsInReturn a → ⊥)
    → read_line σ f short l (a ++ (10 ∷ [])) ≡ bad (BadLine l.number)
unfolding read_line
strict_bad_line σ only f short l a n = ap (read_content f short l (a ++ (10 ∷ []))) (strict_none σ only a n)

module _ (σ ρ : Rules) (only : σ.ends ≡ Strict) where
  strict_line_read : (f : Form) (short : Bool) (l : Line) (x : List ℕ) (c : List ℤ) → read_line σ f short l x ≡ done c → read_line ρ f short l x ≡ done c
  unfolding read_line
  strict_line_read f short l x c e = by (content_of σ x) refl e
    where
      by : (o : Option ℕ) → content_of σ x ≡ o → read_content f short l x o ≡ done c → read_content f short l x (content_of ρ x) ≡ done c
      by (Some n) u v = rw (strict_content σ ρ only x n u) v
      by None u v = let z : ◌≡◌ {A = ℕ} 0 1 = cc in absurd (omega arith)

  strict_lines_read : (f : Form) (short : Bool) (ls : List Line) (x : List ℕ) (c : List ℤ) → read_lines_of σ f short ls x ≡ done c → read_lines_of ρ f short ls x ≡ done c
  unfolding read_lines_of Pieces.gather
  strict_lines_read f short [] x c e = e
  strict_lines_read f short (l ∷ ls) x c e =
      let d = both_done (read_line σ f short l (lines 1 x)) (read_lines_of σ f short ls (behind 1 x)) c e in
      rw (strict_line_read f short l (lines 1 x) d.first d.first_is, strict_lines_read f short ls (behind 1 x) d.second d.second_is) (ap done (sym d.all))

  -- a group of a record with these counts
  pub strict_group_read : σ.counting ≡ ρ.counting → (ns : List ℕ) (g : ℕ) (x : List ℕ) (room : ℕ) (c : List ℤ) → read_group σ ns g x room ≡ done c → read_group ρ ns g x room ≡ done c
  unfolding read_lines
  strict_group_read alike ns g x room c e = group_by_lines ρ σ ns g x x (sym alike) same room ∙ e
    where
      same : (f : Form) → form_of g ≡ Some f → read_lines ρ f (may_be_short g) (count_of ns g) x ≡ read_lines σ f (may_be_short g) (count_of ns g) x
      same f u =
          let r = group_reads σ ns g x room c e in
          let w : Some r.form ≡ Some f = sym r.has ∙ u in
          let k : r.form ≡ f = cc in
          let v : read_lines σ f (may_be_short g) (count_of ns g) x ≡ done c = rw k at r.lines in
          ap (λ ls. read_lines_of ρ f (may_be_short g) ls x) (plan_same ρ σ (sym alike) f (count_of ns g))
          ∙ strict_lines_read f (may_be_short g) (plan_of σ f (count_of ns g)) x c v
          ∙ sym v
