-- R269: under counts and a group's number, what its lines read as decides what the group reads as, whatever the bytes, and whatever the rules
-- that count alike.
-- Assumes nothing.
use Rattle.std.specs.Prelude.{Option, Some, None}
use mathlib.Core.Path.{◌≡◌, refl, ap}
use mathlib.Core.List.{List}
use Prim.Native.Nat.{ℕ}
use Rattle.rules.specs.declared.Rules.{Rules}
use Rattle.form.specs.declared.Form.{Form}
use Rattle.form.specs.Table.{form_of}
use Rattle.form.proofs.Segments.{elements_same, cells_same}
use Rattle.count.specs.Tally.{count_of}
use Rattle.count.specs.Rules.{ruling_of}
use Rattle.reading.specs.Blanks.{may_be_short}
use Rattle.reading.specs.Plan.{many_plan, plan_of}
use Rattle.reading.specs.Read.{read_lines, read_form, read_ruled, read_by, read_group}

-- rules that count alike plan alike
pub plan_same : (σ ρ : Rules) → σ.counting ≡ ρ.counting → (f : Form) (n : ℕ) → plan_of σ f n ≡ plan_of ρ f n
unfolding plan_of
plan_same σ ρ alike f n = ap (many_plan f) (elements_same σ ρ alike f n)

-- x under ρ and y under σ
module _ (ρ σ : Rules) (ns : List ℕ) (g : ℕ) (x y : List ℕ) where
  abbrev pub LinesReadSame : Type 0
  LinesReadSame = (f : Form) → form_of g ≡ Some f → read_lines ρ f (may_be_short g) (count_of ns g) x ≡ read_lines σ f (may_be_short g) (count_of ns g) y

  pub group_by_lines : ρ.counting ≡ σ.counting → LinesReadSame → (room : ℕ) → read_group ρ ns g x room ≡ read_group σ ns g y room
  unfolding read_group read_form
  group_by_lines alike e room = by (form_of g) refl
    where
      ruled : (f : Form) (r : Option ℕ) → form_of g ≡ Some f → read_ruled ρ f ns g x room r ≡ read_ruled σ f ns g y room r
      ruled f None u = rw (e f u, cells_same ρ σ alike f (count_of ns g))
      ruled f (Some h) u = refl

      by : (h : Option Form) → form_of g ≡ h → read_by ρ ns g x room h ≡ read_by σ ns g y room h
      by (Some f) u = ruled f (ruling_of ns) u
      by None u = refl
