-- A line of a group: where it ends, and what its content makes of it.
-- Assumes nothing.
use Rattle.std.specs.Prelude.{Option, Some, None}
use Rattle.std.specs.Bool.{then_some}
use mathlib.Core.Path.{◌≡◌, refl}
use mathlib.Core.Bool.{Bool, true, false, cond}
use mathlib.Core.List.{List}
use Prim.Native.Nat.{ℕ}
use native.Mathlib.Omega.{arith}
use Rattle.rules.specs.declared.Rules.{Rules}
use Rattle.base.specs.Part.{part}
use Rattle.base.specs.Pieces.{bad}
use Rattle.form.specs.declared.Form.{Form}
use Rattle.line.specs.Contents.{content_of}
use Rattle.reading.specs.Blanks.{is_right, filled_to, if_right, right_content}
use Rattle.reading.specs.Plan.{Line}
use Rattle.reply.specs.declared.Refusal.TheVariants.{BadLine}
use Rattle.reading.specs.Read.{read_fields, read_content, read_line, columns_of}

-- ---- the content, if it is right

module _ (ρ : Rules) (short : Bool) (columns : ℕ) (x : List ℕ) where
  pub right_none : content_of ρ x ≡ None → right_content ρ short columns x ≡ None
  unfolding right_content
  right_none e = rw e

  -- what is made of a content
  pub right_some : (n : ℕ) → content_of ρ x ≡ Some n → right_content ρ short columns x ≡ then_some (is_right short columns (part 0 n x)) n
  unfolding right_content
  right_some n e = rw e (by (is_right short columns (part 0 n x)))
    where
      by : (t : Bool) → cond t (Some n) None ≡ then_some t n
      by true = refl
      by false = refl

  pub right_not : (n : ℕ) → content_of ρ x ≡ Some n → is_right short columns (part 0 n x) ≡ false → right_content ρ short columns x ≡ None
  unfolding right_content
  right_not n e r = rw (e, r)

  pub right_yes : (n : ℕ) → content_of ρ x ≡ Some n → is_right short columns (part 0 n x) ≡ true → right_content ρ short columns x ≡ Some n
  unfolding right_content
  right_yes n e r = rw (e, r)

  -- what it says
  pub record IsRightLine (n : ℕ) : Type 0 where
    pub content : content_of ρ x ≡ Some n
    pub right : is_right short columns (part 0 n x) ≡ true

  pub right_is : (n : ℕ) → right_content ρ short columns x ≡ Some n → IsRightLine n
  unfolding right_content
  right_is n e = by (content_of ρ x) refl e
    where
      test : (m : ℕ) (t : Bool) → content_of ρ x ≡ Some m → is_right short columns (part 0 m x) ≡ t → cond t (Some m) None ≡ Some n → IsRightLine n
      test m true u v w =
          let p : m ≡ n = cc in
          record { content = rw p at u; right = rw p at v }
      test m false u v w = let z : ◌≡◌ {A = ℕ} 0 1 = cc in absurd (omega arith)

      by : (c : Option ℕ) → content_of ρ x ≡ c → if_right short columns x c ≡ Some n → IsRightLine n
      by (Some m) u w = test m (is_right short columns (part 0 m x)) u refl w
      by None u w = let z : ◌≡◌ {A = ℕ} 0 1 = cc in absurd (omega arith)

-- ---- a line reads as its fields where it is right, and is blamed where it is not

module _ (ρ : Rules) (f : Form) (short : Bool) (l : Line) (x : List ℕ) where
  pub line_right : (n : ℕ) → right_content ρ short (columns_of f l) x ≡ Some n → read_line ρ f short l x ≡ read_fields f l (filled_to (columns_of f l) (part 0 n x))
  unfolding read_line
  line_right n e =
      let r = right_is ρ short (columns_of f l) x n e in
      rw (r.content, r.right)

  pub line_wrong : right_content ρ short (columns_of f l) x ≡ None → read_line ρ f short l x ≡ bad (BadLine l.number)
  unfolding read_line right_content
  line_wrong e = by (content_of ρ x) e
    where
      test : (m : ℕ) (t : Bool) → cond t (Some m) None ≡ None → cond t (read_fields f l (filled_to (columns_of f l) (part 0 m x))) (bad (BadLine l.number)) ≡ bad (BadLine l.number)
      test m true w = let z : ◌≡◌ {A = ℕ} 0 1 = cc in absurd (omega arith)
      test m false w = refl

      by : (c : Option ℕ) → if_right short (columns_of f l) x c ≡ None → read_content f short l x c ≡ bad (BadLine l.number)
      by (Some m) w = test m (is_right short (columns_of f l) (part 0 m x)) w
      by None w = refl
