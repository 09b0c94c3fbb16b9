-- R13: what the count rule promises. It says how many elements a count of group 40 has; lines, cells and all answers follow from these.
use Rattle.std.specs.Prelude.{◌≡◌, List, ℕ, suc, ◌+◌, ◌*◌, ◌<◌, Some}
use Rattle.rules.specs.declared.Rules.{Rules}
use Rattle.rules.specs.declared.Counting.TheVariants.{Elements, Entries}
use Rattle.rules.specs.Choice.{usual}
use Rattle.form.specs.declared.Form.{Form}
use Rattle.form.specs.declared.Form.TheVariants.{E20}
use Rattle.form.specs.Table.{form_of}
use Rattle.form.specs.Count.{elements_of, lines_of, cells_of}
use Rattle.count.specs.Tally.{count_of, lines_in, cells_in}
use Rattle.reading.specs.Values.{planned}

module _ (ρ : Rules) where
  -- a count of this form stands for so many elements, lines and cells
  pub record StandsFor (f : Form) (count elements lines cells : ℕ) : Type 0 where
    pub elements_are : elements_of ρ f count ≡ elements
    pub lines_are : lines_of ρ f count ≡ lines
    pub cells_are : cells_of ρ f count ≡ cells

  -- R13: under entries, in group 40's form: n above 0, so n is k + 1, has n lines and 6(n - 1) + 1 elements of two cells each
  pub record CountsEntries : Type 0 where
    pub some : (k : ℕ) → StandsFor E20 (suc k) (6 * k + 1) (suc k) ((6 * k + 1) * 2)
    -- the last line has one element, and each line before it, which has j before it, six
    pub last_line : (k : ℕ) → (planned ρ E20 (suc k) k).many ≡ 1
    pub full_line : (k j : ℕ) → j < k → (planned ρ E20 (suc k) j).many ≡ 6
    -- none has no lines
    pub none : StandsFor E20 0 0 0 0
    -- so these are the lines and cells of group 40 in a record, of which its lines (R28), its cells (R47) and reply 14 (R214) are made
    pub record_lines : (ns : List ℕ) (k : ℕ) → count_of ns 40 ≡ suc k → lines_in ρ ns 40 ≡ suc k
    pub record_cells_lem : (ns : List ℕ) (k : ℕ) → count_of ns 40 ≡ suc k → cells_in ρ ns 40 ≡ (6 * k + 1) * 2

  pub record CountRule : Type 0 where
    pub entries : ρ.counting ≡ Entries → CountsEntries
    -- R42: under elements every count is the number of elements, and so is that of every other group than 40 under either
    pub elements : ρ.counting ≡ Elements → (f : Form) (n : ℕ) → elements_of ρ f n ≡ n
    pub others : (g : ℕ) (f : Form) → form_of g ≡ Some f → (g ≡ 40 → ⊥) → (n : ℕ) → elements_of ρ f n ≡ n
    -- so each of these has the lines and cells in a record that it has under the usual rules
    pub other_lines : (ns : List ℕ) (g : ℕ) → (g ≡ 40 → ⊥) → lines_in ρ ns g ≡ lines_in usual ns g
    pub other_cells : (ns : List ℕ) (g : ℕ) → (g ≡ 40 → ⊥) → cells_in ρ ns g ≡ cells_in usual ns g
    -- R40: and group 40 has that form
    pub forty : form_of 40 ≡ Some E20
