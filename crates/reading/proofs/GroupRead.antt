-- What it says that a group reads with 0, as one record of facts, both ways: what is due (proofs/Due), with the lines as the definition has them.
-- Assumes nothing.
use Rattle.std.specs.Prelude.{Some, None, Ok}
use mathlib.Core.Path.{◌≡◌, ◌∙◌, sym}
use mathlib.Core.List.{List, map}
use Prim.Native.Nat.{ℕ, ◌≤◌}
use lib.IntN.{ℤ}
use lib.ListN.{length}
use Rattle.rules.specs.declared.Rules.{Rules}
use Rattle.base.specs.Pieces.{done}
use Rattle.base.specs.Sign.{size_of}
use Rattle.form.specs.declared.Form.{Form}
use Rattle.form.specs.Table.{form_of}
use Rattle.form.specs.Count.{cells_of}
use Rattle.count.specs.Tally.{count_of, cells_in}
use Rattle.count.specs.Rules.{ruling_of}
use Rattle.count.proofs.Rulings.{ruling_kept}
use Rattle.count.proofs.Tallied.{cells_has}
use Rattle.date.specs.Date.{dated_of}
use Rattle.date.proofs.Due as Letters
use Rattle.date.specs.declared.Date.{Date}
use Rattle.reading.specs.Blanks.{may_be_short}
use Rattle.reading.specs.Read.{read_lines, read_group}
use Rattle.reading.proofs.Due.{lines_read, lines_clean, first_due}
use Rattle.reading.proofs.Sizes.{group_size}
use Rattle.reading.proofs.Values.{read_values}

-- letters tell a date
pub record TellsDate (letters : List ℕ) : Type 0 where
  pub date : Date
  pub right : dated_of letters ≡ Ok date

-- the lines y of group g read as the cells c
pub record GroupReads (ρ : Rules) (ns : List ℕ) (g : ℕ) (y : List ℕ) (room : ℕ) (c : List ℤ) : Type 0 where
  pub form : Form
  pub has : form_of g ≡ Some form
  pub enough : cells_of ρ form (count_of ns g) ≤ room
  pub lines : read_lines ρ form (may_be_short g) (count_of ns g) y ≡ done c
  pub date : g ≡ 3 → TellsDate (map size_of c)

module _ (ρ : Rules) (ns : List ℕ) (g : ℕ) (y : List ℕ) (room : ℕ) (c : List ℤ) where
  pub reads_group : ruling_of ns ≡ None → GroupReads ρ ns g y room c → read_group ρ ns g y room ≡ done c
  reads_group kept r =
      let f = r.form in
      let n = count_of ns g in
      (first_due ρ ns g y room (done c)).1 record {
        cells = record {
          f = f;
          roomy = record { ruled = record { form = r.has; kept = ruling_kept ns kept }; enough = r.enough };
          clean = lines_clean ρ f g n y c r.lines;
          values = read_values ρ f g n y c r.lines;
        };
        date = λ three. let d = r.date three in (d.date, (Letters.first_due (map size_of c) (Ok d.date)).0 d.right);
      }

  pub group_reads : read_group ρ ns g y room ≡ done c → GroupReads ρ ns g y room c
  group_reads e =
      let d = (first_due ρ ns g y room (done c)).0 e in
      let h = d.cells in
      record {
        form = h.f;
        has = h.roomy.ruled.form;
        enough = h.roomy.enough;
        lines = lines_read ρ h.f g (count_of ns g) y c h.clean h.values;
        date = λ three. let t = d.date three in record { date = t.0; right = (Letters.first_due (map size_of c) (Ok t.0)).1 t.1 };
      }

-- so it has as many cells as its count says
pub reads_cells : (ρ : Rules) {ns : List ℕ} {g : ℕ} {y : List ℕ} {room : ℕ} {c : List ℤ} → GroupReads ρ ns g y room c → length c ≡ cells_in ρ ns g
reads_cells ρ {ns} {g} {y} {room} {c} r = group_size ρ r.form (may_be_short g) (count_of ns g) y c r.lines ∙ sym (cells_has ρ ns g r.form r.has)

pub read_size : (ρ : Rules) (ns : List ℕ) (g : ℕ) (y : List ℕ) (room : ℕ) (c : List ℤ) → read_group ρ ns g y room ≡ done c → length c ≡ cells_in ρ ns g
read_size ρ ns g y room c e = reads_cells ρ (group_reads ρ ns g y room c e)
