-- What it says that writing answers 0, as one record of facts, both ways: what is due (proofs/Due), with the fields as the definition has them.
-- Assumes nothing.
use Rattle.std.specs.Prelude.{Ok}
use mathlib.Core.Path.{◌≡◌}
use mathlib.Core.List.{List}
use Prim.Native.Nat.{ℕ, ◌≤◌}
use lib.IntN.{ℤ}
use lib.ListN.{length}
use Rattle.rules.specs.declared.Rules.{Rules}
use Rattle.count.specs.Due.{HasCells}
use Rattle.date.specs.Date.{dated_of}
use Rattle.date.proofs.Due as Letters
use Rattle.date.specs.declared.Date.{Date}
use Rattle.writing.specs.Fitting.{fit_of}
use Rattle.writing.specs.Text.{record_bytes}
use Rattle.writing.specs.Writing.{date_letters, writing_of}
use Rattle.writing.proofs.Due.{first_due, fits_fields, fields_fit}

pub record IsDone (ρ : Rules) (ns : List ℕ) (cs : List ℤ) (room n : ℕ) : Type 0 where
  pub checked : HasCells ρ ns (length cs)
  pub fit : fit_of ρ ns cs ≡ Ok tt
  pub date : Date
  pub right : dated_of (date_letters ρ ns cs) ≡ Ok date
  pub enough : record_bytes ρ ns ≤ room
  pub bytes : n ≡ record_bytes ρ ns

module _ (ρ : Rules) (ns : List ℕ) (cs : List ℤ) (room n : ℕ) where
  pub is_done : IsDone ρ ns cs room n → writing_of ρ ns cs room ≡ Ok n
  is_done d =
      (first_due ρ ns cs room (Ok n)).1 record {
        date = record { fields = fits_fields ρ ns cs d.checked d.fit; date = d.date; right = (Letters.first_due (date_letters ρ ns cs) (Ok d.date)).0 d.right };
        enough = d.enough;
        bytes = d.bytes;
      }

  pub done_is : writing_of ρ ns cs room ≡ Ok n → IsDone ρ ns cs room n
  done_is e =
      let d = (first_due ρ ns cs room (Ok n)).0 e in
      record {
        checked = d.date.fields.table;
        fit = fields_fit ρ ns cs d.date.fields;
        date = d.date.date;
        right = (Letters.first_due (date_letters ρ ns cs) (Ok d.date.date)).1 d.date.right;
        enough = d.enough;
        bytes = d.bytes;
      }
