-- `reading::check_date` meets its contract: the date of clean lines decides.
-- Assumes nothing.
use mathlib.Core.Path.{sym, ◌∙◌}
use mathlib.Core.Bool.{false}
use Rattle.form.specs.declared.Form.TheVariants.{A1}
use Rattle.reading.specs.Read.{Cells, read_lines}
use Rattle.reading.proofs.Dates.{date_verdict_lem}
use Rattle.reading.proofs.check_date.Goals as goal
