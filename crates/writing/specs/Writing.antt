-- R300: asked with counts, the cells of all groups and an output. What writing answers, by R301 in the order 4, 5, 6, 7, 14, 13, 10, 11, and
-- what the output is afterwards.
use Rattle.std.specs.Prelude.{cond, List, map, ℕ, leb, ℤ, length, Result, Ok, Err}
use Rattle.rules.specs.declared.Rules.{Rules}
use Rattle.base.specs.Part.{part, over}
use Rattle.base.specs.Sign.{size_of}
use Rattle.count.specs.Check.{checked_of}
use Rattle.count.specs.Tally.{cells_before}
use Rattle.date.specs.Date.{dated_of}
use Rattle.reply.specs.declared.Refusal.TheVariants.{BadDate, NoRoom}
use Rattle.writing.specs.Fitting.{fit_of}
use Rattle.writing.specs.Text.{record_text, record_bytes}
use Rattle.reply.specs.declared.Refusal.{Refusal}
use Rattle.date.specs.declared.Date.{Date}

module _ (ρ : Rules) where
  -- R304: the letters of group 3
  abbrev pub date_letters : List ℕ → List ℤ → List ℕ
  date_letters ns cs = map size_of (part (cells_before ρ ns 3) (cells_before ρ ns 4) cs)

  -- R305: 11, if the output has no room for the canonical text
  abbrev pub write_room : List ℕ → ℕ → Result ℕ Refusal
  write_room ns room = cond (leb (record_bytes ρ ns) room) (Ok (record_bytes ρ ns)) (Err NoRoom)

  -- R304: 10, if group 3 tells no date
  abbrev pub write_dated : List ℕ → ℕ → Result Date ℕ → Result ℕ Refusal
  write_dated ns room (Ok d) = write_room ns room
  write_dated ns room (Err p) = Err (BadDate p)

  -- R303: 13, if an element's cells are those of no field
  abbrev pub write_fit : List ℕ → List ℤ → ℕ → Result (Unit {0}) Refusal → Result ℕ Refusal
  write_fit ns cs room (Ok all) = write_dated ns room (dated_of (date_letters ns cs))
  write_fit ns cs room (Err r) = Err r

  -- R302: 4, 5, 6, 7 or 14, by count's check
  abbrev pub write_checked : List ℕ → List ℤ → ℕ → Result (Unit {0}) Refusal → Result ℕ Refusal
  write_checked ns cs room (Ok done) = write_fit ns cs room (fit_of ρ ns cs)
  write_checked ns cs room (Err r) = Err r

  -- counts and cells written into so many bytes
  unfoldable pub writing_of : List ℕ → List ℤ → ℕ → Result ℕ Refusal
  writing_of ns cs room = write_checked ns cs room (checked_of ρ ns (length cs))

  -- R306: under 0 the text stands in the output from its first byte on, and bytes behind it stay; R307: a refusal leaves the whole output
  abbrev pub output_by : List ℕ → List ℤ → Result ℕ Refusal → List ℕ → List ℕ
  output_by ns cs (Ok n) old = over 0 (record_text ρ ns cs) old
  output_by ns cs (Err r) old = old
