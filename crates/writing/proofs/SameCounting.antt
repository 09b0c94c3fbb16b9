-- R12: under rules that count alike the canonical text is the same, with its length, and so is what writing answers and leaves.
-- Assumes nothing.
use Rattle.std.specs.Prelude.{Option, Some, None, Result, Ok, Err}
use mathlib.Core.Path.{◌≡◌, refl, ◌∙◌, ap, ap₂}
use mathlib.Core.Bool.{cond}
use mathlib.Core.List.{List, ◌++◌, map}
use Prim.Native.Nat.{ℕ, ◌+◌}
use lib.Dec.{leb}
use lib.IntN.{ℤ}
use lib.ListN.{length}
use Rattle.rules.specs.declared.Rules.{Rules}
use Rattle.base.specs.Every.{up_from}
use Rattle.base.specs.Part.{part, over}
use Rattle.base.specs.Pieces.{emit}
use Rattle.base.specs.Sign.{size_of}
use Rattle.base.specs.Sum.{sum}
use Rattle.base.proofs.Mapped.{map_same}
use Rattle.form.specs.Table.{form_of}
use Rattle.form.proofs.Segments.{elements_same}
use Rattle.count.specs.Tally.{count_of}
use Rattle.count.specs.Check.{checked_of}
use Rattle.count.proofs.SameCounting.{cells_same, cells_before_same, check_same}
use Rattle.date.specs.Date.{dated_of}
use Rattle.reply.specs.declared.Refusal.TheVariants.{NoRoom}
use Rattle.writing.specs.Fitting.{first_misfit, many_fit, elements_fit, group_fit_by, group_fit, fit_of}
use Rattle.writing.specs.Writing.{date_letters, write_dated, write_fit, write_checked, writing_of, output_by}
use Rattle.writing.specs.Text.{many_text, lines_text, group_text_by, group_text, index_text, groups_text, record_text, many_bytes, bytes_by, bytes_in, record_bytes}
use Rattle.reply.specs.declared.Refusal.{Refusal}
use Rattle.form.specs.declared.Form.{Form}
use Rattle.date.specs.declared.Date.{Date}

module _ (σ ρ : Rules) (alike : σ.counting ≡ ρ.counting) (ns : List ℕ) where
  group_text_same : (g : ℕ) (cs : List ℤ) → group_text σ ns g cs ≡ group_text ρ ns g cs
  unfolding group_text lines_text
  group_text_same g cs = by (form_of g)
    where
      by : (f : Option Form) → group_text_by σ f (count_of ns g) cs ≡ group_text_by ρ f (count_of ns g) cs
      by (Some f) = ap (λ n. many_text f n cs) (elements_same σ ρ alike f (count_of ns g))
      by None = refl

  pub record_text_same : (cs : List ℤ) → record_text σ ns cs ≡ record_text ρ ns cs
  unfolding record_text groups_text
  record_text_same cs = λ i. index_text ns ++ emit (λ g. cells_same σ ρ alike ns g i) (λ g c. group_text_same g c i) (up_from 1 60) cs

  group_bytes_same : (g : ℕ) → bytes_in σ ns g ≡ bytes_in ρ ns g
  unfolding bytes_in
  group_bytes_same g = by (form_of g)
    where
      by : (f : Option Form) → bytes_by σ f (count_of ns g) ≡ bytes_by ρ f (count_of ns g)
      by (Some f) = ap (many_bytes f) (elements_same σ ρ alike f (count_of ns g))
      by None = refl

  pub record_bytes_same : record_bytes σ ns ≡ record_bytes ρ ns
  unfolding record_bytes
  record_bytes_same = ap (λ b. 244 + sum b) (map_same (bytes_in σ ns) (bytes_in ρ ns) group_bytes_same (up_from 1 60))

  -- ---- what writing answers

  group_fit_same : (g : ℕ) (cs : List ℤ) → group_fit σ ns g cs ≡ group_fit ρ ns g cs
  unfolding elements_fit
  group_fit_same g cs = by (form_of g)
    where
      by : (f : Option Form) → group_fit_by σ f g (count_of ns g) cs ≡ group_fit_by ρ f g (count_of ns g) cs
      by (Some f) = ap (λ n. many_fit f g n cs) (elements_same σ ρ alike f (count_of ns g))
      by None = refl

  fit_same : (cs : List ℤ) → fit_of σ ns cs ≡ fit_of ρ ns cs
  unfolding fit_of
  fit_same cs = λ i. first_misfit (λ g. cells_same σ ρ alike ns g i) (λ g c. group_fit_same g c i) (up_from 1 60) cs

  pub date_letters_same : (cs : List ℤ) → date_letters σ ns cs ≡ date_letters ρ ns cs
  date_letters_same cs = ap₂ (λ a b. map size_of (part a b cs)) (cells_before_same σ ρ alike ns 3) (cells_before_same σ ρ alike ns 4)

  pub writing_same : (cs : List ℤ) (room : ℕ) → writing_of σ ns cs room ≡ writing_of ρ ns cs room
  unfolding writing_of
  writing_same cs room = ap (write_checked σ ns cs room) (check_same σ ρ alike ns (length cs)) ∙ checked (checked_of ρ ns (length cs))
    where
      dated : (d : Result Date ℕ) → write_dated σ ns room d ≡ write_dated ρ ns room d
      dated (Ok d) = ap (λ n. cond (leb n room) (Ok n) (Err NoRoom)) record_bytes_same
      dated (Err p) = refl

      fitted : (f : Result (Unit {0}) Refusal) → write_fit σ ns cs room f ≡ write_fit ρ ns cs room f
      fitted (Ok all) = ap (λ l. write_dated σ ns room (dated_of l)) (date_letters_same cs) ∙ dated (dated_of (date_letters ρ ns cs))
      fitted (Err r) = refl

      checked : (c : Result (Unit {0}) Refusal) → write_checked σ ns cs room c ≡ write_checked ρ ns cs room c
      checked (Ok done) = ap (write_fit σ ns cs room) (fit_same cs) ∙ fitted (fit_of ρ ns cs)
      checked (Err r) = refl

  pub output_same : (cs : List ℤ) (a : Result ℕ Refusal) (old : List ℕ) → output_by σ ns cs a old ≡ output_by ρ ns cs a old
  output_same cs (Ok n) old = ap (λ t. over 0 t old) (record_text_same cs)
  output_same cs (Err r) old = refl
