-- What rewriting rests on: what two texts have in common (`SameBasis` in whole) decides the cells and the canonical text, and with the placing the
-- answer.
-- Assumes nothing.
use mathlib.Core.Path.{◌≡◌, refl, ap, ap₂, fun_ext}
use mathlib.Core.List.{List}
use Prim.Native.Nat.{ℕ}
use lib.IntN.{ℤ}
use Rattle.rules.specs.declared.Rules.{Rules}
use Rattle.base.specs.Part.{over}
use Rattle.base.specs.Pieces.{cells_got}
use Rattle.place.specs.Numbered.{as_checked}
use Rattle.place.specs.Placing.{placing_of}
use Rattle.whole.specs.Turn.{cells_at}
use Rattle.whole.proofs.Rests.{SameBasis, same_turn, same_whole}
use Rattle.writing.specs.Text.{record_text}
use Rattle.rewriting.specs.Record.{rewriting_of, text_at, buffer_by, table_after}
use Rattle.std.specs.Prelude.{Result, Ok, Err}
use Rattle.rewriting.specs.declared.Rewritten.{Rewritten}
use Rattle.whole.specs.declared.Unread.{Unread}

module _ (ρ : Rules) (s : List ℕ) (p : ℕ) (t : List ℕ) (q : ℕ) (h : SameBasis ρ s p t q) where
  same_cells : cells_at ρ s p ≡ cells_at ρ t q
  same_cells = ap cells_got (same_turn ρ s p t q h)

  pub same_text : text_at ρ s p ≡ text_at ρ t q
  same_text = ap₂ (record_text ρ) h.counts same_cells

  pub same_output : (a : Result Rewritten Unread) (old : List ℕ) → buffer_by ρ s p a old ≡ buffer_by ρ t q a old
  same_output (Ok w) old = ap (λ x. over 0 x old) same_text
  same_output (Err u) old = refl

  pub same_table : (a : Result Rewritten Unread) (old : List ℤ) → table_after ρ s p a old ≡ table_after ρ t q a old
  same_table (Ok w) old = ap (λ cs. over 0 cs old) same_cells
  same_table (Err u) old = refl

  -- over every table and output
  pub same_rewriting : placing_of ρ s p ≡ placing_of ρ t q → rewriting_of ρ s p ≡ rewriting_of ρ t q
  unfolding rewriting_of
  same_rewriting placing = fun_ext (λ cells. fun_ext (λ room. rw (placing, h.counts, same_whole ρ s p t q h (ap as_checked placing) cells) refl))
