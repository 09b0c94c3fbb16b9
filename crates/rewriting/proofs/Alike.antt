-- R9: rewriting in texts whose lines have the same contents: the same canonical text, whatever line ends were read, and the same answer but for
-- the next place. So the program prints the same for whole texts that are alike.
-- Assumes nothing.
use mathlib.Core.Path.{◌≡◌, refl, ◌∙◌, ap₂}
use mathlib.Core.Bool.{Bool, true, false, cond}
use mathlib.Core.List.{List, ◌++◌}
use Prim.Native.Nat.{ℕ, zero, suc, ◌+◌, ◌≤◌}
use native.Mathlib.Omega.{arith}
use borrow.Author.Tests.{le-leb}
use lib.Dec.{leb}
use lib.ListN.{length}
use Rattle.rules.specs.declared.Rules.{Rules}
use Rattle.base.specs.Pieces.{done, bad}
use Rattle.line.specs.Alike.{Alike, AlikeFrom}
use Rattle.line.proofs.Alike.{alike_start}
use Rattle.place.specs.declared.Placing.{Placing}
use Rattle.place.specs.Alike.{SamePlacing, both_placed, both_broken, both_refused}
use Rattle.place.specs.Numbered.{as_checked, placing_reply}
use Rattle.place.specs.Placing.{placing_of, counts_at}
use Rattle.place.proofs.Alike.{alike_placing, alike_counts}
use Rattle.reply.specs.declared.Refusal.TheVariants.{NoRoom, BrokenRule}
use Rattle.whole.specs.Turn.{Turn}
use Rattle.whole.specs.Whole.{unless_refused, whole_read, unread}
use Rattle.whole.proofs.Alike.{alike_basis, alike_whole}
use Rattle.writing.specs.Text.{record_bytes}
use Rattle.rewriting.specs.Alike as Rewritten
use Rattle.rewriting.specs.Alike.{SameRewriting, both_rewritten}
use Rattle.rewriting.specs.Printed.{program_rewriting, text_then, rewritten_from, rewritten, printed}
use Rattle.rewriting.specs.Record.{with_output, rewritten_as, rewriting_of, text_at}
use Rattle.rewriting.proofs.Printing.{rewritten_enough}
use Rattle.rewriting.proofs.Rests.{same_text}
use Rattle.std.specs.Prelude.{Result, Err}
use Rattle.rewriting.specs.declared.Rewritten.{Rewritten}
use Rattle.whole.specs.declared.Unread.{Unread}

module _ (ρ : Rules) (s : List ℕ) (p : ℕ) (t : List ℕ) (q : ℕ) (h : AlikeFrom ρ s p t q) where
  same_counts : counts_at ρ s p ≡ counts_at ρ t q
  same_counts = alike_counts ρ s p t q h

  -- the canonical text
  pub alike_text : text_at ρ s p ≡ text_at ρ t q
  alike_text = same_text ρ s p t q (alike_basis ρ s p t q h)

  module _ (cells room : ℕ) where
    turned : (ns : List ℕ) (n m : ℕ) (c : Bool) (u : Turn) → AlikeFrom ρ s n t m
        → SameRewriting ρ s t (cond c (rewritten_as ρ ns n u) (Err (unread (0, NoRoom)))) (cond c (rewritten_as ρ ns m u) (Err (unread (0, NoRoom))))
    turned ns n m true (done cs) f = both_rewritten (record_bytes ρ ns) n m f
    turned ns n m true (bad u) f = Rewritten.both_refused u.0 u.1
    turned ns n m false u f = Rewritten.both_refused 0 NoRoom

    abbrev placed_so : List ℕ → ℕ → Placing → Result Rewritten Unread
    placed_so x at a = unless_refused (λ why. Err (unread (0, why))) (as_checked a) (with_output ρ (counts_at ρ x at) room (rewritten_as ρ (counts_at ρ x at) (placing_reply a).next (whole_read ρ x at cells)))

    pub alike_rewriting : SameRewriting ρ s t (rewriting_of ρ s p cells room) (rewriting_of ρ t q cells room)
    unfolding rewriting_of
    alike_rewriting = by (placing_of ρ s p) (placing_of ρ t q) (alike_placing ρ s p t q h)
      where
        by : (a b : Placing) → SamePlacing ρ s t a b → SameRewriting ρ s t (placed_so s p a) (placed_so t q b)
        by a b (both_placed n m f) =
            rw (same_counts, alike_whole ρ s p t q h cells) (turned (counts_at ρ t q) n m (leb (record_bytes ρ (counts_at ρ t q)) room) (whole_read ρ t q cells) f)
        by a b (both_broken g n m f) = Rewritten.both_refused 0 (BrokenRule g)
        by a b (both_refused r) = Rewritten.both_refused 0 r

-- ---- what the program prints

module _ (ρ : Rules) (s t : List ℕ) where
  alike_from : (k p q : ℕ) → AlikeFrom ρ s p t q → rewritten_from ρ k s p ≡ rewritten_from ρ k t q
  unfolding rewritten_from
  alike_from zero p q h = refl
  alike_from (suc k) p q h =
      by (alike_from k) (program_rewriting ρ s p) (program_rewriting ρ t q) (alike_rewriting ρ s p t q h 8192 8192)
    where
      by : ((n m : ℕ) → AlikeFrom ρ s n t m → rewritten_from ρ k s n ≡ rewritten_from ρ k t m) → (a b : Result Rewritten Unread) → SameRewriting ρ s t a b
          → text_then (text_at ρ s p) (rewritten_from ρ k s) a ≡ text_then (text_at ρ t q) (rewritten_from ρ k t) b
      by more a b (both_rewritten bytes n m f) = ap₂ ◌++◌ (alike_text ρ s p t q h) (more n m f)
      by more a b (Rewritten.both_refused g r) = refl

  pub alike_rewritten : Alike ρ s t → rewritten ρ s ≡ rewritten ρ t
  unfolding rewritten
  alike_rewritten r =
      let k = length s + length t in
      rewritten_enough ρ s (length s) k 0 (omega arith) (omega arith)
      ∙ alike_from k 0 0 (alike_start ρ s t r)
      ∙ rewritten_enough ρ t k (length t) 0 (omega arith) (omega arith)

  -- R341: where both are short enough
  pub alike_printed : Alike ρ s t → length s ≤ 65536 → length t ≤ 65536 → printed ρ s ≡ printed ρ t
  unfolding printed
  alike_printed r k l = rw (le-leb (length s) 65536 k, le-leb (length t) 65536 l) (alike_rewritten r)
