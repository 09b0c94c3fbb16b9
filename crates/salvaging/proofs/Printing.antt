-- What the program prints, piece by piece: those that it has printed, and those from a place on, are the whole. The line of a stretch has room.
-- Assumes nothing.
use mathlib.Core.Path.{◌≡◌, refl, sym, ◌∙◌, ap}
use mathlib.Core.List.{List, [], ◌∷◌, ◌++◌, append_assoc, append-nil}
use Prim.Native.Nat.{ℕ, ◌^◌, ◌<◌, ◌≤◌}
use native.Mathlib.Omega.{arith}
use borrow.Author.Tests.{le-leb, lt-leb}
use lib.Dec.{lit<}
use lib.ListN.{length}
use Rattle.rules.specs.declared.Rules.{Rules}
use Rattle.decimal.specs.Rows
use Rattle.decimal.specs.Rows.{row_text}
use Rattle.decimal.proofs.Lengths.{length_u64}
use Rattle.decimal.proofs.Rows.{row_size_lem}
use Rattle.salvaging.specs.declared.Piece.{Piece}
use Rattle.salvaging.specs.Pieces.{piece_end, piece_at, pieces_from, pieces}
use Rattle.salvaging.specs.Printed.{printed_pieces, BehindPieces, start, one_more, AllPassed}
use Rattle.salvaging.proofs.Pieces.{piece_end_lem, pieces_end, pieces_more}

pub record Printing (ρ : Rules) (s : List ℕ) (at : ℕ) : Type 0 where
  pub before : List Piece
  pub reached : BehindPieces ρ s at before
  pub inside : at ≤ length s
  pub whole : before ++ pieces_from ρ s at ≡ pieces ρ s

module _ (ρ : Rules) (s : List ℕ) where
  pub printing_first : Printing ρ s 0
  printing_first = record { before = []; reached = start; inside = omega arith; whole = refl }

  -- R341: of more than 65,536 bytes nothing is printed
  pub printing_none : 65536 < length s → AllPassed ρ s 0
  unfolding printed_pieces
  printing_none l = record { before = []; reached = start; all = rw (lt-leb (length s) 65536 l) refl; passed = λ few. absurd (omega arith) }

  module _ {at : ℕ} (p : Printing ρ s at) where
    pub printing_ended : length s ≤ 65536 → length s ≤ at → AllPassed ρ s at
    unfolding printed_pieces
    printing_ended few l = record {
      before = p.before;
      reached = p.reached;
      all = rw (le-leb (length s) 65536 few) (sym (append-nil p.before) ∙ ap (λ ps. p.before ++ ps) (sym (pieces_end ρ s at l)) ∙ p.whole);
      passed = λ few. omega (arith, p.inside);
    }

    module _ (l : at < length s) {piece : Piece} (e : piece ≡ piece_at ρ s at) {end : ℕ} (f : end ≡ piece_end piece) where
      -- the piece ends further on, in the text
      pub printing_range : (at < end) × (end ≤ length s)
      printing_range = let r = piece_end_lem ρ s at l in rw (f, e) r

      pub printing_more : Printing ρ s end
      printing_more =
          let here = piece_at ρ s at in
          rw (f, e) record {
            before = p.before ++ (here ∷ []);
            reached = one_more at p.before l p.reached;
            inside = (piece_end_lem ρ s at l).1;
            whole = append_assoc p.before (here ∷ []) (pieces_from ρ s (piece_end here)) ∙ ap (λ ps. p.before ++ ps) (sym (pieces_more ρ s at l)) ∙ p.whole;
          }

-- R357: two numbers of a machine word have a line of 42 bytes at most
pub stretch_room : (place long : ℕ) → place < 2 ^ 64 → long < 2 ^ 64 → length (row_text (place ∷ long ∷ [])) ≤ 42
unfolding Rows.row_size
stretch_room place long a b = rw (row_size_lem (place ∷ long ∷ []) (lit< tt)) (omega (arith, length_u64 place a, length_u64 long b))
