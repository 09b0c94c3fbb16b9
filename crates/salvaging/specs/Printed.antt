-- R356, R357: the program `salvage` prints piece by piece, from the text's start: a record as it stands on standard output, the line of a stretch
-- on standard error. R341: it takes 65,536 bytes; of a longer input nothing is printed on either.
use Rattle.std.specs.Prelude.{◌≡◌, cond, List, [], ◌∷◌, ◌++◌, ℕ, ◌<◌, ◌≤◌, leb, length}
use Rattle.rules.specs.declared.Rules.{Rules}
use Rattle.salvaging.specs.declared.Piece.{Piece}
use Rattle.salvaging.specs.Pieces.{piece_end, piece_at, pieces}

module _ (ρ : Rules) (s : List ℕ) where
  unfoldable pub printed_pieces : List Piece
  printed_pieces = cond (leb (length s) 65536) (pieces ρ s) []

  -- a place behind pieces from the text's start on, and these pieces
  pub data BehindPieces : ℕ → List Piece → Type 0 where
    start : BehindPieces 0 []
    one_more : (at : ℕ) (before : List Piece) → at < length s → BehindPieces at before → BehindPieces (piece_end (piece_at ρ s at)) (before ++ (piece_at ρ s at ∷ []))

  -- where a program may stop: these pieces are all that is to be printed, and where there is anything to print the whole text has been passed
  pub record AllPassed (at : ℕ) : Type 0 where
    pub before : List Piece
    pub reached : BehindPieces at before
    pub all : before ≡ printed_pieces
    pub passed : length s ≤ 65536 → at ≡ length s
