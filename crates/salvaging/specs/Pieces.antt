-- R353: what is copied of a text and what is left out, in pieces from its start to its end. Each piece has its place and its length.
use Rattle.std.specs.Prelude.{◌≡◌, Bool, true, false, cond, ◌⊎◌, ℕ, zero, suc, ◌+◌, ◌-◌, T, ltb, length}
use mathlib.Core.List.{List, [], ◌∷◌, flat_map}
use Rattle.rules.specs.declared.Rules.{Rules}
use Rattle.base.specs.Every.{every}
use Rattle.base.specs.Part.{part}
use Rattle.decimal.specs.Rows.{row_text}
use Rattle.place.specs.declared.Placing.{Placing}
use Rattle.place.specs.declared.Placing.TheVariants.{Placed, BrokenRule, Refused}
use Rattle.place.specs.Growth.{number_at}
use Rattle.place.specs.Numbered.{placing_reply}
use Rattle.place.specs.Placing.{placing_of}
use Rattle.place.specs.Walk.{PlacedAt}
use Rattle.salvaging.specs.declared.Piece.{Piece}
use Rattle.salvaging.specs.declared.Piece.TheVariants.{Copied, LeftOut}
use Rattle.salvaging.specs.Stretch.{IsStretchEnd, stretch_end}

abbrev pub piece_start : Piece → ℕ
piece_start (Copied place long) = place
piece_start (LeftOut place long) = place

abbrev pub piece_length : Piece → ℕ
piece_length (Copied place long) = long
piece_length (LeftOut place long) = long

abbrev pub piece_end : Piece → ℕ
piece_end p = piece_start p + piece_length p

module _ (ρ : Rules) (s : List ℕ) where
  -- R253: a record is placed, with 0 or 7, and this is its next place
  pub record PlacedUpTo (at next : ℕ) : Type 0 where
    pub placed : PlacedAt ρ s at
    pub next_is : next ≡ (placing_reply (placing_of ρ s at)).next

  -- R254: the walk stops though the text goes on, with one of 3 to 6
  abbrev pub Halts : ℕ → Type 0
  Halts at = (number_at ρ s at ≡ 3) ⊎ ((number_at ρ s at ≡ 4) ⊎ ((number_at ρ s at ≡ 5) ⊎ (number_at ρ s at ≡ 6)))

  -- R353: the pieces from a place on
  pub data Salvaged : ℕ → List Piece → Type 0 where
    -- with 1 the walk is done
    ended : {at : ℕ} → number_at ρ s at ≡ 1 → Salvaged at []
    -- a placed record is copied as it stands, and the walk goes on behind it
    copied : {at : ℕ} (next : ℕ) {ps : List Piece} → PlacedUpTo at next → Salvaged next ps → Salvaged at (Copied at (next - at) ∷ ps)
    -- where the walk stops otherwise, a stretch is left out, and the walk goes on from its end
    left_out : {at : ℕ} (end : ℕ) {ps : List Piece} → Halts at → IsStretchEnd ρ s at end → Salvaged end ps → Salvaged at (LeftOut at (end - at) ∷ ps)

-- ---- the same as a list (`salvaged_exactly` in proofs/Pieces.antt)

-- by what placing answers at a place, and where a stretch would end that begins there
abbrev pub piece_by : ℕ → ℕ → Placing → Piece
piece_by at end (Placed n) = Copied at (n - at)
piece_by at end (BrokenRule g n) = Copied at (n - at)
piece_by at end (Refused r) = LeftOut at (end - at)

module _ (ρ : Rules) (s : List ℕ) where
  unfoldable pub piece_at : ℕ → Piece
  piece_at at = piece_by at (stretch_end ρ s at) (placing_of ρ s at)

  -- those from a place on, of which no more than `most` are looked at
  unfoldable pub pieces_within : ℕ → ℕ → List Piece
  pieces_within zero at = []
  pieces_within (suc most) at = cond (ltb at (length s)) (piece_at at ∷ pieces_within most (piece_end (piece_at at))) []

  -- no piece is empty, so there are no more of them than bytes
  unfoldable pub pieces_from : ℕ → List Piece
  pieces_from at = pieces_within (length s - at) at

  abbrev pub pieces : List Piece
  pieces = pieces_from 0

-- ---- what becomes of them

-- its bytes
abbrev pub piece_bytes : List ℕ → Piece → List ℕ
piece_bytes s p = part (piece_start p) (piece_end p) s

-- R356, R357: what is printed of a piece on standard output, and what on standard error
abbrev pub copy_of : List ℕ → Piece → List ℕ
copy_of s (Copied place long) = piece_bytes s (Copied place long)
copy_of s (LeftOut place long) = []

abbrev pub report_of : Piece → List ℕ
report_of (Copied place long) = []
report_of (LeftOut place long) = row_text (place ∷ long ∷ [])

abbrev pub is_copied : Piece → Bool
is_copied (Copied place long) = true
is_copied (LeftOut place long) = false

-- no stretch is left out
abbrev pub NoStretch : List Piece → Type 0
NoStretch ps = T (every is_copied ps)

module _ (ρ : Rules) (s : List ℕ) where
  -- all that is copied, and the lines of all that is left out
  unfoldable pub copy : List ℕ
  copy = flat_map (copy_of s) (pieces ρ s)

  unfoldable pub report : List ℕ
  report = flat_map report_of (pieces ρ s)
