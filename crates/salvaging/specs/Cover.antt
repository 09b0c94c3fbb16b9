-- R354: the pieces cover the text; what a walk finds is copied; and the copy is a text of records.
use Rattle.std.specs.Prelude.{◌≡◌, ℕ, suc, ◌-◌, ◌<◌, length, take}
use mathlib.Core.List.{List, [], ◌∷◌, map, flat_map}
use Rattle.rules.specs.declared.Rules.{Rules}
use Rattle.base.specs.Every.{up_from}
use Rattle.base.specs.Part.{part}
use Rattle.place.specs.Walk.{spot, Stops}
use Rattle.reply.specs.declared.Refusal.{Refusal}
use Rattle.reply.specs.declared.Refusal.TheVariants.{End}
use Rattle.salvaging.specs.declared.Piece.{Piece}
use Rattle.salvaging.specs.declared.Piece.TheVariants.{Copied, LeftOut}
use Rattle.salvaging.specs.Pieces.{piece_start, piece_length, piece_end, pieces, piece_bytes, NoStretch, copy, report}

-- pieces that follow one another from a place up to another, none of them empty
pub data Follow : ℕ → ℕ → List Piece → Type 0 where
  no_more : {at : ℕ} → Follow at at []
  then : {at last : ℕ} (p : Piece) {ps : List Piece} → piece_start p ≡ at → 0 < piece_length p → Follow (piece_end p) last ps → Follow at last (p ∷ ps)

-- behind each stretch stands a record that is copied, or nothing: no two of them are neighbours
pub data Apart : List Piece → Type 0 where
  nothing : Apart []
  behind_copied : (at n : ℕ) {ps : List Piece} → Apart ps → Apart (Copied at n ∷ ps)
  last_stretch : (at n : ℕ) → Apart (LeftOut at n ∷ [])
  behind_stretch : (at n next m : ℕ) {ps : List Piece} → Apart (Copied next m ∷ ps) → Apart (LeftOut at n ∷ Copied next m ∷ ps)

module _ (ρ : Rules) (s : List ℕ) where
  -- a text whose walk ends with 1 has no stretch, and is copied as itself
  pub record CopiedWhole : Type 0 where
    pub none : NoStretch (pieces ρ s)
    pub same : copy ρ s ≡ s
    pub silent : report ρ s ≡ []

  pub record Cover : Type 0 where
    pub follow : Follow 0 (length s) (pieces ρ s)
    pub joined : flat_map (piece_bytes s) (pieces ρ s) ≡ s
    pub apart : Apart (pieces ρ s)
    pub undamaged : (many : ℕ) → Stops ρ s many End → CopiedWhole

  -- ---- nothing that is placed is lost

  -- record k of the plain walk, from 0, copied where it stands
  abbrev pub record_piece : ℕ → Piece
  record_piece k = Copied (spot ρ s k) (spot ρ s (suc k) - spot ρ s k)

  -- the records of the plain walk are the first pieces, and the copy begins with them
  pub record NothingLost (many : ℕ) : Type 0 where
    pub first : take many (pieces ρ s) ≡ map record_piece (up_from 0 many)
    pub begins : part 0 (spot ρ s many) (copy ρ s) ≡ part 0 (spot ρ s many) s

-- ---- what is copied stays: the walk of the copy ends with 1, so salvaging it gives it again, with no stretch

pub record CopyStays (ρ : Rules) (s : List ℕ) : Type 0 where
  pub many : ℕ
  pub stops : Stops ρ (copy ρ s) many End
  pub again : CopiedWhole ρ (copy ρ s)

-- all of it, of whatever text
pub record Salvages (ρ : Rules) (s : List ℕ) : Type 0 where
  pub cover : Cover ρ s
  pub kept : (many : ℕ) (r : Refusal) → Stops ρ s many r → NothingLost ρ s many
  pub stays : CopyStays ρ s
