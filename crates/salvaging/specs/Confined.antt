-- R355: a ruined index costs its own record. Given is a text of records, in which one is ruined: what the walk met there is no record any more, no
-- line start inside is taken for one, and the next record can be gone on from, or nothing follows. Then just that record is left out, and all else is
-- salvaged as it is by itself.
use Rattle.std.specs.Prelude.{◌≡◌, List, ◌∷◌, ◌++◌, map, ◌⊎◌, ℕ, suc, ◌+◌, ◌-◌, ◌<◌, length, take, drop}
use Rattle.rules.specs.declared.Rules.{Rules}
use Rattle.base.specs.Agree.{Agree, Between}
use Rattle.line.specs.Lines.{reach}
use Rattle.place.specs.Walk.{PlacedAt, spot, Stops}
use Rattle.reply.specs.declared.Refusal.TheVariants.{End}
use Rattle.salvaging.specs.declared.Piece.{Piece}
use Rattle.salvaging.specs.declared.Piece.TheVariants.{Copied, LeftOut}
use Rattle.salvaging.specs.Pieces.{Halts, pieces, copy}
use Rattle.salvaging.specs.Stretch.{Resumes}

-- the same piece, so many bytes further on
abbrev pub further : ℕ → Piece → Piece
further m (Copied place long) = Copied (m + place) long
further m (LeftOut place long) = LeftOut (m + place) long

module _ (ρ : Rules) where
  -- from one place to another the text is ruined, and the walk can go on behind
  pub record Ruined (t : List ℕ) (from to : ℕ) : Type 0 where
    pub some : from < to
    pub halts : Halts ρ t from
    pub none : (p : ℕ) → from < p → p < to → Resumes ρ t p → ⊥
    pub behind : Resumes ρ t to ⊎ (to ≡ length t)

  -- records a, then ruined bytes y, of any number and kind, and then any text b
  pub record RuinConfined (a y b : List ℕ) : Type 0 where
    pub leaves : pieces ρ (a ++ (y ++ b)) ≡ pieces ρ a ++ (LeftOut (length a) (length y) ∷ map (further (length a + length y)) (pieces ρ b))
    pub copies : copy ρ (a ++ (y ++ b)) ≡ a ++ copy ρ b

  -- t is a text, and u the same with bytes exchanged in the index lines of record k of its walk, so that they are ruined
  pub record IndexRuined (t u : List ℕ) (k : ℕ) : Type 0 where
    pub placed : PlacedAt ρ t (spot ρ t k)
    pub elsewhere : Agree (Between (spot ρ t k) (spot ρ t k + reach (drop (spot ρ t k) t) 2)) t u
    pub ruined : Ruined u (spot ρ t k) (spot ρ t (suc k))

  -- the pieces of u are those of t, each with its place and length; only that record is left out
  pub record RecordLost (t u : List ℕ) (k : ℕ) : Type 0 where
    pub before : List Piece
    pub after : List Piece
    pub many : length before ≡ k
    pub was : pieces ρ t ≡ before ++ (Copied (spot ρ t k) (spot ρ t (suc k) - spot ρ t k) ∷ after)
    pub is : pieces ρ u ≡ before ++ (LeftOut (spot ρ t k) (spot ρ t (suc k) - spot ρ t k) ∷ after)
    -- what stands before it is copied, and what stands behind it is salvaged as by itself
    pub copies : copy ρ u ≡ take (spot ρ t k) t ++ copy ρ (drop (spot ρ t (suc k)) t)

  pub record DamageConfined : Type 0 where
    pub ruin : (a y b : List ℕ) (many : ℕ) → Stops ρ a many End → Ruined (a ++ (y ++ b)) (length a) (length a + length y) → RuinConfined a y b
    pub index : (t u : List ℕ) (k : ℕ) → IndexRuined t u k → RecordLost t u k
