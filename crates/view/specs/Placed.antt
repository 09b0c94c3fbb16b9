-- R286 to R288: what a record's part decides. `BadPartExactly` is of every record; `AsPlaced` of one that was placed in this very text, by the rules that
-- are asked with; `DamageKept` and `GrowthKept` of one that was placed before the text was damaged (D3) or grew (R258).
use Rattle.std.specs.Prelude.{◌≡◌, List, ◌++◌, ◌↔◌, ℕ, suc, ◌≤◌, ℤ, length, Some, Err}
use Rattle.rules.specs.declared.Rules.{Rules}
use Rattle.base.specs.Part.{part}
use Rattle.base.specs.Pieces.{bad}
use Rattle.form.specs.declared.Form.{Form}
use Rattle.form.specs.Table.{form_of}
use Rattle.count.specs.Tally.{count_of}
use Rattle.place.specs.Placing.{Carried, carried_at, counts_at}
use Rattle.place.specs.Walk.{PlacedAt, spot}
use Rattle.reading.specs.Read.{read_form, read_group}
use Rattle.group.specs.declared.Characteristic.TheVariants.{Refused}
use Rattle.group.specs.Answers.{SameReading}
use Rattle.group.specs.Characteristics.{characteristic_at}
use Rattle.group.specs.Damage.{Outside}
use Rattle.group.specs.Held.{lines_start, found_at, part_start, part_end, part_at}
use Rattle.group.specs.Text.{read_at}
use Rattle.reply.specs.declared.Refusal.TheVariants.{OtherRelease, BadPart}
use Rattle.view.specs.Due.{named_part, Held, LacksPart}
use Rattle.view.specs.With.{found_with, start_with, end_with, part_with, read_with, characteristic_with}

module _ (ρ : Rules) (s : List ℕ) (r : Carried) where
  -- R286: 22 exactly if neither 12 nor 4, 5, 6 or 7 is due and the part does not hold, whatever is asked
  pub record BadPartExactly : Type 0 where
    pub found : (g : ℕ) → found_with ρ s r g ≡ Err BadPart ↔ LacksPart ρ s r g
    pub reading : (g room : ℕ) → read_with ρ s r g room ≡ bad BadPart ↔ LacksPart ρ s r g
    pub characteristic : (k : ℕ) → characteristic_with ρ s r k ≡ Refused BadPart ↔ (((1 ≤ k) × (k ≤ 49)) × LacksPart ρ s r 4)

  -- R287: where the part holds, its lines and the group's count decide: `read_form` knows of no text
  abbrev pub LinesDecide : Type 0
  LinesDecide = (g : ℕ) (f : Form) → form_of g ≡ Some f → Held ρ s r g → (room : ℕ) → read_with ρ s r g room ≡ read_form ρ f g (count_of r.counts_of g) (named_part ρ s r g) room

module _ (ρ : Rules) (s : List ℕ) (at : ℕ) where
  -- R288: a record that was placed there, with 0 or 7: each answer is that of asking by its place
  pub record AsPlaced : Type 0 where
    pub found : (g : ℕ) → found_with ρ s (carried_at ρ s at) g ≡ found_at ρ s at g
    pub begins : (g : ℕ) → start_with ρ s (carried_at ρ s at) g ≡ part_start ρ s at g
    pub ends : (g : ℕ) → end_with ρ s (carried_at ρ s at) g ≡ part_end ρ s at g
    pub lines : (g : ℕ) → part_with ρ s (carried_at ρ s at) g ≡ part_at ρ s at g
    pub groups : (g room : ℕ) → read_with ρ s (carried_at ρ s at) g room ≡ read_at ρ s at g room
    pub characteristics : (k : ℕ) → characteristic_with ρ s (carried_at ρ s at) k ≡ characteristic_at ρ s at k
    -- so 22 never comes
    pub never : (g : ℕ) → LacksPart ρ s (carried_at ρ s at) g → ⊥

  -- where nothing was placed the counts are zeros, so 5, in whatever text u and by whatever rules σ the record is asked with
  pub record NonePlaced : Type 0 where
    pub found : (σ : Rules) (u : List ℕ) (g : ℕ) → 1 ≤ g → g ≤ 60 → found_with σ u (carried_at ρ s at) g ≡ Err OtherRelease
    pub groups : (σ : Rules) (u : List ℕ) (g room : ℕ) → 1 ≤ g → g ≤ 60 → read_with σ u (carried_at ρ s at) g room ≡ bad OtherRelease
    pub characteristics : (σ : Rules) (u : List ℕ) (k : ℕ) → 1 ≤ k → k ≤ 49 → characteristic_with σ u (carried_at ρ s at) k ≡ Refused OtherRelease

pub record PlacedAnswers (ρ : Rules) : Type 0 where
  pub placed : (s : List ℕ) (at : ℕ) → PlacedAt ρ s at → AsPlaced ρ s at
  pub none : (s : List ℕ) (at : ℕ) → (PlacedAt ρ s at → ⊥) → NonePlaced ρ s at

-- D3: record j was placed in t, and is asked with in u, which is t with bytes of these groups' lines exchanged
pub record DamageKept (ρ : Rules) (t u : List ℕ) (among : ℕ → ℕ → Type 0) : Type 0 where
  -- D3.7: the lines of every group, an altered one too, are given or refused as they were, and lie where they did
  pub found : (j h : ℕ) → PlacedAt ρ t (spot ρ t j) → found_with ρ u (carried_at ρ t (spot ρ t j)) h ≡ found_with ρ t (carried_at ρ t (spot ρ t j)) h
  pub begins : (j h : ℕ) → PlacedAt ρ t (spot ρ t j) → start_with ρ u (carried_at ρ t (spot ρ t j)) h ≡ start_with ρ t (carried_at ρ t (spot ρ t j)) h
  pub ends : (j h : ℕ) → PlacedAt ρ t (spot ρ t j) → end_with ρ u (carried_at ρ t (spot ρ t j)) h ≡ end_with ρ t (carried_at ρ t (spot ρ t j)) h
  -- those of every other group have the same bytes
  pub lines : (j h : ℕ) → PlacedAt ρ t (spot ρ t j) → Outside among j h → part_with ρ u (carried_at ρ t (spot ρ t j)) h ≡ part_with ρ t (carried_at ρ t (spot ρ t j)) h
  -- D3.5: every group but these reads as it did
  pub others : (j h : ℕ) → PlacedAt ρ t (spot ρ t j) → Outside among j h → (table : List ℤ)
      → SameReading (read_with ρ u (carried_at ρ t (spot ρ t j)) h (length table)) (read_with ρ t (carried_at ρ t (spot ρ t j)) h (length table)) table
  -- D3.6: each of these by its lines in u
  pub altered : (j h : ℕ) → PlacedAt ρ t (spot ρ t j) → (table : List ℤ)
      → SameReading (read_with ρ u (carried_at ρ t (spot ρ t j)) h (length table))
      (read_group ρ (counts_at ρ t (spot ρ t j)) h (part (lines_start ρ t (spot ρ t j) h) (lines_start ρ t (spot ρ t j) (suc h)) u) (length table)) table
  -- D3.7
  pub characteristics : (j : ℕ) → PlacedAt ρ t (spot ρ t j) → Outside among j 4 → (k : ℕ)
      → characteristic_with ρ u (carried_at ρ t (spot ρ t j)) k ≡ characteristic_with ρ t (carried_at ρ t (spot ρ t j)) k

-- R258: a record that was placed in s serves in s with bytes added at its end
pub record GrowthKept (ρ : Rules) (s b : List ℕ) (at : ℕ) : Type 0 where
  pub found : (g : ℕ) → found_with ρ (s ++ b) (carried_at ρ s at) g ≡ found_with ρ s (carried_at ρ s at) g
  pub begins : (g : ℕ) → start_with ρ (s ++ b) (carried_at ρ s at) g ≡ start_with ρ s (carried_at ρ s at) g
  pub ends : (g : ℕ) → end_with ρ (s ++ b) (carried_at ρ s at) g ≡ end_with ρ s (carried_at ρ s at) g
  pub lines : (g : ℕ) → part_with ρ (s ++ b) (carried_at ρ s at) g ≡ part_with ρ s (carried_at ρ s at) g
  pub groups : (g room : ℕ) → read_with ρ (s ++ b) (carried_at ρ s at) g room ≡ read_with ρ s (carried_at ρ s at) g room
  pub characteristics : (k : ℕ) → characteristic_with ρ (s ++ b) (carried_at ρ s at) k ≡ characteristic_with ρ s (carried_at ρ s at) k
