-- R258: what is asked about a place of a text that still grows (specs/Growth.antt). By place's Growth the same is located there, and the lines of
-- every group, which are all in the text already, begin where they did; the rest is said by SamePlace.
-- Assumes nothing.
use mathlib.Core.Path.{◌≡◌, sym, ◌∙◌, ap}
use mathlib.Core.List.{List, ◌++◌}
use Prim.Native.Nat.{ℕ, suc}
use native.Mathlib.Omega.{arith}
use lib.ListN.{length}
use Rattle.rules.specs.declared.Rules.{Rules}
use Rattle.base.specs.Part.{part}
use Rattle.base.proofs.Part.{part_within}
use Rattle.place.specs.Growth.{Settled, number_at}
use Rattle.place.specs.Parts
use Rattle.place.specs.Parts.{start, group_part}
use Rattle.place.specs.Placing.{located, locate, counts_at}
use Rattle.place.proofs.Growth.{growth_keeps, locate_grown, start_inside, start_grown}
use Rattle.place.proofs.Local.{placing_same}
use Rattle.place.proofs.Placed.{counts_at_lem}
use Rattle.place.proofs.Tiling.{start_mono}
use Rattle.group.specs.Growth.{AnswersStay, GroupsStay}
use Rattle.group.specs.Held.{lines_start, part_at}
use Rattle.group.specs.Text.{read_at}
use Rattle.group.proofs.Holding.{span_range}
use Rattle.group.proofs.SamePlace.{found_same, part_start_same, part_end_same, part_there, read_same, characteristic_same, same_reading}

module _ (ρ : Rules) (s b : List ℕ) (at : ℕ) (h : Settled (number_at ρ s at)) where
  here : locate ρ (s ++ b) at ≡ locate ρ s at
  here = locate_grown ρ s b at h

  starts : (g : ℕ) → lines_start ρ (s ++ b) at g ≡ lines_start ρ s at g
  starts g = ap (λ ns. start ρ (s ++ b) at ns g) (placing_same ρ (s ++ b) s at here).1 ∙ start_grown ρ s at h b g

  -- the lines of a group, by the places that they had
  lines_there : (g : ℕ) → part (lines_start ρ s at g) (lines_start ρ s at (suc g)) (s ++ b) ≡ group_part ρ s at (counts_at ρ s at) g
  unfolding Parts.group_part
  lines_there g =
      part_within s b (lines_start ρ s at g) (lines_start ρ s at (suc g)) (start_mono ρ s at (counts_at ρ s at) g (suc g) (omega arith)) (start_inside ρ s at h (suc g))

  line_bytes : (g : ℕ) → group_part ρ (s ++ b) at (counts_at ρ (s ++ b) at) g ≡ group_part ρ s at (counts_at ρ s at) g
  unfolding Parts.group_part
  line_bytes g = rw (starts g, starts (suc g)) (lines_there g)

  read_stays : (g room : ℕ) → read_at ρ (s ++ b) at g room ≡ read_at ρ s at g room
  read_stays g room = read_same ρ (s ++ b) s at here g lines room
    where
      lines : (n : ℕ) (ns : List ℕ) → locate ρ (s ++ b) at ≡ located n ns → group_part ρ (s ++ b) at ns g ≡ group_part ρ s at ns g
      lines n ns e =
          ap (λ m. group_part ρ (s ++ b) at m g) (sym (counts_at_lem ρ (s ++ b) at n ns e))
          ∙ line_bytes g
          ∙ ap (λ m. group_part ρ s at m g) (counts_at_lem ρ s at n ns (sym here ∙ e))

  part_stays : (g : ℕ) → part_at ρ (s ++ b) at g ≡ part_at ρ s at g
  unfolding part_at
  part_stays g = let r = span_range ρ s at g in sym (part_there ρ s (s ++ b) at (sym here) g (λ k. sym (starts k))) ∙ part_within s b _ _ r.0 r.1

  stay : AnswersStay ρ s b at
  stay =
      let kept = (growth_keeps ρ s b).placing at h in
      record {
        answers = record {
          placing = kept.answer;
          carried = kept.carried;
          groups = read_stays;
          found = found_same ρ (s ++ b) s at here;
          begins = λ g. part_start_same ρ (s ++ b) s at here g starts;
          lines = part_stays;
          characteristics = λ k. characteristic_same ρ (s ++ b) s at at k (read_stays 4 49);
        };
        tables = λ g table. same_reading _ _ table (read_stays g (length table));
        part_ends = λ g. part_end_same ρ (s ++ b) s at here g starts;
        starts = starts;
        line_bytes = line_bytes;
      }

pub answers_stay : (ρ : Rules) (s b : List ℕ) → GroupsStay ρ s b
answers_stay ρ s b at h = stay ρ s b at h
