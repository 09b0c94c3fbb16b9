-- R9: a group at a place of each of two texts that are alike from there on: whether its lines can be given, what it reads as, and a
-- characteristic are the same, and its lines have the same contents.
-- Assumes nothing.
use Rattle.std.specs.Prelude.{Option, Some, None, Result, Ok, Err}
use mathlib.Core.Path.{◌≡◌, refl, sym, ◌∙◌}
use mathlib.Core.List.{List, []}
use Prim.Native.Nat.{ℕ}
use Rattle.rules.specs.declared.Rules.{Rules}
use Rattle.form.specs.Table.{form_of}
use Rattle.line.specs.Alike.{Alike, AlikeFrom}
use Rattle.line.proofs.Alike.{alike_refl}
use Rattle.place.specs.declared.Placing.{Placing}
use Rattle.place.specs.Alike.{SamePlacing, both_placed, both_broken, both_refused}
use Rattle.place.specs.Numbered.{as_checked}
use Rattle.place.specs.Parts.{group_part}
use Rattle.place.specs.Placing.{placing_of, counts_at}
use Rattle.place.proofs.Alike.{AlikeLocated, both_located, neither, alike_located, alike_placing, alike_counts, alike_part}
use Rattle.reading.proofs.Alike.{alike_group_read}
use Rattle.group.specs.Characteristics.{characteristic_at}
use Rattle.group.specs.Held.{found_in, found_at, part_at}
use Rattle.group.specs.Text.{read_at}
use Rattle.group.proofs.Holding.{given_part, missing_part}
use Rattle.group.proofs.SamePlace.{read_refused, characteristic_same}
use Rattle.group.proofs.Texts.{read_located}
use Rattle.reply.specs.declared.Refusal.{Refusal}
use Rattle.form.specs.declared.Form.{Form}

module _ (ρ : Rules) (s : List ℕ) (p : ℕ) (t : List ℕ) (q : ℕ) (h : AlikeFrom ρ s p t q) where
  pub alike_found : (g : ℕ) → found_at ρ s p g ≡ found_at ρ t q g
  unfolding found_at
  alike_found g = by (form_of g)
    where
      checked : (a b : Placing) → SamePlacing ρ s t a b → as_checked a ≡ as_checked b
      checked a b (both_placed n m f) = refl
      checked a b (both_broken k n m f) = refl
      checked a b (both_refused r) = refl

      by : (f : Option Form) → found_in ρ s p f ≡ found_in ρ t q f
      by (Some f) = checked (placing_of ρ s p) (placing_of ρ t q) (alike_placing ρ s p t q h)
      by None = refl

  -- the lines themselves, or no bytes
  pub alike_given : (g : ℕ) → Alike ρ (part_at ρ s p g) (part_at ρ t q g)
  alike_given g = by (found_at ρ s p g) refl
    where
      by : (c : Result (Unit {0}) Refusal) → found_at ρ s p g ≡ c → Alike ρ (part_at ρ s p g) (part_at ρ t q g)
      by (Ok _) e =
          rw (given_part ρ s p g e, given_part ρ t q g (sym (alike_found g) ∙ e), alike_counts ρ s p t q h) (alike_part ρ s p t q h (counts_at ρ t q) g)
      by (Err r) e = rw (missing_part ρ s p g e, missing_part ρ t q g (sym (alike_found g) ∙ e)) (alike_refl ρ [])

  -- the cells, or the refusal with its numbers
  pub alike_read : (g room : ℕ) → read_at ρ s p g room ≡ read_at ρ t q g room
  alike_read g room = by (alike_located ρ s p t q h)
    where
      by : AlikeLocated ρ s p t q → read_at ρ s p g room ≡ read_at ρ t q g room
      by (both_located n m ns a b f) =
          read_located ρ s p g room n ns a
          ∙ alike_group_read ρ ns g (group_part ρ s p ns g) (group_part ρ t q ns g) (alike_part ρ s p t q h ns g) room
          ∙ sym (read_located ρ t q g room m ns b)
      by (neither r a b) = read_refused ρ s t p q g room a b

  pub alike_characteristic : (k : ℕ) → characteristic_at ρ s p k ≡ characteristic_at ρ t q k
  alike_characteristic k = characteristic_same ρ s t p q k (alike_read 4 49)
