-- Whether a record gives a group's lines in a text, where they stand, and what is read from them.
-- Assumes nothing.
use Rattle.std.specs.Prelude.{Some, None, Ok, Err}
use mathlib.Core.Path.{◌≡◌, refl}
use mathlib.Core.Bool.{Bool, true, false, cond}
use mathlib.Core.List.{List}
use Prim.Native.Nat.{ℕ}
use Rattle.rules.specs.declared.Rules.{Rules}
use Rattle.base.specs.Part.{part}
use Rattle.base.specs.Pieces.{bad}
use Rattle.form.specs.declared.Form.{Form}
use Rattle.form.specs.Table.{form_of}
use Rattle.count.specs.Check.{accepted_of}
use Rattle.place.specs.Placing.{Carried}
use Rattle.reading.specs.Read.{read_group}
use Rattle.reply.specs.declared.Refusal.{Refusal}
use Rattle.reply.specs.declared.Refusal.TheVariants.{NoSuchNumber, BadPart}
use Rattle.view.specs.With.{place_of, holds_part, found_with, start_with, end_with, part_with, read_with}

module _ (ρ : Rules) (s : List ℕ) (r : Carried) (g : ℕ) where
  pub found_none : form_of g ≡ None → found_with ρ s r g ≡ Err NoSuchNumber
  unfolding found_with
  found_none e = rw e

  module _ (f : Form) (e : form_of g ≡ Some f) where
    pub found_counts : {q : Refusal} → accepted_of r.counts_of ≡ Err q → found_with ρ s r g ≡ Err q
    unfolding found_with
    found_counts a = rw (e, a)

    module _ (a : accepted_of r.counts_of ≡ Ok tt) where
      pub found_part : {t : Bool} → holds_part ρ s r g f ≡ t → found_with ρ s r g ≡ cond t (Ok tt) (Err BadPart)
      unfolding found_with
      found_part h = rw (e, a, h)

      pub found_good : holds_part ρ s r g f ≡ true → found_with ρ s r g ≡ Ok tt
      found_good h = found_part h

      pub found_bad : holds_part ρ s r g f ≡ false → found_with ρ s r g ≡ Err BadPart
      found_bad h = found_part h

  pub given_start : found_with ρ s r g ≡ Ok tt → start_with ρ s r g ≡ place_of r.starts_of g
  unfolding start_with
  given_start e = rw e

  pub given_end : found_with ρ s r g ≡ Ok tt → end_with ρ s r g ≡ place_of r.ends_of g
  unfolding end_with
  given_end e = rw e

  pub missing_start : {q : Refusal} → found_with ρ s r g ≡ Err q → start_with ρ s r g ≡ 0
  unfolding start_with
  missing_start e = rw e

  pub missing_end : {q : Refusal} → found_with ρ s r g ≡ Err q → end_with ρ s r g ≡ 0
  unfolding end_with
  missing_end e = rw e

  pub with_part : (from to : ℕ) → (from ≡ start_with ρ s r g) × (to ≡ end_with ρ s r g) → part from to s ≡ part_with ρ s r g
  unfolding part_with
  with_part from to a = rw (a.0, a.1) refl

  module _ (room : ℕ) where
    pub with_missing : {q : Refusal} → found_with ρ s r g ≡ Err q → read_with ρ s r g room ≡ bad q
    unfolding read_with
    with_missing e = rw e

    pub with_given : found_with ρ s r g ≡ Ok tt → read_with ρ s r g room ≡ read_group ρ r.counts_of g (part_with ρ s r g) room
    unfolding read_with
    with_given e = rw e
