-- Reading at a place of a text, by whether the group can be asked about there.
-- Assumes nothing.
use Rattle.std.specs.Prelude.{Option, Some, None, Ok, Err}
use mathlib.Core.Path.{◌≡◌, refl}
use mathlib.Core.List.{List}
use Prim.Native.Nat.{ℕ}
use Rattle.rules.specs.declared.Rules.{Rules}
use Rattle.base.specs.Pieces.{bad}
use Rattle.form.specs.declared.Form.{Form}
use Rattle.form.specs.Table.{form_of}
use Rattle.count.specs.Rules.{ruling_of}
use Rattle.place.specs.declared.Placing.TheVariants as P
use Rattle.place.specs.Numbered.{as_checked}
use Rattle.place.specs.Placing
use Rattle.place.specs.Placing.{located, locate, placing_by, counts_at, ruled_at}
use Rattle.place.specs.Parts.{group_part}
use Rattle.place.proofs.Placed.{counts_at_lem}
use Rattle.reply.specs.declared.Refusal.{Refusal}
use Rattle.reading.specs.Read
use Rattle.reading.specs.Read.{read_ruled, read_by, read_group}
use Rattle.group.specs.Held.{found_in, found_at, part_at}
use Rattle.group.specs.Text.{read_found, read_at}
use Rattle.group.proofs.Holding.{given_part}

module _ (ρ : Rules) (s : List ℕ) (at g room : ℕ) where
  -- 12, or any placing reply but 0
  pub read_missing : {r : Refusal} → found_at ρ s at g ≡ Err r → read_at ρ s at g room ≡ bad r
  unfolding read_at
  read_missing e = rw e

  -- reply 0 in placing: the record's counts and the group's own lines
  pub read_given : found_at ρ s at g ≡ Ok tt → read_at ρ s at g room ≡ read_group ρ (counts_at ρ s at) g (part_at ρ s at g) room
  unfolding read_at
  read_given e = rw e

  -- where a record can be located, its counts and the group's own lines are all that is looked at of the text, and 7 comes from the counts
  pub read_located : (n : ℕ) (ns : List ℕ) → locate ρ s at ≡ located n ns → read_at ρ s at g room ≡ read_group ρ ns g (group_part ρ s at ns g) room
  unfolding read_at found_at Read.read_group Placing.placing_of
  read_located n ns e = by (form_of g) refl
    where
      ruled : (f : Form) (k : Option ℕ) → form_of g ≡ Some f → ruling_of ns ≡ k → read_found ρ s at g room (as_checked (ruled_at n k)) ≡ read_ruled ρ f ns g (group_part ρ s at ns g) room k
      ruled f None h u =
          let q : placing_by (locate ρ s at) ≡ P.Placed n = rw (e, u) in
          let given : found_in ρ s at (form_of g) ≡ Ok tt = rw (h, q) in
          let c : counts_at ρ s at ≡ ns = counts_at_lem ρ s at n ns e in
          rw (given_part ρ s at g given, c, h, u)
      ruled f (Some b) h u = refl

      by : (h : Option Form) → form_of g ≡ h → read_found ρ s at g room (found_in ρ s at h) ≡ read_by ρ ns g (group_part ρ s at ns g) room h
      by (Some f) h = rw e (ruled f (ruling_of ns) h refl)
      by None h = refl
