-- R9: rules that count alike, and under which the same is located at a place, give the same lines of each group there. What the strict rule reads
-- with 0, each that counts alike does: a group with its cells, and a characteristic that is not refused.
-- Assumes nothing.
use Rattle.std.specs.Prelude.{Option, Some, None, Result, Ok, Err}
use mathlib.Core.Path.{◌≡◌, refl, sym, ◌∙◌, ap, ap₂}
use mathlib.Core.Bool.{Bool, true, false, cond, ◌&&◌}
use mathlib.Core.List.{List}
use Prim.Native.Nat.{ℕ, suc}
use native.Mathlib.Omega.{arith}
use lib.Dec.{leb}
use lib.IntN.{ℤ}
use Rattle.rules.specs.declared.LineEnds.TheVariants.{Strict}
use Rattle.rules.specs.declared.Rules.{Rules}
use Rattle.base.specs.Part.{part}
use Rattle.base.specs.Pieces.{done, bad}
use Rattle.form.specs.Table.{form_of}
use Rattle.place.specs.Numbered.{as_checked}
use Rattle.place.specs.Parts.{start, group_part}
use Rattle.place.specs.Placing
use Rattle.place.specs.Placing.{locate, placing_by, counts_by, counts_at}
use Rattle.place.proofs.Ends.{strict_located}
use Rattle.place.proofs.Zero.{is_placed_lem}
use Rattle.reading.specs.Read.{Cells, read_group}
use Rattle.place.proofs.SameCounting.{start_counted, part_counted}
use Rattle.reading.proofs.Ends.{strict_group_read}
use Rattle.reply.specs.declared.Refusal.{Refusal}
use Rattle.reply.specs.declared.Refusal.TheVariants.{NoSuchNumber}
use Rattle.group.specs.declared.Characteristic.TheVariants.{Refused}
use Rattle.group.specs.Characteristics.{reported, characteristic_at}
use Rattle.group.specs.Held.{found_in, found_at, start_by, part_start, part_end, part_at}
use Rattle.group.specs.Text.{read_at}
use Rattle.group.proofs.Holding.{given_is}
use Rattle.group.proofs.Texts.{read_missing, read_located}
use Rattle.form.specs.declared.Form.{Form}

module _ (ρ σ : Rules) (alike : ρ.counting ≡ σ.counting) (s : List ℕ) (at : ℕ) (l : locate ρ s at ≡ locate σ s at) where
  pub located_found : (g : ℕ) → found_at ρ s at g ≡ found_at σ s at g
  unfolding found_at Placing.placing_of
  located_found g = by (form_of g)
    where
      by : (f : Option Form) → found_in ρ s at f ≡ found_in σ s at f
      by (Some f) = ap (λ y. as_checked (placing_by y)) l
      by None = refl

  starts : (g : ℕ) (c : Result (Unit {0}) Refusal) → start_by ρ s at g c ≡ start_by σ s at g c
  unfolding Placing.counts_at
  starts g (Ok _) = ap (λ y. start ρ s at (counts_by y) g) l ∙ start_counted ρ σ alike s at (counts_by (locate σ s at)) g
  starts g (Err r) = refl

  pub located_begins : (g : ℕ) → part_start ρ s at g ≡ part_start σ s at g
  unfolding part_start
  located_begins g = ap (start_by ρ s at g) (located_found g) ∙ starts g (found_at σ s at g)

  pub located_lines : (g : ℕ) → part_at ρ s at g ≡ part_at σ s at g
  unfolding part_at part_end
  located_lines g = ap₂ (λ a b. part a b s) (located_begins g) (ap (start_by ρ s at (suc g)) (located_found g) ∙ starts (suc g) (found_at σ s at g))

module _ (σ ρ : Rules) (only : σ.ends ≡ Strict) (alike : σ.counting ≡ ρ.counting) (s : List ℕ) (at : ℕ) where
  pub strict_read : (g room : ℕ) (cs : List ℤ) → read_at σ s at g room ≡ done cs → read_at ρ s at g room ≡ done cs
  strict_read g room cs e = by (found_at σ s at g) refl
    where
      by : (c : Result (Unit {0}) Refusal) → found_at σ s at g ≡ c → read_at ρ s at g room ≡ done cs
      by (Ok _) u =
          let i = given_is σ s at g u in
          let ns = counts_at σ s at in
          let l = (is_placed_lem σ s at i.next i.placed).located_at in
          read_located ρ s at g room i.next ns (strict_located σ ρ only alike s at i.next ns l)
          ∙ ap (λ x. read_group ρ ns g x room) (part_counted ρ σ (sym alike) s at ns g)
          ∙ strict_group_read σ ρ only alike ns g (group_part σ s at ns g) room cs (sym (read_located σ s at g room i.next ns l) ∙ e)
      by (Err r) u = let f = sym (read_missing σ s at g room u) ∙ e in let z : ◌≡◌ {A = ℕ} 0 1 = cc in absurd (omega arith)

  pub strict_characteristic : (k : ℕ) → ((r : Refusal) → characteristic_at σ s at k ≡ Refused r → ⊥) → characteristic_at ρ s at k ≡ characteristic_at σ s at k
  unfolding characteristic_at
  strict_characteristic k n = by (read_at σ s at 4 49) refl n
    where
      refused : (t : Bool) (r : Refusal) → ((q : Refusal) → cond t (Refused r) (Refused NoSuchNumber) ≡ Refused q → ⊥) → ⊥
      refused true r n = n r refl
      refused false r n = n NoSuchNumber refl

      by : (c : Cells) → read_at σ s at 4 49 ≡ c → ((r : Refusal) → cond (leb 1 k && leb k 49) (reported k c) (Refused NoSuchNumber) ≡ Refused r → ⊥)
          → cond (leb 1 k && leb k 49) (reported k (read_at ρ s at 4 49)) (Refused NoSuchNumber) ≡ cond (leb 1 k && leb k 49) (reported k c) (Refused NoSuchNumber)
      by (done cs) u n = rw (strict_read 4 49 cs u)
      by (bad r) u n = absurd (refused (leb 1 k && leb k 49) r n)
