-- R9, R101: canonical lines end in a carriage return and a line feed, so a canonical record is answered the same under any two rules that count
-- alike, wherever it stands in whatever text.
-- Assumes nothing.
use Rattle.std.specs.Prelude.{Option, Some, None, Ok}
use mathlib.Core.Path.{◌≡◌, sym, ◌∙◌, ap, subst}
use mathlib.Core.Bool.{cond, ◌&&◌}
use mathlib.Core.List.{List, ◌++◌}
use Prim.Native.Nat.{ℕ, ◌+◌}
use lib.Dec.{leb}
use lib.IntN.{ℤ}
use lib.ListN.{length}
use Rattle.rules.specs.declared.Rules.{Rules}
use Rattle.base.specs.Every.{up_from}
use Rattle.base.specs.Pieces.{Each}
use Rattle.base.proofs.Each.{each_imply}
use Rattle.form.specs.Table.{form_of}
use Rattle.form.proofs.Table.{form_range}
use Rattle.count.specs.Tally.{count_of, group_cells}
use Rattle.count.specs.Rules.{release_of}
use Rattle.place.specs.Placing
use Rattle.place.specs.Placing.{located, locate, placing_by}
use Rattle.place.specs.Parts.{group_part}
use Rattle.place.proofs.SameCounting.{part_counted, carried_counted}
use Rattle.reading.specs.Read.{read_group}
use Rattle.reading.proofs.ByLines.{plan_same, LinesReadSame, group_by_lines}
use Rattle.reply.specs.declared.Refusal.TheVariants.{NoSuchNumber}
use Rattle.group.specs.declared.Characteristic.TheVariants.{Refused}
use Rattle.group.specs.Characteristics
use Rattle.group.specs.Characteristics.{reported}
use Rattle.group.specs.Ends.{SameAnswers}
use Rattle.group.specs.Text.{read_at}
use Rattle.group.proofs.Ends.{located_found, located_begins, located_lines}
use Rattle.group.proofs.Texts.{read_located}
use Rattle.writing.specs.Canonical.{CanonicalLine, CanonicalGroupBy, CanonicalGroup, CanonicalRecord}
use Rattle.writing.proofs.Canonical.{group_read_lem}
use Rattle.writing.proofs.Standing.{standing_located, standing_group}
use Rattle.form.specs.declared.Form.{Form}

-- what is canonical for one of them is so for the other
module _ (ρ σ : Rules) (alike : ρ.counting ≡ σ.counting) (ns : List ℕ) where
  canonical_group : (g : ℕ) (x : List ℕ) (c : List ℤ) → CanonicalGroup ρ ns g x c → CanonicalGroup σ ns g x c
  canonical_group g x c p = by (form_of g) p
    where
      by : (f : Option Form) → CanonicalGroupBy ρ f (count_of ns g) x c → CanonicalGroupBy σ f (count_of ns g) x c
      by (Some f) u = subst (λ ls. Each (CanonicalLine f) ls x c) (plan_same ρ σ alike f (count_of ns g)) u
      by None u = u

  pub canonical_record : (x : List ℕ) (cs : List ℤ) → CanonicalRecord ρ ns x cs → CanonicalRecord σ ns x cs
  canonical_record x cs h =
      record {
        many = h.many;
        first = h.first;
        second = h.second;
        groups = h.groups;
        first_line = h.first_line;
        second_line = h.second_line;
        each = each_imply canonical_group (up_from 1 60) h.groups cs h.each;
        is = h.is;
      }

module _ (ρ σ : Rules) (alike : ρ.counting ≡ σ.counting) {ns x : List ℕ} {cs : List ℤ} (h : CanonicalRecord ρ ns x cs) (five : release_of ns ≡ Ok tt) (a b : List ℕ) where
  abbrev text : List ℕ
  text = a ++ (x ++ b)

  abbrev place : ℕ
  place = length a

  lines_same : (g : ℕ) → LinesReadSame ρ σ ns g (group_part ρ text place ns g) (group_part ρ text place ns g)
  lines_same g f u =
      let c = group_cells ρ ns cs g in
      let w = form_range g f u in
      let p = standing_group ρ h a b g w.0 w.1 in
      group_read_lem ρ ns g f (group_part ρ text place ns g) c u p ∙ sym (group_read_lem σ ns g f (group_part ρ text place ns g) c u (canonical_group ρ σ alike ns g _ c p))

  located_there : locate σ text place ≡ located (place + length x) ns
  located_there = standing_located σ (canonical_record ρ σ alike ns x cs h) a b five

  read_same : (g room : ℕ) → read_at ρ text place g room ≡ read_at σ text place g room
  read_same g room =
      let n = place + length x in
      read_located ρ text place g room n ns (standing_located ρ h a b five)
      ∙ group_by_lines ρ σ ns g (group_part ρ text place ns g) (group_part ρ text place ns g) alike (lines_same g) room
      ∙ ap (λ y. read_group σ ns g y room) (part_counted ρ σ alike text place ns g)
      ∙ sym (read_located σ text place g room n ns located_there)

  pub canonical_same : SameAnswers ρ σ (a ++ (x ++ b)) (length a)
  unfolding Placing.placing_of Characteristics.characteristic_at
  canonical_same =
      let l = standing_located ρ h a b five ∙ sym located_there in
      record {
        placing = ap placing_by l;
        carried = carried_counted ρ σ alike text place l;
        groups = read_same;
        found = located_found ρ σ alike text place l;
        begins = located_begins ρ σ alike text place l;
        lines = located_lines ρ σ alike text place l;
        characteristics = λ k. ap (λ c. cond (leb 1 k && leb k 49) (reported k c) (Refused NoSuchNumber)) (read_same 4 49);
      }
