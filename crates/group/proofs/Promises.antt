-- What is promised of reading a group at a place: it is read from its record's counts and its own lines alone, wherever they stand.
-- Assumes nothing.
use mathlib.Core.Path.{◌≡◌, sym, ◌∙◌, ap₂}
use mathlib.Core.List.{List}
use Prim.Native.Nat.{ℕ}
use Rattle.rules.specs.declared.Rules.{Rules}
use Rattle.place.specs.Walk.{IsRecord}
use Rattle.place.specs.Parts.{group_part}
use Rattle.reading.specs.Read.{read_group}
use Rattle.group.specs.Text.{read_at}
use Rattle.group.proofs.Texts.{read_located}

-- ---- reading is local

-- located records with the same counts, in whatever texts at whatever places: where the group has the same lines, it reads the same
pub read_local : (ρ : Rules) {s t : List ℕ} {at bt : ℕ} (p : IsRecord ρ s at) (q : IsRecord ρ t bt) (g room : ℕ) → p.ns ≡ q.ns → group_part ρ s at p.ns g ≡ group_part ρ t bt q.ns g
    → read_at ρ s at g room ≡ read_at ρ t bt g room
read_local ρ {s = s} {t = t} {at = at} {bt = bt} p q g room c e =
    read_located ρ s at g room p.next p.ns p.is ∙ ap₂ (λ ns x. read_group ρ ns g x room) c e ∙ sym (read_located ρ t bt g room q.next q.ns q.is)
