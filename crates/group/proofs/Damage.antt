-- D3, the third demand, and R270 (specs/Damage.antt): bytes exchanged in the lines of a set of groups alter what these groups give, and nothing
-- else. These are the general laws of Confined, where the places are the lines of these groups: by tiling (place, Apart) they miss the index lines
-- of every record and the lines of every other group. The demand's single group is one such set.
-- Assumes nothing.
use mathlib.Core.Path.{◌≡◌, refl, sym, ◌∙◌, ap, subst}
use mathlib.Core.Bool.{Bool, true, false}
use mathlib.Core.List.{List}
use Prim.Native.Nat.{ℕ, ◌<◌, ◌≤◌}
use lib.ListN.{length, get_or, set, length-set}
use lib.Seq.{get_or-set_same, get_or-set_other}
use borrow.Author.Tests.{eqb-true, eqb-false}
use lib.Dec.{eqb}
use Rattle.rules.specs.declared.Rules.{Rules}
use Rattle.base.specs.Agree.{Agree}
use Rattle.base.proofs.Agree.{agree_refl}
use Rattle.line.specs.Lines.{is_feed}
use Rattle.line.specs.Texts.{SameLines}
use Rattle.line.proofs.Texts.{same_refl}
use Rattle.place.specs.Placing.{located, locate, counts_at}
use Rattle.place.specs.Walk.{PlacedAt, spot, IsRecord}
use Rattle.place.proofs.Apart.{lines_apart, heads_apart}
use Rattle.place.proofs.Stopped.{placed_record}
use Rattle.group.specs.Text.{read_at}
use Rattle.group.specs.Damage.{OneGroup, Outside, LinesAt, InLines, Damaged, Confined, Spares, Replaced}
use Rattle.group.proofs.Confined.{record_at, spot_kept, stops_kept, placing_kept, carries_kept, starts_kept}
use Rattle.group.proofs.Confined.{found_kept, part_start_kept, part_length_kept, lines_kept, part_kept, read_kept, read_by_lines}
use Rattle.group.proofs.SamePlace.{characteristic_same, same_reading}

-- ---- over any set of places that misses the index lines and the lines of all groups outside a set of groups

module _ (ρ : Rules) (t u : List ℕ) (among : ℕ → ℕ → Type 0) {D : ℕ → Type 0} (o : Replaced ρ D t u) (clear : (j h : ℕ) → Outside among j h → Spares ρ D t (spot ρ t j) h) where
  read_other : (j h room : ℕ) → Outside among j h → read_at ρ u (spot ρ u j) h room ≡ read_at ρ t (spot ρ t j) h room
  read_other j h room out = sym (read_kept ρ t u o j h (clear j h out) room)

  there : (j : ℕ) → PlacedAt ρ t (spot ρ t j) → IsRecord ρ t (spot ρ t j)
  there j = (placed_record ρ t (spot ρ t j)).0

  pub replaced_stays : Confined ρ t u among
  replaced_stays = record {
    as_many = stops_kept ρ t u o;
    places = λ j. sym (spot_kept ρ t u o j);
    answers = λ j. sym (placing_kept ρ t u o j);
    carries = λ j. sym (carries_kept ρ t u o j);
    starts = λ j h. sym (starts_kept ρ t u o j h);
    part_answers = λ j h. sym (found_kept ρ t u o j h);
    part_starts = λ j h. sym (part_start_kept ρ t u o j h);
    part_lengths = λ j h. sym (part_length_kept ρ t u o j h);
    line_bytes = λ j h placed out. sym (lines_kept ρ t u o j h (clear j h out) (there j placed));
    part_bytes = λ j h out. sym (part_kept ρ t u o j h (clear j h out));
    others = λ j h out table. same_reading _ _ table (read_other j h (length table) out);
    altered = λ j h placed table. same_reading _ _ table (read_by_lines ρ t u o j h (there j placed) (length table));
    characteristics = λ j out number. characteristic_same ρ u t (spot ρ u j) (spot ρ t j) number (read_other j 4 49 out);
  }

-- ---- the demand

module _ (ρ : Rules) (t u : List ℕ) (among : ℕ → ℕ → Type 0) (d : Damaged ρ t u among) where
  -- the record of a damaged place
  r : {i : ℕ} (p : InLines ρ t among i) → IsRecord ρ t (spot ρ t p.k)
  r p = (placed_record ρ t (spot ρ t p.k)).0 p.placed

  here : {i : ℕ} (p : InLines ρ t among i) → locate ρ t (spot ρ t p.k) ≡ located (r p).next (counts_at ρ t (spot ρ t p.k))
  here p = record_at ρ t (spot ρ t p.k) (r p)

  replaced : Replaced ρ (InLines ρ t among) t u
  replaced = record {
    lines = d.lines;
    elsewhere = d.elsewhere;
    heads = λ j i from to p. heads_apart ρ t p.k (r p).next (counts_at ρ t (spot ρ t p.k)) (here p) p.g p.high p.low j i from to p.lies;
  }

  clear : (j h : ℕ) → Outside among j h → Spares ρ (InLines ρ t among) t (spot ρ t j) h
  clear j h out n ns e i from to p =
      lines_apart ρ t p.k (r p).next (counts_at ρ t (spot ρ t p.k)) (here p) p.g p.high j n ns e h (λ x y. out (rw (x, y) p.chosen)) i from to p.lies

  -- a group outside reads as it did, into whatever table
  pub others_read : (j h room : ℕ) → Outside among j h → read_at ρ u (spot ρ u j) h room ≡ read_at ρ t (spot ρ t j) h room
  others_read = read_other ρ t u among replaced clear

  pub damage_stays : Confined ρ t u among
  damage_stays = replaced_stays ρ t u among replaced clear

-- ---- there is such damage

module _ (ρ : Rules) (t : List ℕ) (among : ℕ → ℕ → Type 0) where
  pub damaged_none : Damaged ρ t t among
  damaged_none = record { lines = same_refl t; elsewhere = agree_refl (InLines ρ t among) t }

  -- one byte more of these lines: no line feed, replaced by another that is none
  pub damaged_more : {u : List ℕ} (i v : ℕ) → Damaged ρ t u among → InLines ρ t among i → i < length t → is_feed (get_or t i 0) ≡ is_feed v → Damaged ρ t (set u i v) among
  damaged_more {u = u} i v d inside within feed =
      record {
        lines = record { long = d.lines.long ∙ sym (length-set u i v); feeds = λ j b. feeds j b (eqb j i) refl };
        elsewhere = record {
          long = d.lines.long ∙ sym (length-set u i v);
          same = λ j out. d.elsewhere.same j out ∙ other j (λ e. out (subst (InLines ρ t among) (sym e) inside));
        };
      }
    where
      other : (j : ℕ) → (j ≡ i → ⊥) → get_or u j 0 ≡ get_or (set u i v) j 0
      other j n = sym (get_or-set_other u i j v 0 n)

      feeds : (j : ℕ) → j < length t → (e : Bool) → eqb j i ≡ e → is_feed (get_or t j 0) ≡ is_feed (get_or (set u i v) j 0)
      feeds j b true e =
          let q = eqb-true j i e in
          rw q (feed ∙ ap is_feed (sym (get_or-set_same u i v 0 (subst (λ n. i < n) d.lines.long within))))
      feeds j b false e = d.lines.feeds j b ∙ ap is_feed (other j (eqb-false j i e))

-- bytes exchanged in one group's lines alone, as D3.1 and D3.2 have it
pub damaged_group : (ρ : Rules) {t u : List ℕ} (k g : ℕ) → PlacedAt ρ t (spot ρ t k) → 1 ≤ g → g ≤ 60 → SameLines t u → Agree (LinesAt ρ t (spot ρ t k) g) t u → Damaged ρ t u (OneGroup k g)
damaged_group ρ k g placed low high lines a =
    record {
      lines = lines;
      elsewhere = record {
        long = a.long;
        same = λ i out. a.same i (λ lies. out record { k = k; g = g; chosen = (refl, refl); placed = placed; low = low; high = high; lies = lies });
      };
    }
