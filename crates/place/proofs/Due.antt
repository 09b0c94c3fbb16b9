-- First due: placing gives a reply exactly if that reply is due (specs/Due.antt).
-- Assumes nothing.
use Rattle.std.specs.Prelude.{Option, Some, None, Result, Ok, Err}
use mathlib.Core.Path.{◌≡◌, refl, sym, ◌∙◌, ap, ap₂, subst}
use mathlib.Core.Bool.{Bool, true, false, cond}
use mathlib.Core.List.{List}
use mathlib.Core.Logic.{◌↔◌, inl, inr, ⊎_elim}
use Prim.Native.Nat.{ℕ, suc, ◌+◌, ◌<◌, ◌≤◌}
use native.Mathlib.Nat.{eq-or-lt_of_le}
use borrow.Author.Tests.{ltb-true, ltb-false, eqb-true, eqb-false, leb-true, leb-false, le-leb, lt-leb}
use lib.Dec.{leb, ltb, eqb}
use lib.ListN.{length, drop}
use Rattle.rules.specs.declared.Rules.{Rules}
use Rattle.line.specs.Lines.{feeds, reach}
use Rattle.count.specs.Tally.{record_lines}
use Rattle.count.specs.Rules.{release_of, ruling_of}
use Rattle.count.specs.Check.{accepted_of}
use Rattle.count.specs.Due.{ReleaseDue, Released, broken_rule, AcceptedDue}
use Rattle.count.proofs.Due.{accepted_first_due}
use Rattle.count.proofs.Rulings.{kept_ruling, ruling_kept, broken_ruling, ruling_broken}
use Rattle.count.proofs.Releases.{release_given, release_due}
use Rattle.place.specs.declared.Placing.{Placing}
use Rattle.reply.specs.declared.Refusal.{Refusal}
use Rattle.reply.specs.declared.Refusal.TheVariants.{End, Beyond, TooFewLines, OtherRelease, FilledVacant}
use Rattle.place.specs.declared.Placing.TheVariants.{Placed, BrokenRule, Refused}
use Rattle.place.specs.Index.{Indexed, counts, misformed, read_index}
use Rattle.place.specs.Parts.{start, group_part}
use Rattle.place.specs.Placing.{Located, located, refused, locate, locate_index, locate_release, locate_lines}
use Rattle.place.specs.Placing.{placing_by, counts_by, places_by, ruled_at, placing_of, counts_at, starts_at, ends_at}
use Rattle.place.specs.Due.{HasIndex, HasEntries, HasRelease, HasLines, NoneStands, CountsDue, GroupStands, PlacesDue}
use Rattle.place.specs.Due.{RefusedFor, beyond, text_end, few_for_index, few_for_data, bad_index, bad_release, fills_vacant, Due}
use Rattle.place.specs.Numbered.{as_checked}
use Rattle.place.proofs.Indexed.{index_is, no_index, index_counts}
use Rattle.place.proofs.Placed.{no_record, located_is}
use Rattle.place.proofs.Spans.{each_length, each_at, is_each}
use Rattle.place.proofs.Steps.{locate_beyond, locate_end, locate_few, locate_index_lem}
use Rattle.place.proofs.Tiling.{is_part, part_end_lem, part_is}

module _ (ρ : Rules) (s : List ℕ) (at : ℕ) where
  -- ---- what is due is given

  to_counts : (ns : List ℕ) → HasEntries ρ s at ns → locate ρ s at ≡ locate_release ρ (drop at s) at ns (release_of ns)
  to_counts ns h = locate_index_lem ρ s at h.place.inside h.place.lines ∙ rw ((index_is ρ (drop at s) ns).1 h.index)

  to_lines : (ns : List ℕ) → HasRelease ρ s at ns → locate ρ s at ≡ locate_lines ρ (drop at s) at ns
  to_lines ns h = to_counts ns h.index ∙ rw (release_given ns (Ok tt) h.release)

  to_located : (ns : List ℕ) (n : ℕ) → HasLines ρ s at ns n → locate ρ s at ≡ located n ns
  to_located ns n h =
      to_lines ns h.head
      ∙ rw (le-leb (record_lines ρ ns) (feeds (drop at s)) h.enough) (ap (λ m. located m ns) (sym h.next))

  given_refusal : (r : Refusal) → RefusedFor ρ s at r → placing_by (locate ρ s at) ≡ Refused r
  given_refusal r (beyond d) = rw (locate_beyond ρ s at d)
  given_refusal r (text_end d) = rw (locate_end ρ s at d)
  given_refusal r (few_for_index d) = ap placing_by (locate_few ρ s at d.inside d.few)
  given_refusal r (few_for_data d) = ap placing_by (to_lines d.ns d.head) ∙ rw (lt-leb (record_lines ρ d.ns) (feeds (drop at s)) d.few)
  given_refusal r (bad_index d) = ap placing_by (locate_index_lem ρ s at d.place.inside d.place.lines) ∙ rw ((no_index ρ (drop at s)).1 d.none)
  given_refusal r (bad_release d) = ap placing_by (to_counts d.ns d.index) ∙ rw (release_given d.ns (Err OtherRelease) d.other)
  given_refusal r (fills_vacant g d) = ap placing_by (to_counts d.ns d.index) ∙ rw (release_given d.ns (Err (FilledVacant g)) d.filled)

  given : (p : Placing) → Due ρ s at p → placing_by (locate ρ s at) ≡ p
  given (Refused r) d = given_refusal r d
  given (BrokenRule g n) d = ap placing_by (to_located d.ns n d.lines) ∙ rw (broken_ruling d.ns d.broken)
  given (Placed n) d = ap placing_by (to_located d.ns n d.lines) ∙ rw (kept_ruling d.ns d.kept)

  -- ---- what is given is due

  from_ruling : (ns : List ℕ) (n : ℕ) (k : Option ℕ) → HasLines ρ s at ns n → ruling_of ns ≡ k → Due ρ s at (ruled_at n k)
  from_ruling ns n None h e = record { ns = ns; lines = h; kept = ruling_kept ns e }
  from_ruling ns n (Some g) h e = record { ns = ns; lines = h; broken = ruling_broken ns e }

  from_lines : (ns : List ℕ) (t : Bool) → HasRelease ρ s at ns → leb (record_lines ρ ns) (feeds (drop at s)) ≡ t
      → Due ρ s at (placing_by (cond t (located (at + reach (drop at s) (record_lines ρ ns)) ns) (refused TooFewLines)))
  from_lines ns true h e =
      from_ruling ns (at + reach (drop at s) (record_lines ρ ns)) (ruling_of ns) record { head = h; enough = leb-true (record_lines ρ ns) (feeds (drop at s)) e; next = refl } refl
  from_lines ns false h e = few_for_data record { ns = ns; head = h; few = leb-false (record_lines ρ ns) (feeds (drop at s)) e }

  from_release : (ns : List ℕ) (r : Result (Unit {0}) Refusal) → HasEntries ρ s at ns → ReleaseDue ns r → Due ρ s at (placing_by (locate_release ρ (drop at s) at ns r))
  from_release ns (Ok five) h f =
      from_lines ns (leb (record_lines ρ ns) (feeds (drop at s))) record { index = h; release = f } refl
  from_release ns (Err OtherRelease) h f = bad_release record { ns = ns; index = h; other = f }
  from_release ns (Err (FilledVacant g)) h f = fills_vacant g record { ns = ns; index = h; filled = f }
  from_release ns (Err _) h f = absurd f

  from_index : (q : Indexed) → HasIndex ρ s at → read_index ρ (drop at s) ≡ q → Due ρ s at (placing_by (locate_index ρ (drop at s) at q))
  from_index (counts ns) h e = from_release ns (release_of ns) record { place = h; index = (index_is ρ (drop at s) ns).0 e } (release_due ns)
  from_index misformed h e = bad_index record { place = h; none = (no_index ρ (drop at s)).0 e }

  is_due : Due ρ s at (placing_by (locate ρ s at))
  unfolding locate
  is_due = by (ltb (length s) at) (eqb (length s) at) (leb 2 (feeds (drop at s))) refl refl refl
    where
      inner : ltb (length s) at ≡ false → eqb (length s) at ≡ false → at < length s
      inner u v = ⊎_elim (λ (e : at ≡ length s). absurd (eqb-false (length s) at v (sym e))) (λ l. l) (eq-or-lt_of_le (ltb-false (length s) at u))

      by : (a b c : Bool) → ltb (length s) at ≡ a → eqb (length s) at ≡ b → leb 2 (feeds (drop at s)) ≡ c
          → Due ρ s at (placing_by (cond a (refused Beyond) (cond b (refused End) (cond c (locate_index ρ (drop at s) at (read_index ρ (drop at s))) (refused TooFewLines)))))
      by true b c u v w = beyond (ltb-true (length s) at u)
      by false true c u v w = text_end (eqb-true (length s) at v)
      by false false false u v w = few_for_index record { inside = inner u v; few = leb-false 2 (feeds (drop at s)) w }
      by false false true u v w = from_index (read_index ρ (drop at s)) record { inside = inner u v; lines = leb-true 2 (feeds (drop at s)) w } refl

  -- the reply that is given is the one that is due, and no other is
  pub first_due : (p : Placing) → placing_of ρ s at ≡ p ↔ Due ρ s at p
  unfolding placing_of
  first_due p = (λ e. subst (Due ρ s at) e is_due, given p)

  -- what is refused
  pub refused_due : (r : Refusal) → locate ρ s at ≡ refused r → RefusedFor ρ s at r
  refused_due r e = subst (Due ρ s at) (ap placing_by e) is_due

  -- ---- the counts

  located_lines : (n : ℕ) (ns : List ℕ) → locate ρ s at ≡ located n ns → HasLines ρ s at ns n
  located_lines n ns e =
      let p = located_is ρ s at n ns e in
      record {
        head = record {
          index = record { place = record { inside = p.inside; lines = p.head }; index = (index_is ρ (drop at s) ns).0 p.index };
          release = rw p.release at (release_due ns);
        };
        enough = p.many;
        next = p.next;
      }

  -- where none stands none is located, and where none is located none stands
  none_located : {A : Type 0} → NoneStands ρ s at → (n : ℕ) (ns : List ℕ) → locate ρ s at ≡ located n ns → A
  none_located none n ns e = absurd (none ns record { next = n; lines = located_lines n ns e })

  refused_none : (r : Refusal) → locate ρ s at ≡ refused r → NoneStands ρ s at
  refused_none r e ns h = no_record (sym e ∙ to_located ns h.next h.lines)

  counts_given : (ns : List ℕ) → CountsDue ρ s at ns → counts_by (locate ρ s at) ≡ ns
  counts_given ns (inl r) = ap counts_by (to_located ns r.next r.lines)
  counts_given ns (inr n) = by (locate ρ s at) refl
    where
      by : (l : Located) → locate ρ s at ≡ l → counts_by l ≡ ns
      by (located m ms) e = none_located n.none m ms e
      by (refused r) e = sym n.zeros

  counts_due : CountsDue ρ s at (counts_by (locate ρ s at))
  counts_due = by (locate ρ s at) refl
    where
      by : (l : Located) → locate ρ s at ≡ l → CountsDue ρ s at (counts_by l)
      by (located n ns) e = inl record { next = n; lines = located_lines n ns e }
      by (refused r) e = inr record { none = refused_none r e; zeros = refl }

  pub counts_first_due : (ns : List ℕ) → counts_at ρ s at ≡ ns ↔ CountsDue ρ s at ns
  unfolding counts_at
  counts_first_due ns = (λ e. subst (CountsDue ρ s at) e counts_due, counts_given ns)

  -- ---- the places

  group_there : (ns : List ℕ) (g : ℕ) {from to : ℕ} → 1 ≤ g → g ≤ 60 → GroupStands ρ s at ns g from to → (from ≡ start ρ s at ns g) × (to ≡ start ρ s at ns (suc g))
  group_there ns g low high h =
      let p = is_part ρ s at ns g _ h.lines low high h.part in
      (p.0, h.ends ∙ ap₂ (λ n x. n + length x) p.0 p.1 ∙ sym (part_end_lem ρ s at ns g))

  places_given : (a b : List ℕ) → PlacesDue ρ s at a b → (starts_at ρ s at ≡ a) × (ends_at ρ s at ≡ b)
  unfolding starts_at ends_at
  places_given a b (inl h) =
      rw (to_located h.ns h.stands.next h.stands.lines) (
        is_each (start ρ s at h.ns) a h.many_starts (λ g low high. (group_there h.ns g low high (h.each g low high)).0),
        is_each (λ g. start ρ s at h.ns (suc g)) b h.many_ends (λ g low high. (group_there h.ns g low high (h.each g low high)).1),
      )
  places_given a b (inr n) = by (locate ρ s at) refl
    where
      by : (l : Located) → locate ρ s at ≡ l → (places_by (start ρ s at) l ≡ a) × (places_by (λ ns g. start ρ s at ns (suc g)) l ≡ b)
      by (located m ms) e = none_located n.none m ms e
      by (refused r) e = (sym n.zero_starts, sym n.zero_ends)

  places_due : PlacesDue ρ s at (starts_at ρ s at) (ends_at ρ s at)
  unfolding starts_at ends_at
  places_due = by (locate ρ s at) refl
    where
      by : (l : Located) → locate ρ s at ≡ l → PlacesDue ρ s at (places_by (start ρ s at) l) (places_by (λ ns g. start ρ s at ns (suc g)) l)
      by (located n ns) e = inl record {
        ns = ns;
        stands = record { next = n; lines = located_lines n ns e };
        many_starts = each_length (start ρ s at ns);
        many_ends = each_length (λ g. start ρ s at ns (suc g));
        each = λ g low high. rw (each_at (start ρ s at ns) g low high, each_at (λ h. start ρ s at ns (suc h)) g low high)
            record { lines = group_part ρ s at ns g; part = part_is ρ s at n ns e g low high; ends = part_end_lem ρ s at ns g };
      }
      by (refused r) e = inr record { none = refused_none r e; zero_starts = refl; zero_ends = refl }

  pub places_first_due : (starts ends : List ℕ) → ((starts_at ρ s at ≡ starts) × (ends_at ρ s at ≡ ends)) ↔ PlacesDue ρ s at starts ends
  places_first_due starts ends = (λ e. subst (λ b. PlacesDue ρ s at starts b) e.1 (subst (λ a. PlacesDue ρ s at a (ends_at ρ s at)) e.0 places_due), places_given starts ends)

  -- R302: the check of counts finds in those of a record what placing does: of its refusals only 7 is left
  pub located_accepted : (n : ℕ) (ns : List ℕ) → locate ρ s at ≡ located n ns → accepted_of ns ≡ as_checked (ruled_at n (ruling_of ns))
  located_accepted n ns e = (accepted_first_due ns (as_checked (ruled_at n (ruling_of ns)))).1 (by (ruling_of ns) refl)
    where
      released : Released ns (Ok tt)
      released = let h = (located_lines n ns e).head in record { counts = index_counts ρ (drop at s) ns h.index.index; release = h.release }

      by : (k : Option ℕ) → ruling_of ns ≡ k → AcceptedDue ns (as_checked (ruled_at n k))
      by None u = record { released = released; kept = ruling_kept ns u }
      by (Some g) u = broken_rule g record { released = released; broken = ruling_broken ns u }
