-- First due: a call, and a replay, gives a reply exactly if that reply is due, and leaves exactly what is due (specs/Due.antt).
-- Assumes nothing.
use Rattle.std.specs.Prelude.{Result, Ok, Err}
use mathlib.Core.Path.{◌≡◌, refl, sym, ◌∙◌, ap, subst}
use mathlib.Core.Bool.{Bool, true, false, cond, true≢false}
use mathlib.Core.List.{List}
use mathlib.Core.Logic.{◌↔◌}
use Prim.Native.Nat.{ℕ, ◌+◌, ◌-◌, ◌≤◌}
use native.Mathlib.Omega.{arith}
use borrow.Author.Tests.{eq-eqb, ne_eqb, eqb-true, eqb-false, lt-ltb, le-ltb, ltb-true, ltb-false}
use lib.Dec.{eqb, ltb}
use lib.IntN.{ℤ}
use lib.ListN.{length, take, length-take}
use Rattle.rules.specs.declared.Rules.{Rules}
use Rattle.base.specs.Part.{over}
use Rattle.reply.specs.declared.Refusal.{Refusal}
use Rattle.reply.specs.declared.Refusal.TheVariants.{NoRoom, BadEntry}
use Rattle.count.specs.Check.{checked_of, and_then}
use Rattle.count.specs.Due as Counts
use Rattle.count.proofs.Due as Counted
use Rattle.entry.specs.declared.Entry.{Entry}
use Rattle.entry.specs.declared.Entry.TheVariants.{Set}
use Rattle.entry.specs.Field.{entry_text, entry_size, field_at}
use Rattle.entry.proofs.Codec.{length_text}
use Rattle.journal.specs.Layout.{starts_of, get_at}
use Rattle.journal.specs.Model.{Call, Sets, Opens, Releases, Undoes, accepts, refusal_of, bytes_for, number_for, decided}
use Rattle.journal.specs.Walks.{Walked}
use Rattle.journal.specs.Calls.{whole, entry_for, cells_for, walk_in, standing_of, answer_of}
use Rattle.journal.specs.Plays.{played_by, Played, play_in, replay_of, replayed_cells, replayed_open}
use Rattle.journal.specs.Order.{Accepted, RightEntry, cells_behind, Goes}
use Rattle.journal.specs.Runs.{Kept, kept, answer_to, left_by}
use Rattle.journal.specs.Due.{AllUsed, Faulty, AllInOrder, Standing, RefusedFor, wrong_counts, bad_entry, unaccepted, no_room, Due}
use Rattle.journal.specs.Due.{field_for, CallLeaves, LeftDue}
use Rattle.journal.specs.Due.{AllReplayed, ReplayRefusedFor, replay_counts, replay_entry, ReplayDue, ReplayLeftDue}
use Rattle.journal.proofs.Order.{spot_at, accepted_yes, yes_accepted, no_accepted, played_behind, past, Stops, goes_one, walk_ends, order_before, play_ends}

-- ---- the counts, and where the fields stop to be in order

module _ (ρ : Rules) (ns : List ℕ) (cells used place : ℕ) where
  checks : Result (Unit {0}) Refusal
  checks = and_then (checked_of ρ ns cells) (whole place used)

  checks_right : Counts.HasCells ρ ns cells → place ≡ used → checks ≡ Ok tt
  unfolding checks
  checks_right h q = rw ((Counted.first_due ρ ns cells (Ok tt)).1 h, eq-eqb place used q)

  checks_counts : (r : Refusal) → Counts.RefusedFor ρ ns cells r → checks ≡ Err r
  unfolding checks
  checks_counts r h = rw ((Counted.first_due ρ ns cells (Err r)).1 h)

  checks_entry : Counts.HasCells ρ ns cells → (place ≡ used → ⊥) → checks ≡ Err (BadEntry place)
  unfolding checks
  checks_entry h n = rw ((Counted.first_due ρ ns cells (Ok tt)).1 h, ne_eqb place used n)

  -- one of the three
  pub data Which : Result (Unit {0}) Refusal → Type 0 where
    stands : Counts.HasCells ρ ns cells → place ≡ used → Which (Ok tt)
    counts : (r : Refusal) → Counts.RefusedFor ρ ns cells r → Which (Err r)
    entry : Counts.HasCells ρ ns cells → (place ≡ used → ⊥) → Which (Err (BadEntry place))

  which : Which checks
  unfolding checks
  which = by (checked_of ρ ns cells) refl
    where
      place_by : (t : Bool) → Counts.HasCells ρ ns cells → eqb place used ≡ t → Which (cond t (Ok tt) (Err (BadEntry place)))
      place_by true h e = stands h (eqb-true place used e)
      place_by false h e = entry h (eqb-false place used e)

      by : (c : Result (Unit {0}) Refusal) → checked_of ρ ns cells ≡ c → Which (and_then c (whole place used))
      by (Ok done) e = place_by (eqb place used) ((Counted.first_due ρ ns cells (Ok tt)).0 e) refl
      by (Err r) e = counts r ((Counted.first_due ρ ns cells (Err r)).0 e)

-- ---- a call

some_bytes : (c : Call) → 1 ≤ bytes_for c
some_bytes (Sets g i v) = omega arith
some_bytes Opens = omega arith
some_bytes (Releases k) = omega arith
some_bytes (Undoes k) = omega arith

-- steps from the first state up to the end, where none is right
module _ {S : Type 0} {right : S → Type 0} {next : S → S} {first end : S} (st : Stops S right next first end) (place : S → ℕ) (used : ℕ) where
  used_is : (x : S) → (place x ≡ used → right x → ⊥) → AllUsed S place (Goes S right next first) right used x → x ≡ end
  used_is x past h = goes_one h.fields (past h.ends) st.goes st.stuck

  fault_given : (ρ : Rules) (ns : List ℕ) (cells p : ℕ) → Counts.HasCells ρ ns cells → Faulty S place (Goes S right next first) right used p
      → checks ρ ns cells used (place end) ≡ Err (BadEntry p)
  fault_given ρ ns cells p c h =
      let q = ap place (goes_one st.goes st.stuck h.fields h.fault) ∙ h.stops in
      checks_entry ρ ns cells used (place end) c (λ e. h.other (sym q ∙ e)) ∙ ap (λ x. Err (BadEntry x)) q

  all_used : place end ≡ used → AllUsed S place (Goes S right next first) right used end
  all_used q = record { fields = st.goes; ends = q }

  faulty : (place end ≡ used → ⊥) → Faulty S place (Goes S right next first) right used (place end)
  faulty n = record { before = end; fields = st.goes; stops = refl; other = n; fault = st.stuck }

module _ (ρ : Rules) (ns j : List ℕ) (used : ℕ) where
  -- no field stands where the bytes used end
  ended : (d p : ℕ) → p ≡ used → RightEntry ρ ns d (field_at (take used j) p) → ⊥
  ended d p q = past ρ ns (take used j) p d (omega (arith, length-take used j))

  order_is : (w : Walked) → AllInOrder ρ ns j used w → w ≡ walk_in ρ ns j used
  order_is w h = used_is (walk_ends ρ ns (take used j)) (λ x. x.place) used w (ended (length w.marks) w.place) h

module _ (ρ : Rules) (ns j : List ℕ) (used cells : ℕ) (c : Call) where
  abbrev stop : ℕ
  stop = (walk_in ρ ns j used).place

  abbrev opened : ℕ
  opened = length (walk_in ρ ns j used).marks

  to_decided : Counts.HasCells ρ ns cells → stop ≡ used → answer_of ρ ns j used cells c ≡ decided (starts_of ρ ns) c opened (length j - used)
  unfolding answer_of standing_of checks
  to_decided h q = rw (checks_right ρ ns cells used stop h q)

  to_refused : (r : Refusal) → checks ρ ns cells used stop ≡ Err r → answer_of ρ ns j used cells c ≡ Err r
  unfolding answer_of standing_of checks
  to_refused r e = rw e

  stop_is : (w : Walked) → Standing ρ ns j used cells w → stop ≡ used
  stop_is w h = ap (λ x. x.place) (sym (order_is ρ ns j used w h.fields)) ∙ h.fields.ends

  refusal_given : (r : Refusal) → RefusedFor ρ ns j used cells c r → answer_of ρ ns j used cells c ≡ Err r
  refusal_given r (wrong_counts q h) = to_refused q (checks_counts ρ ns cells used stop q h)
  refusal_given r (bad_entry p h f) = to_refused (BadEntry p) (fault_given (walk_ends ρ ns (take used j)) (λ x. x.place) used ρ ns cells p h f)
  refusal_given r (unaccepted w h n) =
      let m = subst (λ x. Accepted ρ ns (length x.marks) c → ⊥) (order_is ρ ns j used w h.fields) n in
      to_decided h.table (stop_is w h) ∙ rw (no_accepted ρ ns opened c m)
  refusal_given r (no_room w h a l) =
      let b = subst (λ x. Accepted ρ ns (length x.marks) c) (order_is ρ ns j used w h.fields) a in
      to_decided h.table (stop_is w h)
      ∙ rw (accepted_yes ρ ns opened c b, lt-ltb (length j - used) (bytes_for c) (omega (arith, some_bytes c)))

  given : (a : Result ℕ Refusal) → Due ρ ns j used cells c a → answer_of ρ ns j used cells c ≡ a
  given (Ok k) h =
      let q = order_is ρ ns j used h.last h.standing.fields in
      let b = subst (λ x. Accepted ρ ns (length x.marks) c) q h.accepted in
      to_decided h.standing.table (stop_is h.last h.standing)
      ∙ rw (accepted_yes ρ ns opened c b, le-ltb (length j - used) (bytes_for c) (omega (arith, h.room)))
      (ap Ok (ap (λ x. number_for c (length x.marks)) (sym q) ∙ sym h.number))
  given (Err r) h = refusal_given r h

  from_decided : Standing ρ ns j used cells (walk_in ρ ns j used) → Due ρ ns j used cells c (decided (starts_of ρ ns) c opened (length j - used))
  from_decided h = by (accepts (starts_of ρ ns) c opened) (ltb (length j - used) (bytes_for c)) refl refl
    where
      by : (a b : Bool) → accepts (starts_of ρ ns) c opened ≡ a → ltb (length j - used) (bytes_for c) ≡ b
          → Due ρ ns j used cells c (cond a (cond b (Err NoRoom) (Ok (number_for c opened))) (Err (refusal_of c)))
      by true true a b =
          no_room (walk_in ρ ns j used) h (yes_accepted ρ ns opened c a) (omega (arith, ltb-true (length j - used) (bytes_for c) b))
      by true false a b =
          record {
            last = walk_in ρ ns j used;
            standing = h;
            accepted = yes_accepted ρ ns opened c a;
            room = omega (arith, ltb-false (length j - used) (bytes_for c) b, some_bytes c);
            number = refl;
          }
      by false b a f = unaccepted (walk_in ρ ns j used) h (λ k. true≢false (sym (accepted_yes ρ ns opened c k) ∙ a))

  is_due : Due ρ ns j used cells c (answer_of ρ ns j used cells c)
  is_due = by (checks ρ ns cells used stop) (which ρ ns cells used stop) refl
    where
      by : (x : Result (Unit {0}) Refusal) → Which ρ ns cells used stop x → checks ρ ns cells used stop ≡ x → Due ρ ns j used cells c (answer_of ρ ns j used cells c)
      by x (stands h q) e = subst (Due ρ ns j used cells c) (sym (to_decided h q)) (from_decided record { table = h; fields = all_used (walk_ends ρ ns (take used j)) (λ x. x.place) used q })
      by x (counts r h) e = subst (Due ρ ns j used cells c) (sym (to_refused r e)) (wrong_counts r h)
      by x (entry h n) e = subst (Due ρ ns j used cells c) (sym (to_refused (BadEntry stop) e)) (bad_entry stop h (faulty (walk_ends ρ ns (take used j)) (λ x. x.place) used n))

  -- the reply that is given is the one that is due, and no other is
  pub first_due : (a : Result ℕ Refusal) → answer_of ρ ns j used cells c ≡ a ↔ Due ρ ns j used cells c a
  first_due a = (λ e. subst (Due ρ ns j used cells c) e is_due, given a)

-- ---- what a call leaves

module _ (ρ : Rules) (ns : List ℕ) (d : ℕ) (t : List ℤ) where
  entry_field : (c : Call) → Accepted ρ ns d c → entry_for (starts_of ρ ns) c d t ≡ field_for ρ ns d t c
  entry_field (Sets g i v) h = ap (λ p. Set g i (get_at p t) v) (spot_at ρ ns g i h)
  entry_field Opens h = refl
  entry_field (Releases k) h = refl
  entry_field (Undoes k) h = refl

  field_size : (c : Call) → entry_size (field_for ρ ns d t c) ≡ bytes_for c
  field_size (Sets g i v) = refl
  field_size Opens = refl
  field_size (Releases k) = refl
  field_size (Undoes k) = refl

  field_right : (c : Call) → Accepted ρ ns d c → RightEntry ρ ns d (field_for ρ ns d t c)
  field_right (Sets g i v) h = h
  field_right Opens h = (h, refl)
  field_right (Releases k) h = h
  field_right (Undoes k) h = h

-- what a call leaves is what a replay of its field does
cells_played : (ρ : Rules) (ns : List ℕ) (d : ℕ) (c : Call) (s : List ℕ) (w : Walked) (t : List ℤ)
    → cells_for (starts_of ρ ns) c s w t ≡ played_by (starts_of ρ ns) (field_for ρ ns d t c) s w.count w.marks t
cells_played ρ ns d (Sets g i v) s w t = refl
cells_played ρ ns d Opens s w t = refl
cells_played ρ ns d (Releases k) s w t = refl
cells_played ρ ns d (Undoes k) s w t = refl

module _ (ρ : Rules) (ns : List ℕ) (c : Call) (k : Kept) where
  abbrev w : Walked
  w = walk_in ρ ns k.journal k.used

  abbrev s : List ℕ
  s = take k.used k.journal

  module _ (accepted : Accepted ρ ns (length w.marks) c) (fields : AllInOrder ρ ns k.journal k.used w) where
    abbrev e : Entry
    e = field_for ρ ns (length w.marks) k.cells c

    field_is : entry_for (starts_of ρ ns) c (length w.marks) k.cells ≡ e
    field_is = entry_field ρ ns (length w.marks) k.cells c accepted

    bytes_is : k.used + length (entry_text e) ≡ k.used + bytes_for c
    bytes_is = ap (λ m. k.used + m) (length_text e ∙ field_size ρ ns (length w.marks) k.cells c)

    cells_is : cells_for (starts_of ρ ns) c s w k.cells ≡ cells_behind ρ ns s w.count w.marks e k.cells
    cells_is =
        cells_played ρ ns (length w.marks) c s w k.cells
        ∙ played_behind ρ ns s e k.cells (order_before ρ ns s w fields.fields) (field_right ρ ns (length w.marks) k.cells c accepted)

    leaves : (n : ℕ) → CallLeaves ρ ns c k (left_by ρ ns c k (Ok n))
    leaves n =
        record {
          last = w;
          fields = fields;
          adds = record { journal = ap (λ x. over k.used (entry_text x) k.journal) field_is; used = sym bytes_is };
          cells = cells_is;
        }

    left_only : (n : ℕ) (k' : Kept) → CallLeaves ρ ns c k k' → left_by ρ ns c k (Ok n) ≡ k'
    left_only n k' h =
        let q = sym (order_is ρ ns k.journal k.used h.last h.fields) in
        let field : Walked → Entry = λ x. field_for ρ ns (length x.marks) k.cells c in
        let cells = cells_is ∙ ap (λ x. cells_behind ρ ns s x.count x.marks (field x) k.cells) q ∙ sym h.cells in
        let text = ap (λ x. over k.used (entry_text x) k.journal) (field_is ∙ ap field q) ∙ sym h.adds.journal in
        let used = sym bytes_is ∙ ap (λ x. k.used + length (entry_text (field x))) q ∙ sym h.adds.used in
        λ i. kept (cells i) (text i) (used i)

  -- what is left by the answer that is given is what is due, and nothing else is
  pub left_due : (a : Result ℕ Refusal) (k' : Kept) → answer_to ρ ns c k ≡ a → left_by ρ ns c k a ≡ k' ↔ LeftDue ρ ns c k a k'
  left_due (Err r) k' e = (λ q. sym q, λ q. sym q)
  left_due (Ok n) k' e =
      let d = (first_due ρ ns k.journal k.used (length k.cells) c (Ok n)).0 e in
      let q = order_is ρ ns k.journal k.used d.last d.standing.fields in
      let accepted = subst (λ x. Accepted ρ ns (length x.marks) c) q d.accepted in
      let fields = subst (AllInOrder ρ ns k.journal k.used) q d.standing.fields in
      (λ p. subst (CallLeaves ρ ns c k) p (leaves accepted fields n), left_only accepted fields n k')

-- ---- a replay

module _ (ρ : Rules) (ns j : List ℕ) (used : ℕ) (t : List ℤ) where
  abbrev run : Played
  run = play_in ρ ns j used t

  replay_order_is : (x : Played) → AllReplayed ρ ns j used t x → x ≡ run
  replay_order_is x h = used_is (play_ends ρ ns (take used j) t) (λ y. y.place) used x (λ q r. ended ρ ns j used (length x.marks) x.place q r.0) h

  replay_refusal : (r : Refusal) → ReplayRefusedFor ρ ns j used t r → checks ρ ns (length t) used run.place ≡ Err r
  replay_refusal r (replay_counts q h) = checks_counts ρ ns (length t) used run.place q h
  replay_refusal r (replay_entry p h f) = fault_given (play_ends ρ ns (take used j) t) (λ x. x.place) used ρ ns (length t) p h f

  replay_given : (a : Result (Unit {0}) Refusal) → ReplayDue ρ ns j used t a → checks ρ ns (length t) used run.place ≡ a
  replay_given (Ok done) h =
      checks_right ρ ns (length t) used run.place h.table (ap (λ x. x.place) (sym (replay_order_is h.last h.fields)) ∙ h.fields.ends)
  replay_given (Err r) h = replay_refusal r h

  replay_is : replay_of ρ ns j used t ≡ checks ρ ns (length t) used run.place
  unfolding replay_of checks
  replay_is = refl

  replay_due : (a : Result (Unit {0}) Refusal) → Which ρ ns (length t) used run.place a → ReplayDue ρ ns j used t a
  replay_due a (stands h q) = record { table = h; last = run; fields = all_used (play_ends ρ ns (take used j) t) (λ x. x.place) used q }
  replay_due a (counts r h) = replay_counts r h
  replay_due a (entry h n) = replay_entry run.place h (faulty (play_ends ρ ns (take used j) t) (λ x. x.place) used n)

  pub replay_first_due : (a : Result (Unit {0}) Refusal) → replay_of ρ ns j used t ≡ a ↔ ReplayDue ρ ns j used t a
  replay_first_due a = (
    λ e. subst (ReplayDue ρ ns j used t) (sym replay_is ∙ e) (replay_due (checks ρ ns (length t) used run.place) (which ρ ns (length t) used run.place)),
    λ h. replay_is ∙ replay_given a h,
  )

  -- and what it leaves
  pub replay_left_due : (a : Result (Unit {0}) Refusal) (t' : List ℤ) (d : ℕ) → replay_of ρ ns j used t ≡ a
      → ((replayed_cells ρ ns j used t a ≡ t') × (replayed_open ρ ns j used t a ≡ d)) ↔ ReplayLeftDue ρ ns j used t a t' d
  replay_left_due (Err r) t' d e = (λ q. (sym q.0, sym q.1), λ q. (sym q.0, sym q.1))
  replay_left_due (Ok done) t' d e =
      let h = (replay_first_due (Ok tt)).0 e in
      let q = replay_order_is h.last h.fields in (
        λ p. record { last = run; fields = subst (AllReplayed ρ ns j used t) q h.fields; cells = sym p.0; opened = sym p.1 },
        λ l.
            let z = replay_order_is l.last l.fields in
            (ap (λ x. x.cells) (sym z) ∙ sym l.cells, ap (λ x. length x.marks) (sym z) ∙ sym l.opened),
      )
