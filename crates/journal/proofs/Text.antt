-- The bytes of a journal that calls made: a walk finds all of it in order, with its own marks; going back over the bytes is going back over
-- the entries; and a field more.
-- Assumes nothing.
use mathlib.Core.Path.{◌≡◌, refl, sym, ap, ◌∙◌}
use mathlib.Core.Bool.{true}
use mathlib.Core.List.{List, [], ◌∷◌, ◌++◌, append_assoc, append-nil}
use Prim.Native.Nat.{ℕ, zero, suc, ◌+◌, ◌≤◌}
use native.Mathlib.Omega.{arith}
use lib.IntN.{ℤ}
use lib.ListN.{length, drop, take, length-append}
use lib.Seq.{drop_at, take_at, length-take-le}
use borrow.Author.Tests.{lt-ltb}
use Rattle.base.specs.Part.{over}
use Rattle.entry.specs.declared.Entry.{Entry}
use Rattle.entry.specs.Field.{entry_text, entry_size, entry_in, field_at}
use Rattle.entry.specs.Codec.{Sized}
use Rattle.entry.proofs.Codec.{length_text, field_text_lem}
use Rattle.journal.specs.Entries.{mark_step, marks_from, marks_of, restore, journal_text, entries_at, place_at, back_to}
use Rattle.journal.specs.Walks.{ok_entry, walked, walk_from, walk_of}
use Rattle.journal.proofs.Places.{entries_from}
use Rattle.journal.proofs.Walking.{ok_size, walk_end}

-- each entry has a field of its own, and its call is accepted where it stands
pub data Fine (ps : List ℕ) : List Entry → ℕ → List ℕ → Type 0 where
  fine_none : {i : ℕ} {ms : List ℕ} → Fine ps [] i ms
  fine_more : {e : Entry} {es : List Entry} {i : ℕ} {ms : List ℕ} → Sized e → ok_entry ps e (length ms) ≡ true → Fine ps es (i + 1) (mark_step e i ms) → Fine ps (e ∷ es) i ms

module _ {ps : List ℕ} where
  pub fine_last : {es : List Entry} {i : ℕ} {ms : List ℕ} (e : Entry) → Sized e → Fine ps es i ms → ok_entry ps e (length (marks_from es i ms)) ≡ true → Fine ps (es ++ (e ∷ [])) i ms
  unfolding marks_from
  fine_last e h fine_none o = fine_more h o fine_none
  fine_last e h (fine_more k q r) o = fine_more k q (fine_last e h r o)

  pub text_length : {es : List Entry} {i : ℕ} {ms : List ℕ} → Fine ps es i ms → length es ≤ length (journal_text es)
  unfolding journal_text
  text_length fine_none = omega arith
  text_length {es = e ∷ es} {ms = ms} (fine_more h o r) = omega (arith, text_length r, length-append (entry_text e) (journal_text es), length_text e, ok_size ps (length ms) e o)

  -- the walk over a journal's bytes, from where p ends, with f fields to go at most
  walk_text : (es : List Entry) (i : ℕ) (ms p s : List ℕ) (f : ℕ) → Fine ps es i ms → (s ≡ p ++ journal_text es) × (length es ≤ f)
      → walk_from f ps s (length p) i ms ≡ walked (length s) (i + length es) (marks_from es i ms)
  unfolding marks_from journal_text walk_from
  walk_text [] i ms p s f fine_none h =
      let a : length p ≡ length s = sym (ap length (h.0 ∙ append-nil p)) in
      let z : i + 0 ≡ i = omega arith in
      walk_end f ps s (length p) i ms (omega arith) ∙ rw (a, z)
  walk_text (e ∷ es) i ms p s zero r h = absurd (omega (arith, h.1))
  walk_text (e ∷ es) i ms p s (suc f) (fine_more k o r) h =
      let q = h.0 in
      let d : drop (length p) s ≡ entry_text e ++ journal_text es = ap (drop (length p)) q ∙ drop_at p (entry_text e ++ journal_text es) (length p) refl in
      let x : field_at s (length p) ≡ e = ap entry_in d ∙ field_text_lem e (journal_text es) k in
      let t = ok_size ps (length ms) e o in
      let y : length s ≡ length p + (entry_size e + length (journal_text es)) =
      ap length q ∙ length-append p (entry_text e ++ journal_text es) ∙ ap (λ m. length p + m) (length-append (entry_text e) (journal_text es)) ∙ rw (length_text e) in
      let m : length (p ++ entry_text e) ≡ length p + entry_size e = length-append p (entry_text e) ∙ rw (length_text e) in
      let q' : s ≡ (p ++ entry_text e) ++ journal_text es = q ∙ sym (append_assoc p (entry_text e) (journal_text es)) in
      let z : i + suc (length es) ≡ i + 1 + length es = omega arith in
      let n = walk_text es (i + 1) (mark_step e i ms) (p ++ entry_text e) s f r (q', omega (arith, h.1)) in
      rw (lt-ltb (length p) (length s) (omega arith), x, o, z) (rw m at n)

  pub walk_journal : (es : List Entry) → Fine ps es 0 [] → walk_of ps (journal_text es) ≡ walked (length (journal_text es)) (length es) (marks_of es)
  unfolding walk_of
  walk_journal es r =
      let z : 0 + length es ≡ length es = omega arith in
      walk_text es 0 [] [] (journal_text es) (length (journal_text es)) r (refl, text_length r) ∙ rw z

  -- a journal's text behind p and before r reads as the journal
  pub read_written : {i : ℕ} {ms : List ℕ} (es : List Entry) (p r s : List ℕ) → Fine ps es i ms → s ≡ p ++ (journal_text es ++ r) → entries_at s (length p) (length es) ≡ es
  unfolding entries_at journal_text
  read_written [] p r s fine_none q = refl
  read_written {i = i} {ms = ms} (e ∷ es) p r s (fine_more h o hs) q =
      let q' : s ≡ p ++ (entry_text e ++ (journal_text es ++ r)) = q ∙ ap (λ l. p ++ l) (append_assoc (entry_text e) (journal_text es) r) in
      let d : drop (length p) s ≡ entry_text e ++ (journal_text es ++ r) = ap (drop (length p)) q' ∙ drop_at p (entry_text e ++ (journal_text es ++ r)) (length p) refl in
      let f : field_at s (length p) ≡ e = ap entry_in d ∙ field_text_lem e (journal_text es ++ r) h in
      let m : length (p ++ entry_text e) ≡ length p + entry_size e = length-append p (entry_text e) ∙ rw (length_text e) in
      let q'' : s ≡ (p ++ entry_text e) ++ (journal_text es ++ r) = q' ∙ sym (append_assoc p (entry_text e) (journal_text es ++ r)) in
      ap (λ x. x ∷ entries_at s (length p + entry_size x) (length es)) f
      ∙ ap (λ l. e ∷ l) (ap (λ n. entries_at s n (length es)) (sym m) ∙ read_written {i = i + 1} {ms = mark_step e i ms} es (p ++ entry_text e) r s hs q'')

  -- and ends where the text does
  pub place_written : {i : ℕ} {ms : List ℕ} (es : List Entry) (p s : List ℕ) → Fine ps es i ms → s ≡ p ++ journal_text es → place_at s (length p) (length es) ≡ length s
  unfolding place_at journal_text
  place_written [] p s fine_none q = sym (ap length (q ∙ append-nil p))
  place_written {i = i} {ms = ms} (e ∷ es) p s (fine_more h o hs) q =
      let d : drop (length p) s ≡ entry_text e ++ journal_text es = ap (drop (length p)) q ∙ drop_at p (entry_text e ++ journal_text es) (length p) refl in
      let f : field_at s (length p) ≡ e = ap entry_in d ∙ field_text_lem e (journal_text es) h in
      let m : length (p ++ entry_text e) ≡ length p + entry_size e = length-append p (entry_text e) ∙ rw (length_text e) in
      let q' : s ≡ (p ++ entry_text e) ++ journal_text es = q ∙ sym (append_assoc p (entry_text e) (journal_text es)) in
      ap (λ x. place_at s (length p + entry_size x) (length es)) f ∙ ap (λ n. place_at s n (length es)) (sym m) ∙ place_written {i = i + 1} {ms = mark_step e i ms} es (p ++ entry_text e) s hs q'

  -- going back over the bytes is going back over the entries
  pub back_journal : (es : List Entry) (m : ℕ) (t : List ℤ) → Fine ps es 0 [] → m ≤ length es → back_to ps (journal_text es) m (length es) t ≡ restore ps (drop m es) t
  back_journal es m t r h =
      ap (λ l. restore ps l t) (entries_from (journal_text es) m (length es) h ∙ ap (drop m) (read_written es [] [] (journal_text es) r (sym (append-nil (journal_text es)))))

-- ---- a field more

pub text_more : (es : List Entry) (e : Entry) → journal_text (es ++ (e ∷ [])) ≡ journal_text es ++ entry_text e
unfolding journal_text
text_more [] e = append-nil (entry_text e)
text_more (d ∷ es) e = ap (λ l. entry_text d ++ l) (text_more es e) ∙ sym (append_assoc (entry_text d) (journal_text es) (entry_text e))

-- the bytes used behind a write at their end
pub used_more : (j x : List ℕ) (used n : ℕ) → used ≤ length j → length x ≡ n → take (used + n) (over used x j) ≡ take used j ++ x
used_more j x used n h l =
    let k : length (take used j ++ x) ≡ used + n = length-append (take used j) x ∙ rw (length-take-le used j h, l) in
    ap (take (used + n)) (sym (append_assoc (take used j) x (drop (used + length x) j))) ∙ take_at (take used j ++ x) (drop (used + length x) j) (used + n) k
