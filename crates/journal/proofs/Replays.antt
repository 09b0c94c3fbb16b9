-- Entries over a table, one after the other, with each set's old value found in its cell: where they are a journal's, a replay of its bytes
-- comes to the same cells and savepoints.
-- Assumes nothing.
use mathlib.Core.Path.{◌≡◌, refl, sym, ap, ◌∙◌, subst}
use mathlib.Core.Bool.{Bool, true, false, cond}
use lib.Dec.{ltb}
use mathlib.Core.List.{List, [], ◌∷◌, ◌++◌, append_assoc, append-nil}
use Prim.Native.Nat.{ℕ, zero, suc, ◌+◌, ◌-◌, ◌≤◌}
use native.Mathlib.Nat.{zero-add}
use native.Mathlib.Omega.{arith}
use lib.IntN.{ℤ}
use lib.ListN.{length, get_or, drop, length-append}
use lib.Seq.{drop_at, drop-drop, get_or-drop}
use Rattle.base.proofs.Taken.{drop_none}
use borrow.Author.Tests.{lt-ltb}
use Rattle.entry.specs.declared.Entry.{Entry}
use Rattle.entry.specs.declared.Entry.TheVariants.{Set, Open, Release, Undo, Misformed}
use Rattle.entry.specs.Field.{entry_text, entry_size, entry_in, field_at}
use Rattle.entry.specs.Codec.{Sized}
use Rattle.entry.proofs.Codec.{length_text, field_text_lem}
use Rattle.journal.specs.Layout.{spot_of, put_at}
use Rattle.journal.specs.Entries.{mark_step, marks_from, marks_of, mark_of, restore, journal_text, next_at, entries_at, place_at}
use Rattle.journal.specs.Walks.{ok_entry}
use Rattle.journal.specs.Plays.{matches, played_by, played, play_from, play_of}
use Rattle.journal.proofs.Places.{entries_from, entries_one, place_next}
use Rattle.journal.proofs.Walking.{ok_size}
use Rattle.journal.proofs.Held.{with_entry, marks_entry}

-- the cells behind an entry, with those before it
abbrev pub played_on : List ℕ → Entry → List Entry → List ℤ → List ℤ
played_on ps (Set g c old new) pre t = put_at (spot_of ps g c) new t
played_on ps (Open k) pre t = t
played_on ps (Release k) pre t = t
played_on ps (Undo k) pre t = restore ps (drop (mark_of (marks_of pre) k) pre) t
played_on ps Misformed pre t = t

-- an entry with a field of its own, whose call is accepted behind `pre`, and a set's old value is the cell's
pub record Follows (ps : List ℕ) (pre : List Entry) (e : Entry) (t : List ℤ) : Type 0 where
  pub sized : Sized e
  pub ok : ok_entry ps e (length (marks_of pre)) ≡ true
  pub same : matches ps e t ≡ true

-- behind `pre`, the entries lead from cells t to cells u
pub data Leads (ps : List ℕ) : List Entry → List Entry → List ℤ → List ℤ → Type 0 where
  leads_none : {pre : List Entry} {t : List ℤ} → Leads ps pre [] t t
  leads_more : {pre es : List Entry} {e : Entry} {t u : List ℤ} → Follows ps pre e t → Leads ps (with_entry pre e) es (played_on ps e pre t) u → Leads ps pre (e ∷ es) t u

module _ {ps : List ℕ} where
  pub leads_last : {pre es : List Entry} {t u : List ℤ} (e : Entry) → Leads ps pre es t u → Follows ps (pre ++ es) e u → Leads ps pre (with_entry es e) t (played_on ps e (pre ++ es) u)
  leads_last {pre} {u = u} e leads_none h =
      subst (λ l. Leads ps pre (e ∷ []) u (played_on ps e l u)) (sym (append-nil pre)) (leads_more (subst (λ l. Follows ps l e u) (append-nil pre) h) leads_none)
  leads_last {pre} {es = x ∷ es} {t} {u} e (leads_more f r) h =
      let q : (with_entry pre x) ++ es ≡ pre ++ (x ∷ es) = append_assoc pre (x ∷ []) es in
      leads_more f
      (subst (λ l. Leads ps (with_entry pre x) (with_entry es e) (played_on ps x pre t) (played_on ps e l u)) q (leads_last e r (subst (λ l. Follows ps l e u) (sym q) h)))

-- ---- no mark is past the entries

abbrev pub AllBelow : List ℕ → ℕ → Type 0
AllBelow ms n = (j : ℕ) → get_or ms j 0 ≤ n

pub step_below : (e : Entry) (i : ℕ) (ms : List ℕ) → AllBelow ms i → AllBelow (mark_step e i ms) (i + 1)
step_below (Set g c o v) i ms h j = omega (arith, h j)
step_below (Open k) i ms h zero = omega arith
step_below (Open k) i ms h (suc j) = omega (arith, h j)
step_below (Release k) i ms h j = rw (get_or-drop 1 ms j 0) (omega (arith, h (1 + j)))
step_below (Undo k) i ms h j = rw (get_or-drop (length ms - k) ms j 0) (omega (arith, h (length ms - k + j)))
step_below Misformed i ms h j = omega (arith, h j)

from_below : (es : List Entry) (i : ℕ) (ms : List ℕ) → AllBelow ms i → AllBelow (marks_from es i ms) (i + length es)
unfolding marks_from
from_below [] i ms h j = omega (arith, h j)
from_below (e ∷ es) i ms h j =
    let z : i + suc (length es) ≡ i + 1 + length es = omega arith in
    rw z (from_below es (i + 1) (mark_step e i ms) (step_below e i ms h) j)

pub none_below : AllBelow [] 0
none_below zero = omega arith
none_below (suc j) = omega arith

pub marks_below : (es : List Entry) → AllBelow (marks_of es) (length es)
marks_below es j =
    let z : 0 + length es ≡ length es = omega arith in
    subst (λ n. get_or (marks_of es) j 0 ≤ n) z (from_below es 0 [] none_below j)

-- ---- a replay of bytes

-- the entries `pre` are the first that s tells, and end at a place
pub record Tells (s : List ℕ) (pre : List Entry) (at : ℕ) : Type 0 where
  pub ends : place_at s 0 (length pre) ≡ at
  pub reads : entries_at s 0 (length pre) ≡ pre

pub tells_more : (s : List ℕ) (pre : List Entry) (at : ℕ) (e : Entry) → Tells s pre at → field_at s at ≡ e → Tells s (with_entry pre e) (at + entry_size e)
tells_more s pre at e r x =
    let l : length (with_entry pre e) ≡ length pre + 1 = length-append pre (e ∷ []) in
    record {
      ends = ap (place_at s 0) l ∙ place_next s 0 (length pre) ∙ ap (next_at s) r.ends ∙ ap (λ y. at + entry_size y) x;
      reads = ap (entries_at s 0) l ∙ entries_one s (length pre) ∙ ap (λ y. y ++ (field_at s (place_at s 0 (length pre)) ∷ [])) r.reads
          ∙ ap (λ y. pre ++ (field_at s y ∷ [])) r.ends ∙ ap (λ y. pre ++ (y ∷ [])) x;
    }

-- the cells by the bytes are those by the entries
pub played_on_lem : (ps s : List ℕ) (pre : List Entry) (e : Entry) (t : List ℤ) → entries_at s 0 (length pre) ≡ pre → played_by ps e s (length pre) (marks_of pre) t ≡ played_on ps e pre t
played_on_lem ps s pre (Set g c o v) t q = refl
played_on_lem ps s pre (Open k) t q = refl
played_on_lem ps s pre (Release k) t q = refl
played_on_lem ps s pre (Undo k) t q =
    let m = mark_of (marks_of pre) k in
    ap (λ l. restore ps l t) (entries_from s m (length pre) (marks_below pre (length (marks_of pre) - k)) ∙ ap (drop m) q)
played_on_lem ps s pre Misformed t q = refl

-- a replay stops at what is no field
play_stuck : (f : ℕ) (ps s : List ℕ) (p n : ℕ) (ms : List ℕ) (t : List ℤ) → field_at s p ≡ Misformed → play_from f ps s p n ms t ≡ played p n ms t
unfolding play_from
play_stuck zero ps s p n ms t x = refl
play_stuck (suc f) ps s p n ms t x = rw x (both (ltb p (length s)))
  where
    both : (b : Bool) → cond b (played p n ms t) (played p n ms t) ≡ played p n ms t
    both true = refl
    both false = refl

-- the entries `pre` end at a place; there stand those of es, and then x; with f fields to go at most
record Ahead (s x : List ℕ) (pre es : List Entry) (at f : ℕ) : Type 0 where
  tells : Tells s pre at
  rest : drop at s ≡ journal_text es ++ x
  long : at + length (journal_text es) + length x ≡ length s
  enough : length es ≤ f

-- x is what stands behind the fields: nothing, or part of a field
module _ {ps : List ℕ} (s x : List ℕ) (stuck : entry_in x ≡ Misformed) where
  play_text : {t u : List ℤ} (pre es : List Entry) (at f : ℕ) → Leads ps pre es t u → Ahead s x pre es at f
      → play_from f ps s at (length pre) (marks_of pre) t ≡ played (at + length (journal_text es)) (length (pre ++ es)) (marks_of (pre ++ es)) u
  unfolding journal_text play_from
  play_text {t} pre [] at f leads_none h =
      let a : at + 0 ≡ at = omega arith in
      play_stuck f ps s at (length pre) (marks_of pre) t (ap entry_in h.rest ∙ stuck) ∙ rw (a, append-nil pre)
  play_text pre (e ∷ es) at zero g h = absurd (omega (arith, h.enough))
  play_text {t} {u} pre (e ∷ es) at (suc f) (leads_more r g) h =
      let y = h.long in
      let few = h.enough in
      let q'' : drop at s ≡ entry_text e ++ (journal_text es ++ x) = h.rest ∙ append_assoc (entry_text e) (journal_text es) x in
      let w : field_at s at ≡ e = ap entry_in q'' ∙ field_text_lem e (journal_text es ++ x) r.sized in
      let k = ok_size ps (length (marks_of pre)) e r.ok in
      let v : length (entry_text e ++ journal_text es) ≡ entry_size e + length (journal_text es) =
      length-append (entry_text e) (journal_text es) ∙ ap (λ n. n + length (journal_text es)) (length_text e) in
      let q' : drop (at + entry_size e) s ≡ journal_text es ++ x =
      sym (drop-drop (entry_size e) at s) ∙ ap (drop (entry_size e)) q'' ∙ drop_at (entry_text e) (journal_text es ++ x) (entry_size e) (length_text e) in
      let l : length (with_entry pre e) ≡ length pre + 1 = length-append pre (e ∷ []) in
      let a : at + entry_size e + length (journal_text es) ≡ at + length (entry_text e ++ journal_text es) = omega arith in
      let n = play_text {t = played_on ps e pre t} (with_entry pre e) es (at + entry_size e) f g
      (record { tells = tells_more s pre at e h.tells w; rest = q'; long = omega arith; enough = omega arith }) in
      rw (lt-ltb at (length s) (omega arith), w, r.ok, r.same, played_on_lem ps s pre e t h.tells.reads, ← append_assoc pre (e ∷ []) es, ← a) (rw (l, marks_entry pre e) at n)

  pub play_cut : {t u : List ℤ} (es : List Entry) → Leads ps [] es t u → s ≡ journal_text es ++ x → length es ≤ length s → play_of ps s t ≡ played (length (journal_text es)) (length es) (marks_of es) u
  unfolding play_of entries_at place_at marks_from
  play_cut es g q h =
      let z : 0 + length (journal_text es) ≡ length (journal_text es) = zero-add (length (journal_text es)) in
      let y : 0 + length (journal_text es) + length x ≡ length s = rw z (sym (ap length q ∙ length-append (journal_text es) x)) in
      play_text [] es 0 (length s) g (record { tells = record { ends = refl; reads = refl }; rest = drop_none s ∙ q; long = y; enough = h }) ∙ rw z

pub no_field : entry_in [] ≡ Misformed
unfolding entry_in
no_field = refl

pub play_journal : {ps : List ℕ} {t u : List ℤ} (s : List ℕ) (es : List Entry) → Leads ps [] es t u → s ≡ journal_text es → length es ≤ length s
    → play_of ps s t ≡ played (length s) (length es) (marks_of es) u
play_journal {u = u} s es g q h = play_cut s [] no_field es g (q ∙ sym (append-nil (journal_text es))) h ∙ ap (λ n. played n (length es) (marks_of es) u) (ap length (sym q))
