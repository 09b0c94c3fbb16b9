-- The tables that a stack saved are what a journal's entries give back: at each opening, and behind each call that is accepted.
-- Assumes nothing.
use mathlib.Core.Path.{◌≡◌, refl, ap, ◌∙◌}
use mathlib.Core.Bool.{true}
use mathlib.Core.List.{List, [], ◌∷◌, ◌++◌}
use Prim.Native.Nat.{ℕ, zero, suc, ◌+◌, ◌-◌, ◌<◌, ◌≤◌}
use native.Mathlib.Nat.{not-suc-le-zero, le_of_suc-le-suc, le_trans}
use native.Mathlib.Omega.{arith}
use lib.IntN.{ℤ}
use lib.ListN.{length, get_or, drop, length-append}
use lib.Seq.{drop-append-le, drop-length}
use Rattle.entry.specs.declared.Entry.{Entry}
use Rattle.entry.specs.declared.Entry.TheVariants.{Release, Undo}
use Rattle.journal.specs.Layout.{spot_of, get_at, put_at}
use Rattle.journal.specs.Model.{Call, Sets, Opens, Releases, Undoes, accepts, Stack, stacked, on_stack}
use Rattle.journal.specs.Entries.{mark_step, marks_from, marks_of, mark_of, give_back, restore}
use Rattle.journal.specs.Calls.{entry_for}
use Rattle.journal.proofs.Spots.{put_put, put_get}
use Rattle.journal.proofs.Restore.{restore_one, restore_none, restore_again, restore_within}
use Rattle.journal.proofs.Walking.{ok_undo}

-- each table that was saved is what the entries behind its mark give back from the cells t; marks go down
pub data Holds (ps : List ℕ) (es : List Entry) : List ℤ → ℕ → List ℕ → List (List ℤ) → Type 0 where
  none : {t : List ℤ} {u : ℕ} → Holds ps es t u [] []
  more : {t : List ℤ} {u i : ℕ} {ms : List ℕ} {s : List ℤ} {ts : List (List ℤ)} → (i ≤ u) × (restore ps (drop i es) t ≡ s) → Holds ps es t i ms ts → Holds ps es t u (i ∷ ms) (s ∷ ts)

module _ {ps : List ℕ} where
  pub holds_length : {es : List Entry} {t : List ℤ} {u : ℕ} {ms : List ℕ} {ts : List (List ℤ)} → Holds ps es t u ms ts → length ms ≡ length ts
  holds_length none = refl
  holds_length (more q r) = ap suc (holds_length r)

  holds_wide : {es : List Entry} {t : List ℤ} {u v : ℕ} {ms : List ℕ} {ts : List (List ℤ)} → u ≤ v → Holds ps es t u ms ts → Holds ps es t v ms ts
  holds_wide h none = none
  holds_wide h (more q r) = more (le_trans q.0 h, q.1) r

  -- an entry more, which gives the cells back as they were
  module _ {es : List Entry} {t : List ℤ} (e : Entry) (t' : List ℤ) (g : give_back ps e t' ≡ t) where
    holds_entry : {u : ℕ} {ms : List ℕ} {ts : List (List ℤ)} → u ≤ length es → Holds ps es t u ms ts → Holds ps (es ++ (e ∷ [])) t' u ms ts
    holds_entry h none = none
    holds_entry h (more {i = i} q r) =
        let l = q.0 in
        let back = ap (λ l. restore ps l t') (drop-append-le i es (e ∷ []) (omega arith)) ∙ restore_one ps (drop i es) e t' ∙ ap (restore ps (drop i es)) g ∙ q.1 in
        more (l, back) (holds_entry (omega arith) r)

  -- the cells as they were at a mark k, for the marks up to it
  holds_back : {es : List Entry} {t : List ℤ} {u : ℕ} {ms : List ℕ} {ts : List (List ℤ)} (k : ℕ) → u ≤ k → Holds ps es t u ms ts → Holds ps es (restore ps (drop k es) t) u ms ts
  holds_back k h none = none
  holds_back {es} {t} k h (more {i = i} q r) =
      let l = q.0 in
      more (l, restore_within ps es i k t (omega arith) ∙ q.1) (holds_back k (omega arith) r)

  -- the n innermost closed
  holds_drop : {es : List Entry} {t : List ℤ} {u : ℕ} {ms : List ℕ} {ts : List (List ℤ)} (n : ℕ) → Holds ps es t u ms ts → Holds ps es t u (drop n ms) (drop n ts)
  holds_drop zero r = r
  holds_drop (suc n) none = none
  holds_drop (suc n) (more q r) = holds_drop n (holds_wide q.0 r)

  -- the table at the n-th mark
  pub holds_mark : {es : List Entry} {t : List ℤ} {u : ℕ} {ms : List ℕ} {ts : List (List ℤ)} (n : ℕ) → n < length ms → Holds ps es t u ms ts
      → (get_or ms n 0 ≤ u) × (restore ps (drop (get_or ms n 0) es) t ≡ get_or ts n [])
  holds_mark n h none = absurd (not-suc-le-zero h)
  holds_mark zero h (more q r) = q
  holds_mark (suc n) h (more q r) = let m = holds_mark n (le_of_suc-le-suc h) r in (le_trans m.0 q.0, m.1)

  -- and all that is left when the cells are brought to it
  holds_undo : {es : List Entry} {t : List ℤ} {u : ℕ} {ms : List ℕ} {ts : List (List ℤ)} (n : ℕ) → n < length ms → Holds ps es t u ms ts
      → Holds ps es (restore ps (drop (get_or ms n 0) es) t) u (drop n ms) (drop n ts)
  holds_undo n h none = absurd (not-suc-le-zero h)
  holds_undo {es} {t} zero h (more {i = i} q r) = more (q.0, restore_again ps (drop i es) t ∙ q.1) (holds_back i (omega arith) r)
  holds_undo (suc n) h (more q r) = holds_wide q.0 (holds_undo n (le_of_suc-le-suc h) r)

-- ---- marks

marks_more : (es : List Entry) (e : Entry) (i : ℕ) (ms : List ℕ) → marks_from (es ++ (e ∷ [])) i ms ≡ mark_step e (i + length es) (marks_from es i ms)
unfolding marks_from
marks_more [] e i ms = let z : i + 0 ≡ i = omega arith in rw z
marks_more (d ∷ es) e i ms = let z : i + suc (length es) ≡ i + 1 + length es = omega arith in rw z (marks_more es e (i + 1) (mark_step d i ms))

pub marks_entry : (es : List Entry) (e : Entry) → marks_of (es ++ (e ∷ [])) ≡ mark_step e (length es) (marks_of es)
marks_entry es e = let z : 0 + length es ≡ length es = omega arith in marks_more es e 0 [] ∙ rw z

-- ---- a call that is accepted

-- the cells behind it, by the entries
abbrev pub cells_on : List ℕ → Call → List Entry → List ℤ → List ℤ
cells_on ps (Sets g c v) es t = put_at (spot_of ps g c) v t
cells_on ps Opens es t = t
cells_on ps (Releases k) es t = t
cells_on ps (Undoes k) es t = restore ps (drop (mark_of (marks_of es) k) es) t

abbrev pub HeldBy : List ℕ → List Entry → List ℤ → List (List ℤ) → Type 0
HeldBy ps es t ts = Holds ps es t (length es) (marks_of es) ts

abbrev pub with_entry : List Entry → Entry → List Entry
with_entry es e = es ++ (e ∷ [])

length_more : (es : List Entry) (e : Entry) → length (with_entry es e) ≡ length es + 1
length_more es e = length-append es (e ∷ [])

module _ (ps : List ℕ) (es : List Entry) (t : List ℤ) (ts : List (List ℤ)) (room : ℕ) (held : HeldBy ps es t ts) where
  abbrev depth : ℕ
  depth = length (marks_of es)

  abbrev before : Stack
  before = stacked t ts room

  pub held_cells : (c : Call) → accepts ps c depth ≡ true → cells_on ps c es t ≡ (on_stack ps c before).cells
  held_cells (Sets g c v) h = refl
  held_cells Opens h = refl
  held_cells (Releases k) h = refl
  held_cells (Undoes k) h =
      let q = ok_undo ps depth k h in
      let z : depth ≡ length ts = holds_length held in
      (holds_mark (depth - k) (omega arith) held).1 ∙ ap (λ d. get_or ts (d - k) []) z

  pub held_call : (c : Call) → accepts ps c depth ≡ true → HeldBy ps (with_entry es (entry_for ps c depth t)) (cells_on ps c es t) (on_stack ps c before).saved
  held_call (Sets g c v) h =
      let e = entry_for ps (Sets g c v) depth t in
      let p = spot_of ps g c in
      rw (marks_entry es e) (holds_wide (omega (arith, length_more es e)) (holds_entry e (put_at p v t) (put_put p v (get_at p t) t ∙ put_get p t) (omega arith) held))
  held_call Opens h =
      let e = entry_for ps Opens depth t in
      let b : length es ≤ length (with_entry es e) = omega (arith, length_more es e) in
      let n : drop (length es) (with_entry es e) ≡ e ∷ [] = drop-append-le (length es) es (e ∷ []) (omega arith) ∙ ap (λ l. l ++ (e ∷ [])) (drop-length es) in
      rw (marks_entry es e) (more (b, ap (λ l. restore ps l t) n ∙ restore_one ps [] e t ∙ restore_none ps t) (holds_entry e t refl (omega arith) held))
  held_call (Releases k) h =
      let e = Release k in
      rw (marks_entry es e) (holds_wide (omega (arith, length_more es e)) (holds_drop 1 (holds_entry e t refl (omega arith) held)))
  held_call (Undoes k) h =
      let e = Undo k in
      let q = ok_undo ps depth k h in
      let n : depth - k < depth = omega arith in
      let z : depth ≡ length ts = holds_length held in
      rw (marks_entry es e, ← z) (holds_wide (omega (arith, length_more es e)) (holds_entry e (cells_on ps (Undoes k) es t) refl (omega arith) (holds_undo (depth - k) n held)))
