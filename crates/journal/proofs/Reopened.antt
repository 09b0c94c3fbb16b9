-- R543: a journal of bytes that replays with 0 over a table is one that calls made on that table: so that calls go on behind it as if it had
-- never been left.
-- Assumes nothing.
use Rattle.std.specs.Prelude.{Ok}
use mathlib.Core.Path.{◌≡◌, refl, sym, ap, ◌∙◌, subst}
use mathlib.Core.Bool.{true}
use mathlib.Core.List.{List, [], ◌∷◌, ◌++◌}
use Prim.Native.Nat.{ℕ, zero, suc, ◌+◌, ◌-◌, ◌<◌, ◌≤◌}
use native.Mathlib.Omega.{arith}
use lib.Dec.{ltb}
use lib.IntN.{ℤ}
use lib.ListN.{length, drop, take, length-append, length-take}
use lib.Seq.{take-take, drop-drop}
use borrow.Author.Tests.{ltb-true, lt-ltb, le-ltb}
use Rattle.rules.specs.declared.Rules.{Rules}
use Rattle.base.specs.Part.{part, over}
use Rattle.base.proofs.Choice.{cond_elim}
use Rattle.base.proofs.Part.{part_cut}
use Rattle.base.proofs.Taken.{drop_take}
use Rattle.count.specs.Check.{checked_of}
use Rattle.entry.specs.declared.Entry.{Entry}
use Rattle.entry.specs.declared.Entry.TheVariants.{Set, Open, Release, Undo, Misformed}
use Rattle.entry.specs.Bytes.{AllBytes}
use Rattle.entry.specs.Field.{entry_text, entry_size, field_at}
use Rattle.entry.specs.Codec.{Sized, sized_set, ReadsEntry}
use Rattle.entry.proofs.Codec.{field_read, bytes_drop, length_text}
use Rattle.entry.proofs.Reading.{next_within}
use Rattle.journal.specs.Layout.{starts_of, spot_of, get_at}
use Rattle.journal.specs.Model.{Call, Sets, Opens, Releases, Undoes, accepts, bytes_for, number_for, on_stack}
use Rattle.journal.specs.Entries.{mark_step, marks_from, marks_of, mark_of, next_at, entries_at, place_at}
use Rattle.journal.specs.Walks.{ok_entry}
use Rattle.journal.specs.Calls.{entry_for, whole}
use Rattle.journal.specs.Plays.{matches, played_by, Played, played, play_from, play_of, play_in, replay_of}
use Rattle.journal.specs.Runs.{Fit, FitCall, FitCalls, MadeBy, Kept, kept, answer_to, left_by, left_to, behind_replay}
use Rattle.journal.proofs.Spots.{length_put}
use Rattle.journal.proofs.Restore.{length_restore}
use Rattle.journal.proofs.Answers.{whole_right, then_right}
use Rattle.journal.proofs.Walking.{no_way, ok_open}
use Rattle.journal.proofs.Playing.{same_cell_lem}
use Rattle.journal.proofs.Held.{with_entry, marks_entry, cells_on}
use Rattle.journal.proofs.Replays.{Tells, tells_more, played_on_lem, played_on}
use Rattle.journal.proofs.Made.{fresh, Stands, stack_of, entry_size_lem, played_call, answer_is, left_is, stands_done, entries_done}

-- the call of an entry
abbrev call_for : Entry → Call
call_for (Set g c o v) = Sets g c v
call_for (Open k) = Opens
call_for (Release k) = Releases k
call_for (Undo k) = Undoes k
call_for Misformed = Opens

module _ (ps : List ℕ) (d : ℕ) where
  call_ok : (e : Entry) → ok_entry ps e d ≡ true → accepts ps (call_for e) d ≡ true
  call_ok (Set g c o v) h = h
  call_ok (Open k) h = lt-ltb d 16 (ok_open ps d k h).0
  call_ok (Release k) h = h
  call_ok (Undo k) h = h
  call_ok Misformed h = no_way (sym h)

  call_entry : (e : Entry) (t : List ℤ) → ok_entry ps e d ≡ true → matches ps e t ≡ true → entry_for ps (call_for e) d t ≡ e
  call_entry (Set g c o v) t h m = ap (λ z. Set g c z v) (same_cell_lem (get_at (spot_of ps g c) t) o m)
  call_entry (Open k) t h m = ap Open (sym (ok_open ps d k h).1)
  call_entry (Release k) t h m = refl
  call_entry (Undo k) t h m = refl
  call_entry Misformed t h m = no_way (sym h)

  ok_formed : (e : Entry) → ok_entry ps e d ≡ true → e ≡ Misformed → ⊥
  ok_formed e h q = no_way (sym (subst (λ x. ok_entry ps x d ≡ true) q h))

call_fits : (e : Entry) → Sized e → FitCall (call_for e)
call_fits (Set g c o v) (sized_set hg hc ho hv) = hv
call_fits (Open k) z = tt
call_fits (Release k) z = tt
call_fits (Undo k) z = tt
call_fits Misformed z = tt

cells_length : (ps : List ℕ) (es : List Entry) (c : Call) (t : List ℤ) → length (cells_on ps c es t) ≡ length t
cells_length ps es (Sets g c v) t = length_put (spot_of ps g c) v t
cells_length ps es Opens t = refl
cells_length ps es (Releases k) t = refl
cells_length ps es (Undoes k) t = length_restore ps (drop (mark_of (marks_of es) k) es) t

-- a field that stands there already
over_same : (j x : List ℕ) (at used : ℕ) → at + length x ≤ used → take (length x) (drop at (take used j)) ≡ x → over at x j ≡ j
over_same j x at used h q =
    let z : length x ≤ used - at = omega arith in
    let y : at + length x - at ≡ length x = omega arith in
    let p : part at (at + length x) j ≡ x = ap (λ n. take n (drop at j)) y ∙ sym (take-take (length x) (used - at) (drop at j) z) ∙ ap (take (length x)) (sym (drop_take at used j)) ∙ q in
    sym (part_cut j at (length x) ∙ ap (λ y. take at j ++ (y ++ drop (length x) (drop at j))) p ∙ ap (λ y. take at j ++ (x ++ y)) (drop-drop (length x) at j))

module _ (ρ : Rules) (ns : List ℕ) (t₀ : List ℤ) (j : List ℕ) (used : ℕ) where
  abbrev ps : List ℕ
  ps = starts_of ρ ns

  abbrev s : List ℕ
  s = take used j

  -- calls that lead there
  made_by : {k end : Kept} (calls : List Call) → FitCalls calls → left_to ρ ns calls k ≡ end → MadeBy ρ ns k end
  made_by calls f q = record { calls = calls; fits = f; left = q }

  module _ (right : checked_of ρ ns (length t₀) ≡ Ok tt) (bytes : AllBytes s) where
    -- the whole is made from here, if a replay from here comes to its end
    abbrev Comes : Kept → Played → Type 0
    Comes k r = r.place ≡ used → MadeBy ρ ns k (kept r.cells j used)

    stops : (k : Kept) → k.journal ≡ j → (n : ℕ) (ms : List ℕ) → Comes k (played k.used n ms k.cells)
    stops k q n ms p = made_by [] tt (ap (λ x. kept k.cells x k.used) q ∙ ap (kept k.cells j) p)

    module _ (k : Kept) (ts : List (List ℤ)) (q : k.journal ≡ j) (st : Stands ρ ns t₀ k ts) (same : length k.cells ≡ length t₀) where
      abbrev es : List Entry
      es = st.entries

      abbrev e : Entry
      e = field_at s k.used

      abbrev d : ℕ
      d = length (marks_of es)

      module _ (low : k.used < length s) (ok : ok_entry ps e d ≡ true) (m : matches ps e k.cells ≡ true) where
        abbrev c : Call
        c = call_for e

        abbrev t : List ℤ
        t = k.cells

        reads : ReadsEntry (drop k.used s) e
        reads = field_read (drop k.used s) (bytes_drop k.used s bytes) (ok_formed ps d e ok)

        entry_is : entry_for ps c d t ≡ e
        entry_is = call_entry ps d e t ok m

        size_is : entry_size e ≡ bytes_for c
        size_is = ap entry_size (sym entry_is) ∙ entry_size_lem ρ ns t₀ c d t

        within : k.used + entry_size e ≤ length s
        within = next_within s k.used (omega arith)

        right_here : checked_of ρ ns (length t) ≡ Ok tt
        right_here = ap (checked_of ρ ns) same ∙ right

        room : bytes_for c ≤ length k.journal - k.used
        room = omega (arith, within, size_is, length-take used j, ap length q)

        answers : answer_to ρ ns c k ≡ Ok (number_for c d)
        answers =
            answer_is ρ ns t₀ c k ts st right_here
            ∙ rw (call_ok ps d e ok, le-ltb (length k.journal - k.used) (bytes_for c) room) refl

        -- what the call leaves
        abbrev k' : Kept
        k' = kept (cells_on ps c es t) (over k.used (entry_text (entry_for ps c d t)) k.journal) (k.used + bytes_for c)

        left_by_lem : left_by ρ ns c k (answer_to ρ ns c k) ≡ k'
        left_by_lem = ap (left_by ρ ns c k) answers ∙ left_is ρ ns t₀ c k ts st right_here (call_fits e reads.sized) (call_ok ps d e ok) room (number_for c d)

        stands' : Stands ρ ns t₀ k' (on_stack ps c (stack_of ρ ns t₀ k ts)).saved
        stands' = stands_done ρ ns t₀ c k ts st right_here (call_fits e reads.sized) (call_ok ps d e ok) room

        entries' : with_entry es (entry_for ps c d t) ≡ stands'.entries
        unfolding stands'
        entries' = sym (entries_done ρ ns t₀ c k ts st right_here (call_fits e reads.sized) (call_ok ps d e ok) room)

        journal_same : over k.used (entry_text (entry_for ps c d t)) k.journal ≡ j
        journal_same =
            let x : length (entry_text e) ≡ entry_size e = length_text e in
            ap (λ y. over k.used (entry_text y) k.journal) entry_is ∙ ap (over k.used (entry_text e)) q
            ∙ over_same j (entry_text e) k.used used (omega (arith, within, length-take used j)) (ap (λ n. take n (drop k.used s)) x ∙ reads.text)

        used_same : next_at s k.used ≡ k.used + bytes_for c
        used_same = ap (λ n. k.used + n) size_is

        cells_same : Tells s es k.used → played_by ps e s (length es) (marks_of es) t ≡ cells_on ps c es t
        cells_same tells =
            played_on_lem ps s es e t tells.reads ∙ ap (λ y. played_on ps y es t) (sym entry_is) ∙ played_call ρ ns t₀ es c d t

        tells' : Tells s es k.used → Tells s (with_entry es (entry_for ps c d t)) (k.used + bytes_for c)
        tells' tells =
            subst (λ n. Tells s (with_entry es (entry_for ps c d t)) (k.used + n)) size_is
            (subst (λ x. Tells s (with_entry es x) (k.used + entry_size e)) (sym entry_is) (tells_more s es k.used e tells refl))

        run_same : (f : ℕ) → Tells s es k.used
            → play_from f ps s (next_at s k.used) (length es + 1) (mark_step e (length es) (marks_of es)) (played_by ps e s (length es) (marks_of es) t) ≡ play_from f ps s k'.used
            (length (with_entry es (entry_for ps c d t))) (marks_of (with_entry es (entry_for ps c d t))) k'.cells
        run_same f tells =
            let l : length es + 1 ≡ length (with_entry es (entry_for ps c d t)) = sym (length-append es (entry_for ps c d t ∷ [])) in
            let m : mark_step e (length es) (marks_of es) ≡ marks_of (with_entry es (entry_for ps c d t)) =
            ap (λ x. mark_step x (length es) (marks_of es)) (sym entry_is) ∙ sym (marks_entry es (entry_for ps c d t)) in
            ap (λ p. play_from f ps s p (length es + 1) (mark_step e (length es) (marks_of es)) (played_by ps e s (length es) (marks_of es) t)) used_same
            ∙ ap (λ n. play_from f ps s k'.used n (mark_step e (length es) (marks_of es)) (played_by ps e s (length es) (marks_of es) t)) l
            ∙ ap (λ x. play_from f ps s k'.used (length (with_entry es (entry_for ps c d t))) x (played_by ps e s (length es) (marks_of es) t)) m
            ∙ ap (play_from f ps s k'.used (length (with_entry es (entry_for ps c d t))) (marks_of (with_entry es (entry_for ps c d t)))) (cells_same tells)

        call_more : {end : Kept} → MadeBy ρ ns k' end → MadeBy ρ ns k end
        call_more b = made_by (c ∷ b.calls) (call_fits e reads.sized, b.fits) (ap (left_to ρ ns b.calls) left_by_lem ∙ b.left)

    comes : (f : ℕ) (k : Kept) (ts : List (List ℤ)) → k.journal ≡ j → (st : Stands ρ ns t₀ k ts) → length k.cells ≡ length t₀ → Tells s st.entries k.used
        → Comes k (play_from f ps s k.used (length st.entries) (marks_of st.entries) k.cells)
    unfolding play_from
    comes zero k ts q st same tells = stops k q (length st.entries) (marks_of st.entries)
    comes (suc f) k ts q st same tells =
        let es = st.entries in
        let e = field_at s k.used in
        let stop = stops k q (length es) (marks_of es) in
        cond_elim (Comes k) (ltb k.used (length s)) (λ lo. cond_elim (Comes k) (ok_entry ps e (length (marks_of es))) (λ ok. cond_elim (Comes k) (matches ps e k.cells) (λ m.
        let low = ltb-true k.used (length s) lo in
        let c = call_for e in
        let z = cells_length ps es c k.cells ∙ same in
        let ih = comes f (k' k ts q st same low ok m) (on_stack ps c (stack_of ρ ns t₀ k ts)).saved (journal_same k ts q st same low ok m) (stands' k ts q st same low ok m) z
        (subst (λ l. Tells s l (k.used + bytes_for c)) (entries' k ts q st same low ok m) (tells' k ts q st same low ok m tells)) in
        let run = run_same k ts q st same low ok m f tells ∙ ap (λ l. play_from f ps s (k.used + bytes_for c) (length l) (marks_of l) (cells_on ps c es k.cells)) (entries' k ts q st same low ok m) in
        subst (Comes k) (sym run) (λ p. call_more k ts q st same low ok m (ih p))) (λ _. stop)) (λ _. stop)) (λ _. stop)

    comes_fresh : Fit t₀ → Comes (kept t₀ j 0) (play_in ρ ns j used t₀)
    unfolding play_of place_at entries_at marks_from fresh
    comes_fresh f = comes (length s) (kept t₀ j 0) [] refl (fresh ρ ns t₀ j f) refl (record { ends = refl; reads = refl })

  -- a replay that gives 0: the journal is one that calls made on the table, and the cells are theirs
  pub reopened : Fit t₀ → AllBytes s → replay_of ρ ns j used t₀ ≡ Ok tt → MadeBy ρ ns (kept t₀ j 0) (behind_replay ρ ns t₀ (kept t₀ j used))
  unfolding replay_of
  reopened f b r =
      let q = then_right (checked_of ρ ns (length t₀)) (whole (play_in ρ ns j used t₀).place used) r in
      comes_fresh q.0 b f (whole_right (play_in ρ ns j used t₀).place used q.1)
