-- R500, R516, R543: any calls on a fresh journal are a stack of whole tables, reply for reply, and a replay of what they made comes to the
-- same; by what stands after each call.
-- Assumes nothing.
use Rattle.std.specs.Prelude.{Option, Some, None, Result, Ok, Err}
use mathlib.Core.Path.{◌≡◌, refl, sym, ap, ap₂, ◌∙◌, subst}
use mathlib.Core.Bool.{Bool, true, false}
use mathlib.Core.List.{List, [], ◌∷◌, ◌++◌, append_assoc, append-nil}
use Prim.Native.Nat.{ℕ, zero, suc, ◌+◌, ◌-◌, ◌≤◌}
use native.Mathlib.Nat.{sub-zero}
use native.Mathlib.Omega.{arith}
use lib.Dec.{ltb, eqb}
use lib.IntN.{ℤ, pos}
use lib.ListN.{length, get_or, set, drop, take, length-drop}
use Rattle.rules.specs.declared.Rules.{Rules}
use Rattle.base.proofs.Taken.{drop_none, take_none}
use lib.Seq.{get_or-set_same, get_or-set_other, set_out, length-take-le}
use borrow.Author.Tests.{eqb-true, eqb-false, ltb-true, ltb-false, eq-eqb}
use mir.Syntax.{w64}
use mir.Val.{SFits}
use Rattle.base.specs.Part.{over}
use Rattle.base.proofs.Part.{over_length}
use Rattle.count.specs.Check.{checked_of}
use Rattle.count.specs.Due.{HasCells}
use Rattle.count.proofs.Due as Counted
use Rattle.reply.specs.declared.Refusal.{Refusal}
use Rattle.reply.specs.declared.Refusal.TheVariants.{NoRoom}
use Rattle.entry.specs.declared.Entry.{Entry}
use Rattle.entry.specs.declared.Entry.TheVariants.{Set, Open, Release, Undo, Misformed}
use Rattle.entry.specs.Field.{entry_text, entry_size}
use Rattle.entry.specs.Codec.{Sized, sized_set, sized_open, sized_release, sized_undo}
use Rattle.entry.proofs.Codec.{length_text}
use Rattle.journal.specs.Layout.{starts_of, spot_of, get_at, put_at}
use Rattle.journal.specs.Model.{Call, Sets, Opens, Releases, Undoes, accepts, bytes_for, number_for, refusal_of, decided, Stack, stacked, on_stack}
use Rattle.journal.specs.Model.{model_answer, model_step, model_answers, model_run, by_answer}
use Rattle.journal.specs.Entries.{mark_step, marks_from, marks_of, mark_of, give_back, restore, journal_text, entries_at, place_at}
use Rattle.journal.specs.Walks.{ok_entry, walked, walk_of}
use Rattle.journal.specs.Calls.{entry_for, cells_for, walk_in, standing_of}
use Rattle.journal.specs.Plays.{matches, played, play_of, play_in, replay_of}
use Rattle.journal.specs.Runs.{Fit, FitCall, FitCalls, Kept, kept, answer_to, left_by, answers_to, left_to, open_in, entry_to, entries_to}
use Rattle.journal.specs.Runs.{JournalIsStack, ReplaysTo, AddsField, ReadsEntries, behind_replay}
use Rattle.journal.proofs.Answers.{answer_right, answer_refused}
use Rattle.journal.proofs.Held.{none, holds_length, holds_mark, HeldBy, with_entry, cells_on, marks_entry, held_cells, held_call}
use Rattle.journal.proofs.Text.{Fine, fine_none, fine_more, fine_last, text_length, walk_journal, back_journal, read_written, place_written, text_more, used_more}
use Rattle.journal.proofs.Walking.{ok_release, ok_undo}
use Rattle.journal.proofs.Playing.{same_same}
use Rattle.journal.proofs.Replays.{Leads, leads_none, leads_last, played_on, play_journal}
use Rattle.journal.proofs.Small.{cell_small}

-- ---- cells of 64 bits

fit_put : (p : Option ℕ) (v : ℤ) (t : List ℤ) → SFits w64 v → Fit t → Fit (put_at p v t)
fit_put (Some i) v t h f j = by (eqb i j) (ltb j (length t)) refl refl
  where
    by : (b d : Bool) → eqb i j ≡ b → ltb j (length t) ≡ d → SFits w64 (get_or (set t i v) j (pos 0))
    by true true e l = rw (eqb-true i j e, get_or-set_same t j v (pos 0) (ltb-true j (length t) l)) h
    by true false e l = rw (eqb-true i j e, set_out t j v (ltb-false j (length t) l)) (f j)
    by false d e l = rw (get_or-set_other t i j v (pos 0) (λ q. eqb-false i j e (sym q))) (f j)
fit_put None v t h f j = f j

fit_get : (p : Option ℕ) (t : List ℤ) → Fit t → SFits w64 (get_at p t)
fit_get (Some i) t f = f i
fit_get None t f = record { sfits = omega arith }

fit_back : (ps : List ℕ) (e : Entry) (t : List ℤ) → Sized e → Fit t → Fit (give_back ps e t)
fit_back ps (Set g c o n) t (sized_set hg hc fo fn) f = fit_put (spot_of ps g c) o t fo f
fit_back ps (Open k) t h f = f
fit_back ps (Release k) t h f = f
fit_back ps (Undo k) t h f = f
fit_back ps Misformed t h f = f

-- what the entries from number m on give back
fit_restore : {ps : List ℕ} (m : ℕ) (es : List Entry) {i : ℕ} {ms : List ℕ} (t : List ℤ) → Fine ps es i ms → Fit t → Fit (restore ps (drop m es) t)
unfolding restore
fit_restore zero [] t fine_none f = f
fit_restore {ps} zero (e ∷ es) t (fine_more h o r) f = fit_back ps e (restore ps es t) h (rw (drop_none es) at (fit_restore zero es t r f))
fit_restore (suc m) [] t fine_none f = f
fit_restore (suc m) (e ∷ es) t (fine_more h o r) f = fit_restore m es t r f

-- ---- what stands

module _ (ρ : Rules) (ns : List ℕ) (t₀ : List ℤ) where
  abbrev ps : List ℕ
  ps = starts_of ρ ns

  -- the bytes used are those of entries that are in order, lead from t₀ to the cells, and give back the tables that were saved
  pub record Stands (k : Kept) (ts : List (List ℤ)) : Type 0 where
    pub entries : List Entry
    pub inside : k.used ≤ length k.journal
    pub bytes : take k.used k.journal ≡ journal_text entries
    pub fine : Fine ps entries 0 []
    pub held : HeldBy ps entries k.cells ts
    pub leads : Leads ps [] entries t₀ k.cells
    pub few : length (marks_of entries) ≤ 16
    pub fit : (i : ℕ) → SFits w64 (get_or k.cells i (pos 0))

  abbrev pub stack_of : Kept → List (List ℤ) → Stack
  stack_of k ts = stacked k.cells ts (length k.journal - k.used)

  -- ---- the entry of a call that is accepted

  pub entry_size_lem : (c : Call) (d : ℕ) (t : List ℤ) → entry_size (entry_for ps c d t) ≡ bytes_for c
  entry_size_lem (Sets g c v) d t = refl
  entry_size_lem Opens d t = refl
  entry_size_lem (Releases k) d t = refl
  entry_size_lem (Undoes k) d t = refl

  entry_sized : (c : Call) (d n : ℕ) (t : List ℤ) → checked_of ρ ns n ≡ Ok tt → accepts ps c d ≡ true → d ≤ 16 → FitCall c × Fit t → Sized (entry_for ps c d t)
  entry_sized (Sets g c v) d n t e h l f = let m = cell_small ρ ns n e g c h in sized_set m.0 m.1 (fit_get (spot_of ps g c) t f.1) f.0
  entry_sized Opens d n t e h l f = sized_open {k = d + 1} (omega arith)
  entry_sized (Releases k) d n t e h l f = sized_release {k = k} (omega (arith, ok_release ps d k h))
  entry_sized (Undoes k) d n t e h l f = sized_undo {k = k} (omega (arith, ok_undo ps d k h))

  entry_ok : (c : Call) (d : ℕ) (t : List ℤ) → accepts ps c d ≡ true → ok_entry ps (entry_for ps c d t) d ≡ true
  entry_ok (Sets g c v) d t h = h
  entry_ok Opens d t h = rw h (eq-eqb (d + 1) (d + 1) refl)
  entry_ok (Releases k) d t h = h
  entry_ok (Undoes k) d t h = h

  entry_matches : (c : Call) (d : ℕ) (t : List ℤ) → matches ps (entry_for ps c d t) t ≡ true
  entry_matches (Sets g c v) d t = same_same (get_at (spot_of ps g c) t)
  entry_matches Opens d t = refl
  entry_matches (Releases k) d t = refl
  entry_matches (Undoes k) d t = refl

  pub played_call : (es : List Entry) (c : Call) (d : ℕ) (t : List ℤ) → played_on ps (entry_for ps c d t) es t ≡ cells_on ps c es t
  played_call es (Sets g c v) d t = refl
  played_call es Opens d t = refl
  played_call es (Releases k) d t = refl
  played_call es (Undoes k) d t = refl

  marks_few : (c : Call) (ms : List ℕ) (i : ℕ) (t : List ℤ) → accepts ps c (length ms) ≡ true → length ms ≤ 16 → length (mark_step (entry_for ps c (length ms) t) i ms) ≤ 16
  marks_few (Sets g c v) ms i t h l = l
  marks_few Opens ms i t h l = ltb-true (length ms) 16 h
  marks_few (Releases k) ms i t h l = omega (arith, length-drop 1 ms)
  marks_few (Undoes k) ms i t h l = omega (arith, length-drop (length ms - k) ms)

  stack_is : (c : Call) (x : Stack) → on_stack ps c x ≡ stacked (on_stack ps c x).cells (on_stack ps c x).saved (x.room - bytes_for c)
  stack_is (Sets g c v) x = refl
  stack_is Opens x = refl
  stack_is (Releases k) x = refl
  stack_is (Undoes k) x = refl

  fit_call : {es : List Entry} (c : Call) (t : List ℤ) → FitCall c → Fine ps es 0 [] → Fit t → Fit (cells_on ps c es t)
  fit_call (Sets g c v) t f r ft = fit_put (spot_of ps g c) v t f ft
  fit_call Opens t f r ft = ft
  fit_call (Releases k) t f r ft = ft
  fit_call {es} (Undoes k) t f r ft = fit_restore (mark_of (marks_of es) k) es t r ft

  -- by the bytes as by the entries
  cells_on_lem : {es : List Entry} {ts : List (List ℤ)} (c : Call) (p : ℕ) (t : List ℤ) → Fine ps es 0 [] → HeldBy ps es t ts → accepts ps c (length (marks_of es)) ≡ true
      → cells_for ps c (journal_text es) (walked p (length es) (marks_of es)) t ≡ cells_on ps c es t
  cells_on_lem (Sets g c v) p t r h o = refl
  cells_on_lem Opens p t r h o = refl
  cells_on_lem (Releases k) p t r h o = refl
  cells_on_lem {es} (Undoes k) p t r h o =
      let q = ok_undo ps (length (marks_of es)) k o in
      back_journal es (mark_of (marks_of es) k) t r (holds_mark (length (marks_of es) - k) (omega arith) h).0

  -- what stands, with these entries
  pub record With (k : Kept) (ts : List (List ℤ)) (es : List Entry) : Type 0 where
    pub stands : Stands k ts
    pub told : stands.entries ≡ es

  -- the entry of a call, if its answer is this one
  abbrev told_by_lem : Call → Kept → Result ℕ Refusal → List Entry
  told_by_lem c k a = by_answer a (entry_to ρ ns c k ∷ []) []

  -- a call on what stands: the stack's answer, and what stands behind it
  pub record Next (c : Call) (k : Kept) (ts : List (List ℤ)) (es : List Entry) : Type 0 where
    pub answer : answer_to ρ ns c k ≡ model_answer ρ ns c (stack_of k ts)
    pub saved : List (List ℤ)
    pub model : model_step ρ ns c (stack_of k ts) ≡ stack_of (left_by ρ ns c k (answer_to ρ ns c k)) saved
    pub left : With (left_by ρ ns c k (answer_to ρ ns c k)) saved (es ++ told_by_lem c k (answer_to ρ ns c k))

  module _ (c : Call) (k : Kept) (ts : List (List ℤ)) (s : Stands k ts) where
    abbrev es : List Entry
    es = s.entries

    abbrev d : ℕ
    d = length (marks_of es)

    pub used_is : length (journal_text es) ≡ k.used
    used_is = ap length (sym s.bytes) ∙ length-take-le k.used k.journal s.inside

    pub walk_is : walk_in ρ ns k.journal k.used ≡ walked k.used (length es) (marks_of es)
    walk_is = ap (walk_of ps) s.bytes ∙ walk_journal es s.fine ∙ ap (λ p. walked p (length es) (marks_of es)) used_is

    -- both answers are one
    next_of : (a : Result ℕ Refusal) → answer_to ρ ns c k ≡ a → model_answer ρ ns c (stack_of k ts) ≡ a → (saved : List (List ℤ))
        → by_answer a (on_stack ps c (stack_of k ts)) (stack_of k ts) ≡ stack_of (left_by ρ ns c k a) saved → With (left_by ρ ns c k a) saved (es ++ told_by_lem c k a) → Next c k ts es
    next_of a e m saved q st =
        record {
          answer = e ∙ sym m;
          saved = saved;
          model = ap (λ x. by_answer x (on_stack ps c (stack_of k ts)) (stack_of k ts)) m ∙ q ∙ ap (λ x. stack_of (left_by ρ ns c k x) saved) (sym e);
          left = subst (λ x. With (left_by ρ ns c k x) saved (es ++ told_by_lem c k x)) (sym e) st;
        }

    next_refused : (r : Refusal) → answer_to ρ ns c k ≡ Err r → model_answer ρ ns c (stack_of k ts) ≡ Err r → Next c k ts es
    next_refused r e m = next_of (Err r) e m ts refl record { stands = s; told = sym (append-nil es) }

    standing_is : checked_of ρ ns (length k.cells) ≡ Ok tt → standing_of ρ ns k.journal k.used (length k.cells) ≡ Ok tt
    unfolding standing_of
    standing_is e = rw (e, walk_is, eq-eqb k.used k.used refl) refl

    refused_standing : (r : Refusal) → checked_of ρ ns (length k.cells) ≡ Err r → standing_of ρ ns k.journal k.used (length k.cells) ≡ Err r
    unfolding standing_of
    refused_standing r e = rw e refl

    pub answer_is : checked_of ρ ns (length k.cells) ≡ Ok tt → answer_to ρ ns c k ≡ decided ps c d (length k.journal - k.used)
    answer_is e = answer_right ρ ns k.journal k.used (length k.cells) c (standing_is e) ∙ ap (λ w. decided ps c (length w.marks) (length k.journal - k.used)) walk_is

    model_is : checked_of ρ ns (length k.cells) ≡ Ok tt → model_answer ρ ns c (stack_of k ts) ≡ decided ps c d (length k.journal - k.used)
    model_is e = rw (e, ← holds_length s.held) refl

    -- a call that is done
    module _ (right : checked_of ρ ns (length k.cells) ≡ Ok tt) (fits : FitCall c) (ok : accepts ps c d ≡ true) (room : bytes_for c ≤ length k.journal - k.used) where
      abbrev t : List ℤ
      t = k.cells

      abbrev e : Entry
      e = entry_for ps c d t

      size : length (entry_text e) ≡ bytes_for c
      size = length_text e ∙ entry_size_lem c d t

      long : length (over k.used (entry_text e) k.journal) ≡ length k.journal
      long = over_length k.journal (entry_text e) k.used (omega (arith, size, s.inside))

      sized : Sized e
      sized = entry_sized c d (length t) t right ok s.few (fits, s.fit)

      abbrev saved : List (List ℤ)
      saved = (on_stack ps c (stack_of k ts)).saved

      pub left_is : (n : ℕ) → left_by ρ ns c k (Ok n) ≡ kept (cells_on ps c es t) (over k.used (entry_text e) k.journal) (k.used + bytes_for c)
      left_is n =
          ap (λ w. kept (cells_for ps c (take k.used k.journal) w t) (over k.used (entry_text (entry_for ps c (length w.marks) t)) k.journal) (k.used + bytes_for c)) walk_is
          ∙ ap (λ x. kept (cells_for ps c x (walked k.used (length es) (marks_of es)) t) (over k.used (entry_text e) k.journal) (k.used + bytes_for c)) s.bytes
          ∙ ap (λ x. kept x (over k.used (entry_text e) k.journal) (k.used + bytes_for c)) (cells_on_lem c k.used t s.fine s.held ok)

      pub stands_done : Stands (kept (cells_on ps c es t) (over k.used (entry_text e) k.journal) (k.used + bytes_for c)) saved
      stands_done =
          record {
            entries = with_entry es e;
            inside = omega (arith, long, s.inside);
            bytes = used_more k.journal (entry_text e) k.used (bytes_for c) s.inside size ∙ ap (λ x. x ++ entry_text e) s.bytes ∙ sym (text_more es e);
            fine = fine_last e sized s.fine (entry_ok c d t ok);
            held = held_call ps es t ts (length k.journal - k.used) s.held c ok;
            leads = subst (Leads ps [] (with_entry es e) t₀) (played_call es c d t) (leads_last e s.leads (record { sized = sized; ok = entry_ok c d t ok; same = entry_matches c d t }));
            few = rw (marks_entry es e) (marks_few c (marks_of es) (length es) t ok s.few);
            fit = fit_call c t fits s.fine s.fit;
          }

      pub entries_done : stands_done.entries ≡ with_entry es e
      unfolding stands_done
      entries_done = refl

      model_done : on_stack ps c (stack_of k ts) ≡ stack_of (kept (cells_on ps c es t) (over k.used (entry_text e) k.journal) (k.used + bytes_for c)) saved
      model_done =
          let z : length k.journal - k.used - bytes_for c ≡ length (over k.used (entry_text e) k.journal) - (k.used + bytes_for c) = omega (arith, long) in
          stack_is c (stack_of k ts)
          ∙ ap (λ x. stacked x saved (length k.journal - k.used - bytes_for c)) (sym (held_cells ps es t ts (length k.journal - k.used) s.held c ok))
          ∙ ap (stacked (cells_on ps c es t) saved) z

      next_done : (n : ℕ) → answer_to ρ ns c k ≡ Ok n → model_answer ρ ns c (stack_of k ts) ≡ Ok n → Next c k ts es
      next_done n a m =
          next_of (Ok n) a m saved (model_done ∙ ap (λ x. stack_of x saved) (sym (left_is n)))
          (subst (λ x. With x saved (with_entry es (entry_to ρ ns c k))) (sym (left_is n))
          record { stands = stands_done; told = entries_done ∙ ap (λ w. with_entry es (entry_for ps c (length w.marks) t)) (sym walk_is) })

    -- any call
    next_right : checked_of ρ ns (length k.cells) ≡ Ok tt → FitCall c → Next c k ts es
    next_right r f = by (accepts ps c d) (ltb (length k.journal - k.used) (bytes_for c)) refl refl
      where
        by : (b l : Bool) → accepts ps c d ≡ b → ltb (length k.journal - k.used) (bytes_for c) ≡ l → Next c k ts es
        by false l o q = next_refused (refusal_of c) (answer_is r ∙ rw o refl) (model_is r ∙ rw o refl)
        by true true o q = next_refused NoRoom (answer_is r ∙ rw (o, q) refl) (model_is r ∙ rw (o, q) refl)
        by true false o q =
            next_done r f o (ltb-false (length k.journal - k.used) (bytes_for c) q) (number_for c d) (answer_is r ∙ rw (o, q) refl) (model_is r ∙ rw (o, q) refl)

    pub next : FitCall c → Next c k ts es
    next f = by (checked_of ρ ns (length k.cells)) refl
      where
        by : (r : Result (Unit {0}) Refusal) → checked_of ρ ns (length k.cells) ≡ r → Next c k ts es
        by (Ok done) e = next_right e f
        by (Err r) e = next_refused r (refused_answer r e) (rw e refl)
          where
            refused_answer : (r : Refusal) → checked_of ρ ns (length k.cells) ≡ Err r → answer_to ρ ns c k ≡ Err r
            refused_answer r e = answer_refused ρ ns k.journal k.used (length k.cells) c (refused_standing r e)

  -- ---- any calls

  run_answers : (cs : List Call) (k : Kept) (ts : List (List ℤ)) → FitCalls cs → Stands k ts → answers_to ρ ns cs k ≡ model_answers ρ ns cs (stack_of k ts)
  run_answers [] k ts f s = refl
  run_answers (c ∷ cs) k ts f s =
      let n = next c k ts s f.0 in
      ap₂ ◌∷◌ n.answer (run_answers cs (left_by ρ ns c k (answer_to ρ ns c k)) n.saved f.1 n.left.stands ∙ ap (model_answers ρ ns cs) (sym n.model))

  -- what is left by calls, the stack's tables there, and the entries
  pub record After (cs : List Call) (k : Kept) (ts : List (List ℤ)) (es : List Entry) : Type 0 where
    pub saved : List (List ℤ)
    pub model : model_run ρ ns cs (stack_of k ts) ≡ stack_of (left_to ρ ns cs k) saved
    pub left : With (left_to ρ ns cs k) saved (es ++ entries_to ρ ns cs k)

  pub after_calls : (cs : List Call) (k : Kept) (ts : List (List ℤ)) → FitCalls cs → (s : Stands k ts) → After cs k ts s.entries
  after_calls [] k ts f s = record { saved = ts; model = refl; left = record { stands = s; told = sym (append-nil s.entries) } }
  after_calls (c ∷ cs) k ts f s =
      let n = next c k ts s f.0 in
      let k' = left_by ρ ns c k (answer_to ρ ns c k) in
      let a = after_calls cs k' n.saved f.1 n.left.stands in
      let told = a.left.told ∙ ap (λ l. l ++ entries_to ρ ns cs k') n.left.told ∙ append_assoc s.entries (told_by_lem c k (answer_to ρ ns c k)) (entries_to ρ ns cs k') in
      record { saved = a.saved; model = ap (model_run ρ ns cs) n.model ∙ a.model; left = record { stands = a.left.stands; told = told } }

  unfoldable pub fresh : (j : List ℕ) → Fit t₀ → Stands (kept t₀ j 0) []
  unfolding journal_text marks_from
  fresh j f =
      record { entries = []; inside = omega arith; bytes = take_none j; fine = fine_none; held = none; leads = leads_none; few = omega arith; fit = f }

  pub open_is : (k : Kept) (ts : List (List ℤ)) → Stands k ts → open_in ρ ns k ≡ length ts
  open_is k ts s = ap (λ w. length w.marks) (walk_is Opens k ts s) ∙ holds_length s.held

  -- a replay over t₀ of the bytes used, in whatever buffer they stand
  play_is : (k : Kept) (ts : List (List ℤ)) (j : List ℕ) (s : Stands k ts) → take k.used j ≡ take k.used k.journal
      → play_in ρ ns j k.used t₀ ≡ played k.used (length s.entries) (marks_of s.entries) k.cells
  play_is k ts j s q =
      let used = used_is Opens k ts s in
      ap (λ x. play_of ps x t₀) (q ∙ s.bytes) ∙ play_journal (journal_text s.entries) s.entries s.leads refl (text_length s.fine)
      ∙ ap (λ p. played p (length s.entries) (marks_of s.entries) k.cells) used

  pub replay_stands : (k : Kept) (ts : List (List ℤ)) (j : List ℕ) → Stands k ts → take k.used j ≡ take k.used k.journal → checked_of ρ ns (length t₀) ≡ Ok tt → ReplaysTo ρ ns t₀ j k
  unfolding replay_of
  replay_stands k ts j s q r =
      let p = play_is k ts j s q in
      record {
        answer = rw (r, p, eq-eqb k.used k.used refl) refl;
        cells = ap (λ x. x.cells) p;
        opened = ap (λ x. length x.marks) p ∙ sym (ap (λ w. length w.marks) (walk_is Opens k ts s));
      }

-- ---- calls behind calls

module _ (ρ : Rules) (ns : List ℕ) where
  pub left_append : (bs cs : List Call) (k : Kept) → left_to ρ ns (bs ++ cs) k ≡ left_to ρ ns cs (left_to ρ ns bs k)
  left_append [] cs k = refl
  left_append (b ∷ bs) cs k = left_append bs cs (left_by ρ ns b k (answer_to ρ ns b k))

  pub answers_append : (bs cs : List Call) (k : Kept) → answers_to ρ ns (bs ++ cs) k ≡ answers_to ρ ns bs k ++ answers_to ρ ns cs (left_to ρ ns bs k)
  answers_append [] cs k = refl
  answers_append (b ∷ bs) cs k = ap (λ l. answer_to ρ ns b k ∷ l) (answers_append bs cs (left_by ρ ns b k (answer_to ρ ns b k)))

  -- R518, R520: a call adds its field, or nothing
  pub adds_field : (c : Call) (k : Kept) → AddsField ρ ns c k
  adds_field c k =
      record {
        done = λ n q. record { journal = refl; used = ap (λ m. k.used + m) (sym (length_text (entry_to ρ ns c k) ∙ entry_size_lem ρ ns k.cells c (open_in ρ ns k) k.cells)) };
        refused = λ r q. refl;
      }

module _ (ρ : Rules) (ns : List ℕ) (t : List ℤ) (j : List ℕ) (cs : List Call) (ft : Fit t) (fc : FitCalls cs) where
  -- R516: every reply, all cells and the open savepoints are those of the stack
  pub journal_is_stack : JournalIsStack ρ ns t j cs
  journal_is_stack =
      let s = fresh ρ ns t j ft in
      let a = after_calls ρ ns t cs (kept t j 0) [] fc s in
      let z : length j - 0 ≡ length j = sub-zero (length j) in
      record {
        answers = run_answers ρ ns t cs (kept t j 0) [] fc s ∙ ap (λ n. model_answers ρ ns cs (stacked t [] n)) z;
        cells = sym (ap (λ x. x.cells) a.model) ∙ ap (λ n. (model_run ρ ns cs (stacked t [] n)).cells) z;
        opened = open_is ρ ns t (left_to ρ ns cs (kept t j 0)) a.saved a.left.stands ∙ sym (ap (λ x. length x.saved) a.model) ∙
            ap (λ n. length (model_run ρ ns cs (stacked t [] n)).saved) z;
      }

  -- R543: a journal that calls made, replayed over the table that they began with
  pub replay_same : HasCells ρ ns (length t) → ReplaysTo ρ ns t (left_to ρ ns cs (kept t j 0)).journal (left_to ρ ns cs (kept t j 0))
  replay_same h =
      let a = after_calls ρ ns t cs (kept t j 0) [] fc (fresh ρ ns t j ft) in
      let k = left_to ρ ns cs (kept t j 0) in
      replay_stands ρ ns t k a.saved k.journal a.left.stands refl ((Counted.first_due ρ ns (length t) (Ok tt)).1 h)

  -- R520: the bytes used are the fields of the calls that were accepted, and read as these
  pub reads_as : ReadsEntries (left_to ρ ns cs (kept t j 0)) (entries_to ρ ns cs (kept t j 0))
  unfolding fresh
  reads_as =
      let a = after_calls ρ ns t cs (kept t j 0) [] fc (fresh ρ ns t j ft) in
      let s = a.left.stands in
      let k = left_to ρ ns cs (kept t j 0) in
      let b = s.bytes in
      let q : take k.used k.journal ≡ [] ++ (journal_text s.entries ++ []) = b ∙ sym (append-nil (journal_text s.entries)) in
      let u : length (take k.used k.journal) ≡ k.used = length-take-le k.used k.journal s.inside in
      let e : s.entries ≡ entries_to ρ ns cs (kept t j 0) = a.left.told in
      record {
        bytes = b ∙ ap journal_text e;
        entries = subst (λ l. entries_at (take k.used k.journal) 0 (length l) ≡ l) e (read_written s.entries [] [] (take k.used k.journal) s.fine q);
        ends = subst (λ l. place_at (take k.used k.journal) 0 (length l) ≡ k.used) e (place_written s.entries [] (take k.used k.journal) s.fine b ∙ u);
      }

  -- R543: a replay leaves all as it was kept, so that whatever calls come are answered, and leave, what they would have without it
  pub goes_on : HasCells ρ ns (length t) → behind_replay ρ ns t (left_to ρ ns cs (kept t j 0)) ≡ left_to ρ ns cs (kept t j 0)
  goes_on h =
      let k = left_to ρ ns cs (kept t j 0) in
      ap (λ x. kept x k.journal k.used) (replay_same h).cells
