-- R500, R516: calls one after the other, on what the caller keeps: the cells, the journal's buffer and the bytes used. What is promised of them.
use Rattle.std.specs.Prelude.{◌≡◌, List, [], ◌∷◌, ◌++◌, ℕ, ◌+◌, ◌≤◌, ℤ, pos, length, take, drop, get_or, Result, Ok, Err}
use Rattle.std.specs.Int.{w64}
use Rattle.std.proofs.Common.{SFits}
use Rattle.rules.specs.declared.Rules.{Rules}
use Rattle.reply.specs.declared.Refusal.{Refusal}
use Rattle.entry.specs.declared.Entry.{Entry}
use Rattle.entry.specs.Field.{entry_text}
use Rattle.journal.specs.Layout.{starts_of}
use Rattle.journal.specs.Entries.{journal_text, entries_at, place_at}
use Rattle.journal.specs.Model.{Call, Sets, Opens, Releases, Undoes, by_answer, stacked, model_answers, model_run}
use Rattle.journal.specs.Calls.{whole, entry_for, walk_in, answer_of, cells_after, journal_by, used_by}
use Rattle.journal.specs.Plays.{replay_of, replayed_cells, replayed_open}

pub record Kept : Type 0 where
  pub cells : List ℤ
  pub journal : List ℕ
  pub used : ℕ

abbrev pub kept : List ℤ → List ℕ → ℕ → Kept
kept t j used = record { cells = t; journal = j; used = used }

-- R520: an entry's field stands behind the bytes that were used, and is used too; all other bytes are as they were
pub record Adds (k : Kept) (e : Entry) (k' : Kept) : Type 0 where
  pub journal : k'.journal ≡ take k.used k.journal ++ (entry_text e ++ drop (k.used + length (entry_text e)) k.journal)
  pub used : k'.used ≡ k.used + length (entry_text e)

-- the bytes used are those of these entries, and read as they are, to the last byte
pub record ReadsEntries (k : Kept) (es : List Entry) : Type 0 where
  pub bytes : take k.used k.journal ≡ journal_text es
  pub entries : entries_at (take k.used k.journal) 0 (length es) ≡ es
  pub ends : place_at (take k.used k.journal) 0 (length es) ≡ k.used

-- a table's cells, and the value of a set, have 64 bits
abbrev pub Fit : List ℤ → Type 0
Fit t = (i : ℕ) → SFits w64 (get_or t i (pos 0))

abbrev pub FitCall : Call → Type 0
FitCall (Sets g c v) = SFits w64 v
FitCall Opens = Unit {0}
FitCall (Releases k) = Unit {0}
FitCall (Undoes k) = Unit {0}

abbrev pub FitCalls : List Call → Type 0
FitCalls [] = Unit {0}
FitCalls (c ∷ cs) = FitCall c × FitCalls cs

-- R544: of the bytes that k uses, the first n stand first in the buffer j
pub record FirstBytes (k : Kept) (n : ℕ) (j : List ℕ) : Type 0 where
  pub inside : n ≤ k.used
  pub same : take n j ≡ take n k.journal

module _ (ρ : Rules) (ns : List ℕ) where
  -- what a call answers, and what it leaves, by the definitions that the contracts cite
  abbrev pub answer_to : Call → Kept → Result ℕ Refusal
  answer_to c k = answer_of ρ ns k.journal k.used (length k.cells) c

  abbrev pub left_by : Call → Kept → Result ℕ Refusal → Kept
  left_by c k a = kept (cells_after ρ ns k.journal k.used c k.cells a) (journal_by ρ ns k.journal k.used c k.cells a) (used_by k.used c a)

  abbrev pub answers_to : List Call → Kept → List (Result ℕ Refusal)
  answers_to [] k = []
  answers_to (c ∷ cs) k = answer_to c k ∷ answers_to cs (left_by c k (answer_to c k))

  abbrev pub left_to : List Call → Kept → Kept
  left_to [] k = k
  left_to (c ∷ cs) k = left_to cs (left_by c k (answer_to c k))

  -- the savepoints that are open
  abbrev pub open_in : Kept → ℕ
  open_in k = length (walk_in ρ ns k.journal k.used).marks

  -- R520, R518: the entry of a call, where it is accepted; what an accepted call adds, and that a refused one adds nothing
  abbrev pub entry_to : Call → Kept → Entry
  entry_to c k = entry_for (starts_of ρ ns) c (open_in k) k.cells

  pub record AddsField (c : Call) (k : Kept) : Type 0 where
    pub done : (n : ℕ) → answer_to c k ≡ Ok n → Adds k (entry_to c k) (left_by c k (Ok n))
    pub refused : (r : Refusal) → answer_to c k ≡ Err r → left_by c k (Err r) ≡ k

  -- the entries of those calls that are accepted
  abbrev pub entries_to : List Call → Kept → List Entry
  entries_to [] k = []
  entries_to (c ∷ cs) k = by_answer (answer_to c k) (entry_to c k ∷ []) [] ++ entries_to cs (left_by c k (answer_to c k))

  -- for any calls on a fresh journal, every reply, all cells and the open savepoints are the stack's
  pub record JournalIsStack (t : List ℤ) (j : List ℕ) (cs : List Call) : Type 0 where
    pub answers : answers_to cs (kept t j 0) ≡ model_answers ρ ns cs (stacked t [] (length j))
    pub cells : (left_to cs (kept t j 0)).cells ≡ (model_run ρ ns cs (stacked t [] (length j))).cells
    pub opened : open_in (left_to cs (kept t j 0)) ≡ length (model_run ρ ns cs (stacked t [] (length j))).saved

  -- R543: replayed over the table t, the bytes that k uses, where they stand in the buffer j, come to k's cells and open savepoints
  pub record ReplaysTo (t : List ℤ) (j : List ℕ) (k : Kept) : Type 0 where
    pub answer : replay_of ρ ns j k.used t ≡ Ok tt
    pub cells : replayed_cells ρ ns j k.used t (Ok tt) ≡ k.cells
    pub opened : replayed_open ρ ns j k.used t (Ok tt) ≡ open_in k

  -- what is kept behind a replay over t that gives 0
  abbrev pub behind_replay : List ℤ → Kept → Kept
  behind_replay t k = kept (replayed_cells ρ ns k.journal k.used t (Ok tt)) k.journal k.used

  -- R544: a buffer j that has the first n bytes of what calls made, and behind them anything. So many calls are whole in them, and no more; a
  -- replay gives 0 at the end of a field, and else 17 with the place of the field that was cut. The bytes before it are those that were used
  -- behind these calls, and replay to what these calls left.
  pub record Torn (t : List ℤ) (cs : List Call) (k : Kept) (n : ℕ) (j : List ℕ) : Type 0 where
    pub calls : ℕ
    pub among : calls ≤ length cs
    pub before : (left_to (take calls cs) k).used ≤ n
    pub most : (m : ℕ) → m ≤ length cs → (left_to (take m cs) k).used ≤ n → m ≤ calls
    pub answer : replay_of ρ ns j n t ≡ whole (left_to (take calls cs) k).used n
    pub bytes : take (left_to (take calls cs) k).used j ≡ take (left_to (take calls cs) k).used (left_to (take calls cs) k).journal
    pub rest : ReplaysTo t j (left_to (take calls cs) k)

  -- R543: calls that lead from what was kept to what is
  pub record MadeBy (k end : Kept) : Type 0 where
    pub calls : List Call
    pub fits : FitCalls calls
    pub left : left_to calls k ≡ end
