-- R12: under rules that count alike the calls of the journal, and a replay, are answered the same and leave the same.
-- Assumes nothing.
use Rattle.std.specs.Prelude.{Result}
use mathlib.Core.Path.{◌≡◌}
use mathlib.Core.List.{List}
use Prim.Native.Nat.{ℕ}
use lib.IntN.{ℤ}
use lib.ListN.{length}
use Rattle.rules.specs.declared.Rules.{Rules}
use Rattle.base.specs.Every.{up_from}
use Rattle.base.proofs.Mapped.{map_same}
use Rattle.count.specs.Tally.{cells_before}
use Rattle.count.proofs.SameCounting.{cells_before_same, check_same}
use Rattle.journal.specs.Layout.{starts_of}
use Rattle.journal.specs.Calls.{standing_of, answer_of}
use Rattle.journal.specs.Model.{Call}
use Rattle.journal.specs.Plays.{replay_of, replayed_cells, replayed_open}
use Rattle.journal.specs.Runs.{Kept, answer_to, left_by}
use Rattle.reply.specs.declared.Refusal.{Refusal}

module _ (σ ρ : Rules) (alike : σ.counting ≡ ρ.counting) (ns : List ℕ) where
  starts_same : starts_of σ ns ≡ starts_of ρ ns
  unfolding starts_of
  starts_same = map_same (cells_before σ ns) (cells_before ρ ns) (cells_before_same σ ρ alike ns) (up_from 0 62)

  pub answer_same : (c : Call) (k : Kept) → answer_to σ ns c k ≡ answer_to ρ ns c k
  unfolding answer_of standing_of
  answer_same c k = rw (starts_same, check_same σ ρ alike ns (length k.cells))

  pub left_same : (c : Call) (k : Kept) (a : Result ℕ Refusal) → left_by σ ns c k a ≡ left_by ρ ns c k a
  left_same c k a = rw starts_same

  pub replay_answer_same : (j : List ℕ) (used : ℕ) (t : List ℤ) → replay_of σ ns j used t ≡ replay_of ρ ns j used t
  unfolding replay_of
  replay_answer_same j used t = rw (starts_same, check_same σ ρ alike ns (length t))

  pub replay_left_same : (j : List ℕ) (used : ℕ) (t : List ℤ) (a : Result (Unit {0}) Refusal)
      → (replayed_cells σ ns j used t a ≡ replayed_cells ρ ns j used t a) × (replayed_open σ ns j used t a ≡ replayed_open ρ ns j used t a)
  replay_left_same j used t a = (rw starts_same, rw starts_same)
