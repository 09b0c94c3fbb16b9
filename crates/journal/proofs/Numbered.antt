-- Each answer of a call and of a replay fills a row of its table.
-- Assumes nothing.
use Rattle.std.specs.Prelude.{Result, Ok, Err}
use mathlib.Core.Path.{◌≡◌, refl, subst}
use mathlib.Core.Bool.{Bool, true, false, cond}
use mathlib.Core.List.{List, [], ◌∷◌}
use mathlib.Core.Logic.{inl, inr}
use Prim.Native.Nat.{ℕ, ◌+◌, ◌-◌}
use native.Mathlib.Omega.{arith}
use lib.Dec.{eqb, ltb, lit<}
use lib.IntN.{ℤ}
use lib.ListN.{length}
use Rattle.rules.specs.declared.Rules.{Rules}
use Rattle.reply.specs.declared.Refusal.{Refusal}
use Rattle.reply.specs.declared.Refusal.TheVariants.{NoSuchNumber, NoRoom, NotOpen, AllOpen, BadEntry}
use Rattle.reply.specs.Table.{Numbered, savepoint}
use Rattle.reply.specs.Refusals.{refusal_reply, checked_reply, rows}
use Rattle.reply.proofs.Replies.{fills, refusal_fills, at_row, rows_left}
use Rattle.count.specs.Check.{checked_of, and_then}
use Rattle.count.specs.Numbered.{check_refusals}
use Rattle.count.proofs.Due.{first_due}
use Rattle.count.proofs.Numbered.{check_refusal_numbered}
use Rattle.journal.specs.Layout.{starts_of}
use Rattle.journal.specs.Model.{Call, Sets, Opens, Releases, Undoes, accepts, refusal_of, bytes_for, number_for, decided, when_right}
use Rattle.journal.specs.Calls.{whole, walk_in, standing_of, answer_of}
use Rattle.journal.specs.Plays.{play_in, replay_of}
use Rattle.journal.specs.Numbered.{edit_reply, replay_refusals, replay_rows, call_refusals, call_rows}

-- the check, and then the place where a walk stopped
checks_numbered : (ρ : Rules) (ns : List ℕ) (cells place used : ℕ) (r : Refusal) → and_then (checked_of ρ ns cells) (whole place used) ≡ Err r → Numbered (rows replay_refusals) (refusal_reply r)
checks_numbered ρ ns cells place used r e = by (checked_of ρ ns cells) refl e
  where
    stopped : (t : Bool) → cond t (Ok (tt {0})) (Err (BadEntry place)) ≡ Err r → Numbered (rows replay_refusals) (refusal_reply r)
    stopped true f = let z : ◌≡◌ {A = ℕ} 0 1 = cc in absurd (omega arith)
    stopped false f =
        let q : BadEntry place ≡ r = cc in
        subst (λ x. Numbered (rows replay_refusals) (refusal_reply x)) q
        (at_row 5 (rows replay_refusals) (refusal_reply (BadEntry place)) (lit< tt) (refusal_fills (BadEntry place) (omega arith, tt)))

    by : (c : Result (Unit {0}) Refusal) → checked_of ρ ns cells ≡ c → and_then c (whole place used) ≡ Err r → Numbered (rows replay_refusals) (refusal_reply r)
    by (Ok done) u f = stopped (eqb place used) f
    by (Err q) u f =
        let p : q ≡ r = cc in
        subst (λ x. Numbered (rows replay_refusals) (refusal_reply x)) p
        (rows_left check_refusals (BadEntry 0 ∷ []) (refusal_reply q) (check_refusal_numbered ρ ns cells q ((first_due ρ ns cells (Err q)).0 u)))

module _ (ρ : Rules) (ns j : List ℕ) (used : ℕ) where
  pub replay_numbered : (t : List ℤ) → Numbered replay_rows (checked_reply (replay_of ρ ns j used t))
  unfolding replay_of
  replay_numbered t = by (replay_of ρ ns j used t) refl
    where
      refused : (r : Refusal) → replay_of ρ ns j used t ≡ Err r → Numbered (rows replay_refusals) (refusal_reply r)
      refused r e = checks_numbered ρ ns (length t) (play_in ρ ns j used t).place used r e

      by : (c : Result (Unit {0}) Refusal) → replay_of ρ ns j used t ≡ c → Numbered replay_rows (checked_reply c)
      by (Ok done) e = inl (fills 0 [] tt)
      by (Err r) e = inr (refused r e)

  -- what is refused of a call that stands: 12, 15 or 16; 11; else 0
  decided_numbered : (c : Call) (d room : ℕ) → Numbered (call_rows c) (edit_reply (decided (starts_of ρ ns) c d room))
  decided_numbered c d room = by (accepts (starts_of ρ ns) c d) (ltb room (bytes_for c))
    where
      done : (c : Call) → Numbered (call_rows c) (edit_reply (Ok (number_for c d)))
      done (Sets g i v) = inl (fills 0 [] tt)
      done Opens = inl (fills 0 ((savepoint, d + 1) ∷ []) (omega arith, tt))
      done (Releases k) = inl (fills 0 [] tt)
      done (Undoes k) = inl (fills 0 [] tt)

      unaccepted : (c : Call) → Numbered (call_rows c) (edit_reply (Err (refusal_of c)))
      unaccepted (Sets g i v) = inr (at_row 6 (rows (call_refusals (Sets g i v))) (refusal_reply NoSuchNumber) (lit< tt) (refusal_fills NoSuchNumber tt))
      unaccepted Opens = inr (at_row 6 (rows (call_refusals Opens)) (refusal_reply AllOpen) (lit< tt) (refusal_fills AllOpen tt))
      unaccepted (Releases k) = inr (at_row 6 (rows (call_refusals (Releases k))) (refusal_reply NotOpen) (lit< tt) (refusal_fills NotOpen tt))
      unaccepted (Undoes k) = inr (at_row 6 (rows (call_refusals (Undoes k))) (refusal_reply NotOpen) (lit< tt) (refusal_fills NotOpen tt))

      full : Numbered (call_rows c) (edit_reply (Err NoRoom))
      full = inr (at_row 7 (rows (call_refusals c)) (refusal_reply NoRoom) (lit< tt) (refusal_fills NoRoom tt))

      by : (a b : Bool) → Numbered (call_rows c) (edit_reply (cond a (cond b (Err NoRoom) (Ok (number_for c d))) (Err (refusal_of c))))
      by true true = full
      by true false = done c
      by false b = unaccepted c

  pub call_numbered : (cells : ℕ) (c : Call) → Numbered (call_rows c) (edit_reply (answer_of ρ ns j used cells c))
  unfolding answer_of standing_of
  call_numbered cells c = by (standing_of ρ ns j used cells) refl
    where
      refused : (r : Refusal) → standing_of ρ ns j used cells ≡ Err r → Numbered (rows replay_refusals) (refusal_reply r)
      refused r e = checks_numbered ρ ns cells (walk_in ρ ns j used).place used r e

      by : (s : Result (Unit {0}) Refusal) → standing_of ρ ns j used cells ≡ s → Numbered (call_rows c) (edit_reply (when_right s (decided (starts_of ρ ns) c (length (walk_in ρ ns j used).marks) (length j - used))))
      by (Ok done) e = decided_numbered c (length (walk_in ρ ns j used).marks) (length j - used)
      by (Err r) e = inr (rows_left replay_refusals (refusal_of c ∷ NoRoom ∷ []) (refusal_reply r) (refused r e))
