-- What the rewriting program prints, record by record: the text of a record that is rewritten with 0 and then what follows from its next
-- place on; nothing from a place where another reply is due. So the texts that a loop prints, one behind the other, are the whole.
-- Assumes nothing.
use mathlib.Core.Path.{◌≡◌, refl, sym, ◌∙◌, ap}
use mathlib.Core.List.{List, [], ◌++◌, append_assoc, append-nil}
use Prim.Native.Nat.{ℕ, zero, suc, ◌+◌, ◌<◌, ◌≤◌}
use native.Mathlib.Omega.{arith}
use borrow.Author.Tests.{le-leb, lt-leb}
use lib.ListN.{length}
use Rattle.rules.specs.declared.Rules.{Rules}
use Rattle.rewriting.specs.Record.{rewriting_of, text_at, rewritten_with}
use Rattle.rewriting.specs.Printed.{program_rewriting, text_then, rewritten_from, rewritten, printed, Reached, start, one_more, Stopped}
use Rattle.rewriting.proofs.Promises.{done_within, done_further, done_inside}
use Rattle.std.specs.Prelude.{Result, Ok, Err}
use Rattle.rewriting.specs.declared.Rewritten.{Rewritten}
use Rattle.whole.specs.declared.Unread.{Unread}

module _ (ρ : Rules) (s : List ℕ) where
  pub rewritten_done : (k at bytes next : ℕ) → program_rewriting ρ s at ≡ Ok (rewritten_with bytes next) → rewritten_from ρ (suc k) s at ≡ text_at ρ s at ++ rewritten_from ρ k s next
  unfolding rewritten_from
  rewritten_done k at bytes next e = rw e refl

  -- R346: where another reply is due, nothing is printed of the record and of all behind it
  pub rewritten_stop : (k at : ℕ) → ((bytes next : ℕ) → program_rewriting ρ s at ≡ Ok (rewritten_with bytes next) → ⊥) → rewritten_from ρ k s at ≡ []
  unfolding rewritten_from
  rewritten_stop zero at never = refl
  rewritten_stop (suc k) at never = by (program_rewriting ρ s at) refl
    where
      by : (r : Result Rewritten Unread) → program_rewriting ρ s at ≡ r → text_then (text_at ρ s at) (rewritten_from ρ k s) r ≡ []
      by (Ok w) e = absurd (never w.bytes w.next e)
      by (Err u) e = refl

  -- there is no record at the text's end
  pub end_never : (at : ℕ) → length s ≤ at → (bytes next : ℕ) → program_rewriting ρ s at ≡ Ok (rewritten_with bytes next) → ⊥
  end_never at l bytes next e = omega (arith, done_further ρ s at 8192 8192 bytes next e, done_inside ρ s at 8192 8192 bytes next e)

  -- as many records as bytes are left are enough
  pub rewritten_enough : (k m at : ℕ) → length s ≤ at + k → length s ≤ at + m → rewritten_from ρ k s at ≡ rewritten_from ρ m s at
  unfolding rewritten_from
  rewritten_enough zero m at a b = sym (rewritten_stop m at (end_never at (omega arith)))
  rewritten_enough (suc k) zero at a b = rewritten_stop (suc k) at (end_never at (omega arith))
  rewritten_enough (suc k) (suc m) at a b = by (program_rewriting ρ s at) refl (rewritten_enough k m)
    where
      by : (r : Result Rewritten Unread) → program_rewriting ρ s at ≡ r → ((p : ℕ) → length s ≤ p + k → length s ≤ p + m → rewritten_from ρ k s p ≡ rewritten_from ρ m s p)
          → text_then (text_at ρ s at) (rewritten_from ρ k s) r ≡ text_then (text_at ρ s at) (rewritten_from ρ m s) r
      by (Ok w) e more =
          let h = done_further ρ s at 8192 8192 w.bytes w.next e in
          ap (λ y. text_at ρ s at ++ y) (more w.next (omega arith) (omega arith))
      by (Err u) e more = refl

-- ---- a loop over the records: the texts printed before a place, and what follows from it on, are the whole

pub record Printing (ρ : Rules) (s : List ℕ) (at : ℕ) : Type 0 where
  pub before : List ℕ
  pub reached : Reached ρ s at before
  pub whole : before ++ rewritten_from ρ (length s) s at ≡ rewritten ρ s

module _ (ρ : Rules) (s : List ℕ) where
  pub printing_first : Printing ρ s 0
  unfolding rewritten
  printing_first = record { before = []; reached = start; whole = refl }

  -- R341: of more than 65,536 bytes nothing is printed
  pub printing_none : 65536 < length s → Stopped ρ s 0
  unfolding printed
  printing_none l = record { before = []; reached = start; all = rw (lt-leb (length s) 65536 l) refl }

  printing_end : length s ≤ 65536 → (at : ℕ) → Printing ρ s at → ((bytes next : ℕ) → program_rewriting ρ s at ≡ Ok (rewritten_with bytes next) → ⊥) → Stopped ρ s at
  unfolding printed
  printing_end few at p never = record {
    before = p.before;
    reached = p.reached;
    all = rw (le-leb (length s) 65536 few) (sym (append-nil p.before) ∙ ap (λ y. p.before ++ y) (sym (rewritten_stop ρ s (length s) at never)) ∙ p.whole);
  }

  pub printing_ended : length s ≤ 65536 → (at : ℕ) → Printing ρ s at → length s ≤ at → Stopped ρ s at
  printing_ended few at p l = printing_end few at p (end_never ρ s at l)

  -- what was asked over a table and a page of 8,192
  module _ (at : ℕ) (p : Printing ρ s at) {cells room : ℕ} (c : cells ≡ 8192) (r : room ≡ 8192) (answer : Result Rewritten Unread) (a : answer ≡ rewriting_of ρ s at cells room) where
    asked : answer ≡ program_rewriting ρ s at
    asked = a ∙ rw (c, r) refl

    pub printing_stop : length s ≤ 65536 → ((bytes next : ℕ) → answer ≡ Ok (rewritten_with bytes next) → ⊥) → Stopped ρ s at
    printing_stop few never = printing_end few at p (λ bytes next e. never bytes next (asked ∙ e))

    module _ (bytes next : ℕ) (d : answer ≡ Ok (rewritten_with bytes next)) where
      e : program_rewriting ρ s at ≡ Ok (rewritten_with bytes next)
      e = sym asked ∙ d

      -- the text has room in the page, and the next place lies further on
      pub printing_room : bytes ≤ 8192
      printing_room = done_within ρ s at 8192 8192 bytes next e

      pub printing_further : at < next
      printing_further = omega (arith, done_further ρ s at 8192 8192 bytes next e)

      pub printing_more : Printing ρ s next
      printing_more =
          let f : rewritten_from ρ (length s) s at ≡ text_at ρ s at ++ rewritten_from ρ (length s) s next =
          rewritten_enough ρ s (length s) (suc (length s)) at (omega arith) (omega arith) ∙ rewritten_done ρ s (length s) at bytes next e in
          record {
            before = p.before ++ text_at ρ s at;
            reached = one_more at bytes next p.before p.reached e;
            whole = append_assoc p.before (text_at ρ s at) (rewritten_from ρ (length s) s next) ∙ ap (λ y. p.before ++ y) (sym f) ∙ p.whole;
          }
