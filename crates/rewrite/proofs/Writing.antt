-- What stands on the output behind the records that were printed: their texts, one behind the other.
-- Assumes nothing.
use mathlib.Core.Path.{◌≡◌, refl, sym, ◌∙◌, ap, subst}
use mathlib.Core.List.{List, [], ◌++◌, append_assoc, append-nil}
use Prim.Native.Nat.{ℕ, suc, ◌<◌, ◌≤◌}
use native.Mathlib.Omega.{arith}
use borrow.Author.Tests.{le-leb, lt-leb}
use lib.ListN.{length, take}
use Rattle.std.specs.declared.option.Option.{Option}
use Rattle.std.specs.Io.KnownBytes.{Appends}
use Rattle.std.proofs.KnownBytes.{Appends-nil, Appends-trans}
use Rattle.rules.specs.declared.Rules.{Rules}
use Rattle.std.specs.Prelude.{Result, Ok}
use Rattle.rewriting.specs.declared.Rewritten.{Rewritten}
use Rattle.whole.specs.declared.Unread.{Unread}
use Rattle.rewriting.specs.Record.{rewriting_of, text_at, buffer_by, rewritten_with}
use Rattle.rewriting.specs.Printed.{program_rewriting, rewritten_from, rewritten, printed, Reached, start, one_more}
use Rattle.words.specs.Written.{AppendsFront}
use Rattle.words.proofs.Fronts.{front_behind}
use Rattle.rewriting.proofs.Promises.{done_front}
use Rattle.rewriting.proofs.Printing.{Printing, rewritten_done, rewritten_stop, rewritten_enough, end_never}

-- ---- record by record

pub record Writing (ρ : Rules) (s : List ℕ) (at : ℕ) (out out' : Option (List ℕ)) : Type 0 where
  pub before : List ℕ
  pub reached : Reached ρ s at before
  pub whole : before ++ rewritten_from ρ (length s) s at ≡ rewritten ρ s
  pub written : Appends out out' before

module _ (ρ : Rules) (s : List ℕ) where
  pub writing_first : (out : Option (List ℕ)) → Writing ρ s 0 out out
  unfolding rewritten
  writing_first out = record { before = []; reached = start; whole = refl; written = Appends-nil out }

  -- R341: nothing is to be written of more than 65,536 bytes
  pub none_written : 65536 < length s → (out : Option (List ℕ)) → Appends out out (printed ρ s)
  unfolding printed
  none_written l out = rw (lt-leb (length s) 65536 l) (Appends-nil out)

  module _ {at : ℕ} {out out' : Option (List ℕ)} (w : Writing ρ s at out out') where
    pub printing_of : Printing ρ s at
    printing_of = record { before = w.before; reached = w.reached; whole = w.whole }

    -- all is written where no record is rewritten with 0
    pub all_written : length s ≤ 65536 → ((bytes next : ℕ) → program_rewriting ρ s at ≡ Ok (rewritten_with bytes next) → ⊥) → Appends out out' (printed ρ s)
    unfolding printed
    all_written few never =
        rw (le-leb (length s) 65536 few)
        (subst (λ t. Appends out out' t) (sym (append-nil w.before) ∙ ap (λ t. w.before ++ t) (sym (rewritten_stop ρ s (length s) at never)) ∙ w.whole) w.written)

    pub ended_written : length s ≤ 65536 → length s ≤ at → Appends out out' (printed ρ s)
    ended_written few l = all_written few (end_never ρ s at l)

    -- what was asked over a table and a page of 8,192
    module _ {cells room : ℕ} (c : cells ≡ 8192) (r : room ≡ 8192) (answer : Result Rewritten Unread) (a : answer ≡ rewriting_of ρ s at cells room) where
      asked : answer ≡ program_rewriting ρ s at
      asked = a ∙ rw (c, r) refl

      pub stopped_written : length s ≤ 65536 → ((bytes next : ℕ) → answer ≡ Ok (rewritten_with bytes next) → ⊥) → Appends out out' (printed ρ s)
      stopped_written few never = all_written few (λ bytes next e. never bytes next (asked ∙ e))

      module _ (bytes next : ℕ) (d : answer ≡ Ok (rewritten_with bytes next)) where
        e : program_rewriting ρ s at ≡ Ok (rewritten_with bytes next)
        e = sym asked ∙ d

        -- the page begins with the record's text
        front : (page page' : List ℕ) → page' ≡ buffer_by ρ s at answer page → take bytes page' ≡ text_at ρ s at
        front page page' p =
            rw (p, d) (done_front ρ s at 8192 8192 bytes next e page)

        further : rewritten_from ρ (length s) s at ≡ text_at ρ s at ++ rewritten_from ρ (length s) s next
        further = rewritten_enough ρ s (length s) (suc (length s)) at (omega arith) (omega arith) ∙ rewritten_done ρ s (length s) at bytes next e

        pub writing_more : (page : List ℕ) {page' : List ℕ} → page' ≡ buffer_by ρ s at answer page → {out'' : Option (List ℕ)} → Appends out' out'' (take bytes page')
            → Writing ρ s next out out''
        writing_more page {page'} p {out''} k =
            record {
              before = w.before ++ text_at ρ s at;
              reached = one_more at bytes next w.before w.reached e;
              whole = append_assoc w.before (text_at ρ s at) (rewritten_from ρ (length s) s next) ∙ ap (λ y. w.before ++ y) (sym further) ∙ w.whole;
              written =
                  Appends-trans out out' out'' w.before (text_at ρ s at) w.written
                  (subst (λ t. Appends out' out'' t) (front page page' p) k);
            }

        -- where the record's text is not printed whole: a front part of it, and so of all that is due
        pub written_part : length s ≤ 65536 → (page : List ℕ) {page' : List ℕ} → page' ≡ buffer_by ρ s at answer page → (out'' : Option (List ℕ))
            → AppendsFront out' out'' (take bytes page') → AppendsFront out out'' (printed ρ s)
        unfolding printed
        written_part few page {page'} p out'' k =
            rw (le-leb (length s) 65536 few)
            (front_behind out out' out'' w.before (text_at ρ s at) (rewritten_from ρ (length s) s next) (rewritten ρ s)
            (ap (λ y. w.before ++ y) (sym further) ∙ w.whole) w.written
            (subst (λ t. AppendsFront out' out'' t) (front page page' p) k))
