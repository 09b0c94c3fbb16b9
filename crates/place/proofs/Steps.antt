-- Placing step by step, as the code goes: each answer by what led to it.
-- Assumes nothing.
use Rattle.std.specs.Prelude.{Some, None, Result, Ok, Err}
use mathlib.Core.Path.{◌≡◌, refl, sym, ◌∙◌, ap}
use mathlib.Core.Bool.{Bool, true, false, cond}
use mathlib.Core.List.{List, ◌++◌}
use Prim.Native.Nat.{ℕ, ◌+◌, ◌-◌, ◌<◌, ◌≤◌}
use native.Mathlib.Omega.{arith}
use borrow.Author.Tests.{lt-ltb, le-ltb, eq-eqb, ne_eqb, le-leb, lt-leb}
use lib.Dec.{leb}
use lib.Seq.{drop-drop}
use lib.ListN.{length, drop, replicate}
use Rattle.rules.specs.declared.Rules.{Rules}
use Rattle.base.specs.Part.{part}
use Rattle.line.specs.Lines.{feeds, reach, behind}
use Rattle.line.specs.Places
use Rattle.line.specs.Places.{behind_at}
use Rattle.line.specs.Contents.{content_of}
use Rattle.line.proofs.Places.{at_is, few_is, behind_at_then, lines_at}
use Rattle.count.specs.Tally.{record_lines}
use Rattle.count.proofs.Tallied.{record_two}
use Rattle.count.specs.Rules.{release_of}
use Rattle.place.specs.declared.Record.{Record}
use Rattle.reply.specs.declared.Refusal.{Refusal}
use Rattle.reply.specs.declared.Refusal.TheVariants.{End, Beyond, TooFewLines, Misformed}
use Rattle.place.specs.declared.Placing.TheVariants.{Refused}
use Rattle.place.specs.Index.{counts, misformed, read_entries, read_index_line, both_lines, read_index}
use Rattle.place.specs.Placing.{Located, located, refused, locate, locate_index, locate_release, locate_lines, placing_of, counts_at, starts_at, ends_at}
use Rattle.place.specs.Placing.{located_behind, locate_lines_from, locate_five, locate_from, Answers}
use Rattle.place.proofs.Spans.{places_from}

-- ---- an index line

module _ (ρ : Rules) (x : List ℕ) where
  pub line_no_return : content_of ρ x ≡ None → read_index_line ρ x ≡ misformed
  unfolding read_index_line
  line_no_return e = rw e

  pub line_other_length : (n : ℕ) → content_of ρ x ≡ Some n → (n ≡ 120 → ⊥) → read_index_line ρ x ≡ misformed
  unfolding read_index_line
  line_other_length n e k = rw (e, ne_eqb n 120 k)

  pub line_entries : (n : ℕ) → content_of ρ x ≡ Some n → n ≡ 120 → read_index_line ρ x ≡ read_entries 40 (part 0 n x)
  unfolding read_index_line
  line_entries n e k = rw (e, eq-eqb n 120 k)

-- ---- a place in a text

module _ (ρ : Rules) (s : List ℕ) (at : ℕ) where
  pub locate_beyond : length s < at → locate ρ s at ≡ refused Beyond
  unfolding locate
  locate_beyond h = rw (lt-ltb (length s) at h)

  pub locate_end : length s ≡ at → locate ρ s at ≡ refused End
  unfolding locate
  locate_end e = rw (le-ltb (length s) at (omega arith), eq-eqb (length s) at e)

  module _ (inside : at < length s) where
    pub locate_few : feeds (drop at s) < 2 → locate ρ s at ≡ refused TooFewLines
    unfolding locate
    locate_few h = rw (le-ltb (length s) at (omega arith), ne_eqb (length s) at (λ e. omega arith), lt-leb 2 (feeds (drop at s)) h)

    pub locate_index_lem : 2 ≤ feeds (drop at s) → locate ρ s at ≡ locate_index ρ (drop at s) at (read_index ρ (drop at s))
    unfolding locate
    locate_index_lem h = rw (le-ltb (length s) at (omega arith), ne_eqb (length s) at (λ e. omega arith), le-leb 2 (feeds (drop at s)) h)

-- ---- from the data lines on

module _ (ρ : Rules) (s : List ℕ) (from : ℕ) (ns : List ℕ) where
  pub with_release : release_of ns ≡ Ok tt → locate_from ρ s from ns ≡ locate_lines_from ρ s from ns
  unfolding locate_from
  with_release e = rw e

  pub without_release : {r : Refusal} → release_of ns ≡ Err r → locate_from ρ s from ns ≡ refused r
  unfolding locate_from
  without_release e = rw e

-- an answer that refuses, with its zeros
abbrev pub RefusesWith : Refusal → Record → Type 0
RefusesWith why r = (r.answer ≡ Refused why) × ((r.counts ≡ replicate 80 0) × ((r.starts ≡ replicate 60 0) × (r.ends ≡ replicate 60 0)))

pub refuses : (ρ : Rules) (s : List ℕ) (from : ℕ) {l : Located} {why : Refusal} {r : Record} → l ≡ refused why → RefusesWith why r → Answers ρ s from l r
refuses ρ s from e a = rw e record { placing = a.0; beside = a.1.0; begin = a.1.1.0; end = a.1.1.1 }

-- ---- the two index lines, one after the other

-- located lines, by the place behind them
lines_behind : (ρ : Rules) (s : List ℕ) (at : ℕ) (ns : List ℕ) → locate_lines ρ (drop at s) at ns ≡ located_behind ns (behind_at s at (record_lines ρ ns))
unfolding Places.behind_at
lines_behind ρ s at ns = by (leb (record_lines ρ ns) (feeds (drop at s)))
  where
    n : ℕ
    n = at + reach (drop at s) (record_lines ρ ns)

    by : (t : Bool) → cond t (located n ns) (refused TooFewLines) ≡ located_behind ns (cond t (Some n) None)
    by true = refl
    by false = refl

module _ (ρ : Rules) (s : List ℕ) (at : ℕ) (inside : at < length s) where
  pub first_few : behind_at s at 1 ≡ None → locate ρ s at ≡ refused TooFewLines
  first_few e = locate_few ρ s at inside (omega (arith, few_is s at 1 e))

  module _ (second : ℕ) (f : behind_at s at 1 ≡ Some second) where
    pub second_few : behind_at s second 1 ≡ None → locate ρ s at ≡ refused TooFewLines
    second_few e = locate_few ρ s at inside (few_is s at 2 (behind_at_then s at 1 1 second f ∙ e))

    module _ (end : ℕ) (g : behind_at s second 1 ≡ Some end) where
      both : behind_at s at 2 ≡ Some end
      both = behind_at_then s at 1 1 second f ∙ g

      pub index_end : end ≡ at + reach (drop at s) 2
      index_end = (at_is s at 2 end both).place

      second_from : behind 1 (drop at s) ≡ drop second s
      second_from = drop-drop (reach (drop at s) 1) at s ∙ ap (λ n. drop n s) (sym (at_is s at 1 second f).place)

      index_lines : read_index ρ (drop at s) ≡ both_lines (read_index_line ρ (part at second s)) (read_index_line ρ (part second end s))
      unfolding read_index
      index_lines = rw (lines_at s at 1 second f, second_from, lines_at s second 1 end g)

      here : locate ρ s at ≡ locate_index ρ (drop at s) at (both_lines (read_index_line ρ (part at second s)) (read_index_line ρ (part second end s)))
      here = locate_index_lem ρ s at inside (at_is s at 2 end both).many ∙ ap (locate_index ρ (drop at s) at) index_lines

      pub first_misformed : read_index_line ρ (part at second s) ≡ misformed → locate ρ s at ≡ refused Misformed
      first_misformed e = here ∙ rw e

      pub second_misformed : (a : List ℕ) → read_index_line ρ (part at second s) ≡ counts a → read_index_line ρ (part second end s) ≡ misformed → locate ρ s at ≡ refused Misformed
      second_misformed a e k = here ∙ rw (e, k)

      by_release_lem : (ns : List ℕ) (r : Result (Unit {0}) Refusal) → locate_release ρ (drop at s) at ns r ≡ locate_five ρ s end ns r
      unfolding locate_lines_from
      by_release_lem ns (Ok five) = lines_behind ρ s at ns ∙ ap (located_behind ns) (ap (behind_at s at) (two ns) ∙ behind_at_then s at 2 (record_lines ρ ns - 2) end both)
        where
          two : (ns : List ℕ) → record_lines ρ ns ≡ 2 + (record_lines ρ ns - 2)
          two ns = omega (arith, record_two ρ ns)
      by_release_lem ns (Err r) = refl

      pub with_index : (a b : List ℕ) → read_index_line ρ (part at second s) ≡ counts a → read_index_line ρ (part second end s) ≡ counts b → locate ρ s at ≡ locate_from ρ s end (a ++ b)
      unfolding locate_from
      with_index a b e k = here ∙ rw (e, k) (by_release_lem (a ++ b) (release_of (a ++ b)))

-- ---- the answer

-- the answer and all that is beside it
abbrev pub IsRecordAt : Rules → List ℕ → ℕ → Record → Type 0
IsRecordAt ρ s at r = (r.answer ≡ placing_of ρ s at) × ((r.counts ≡ counts_at ρ s at) × ((r.starts ≡ starts_at ρ s at) × (r.ends ≡ ends_at ρ s at)))

module _ (ρ : Rules) (s : List ℕ) (at : ℕ) {l : Located} {r : Record} (e : locate ρ s at ≡ l) where
  pub answers_at : (from : ℕ) → from ≡ at + reach (drop at s) 2 → Answers ρ s from l r → IsRecordAt ρ s at r
  unfolding placing_of counts_at starts_at ends_at
  answers_at from f a = let p = places_from ρ s at from l f in rw e (a.placing, (a.beside, (a.begin ∙ p.0, a.end ∙ p.1)))

pub refused_at : (ρ : Rules) (s : List ℕ) (at : ℕ) {why : Refusal} {r : Record} → locate ρ s at ≡ refused why → RefusesWith why r → IsRecordAt ρ s at r
refused_at ρ s at e a = answers_at ρ s at e (at + reach (drop at s) 2) refl (refuses ρ s _ refl a)
