-- Exactly k lines: none, one line, lines behind one another; the k lines of a concatenation of k lines end where they end.
-- Assumes nothing.
use mathlib.Core.Path.{◌≡◌, refl, sym, ◌∙◌, ap}
use mathlib.Core.Bool.{Bool, true, false, cond}
use mathlib.Core.List.{List, [], ◌∷◌, ◌++◌, map}
use Prim.Native.Nat.{ℕ, suc, ◌+◌, ◌≤◌}
use native.Mathlib.Omega.{arith}
use lib.ListN.{length, length-append, length-drop, take-append-drop}
use lib.Seq.{take-append_seam, drop-append_seam}
use Rattle.base.proofs.Mapped.{map_length}
use Rattle.line.specs.Lines.{is_feed, feeds, reach, lines, behind, Whole, Plain}
use Rattle.line.proofs.Feeds.{feeds_cons, feeds_append, feeds_one, feeds_same}
use Rattle.line.proofs.Reach.{reach_append, reach_add, reach_same, feeds_lines, feeds_behind, length_lines}

pub whole_nil : Whole 0 []
unfolding feeds reach
whole_nil = record { many = refl; ends = refl }

-- a line: no line feed, and then one
reach_line : (a : List ℕ) → feeds a ≡ 0 → reach (a ++ (10 ∷ [])) 1 ≡ suc (length a)
unfolding feeds reach
reach_line [] h = refl
reach_line (x ∷ a) h = one (is_feed x) (rw feeds_cons at h) (reach_line a)
  where
    one : (c : Bool) → cond c (suc (feeds a)) (feeds a) ≡ 0 → (feeds a ≡ 0 → reach (a ++ (10 ∷ [])) 1 ≡ suc (length a)) → suc (reach (a ++ (10 ∷ [])) (cond c 0 1)) ≡ suc (suc (length a))
    one true e r = absurd (omega arith)
    one false e r = ap suc (r e)

pub whole_line : (a : List ℕ) → Plain a → Whole 1 (a ++ (10 ∷ []))
unfolding Plain
whole_line a h = record {
  many = feeds_append a (10 ∷ []) ∙ omega (arith, feeds_one);
  ends = reach_line a h ∙ omega (arith, length-append a (10 ∷ []));
}

pub whole_append : {j k : ℕ} {a b : List ℕ} → Whole j a → Whole k b → Whole (j + k) (a ++ b)
whole_append {j} {k} {a} {b} u v =
    let e : reach (a ++ b) j ≡ length a = reach_append a b j (omega (arith, u.many)) ∙ u.ends in
    record {
      many = feeds_append a b ∙ omega (arith, u.many, v.many);
      ends = reach_add (a ++ b) j k ∙ rw (e, drop-append_seam a b, v.ends) (sym (length-append a b));
    }

-- k lines, and anything behind them
pub reach_whole : {k : ℕ} {a : List ℕ} (b : List ℕ) → Whole k a → reach (a ++ b) k ≡ length a
reach_whole {k} {a} b u = reach_append a b k (omega (arith, u.many)) ∙ u.ends

pub lines_whole : {k : ℕ} {a : List ℕ} (b : List ℕ) → Whole k a → lines k (a ++ b) ≡ a
lines_whole {k} {a} b u = rw (reach_whole b u) (take-append_seam a b)

pub behind_whole : {k : ℕ} {a : List ℕ} (b : List ℕ) → Whole k a → behind k (a ++ b) ≡ b
behind_whole {k} {a} b u = rw (reach_whole b u) (drop-append_seam a b)

pub feeds_whole : {k : ℕ} {a : List ℕ} (b : List ℕ) → Whole k a → feeds (a ++ b) ≡ k + feeds b
feeds_whole {k} {a} b u = feeds_append a b ∙ omega (arith, u.many)

-- the first k lines of a text that has so many are k lines
pub whole_lines : (xs : List ℕ) (k : ℕ) → k ≤ feeds xs → Whole k (lines k xs)
whole_lines xs k h =
    let f = feeds_lines xs k h in
    let e = take-append-drop (reach xs k) xs in
    record {
      many = f;
      ends = sym (reach_append (lines k xs) (behind k xs) k (omega arith)) ∙ ap (λ (y : List ℕ). reach y k) e ∙ sym (length_lines xs k);
    }

-- k lines behind the first of k lines and one
pub whole_behind : (xs : List ℕ) (k : ℕ) → Whole (suc k) xs → Whole k (behind 1 xs)
whole_behind xs k u =
    let e : suc k ≡ 1 + k = omega arith in
    record {
      many = omega (arith, feeds_behind xs 1 (omega (arith, u.many)), u.many);
      ends = omega (arith, reach_add xs 1 k, ap (reach xs) e, u.ends, length-drop (reach xs 1) xs);
    }

-- a text has one way to be k lines and a rest
pub whole_one : {k : ℕ} {a b : List ℕ} (c d : List ℕ) → Whole k a → Whole k b → a ++ c ≡ b ++ d → a ≡ b
whole_one {k} {a} {b} c d u v e = sym (lines_whole c u) ∙ ap (lines k) e ∙ lines_whole d v

-- only which bytes are line feeds matters
pub whole_same : {k : ℕ} (a b : List ℕ) → map is_feed a ≡ map is_feed b → Whole k a → Whole k b
whole_same {k} a b e u = record {
  many = sym (feeds_same a b e) ∙ u.many;
  ends = sym (reach_same a b k e) ∙ u.ends ∙ map_length is_feed a b e;
}
