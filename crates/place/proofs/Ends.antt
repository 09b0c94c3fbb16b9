-- R9: an index line without its carriage return is misformed under the strict rule. What is located under it is located under each that counts alike, with
-- the same next place and counts. So 0 and 7 stay with their numbers, and the walk stays on its way through placed records.
-- Assumes nothing.
use Rattle.std.specs.Prelude.{Option, Some, None}
use mathlib.Core.Path.{◌≡◌, refl, sym, ◌∙◌, ap}
use mathlib.Core.List.{List, [], ◌∷◌, ◌++◌}
use Prim.Native.Nat.{ℕ, zero, suc, ◌<◌}
use native.Mathlib.Omega.{arith}
use lib.ListN.{drop}
use Rattle.rules.specs.declared.LineEnds.TheVariants.{Strict}
use Rattle.rules.specs.declared.Rules.{Rules}
use Rattle.line.specs.Contents.{EndsInReturn, content_of}
use Rattle.line.specs.Lines.{lines, behind}
use Rattle.count.proofs.SameCounting.{record_lines_same}
use Rattle.line.proofs.Ends.{strict_none, strict_content}
use Rattle.place.specs.Index.{counts, misformed, read_index_content, read_index_line, read_index}
use Rattle.place.specs.Placing.{located, locate, placing_by, placing_of, carried_at}
use Rattle.place.specs.Walk.{PlacedAt, spot}
use Rattle.place.proofs.Placed.{two_lines, is_located, located_is}
use Rattle.place.proofs.SameCounting.{carried_counted}
use Rattle.place.proofs.Stopped.{placed_record}
use Rattle.place.proofs.Walked.{spot_start, spot_more}

pub strict_misformed : (σ : Rules) → σ.ends ≡ Strict → (a : List ℕ) → (EndsInReturn a → ⊥) → read_index_line σ (a ++ (10 ∷ [])) ≡ misformed
unfolding read_index_line
strict_misformed σ only a n = ap (read_index_content (a ++ (10 ∷ []))) (strict_none σ only a n)

module _ (σ ρ : Rules) (only : σ.ends ≡ Strict) where
  strict_index_line : (x ns : List ℕ) → read_index_line σ x ≡ counts ns → read_index_line ρ x ≡ counts ns
  unfolding read_index_line
  strict_index_line x ns e = by (content_of σ x) refl e
    where
      by : (c : Option ℕ) → content_of σ x ≡ c → read_index_content x c ≡ counts ns → read_index_content x (content_of ρ x) ≡ counts ns
      by (Some n) u f = rw (strict_content σ ρ only x n u) f
      by None u f = let z : ◌≡◌ {A = ℕ} 0 1 = cc in absurd (omega arith)

  pub strict_index : (xs ns : List ℕ) → read_index σ xs ≡ counts ns → read_index ρ xs ≡ counts ns
  unfolding read_index
  strict_index xs ns e =
      let a = lines 1 xs in
      let b = lines 1 (behind 1 xs) in
      let t = two_lines (read_index_line σ a) (read_index_line σ b) ns e in
      rw (strict_index_line a t.first t.first_is, strict_index_line b t.second t.second_is) (ap counts (sym t.all))

module _ (σ ρ : Rules) (only : σ.ends ≡ Strict) (alike : σ.counting ≡ ρ.counting) where
  pub strict_located : (s : List ℕ) (at n : ℕ) (ns : List ℕ) → locate σ s at ≡ located n ns → locate ρ s at ≡ located n ns
  strict_located s at n ns e =
      let p = located_is σ s at n ns e in
      is_located ρ s at n ns record {
        inside = p.inside;
        head = p.head;
        index = strict_index σ ρ only (drop at s) ns p.index;
        release = p.release;
        many = rw (← record_lines_same σ ρ alike ns) p.many;
        next = rw (← record_lines_same σ ρ alike ns) p.next;
      }

  pub strict_same : (s : List ℕ) (at : ℕ) → PlacedAt σ s at → locate ρ s at ≡ locate σ s at
  strict_same s at p =
      let r = (placed_record σ s at).0 p in
      strict_located s at r.next r.ns r.is ∙ sym r.is

  -- 0 and 7 with their numbers, and what the record carries
  pub strict_placing : (s : List ℕ) (at : ℕ) → PlacedAt σ s at → (placing_of ρ s at ≡ placing_of σ s at) × (carried_at ρ s at ≡ carried_at σ s at)
  unfolding placing_of
  strict_placing s at p = let e = strict_same s at p in (ap placing_by e, carried_counted ρ σ (sym alike) s at e)

  -- record k stands at the same place, where all before it are placed
  pub strict_spot : (s : List ℕ) (k : ℕ) → ((j : ℕ) → j < k → PlacedAt σ s (spot σ s j)) → spot ρ s k ≡ spot σ s k
  strict_spot s zero h = sym (spot_start ρ s) ∙ spot_start σ s
  strict_spot s (suc k) h =
      let p = strict_spot s k (λ j l. h j (omega arith)) in
      let r = (placed_record σ s (spot σ s k)).0 (h k (omega arith)) in
      let l : locate ρ s (spot ρ s k) ≡ located r.next r.ns = rw p (strict_located s (spot σ s k) r.next r.ns r.is) in
      spot_more ρ s k r.next r.ns l ∙ sym (spot_more σ s k r.next r.ns r.is)
