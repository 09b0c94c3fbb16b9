-- R255: a record stands by its own bytes. Where the same bytes follow, it is placed the same; cut out of its text it is a text of one record; and
-- wherever such a text is put between others, it is placed there.
-- Assumes nothing.
use mathlib.Core.Path.{◌≡◌, sym, ◌∙◌, ap, subst}
use mathlib.Core.List.{List, ◌++◌}
use Prim.Native.Nat.{ℕ, ◌+◌, ◌-◌, ◌≤◌}
use native.Mathlib.Omega.{arith}
use lib.ListN.{length, drop, length-drop, take-append-drop}
use lib.Seq.{drop_at}
use Rattle.rules.specs.declared.Rules.{Rules}
use Rattle.base.specs.Part.{part}
use Rattle.base.proofs.Taken.{drop_none}
use Rattle.line.specs.Lines.{feeds, reach, lines}
use Rattle.line.proofs.Feeds.{feeds_le}
use Rattle.line.proofs.Reach.{lines_append}
use Rattle.count.specs.Tally.{record_lines}
use Rattle.count.proofs.Tallied.{record_two}
use Rattle.place.specs.Index.{read_index}
use Rattle.place.specs.Placing.{located, locate}
use Rattle.place.proofs.Growth.{located_grown}
use Rattle.place.proofs.Local.{index_local}
use Rattle.place.proofs.Placed.{is_located, located_is}
use Rattle.place.proofs.Tiling.{record_whole}

module _ (ρ : Rules) where
  -- from the same bytes on, in whatever text at whatever place, the next place is as far behind
  pub located_moved : (s t : List ℕ) (at bt : ℕ) {n : ℕ} {ns : List ℕ} → drop at s ≡ drop bt t → locate ρ s at ≡ located n ns → locate ρ t bt ≡ located (bt + (n - at)) ns
  located_moved s t at bt {n} {ns} e f =
      let p = located_is ρ s at n ns f in
      let head : 2 ≤ feeds (drop bt t) = subst (λ xs. 2 ≤ feeds xs) e p.head in
      is_located ρ t bt (bt + (n - at)) ns record {
        inside = omega (arith, head, feeds_le (drop bt t), length-drop bt t);
        head = head;
        index = ap (read_index ρ) (sym e) ∙ p.index;
        release = p.release;
        many = subst (λ xs. record_lines ρ ns ≤ feeds xs) e p.many;
        next = omega (arith, p.next, ap (λ xs. reach xs (record_lines ρ ns)) e);
      }

  -- the bytes of a record, and nothing else
  pub located_alone : (s : List ℕ) (at n : ℕ) (ns : List ℕ) → locate ρ s at ≡ located n ns → locate ρ (part at n s) 0 ≡ located (length (part at n s)) ns
  located_alone s at n ns f =
      let p = located_is ρ s at n ns f in
      let x = part at n s in
      let w = record_whole ρ s at n ns f in
      let two = record_two ρ ns in
      let none = drop_none x in
      let enough : 2 ≤ feeds x = omega (arith, w.many) in
      let cut : x ++ drop (n - at) (drop at s) ≡ drop at s = take-append-drop (n - at) (drop at s) in
      let same : read_index ρ x ≡ read_index ρ (drop at s) = index_local ρ x (drop at s) enough (sym (lines_append x (drop (n - at) (drop at s)) 2 enough) ∙ ap (lines 2) cut) in
      is_located ρ x 0 (length x) ns record {
        inside = omega (arith, feeds_le x);
        head = rw none enough;
        index = rw none (same ∙ p.index);
        release = p.release;
        many = rw none (omega (arith, w.many));
        next = rw none (omega (arith, w.ends));
      }

  -- wherever it stands
  pub alone_located : (x ns : List ℕ) → locate ρ x 0 ≡ located (length x) ns → (a b : List ℕ) → locate ρ (a ++ (x ++ b)) (length a) ≡ located (length a + length x) ns
  alone_located x ns f a b =
      located_moved (x ++ b) (a ++ (x ++ b)) 0 (length a) (drop_none (x ++ b) ∙ sym (drop_at a (x ++ b) (length a) (omega arith))) (located_grown ρ x b 0 (length x) ns f)
      ∙ ap (λ k. located (length a + k) ns) (omega arith)
