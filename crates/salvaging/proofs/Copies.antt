-- R354: what is copied stays. The copy is records, one behind the other; each is placed by its own bytes, so nothing of the copy is left out.
-- Assumes nothing.
use mathlib.Core.Path.{◌≡◌, ap, subst}
use mathlib.Core.List.{List, [], ◌++◌, flat_map, append_assoc, append-nil}
use Prim.Native.Nat.{ℕ, ◌+◌, ◌-◌}
use native.Mathlib.Omega.{arith}
use lib.ListN.{length, length-append}
use Rattle.rules.specs.declared.Rules.{Rules}
use Rattle.base.specs.Part.{part}
use Rattle.place.specs.Placing.{located, locate}
use Rattle.place.proofs.Alone.{located_alone, alone_located}
use Rattle.place.proofs.Placed.{located_long}
use Rattle.salvaging.specs.Cover.{CopyStays, Salvages}
use Rattle.salvaging.specs.Pieces.{pieces_from, pieces, copy_of, NoStretch, copy}
use Rattle.salvaging.proofs.Covered.{none_whole, none_stops, nothing_lost, covers}
use Rattle.salvaging.proofs.Pieces.{pieces_end, pieces_copied, pieces_left, piecewise}

module _ (ρ : Rules) where
  -- records one behind the other, and nothing else
  data Records : List ℕ → Type 0 where
    no_record : Records []
    one_more : (x ns : List ℕ) {y : List ℕ} → locate ρ x 0 ≡ located (length x) ns → Records y → Records (x ++ y)

  copy_records : (s : List ℕ) → Records (copy ρ s)
  unfolding copy flat_map
  copy_records s = piecewise ρ s (λ at. Records (flat_map (copy_of s) (pieces_from ρ s at))) record {
    at_end = rw (pieces_end ρ s (length s) (omega arith)) no_record;
    at_record = λ at n ns e h.
        let long = located_long ρ s at n ns e in
        let to : n ≡ at + (n - at) = omega arith in
        rw (pieces_copied ρ s at n ns e)
        (subst (λ m. Records (part at m s ++ flat_map (copy_of s) (pieces_from ρ s n))) to (one_more (part at n s) ns (located_alone ρ s at n ns e) h));
    at_stretch = λ at r l e h. rw (pieces_left ρ s at r l e) h;
  } 0 (omega arith)

  -- behind whatever text
  records_none : (a : List ℕ) {y : List ℕ} → Records y → NoStretch (pieces_from ρ (a ++ y) (length a))
  records_none a no_record = rw (pieces_end ρ (a ++ []) (length a) (omega (arith, ap length (append-nil a)))) tt
  records_none a (one_more x ns {y} e r) =
      let t = a ++ (x ++ y) in
      let n = length a + length x in
      let rest : NoStretch (pieces_from ρ t n) = rw (← append_assoc a x y, ← length-append a x) (records_none (a ++ x) r) in
      rw (pieces_copied ρ t (length a) n ns (alone_located ρ x ns e a y)) rest

  pub copy_stays : (s : List ℕ) → CopyStays ρ s
  copy_stays s =
      let none : NoStretch (pieces ρ (copy ρ s)) = records_none [] (copy_records s) in
      let w = none_stops ρ (copy ρ s) none in
      record { many = w.0; stops = w.1; again = none_whole ρ (copy ρ s) none }

  pub salvages : (s : List ℕ) → Salvages ρ s
  salvages s = record { cover = covers ρ s; kept = λ many r w. nothing_lost ρ s many w.each; stays = copy_stays s }
