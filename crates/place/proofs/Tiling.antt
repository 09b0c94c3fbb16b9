-- R27, R28: lines and tiling of a located record. From its place to the next there are just as many lines as its counts say, with a line feed
-- as the last byte. Index and groups share them out: each begins where the one before it ends, and is just its own number of lines.
-- Assumes nothing.
use mathlib.Core.Path.{refl, ◌≡◌, sym, ◌∙◌, ap, subst}
use mathlib.Core.List.{List, ◌++◌}
use Prim.Native.Nat.{ℕ, suc, ◌+◌, ◌-◌, ◌<◌, ◌≤◌}
use native.Mathlib.Nat.{add-zero}
use native.Mathlib.Omega.{arith}
use lib.ListN.{length, take, drop, get_or, take-append-drop}
use lib.Seq.{drop-drop, drop_at, length-take-le}
use Rattle.rules.specs.declared.Rules.{Rules}
use Rattle.base.specs.Part.{part}
use Rattle.line.specs.Lines.{feeds, reach, lines, behind, Whole}
use Rattle.line.specs.Parts.{AreLines}
use Rattle.line.proofs.Reach.{reach_zero, reach_add, reach_mono, feeds_behind, length_lines}
use Rattle.line.proofs.Whole.{whole_lines, reach_whole, behind_whole, lines_whole}
use Rattle.line.proofs.Last.{whole_last}
use Rattle.line.proofs.Parts.{lines_there}
use Rattle.count.specs.Tally.{line_tally, lines_in, lines_before, record_lines}
use Rattle.count.proofs.Tallied.{all_lines, record_two, before_none, before_groups, line_entry, lines_more, lines_below}
use Rattle.place.specs.Placing.{located, locate}
use Rattle.place.specs.Parts.{start, group_part, IsPart}
use Rattle.place.proofs.Placed.{IsLocated, located_is}

-- ---- places, whatever the text: only the lines before a group count

module _ (ρ : Rules) (s : List ℕ) (at : ℕ) (ns : List ℕ) where
  pub start_zero : start ρ s at ns 0 ≡ at
  unfolding start
  start_zero = rw (← (before_none ρ ns 0 refl).lines_are, reach_zero (drop at s), add-zero at)

  -- the groups begin where the two index lines end
  pub start_one : start ρ s at ns 1 ≡ at + reach (drop at s) 2
  unfolding start
  start_one = rw (← (before_groups ρ ns).lines_are)

  pub start_mono : (g h : ℕ) → g ≤ h → start ρ s at ns g ≤ start ρ s at ns h
  unfolding start
  start_mono g h l = omega (arith, reach_mono (drop at s) (lines_before ρ ns g) (lines_before ρ ns h) (lines_below ρ ns g h l))

  pub start_after : (g : ℕ) → at ≤ start ρ s at ns g
  unfolding start
  start_after g = omega arith

  -- the part of group g is the lines between those before it and those before the next
  pub part_between : (g : ℕ) → group_part ρ s at ns g ≡ lines (lines_before ρ ns (suc g) - lines_before ρ ns g) (behind (lines_before ρ ns g) (drop at s))
  unfolding group_part start
  part_between g =
      let j = lines_before ρ ns g in
      let k = lines_before ρ ns (suc g) - j in
      let xs = drop at s in
      let e : lines_before ρ ns (suc g) ≡ j + k = omega (arith, lines_below ρ ns g (suc g) (omega arith)) in
      let r : reach xs (lines_before ρ ns (suc g)) ≡ reach xs j + reach (behind j xs) k = ap (reach xs) e ∙ reach_add xs j k in
      let w : at + reach xs (lines_before ρ ns (suc g)) - (at + reach xs j) ≡ reach (behind j xs) k = omega arith in
      rw (w, ← drop-drop (reach xs j) at s)

  pub part_end_lem : (g : ℕ) → start ρ s at ns (suc g) ≡ start ρ s at ns g + length (group_part ρ s at ns g)
  unfolding start
  part_end_lem g =
      let j = lines_before ρ ns g in
      let k = lines_before ρ ns (suc g) - j in
      let xs = drop at s in
      let e : lines_before ρ ns (suc g) ≡ j + k = omega (arith, lines_below ρ ns g (suc g) (omega arith)) in
      omega (arith, ap (reach xs) e, reach_add xs j k, ap length (part_between g), length_lines (behind j xs) k)

  -- which are its own
  pub part_lines : (g : ℕ) → g < 61 → group_part ρ s at ns g ≡ lines (get_or (line_tally ρ ns) g 0) (behind (lines_before ρ ns g) (drop at s))
  part_lines g h =
      let e : lines_before ρ ns (suc g) - lines_before ρ ns g ≡ get_or (line_tally ρ ns) g 0 = omega (arith, lines_more ρ ns g h) in
      part_between g ∙ ap (λ k. lines k (behind (lines_before ρ ns g) (drop at s))) e

  -- ---- and is the only part that follows them

  pub is_part : (g from : ℕ) (x : List ℕ) → 1 ≤ g → g ≤ 60 → IsPart ρ s at ns g from x → (from ≡ start ρ s at ns g) × (x ≡ group_part ρ s at ns g)
  unfolding start
  is_part g from x low high h =
      let b = h.before in
      let k = lines_in ρ ns g in
      let here : drop at s ≡ b ++ (x ++ h.rest) = ap (drop at) h.text ∙ drop_at h.ahead (b ++ (x ++ h.rest)) at h.place in
      let lined : get_or (line_tally ρ ns) g 0 ≡ k = line_entry ρ ns g low (omega arith) in (
        h.begins ∙ ap (λ n. at + n) (sym (reach_whole (x ++ h.rest) h.lines_before_lem) ∙ ap (λ l. reach l (lines_before ρ ns g)) (sym here)),
        sym (part_lines g (omega arith) ∙ rw (here, lined, behind_whole (x ++ h.rest) h.lines_before_lem) (lines_whole h.rest h.lines)),
      )

-- ---- a located record

module _ (ρ : Rules) (s : List ℕ) (at n : ℕ) (ns : List ℕ) (e : locate ρ s at ≡ located n ns) where
  p : IsLocated ρ s at n ns
  p = located_is ρ s at n ns e

  pub start_end : start ρ s at ns 61 ≡ n
  unfolding start
  start_end = rw (all_lines ρ ns) (sym p.next)

  pub start_within : (g : ℕ) → g ≤ 61 → start ρ s at ns g ≤ n
  start_within g l = omega (arith, start_mono ρ s at ns g 61 l, start_end)

  -- R28: from the place to the next it is exactly its lines (R7), and a line feed is its last byte
  pub record_whole : Whole (record_lines ρ ns) (part at n s)
  record_whole =
      let w : n - at ≡ reach (drop at s) (record_lines ρ ns) = omega (arith, p.next) in
      rw w (whole_lines (drop at s) (record_lines ρ ns) p.many)

  pub record_last : get_or (part at n s) (length (part at n s) - 1) 0 ≡ 10
  record_last = whole_last (part at n s) (omega (arith, record_two ρ ns)) record_whole

  -- each part holds exactly its lines; part 0 is the index
  pub part_whole : (g : ℕ) → g < 61 → Whole (get_or (line_tally ρ ns) g 0) (group_part ρ s at ns g)
  part_whole g h =
      let j = lines_before ρ ns g in
      let k = get_or (line_tally ρ ns) g 0 in
      let xs = drop at s in
      let m : j + k ≤ feeds xs = omega (arith, p.many, lines_more ρ ns g h, lines_below ρ ns (suc g) 61 (omega arith), all_lines ρ ns) in
      subst (Whole k) (sym (part_lines ρ s at ns g h)) (whole_lines (behind j xs) k (omega (arith, feeds_behind xs j (omega arith))))

  -- the lines of a group, as a statement on the text
  pub part_is : (g : ℕ) → 1 ≤ g → g ≤ 60 → IsPart ρ s at ns g (start ρ s at ns g) (group_part ρ s at ns g)
  unfolding start
  part_is g low high =
      let j = lines_before ρ ns g in
      let k = lines_in ρ ns g in
      let xs = drop at s in
      let lined : get_or (line_tally ρ ns) g 0 ≡ k = line_entry ρ ns g low (omega arith) in
      let these : group_part ρ s at ns g ≡ lines k (behind j xs) = part_lines ρ s at ns g (omega arith) ∙ ap (λ n. lines n (behind j xs)) lined in
      let few : j ≤ feeds xs = omega (arith, p.many, lines_below ρ ns g 61 (omega arith), all_lines ρ ns) in
      record {
        ahead = take at s;
        before = lines j xs;
        rest = behind k (behind j xs);
        text =
            sym (take-append-drop at s)
            ∙ ap (λ l. take at s ++ l)
            (sym (take-append-drop (reach xs j) xs) ∙ ap (λ l. lines j xs ++ l) (sym (take-append-drop (reach (behind j xs) k) (behind j xs)) ∙ ap (λ l. l ++ behind k (behind j xs)) (sym these)));
        place = length-take-le at s (omega (arith, p.inside));
        lines_before_lem = whole_lines xs j few;
        lines = subst (λ n. Whole n (group_part ρ s at ns g)) lined (part_whole g (omega arith));
        begins = ap (λ n. at + n) (sym (length_lines xs j));
      }

  -- R2: a group's part is lines of the text, which begin where a line does, wherever the record's place is
  pub group_lines : (g : ℕ) → 1 ≤ g → g ≤ 60 → AreLines s (start ρ s at ns g) (start ρ s at ns (suc g)) (lines_in ρ ns g)
  unfolding start
  group_lines g low high =
      let j = lines_before ρ ns g in
      let k = lines_in ρ ns g in
      let all : lines_before ρ ns (suc g) ≡ j + k = omega (arith, lines_more ρ ns g (omega arith), line_entry ρ ns g low (omega arith)) in
      let some : 1 ≤ j = omega (arith, (before_groups ρ ns).lines_are, lines_below ρ ns 1 g low) in
      let there : j + k ≤ feeds (drop at s) = omega (arith, p.many, lines_below ρ ns (suc g) 61 (omega arith), all_lines ρ ns) in
      rw all (lines_there s at j k some there)
