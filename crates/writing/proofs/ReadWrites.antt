-- *Read writes*: a record that is placed with 0, and none of whose groups is refused, can be written again from its counts and the cells of
-- its groups in turn: with 0, where there is room, and byte for byte as it was, if it was canonical.
-- Assumes nothing.
use Rattle.std.specs.Prelude.{Ok}
use mathlib.Core.Path.{◌≡◌, refl, sym, ◌∙◌, ap, subst}
use mathlib.Core.Bool.{◌&&◌}
use mathlib.Core.List.{List, ◌++◌, map, flat_map}
use Prim.Native.Nat.{ℕ, ◌+◌, ◌-◌, ◌≤◌}
use native.Mathlib.Nat.{zero-add}
use native.Mathlib.Omega.{arith}
use lib.Dec.{T, leb, leb→le}
use lib.IntN.{ℤ}
use lib.ListN.{length, take, drop}
use lib.Seq.{length-take-le, drop-drop}
use Rattle.rules.specs.declared.Rules.{Rules}
use Rattle.base.specs.Every.{up_from}
use Rattle.base.specs.Part.{part, over}
use Rattle.base.specs.Pieces.{done, Each}
use Rattle.base.specs.Sign.{size_of}
use Rattle.base.specs.Sum
use Rattle.base.specs.Sum.{sum}
use Rattle.base.proofs.Choice.{and_left, and_right}
use Rattle.base.proofs.Each.{each_imply, each_passed, each_cells, each_own, flat_each}
use Rattle.base.proofs.Part.{part_cut, part_length}
use Rattle.count.specs.Tally
use Rattle.count.specs.Tally.{count_of, cells_in, record_cells, group_cells, joined}
use Rattle.date.specs.Date.{dated_of}
use Rattle.place.specs.Placing.{counts_at}
use Rattle.place.specs.Parts.{group_part}
use Rattle.place.proofs.Placed.{IsLocated, located_is, located_range, located_long}
use Rattle.place.proofs.Zero.{IsPlaced, is_placed_lem}
use Rattle.reading.specs.Blanks.{may_be_short}
use Rattle.reading.specs.Read.{Cells}
use Rattle.writing.specs.Canonical.{CanonicalGroup, CanonicalRecord}
use Rattle.writing.specs.Fitting.{group_fit, fit_of}
use Rattle.writing.specs.RoundTrip.{ReadWhole, WritesAgain}
use Rattle.count.proofs.Due.{has_cells}
use Rattle.writing.specs.Text.{record_text, record_bytes}
use Rattle.writing.specs.Writing.{writing_of, output_by}
use Rattle.writing.proofs.Canonical.{group_read_lem, canonical_text, canonical_cells}
use Rattle.writing.proofs.Done.{is_done}
use Rattle.writing.proofs.Fitting.{own_groups}
use Rattle.writing.proofs.GroupCells.{group_among, cells_joined}
use Rattle.reading.proofs.GroupRead.{GroupReads, group_reads, reads_cells}
use Rattle.place.proofs.Indexed.{index_is, index_counts}
use Rattle.writing.proofs.Lengths.{record_length}
use Rattle.writing.proofs.ReadFits.{group_fit_lem}
use Rattle.group.proofs.Texts.{read_located}
use Rattle.writing.proofs.Standing.{standing_group}
use Rattle.writing.proofs.Written.{all_groups}

-- ---- what a group that was read says

module _ (ρ : Rules) {ns : List ℕ} {g : ℕ} {y : List ℕ} {room : ℕ} {c : List ℤ} (r : GroupReads ρ ns g y room c) where
  reads_fit : group_fit ρ ns g c ≡ Ok tt
  reads_fit = rw r.has (group_fit_lem ρ r.form (may_be_short g) g (count_of ns g) y c r.lines)

module _ (ρ : Rules) {s : List ℕ} {at n : ℕ} {cells : ℕ → List ℤ} (r : ReadWhole ρ s at n cells) where
  abbrev ns : List ℕ
  ns = counts_at ρ s at

  placed : IsPlaced ρ s at n
  placed = is_placed_lem ρ s at n r.placed

  here : IsLocated ρ s at n ns
  here = located_is ρ s at n ns placed.located_at

  reads : (g : ℕ) → 1 ≤ g → g ≤ 60 → GroupReads ρ ns g (group_part ρ s at ns g) (r.room g) (cells g)
  reads g low high =
      group_reads ρ ns g (group_part ρ s at ns g) (r.room g) (cells g)
      (sym (read_located ρ s at g (r.room g) n ns placed.located_at) ∙ r.groups g low high)

  -- the groups with their cells, as pieces
  abbrev Known : ℕ → List ℕ → List ℤ → Type 0
  Known g x c = (length c ≡ cells_in ρ ns g) × (group_fit ρ ns g c ≡ Ok tt) × (c ≡ cells g)

  abbrev texts : List ℕ
  texts = flat_map (group_part ρ s at ns) (up_from 1 60)

  known : Each Known (up_from 1 60) texts (joined cells)
  known =
      each_imply (λ g x c p. one g x c p.0 p.1.1) (up_from 1 60) texts (joined cells)
      (each_passed (λ g. leb 1 g && leb g 60) (up_from 1 60) texts (joined cells) all_groups (flat_each (group_part ρ s at ns) cells (up_from 1 60)))
    where
      one : (g : ℕ) (x : List ℕ) (c : List ℤ) → T (leb 1 g && leb g 60) → c ≡ cells g → Known g x c
      one g x c t e =
          let q = reads g (leb→le 1 g (and_left (leb 1 g) (leb g 60) t)) (leb→le g 60 (and_right (leb 1 g) (leb g 60) t)) in
          rw e (reads_cells ρ q, reads_fit ρ q, refl)

  sizes : (g : ℕ) (x : List ℕ) (c : List ℤ) → Known g x c → length c ≡ cells_in ρ ns g
  sizes g x c k = k.0

  -- each group has its own cells among them
  pub joined_group : (g : ℕ) → 1 ≤ g → g ≤ 60 → group_cells ρ ns (joined cells) g ≡ cells g
  joined_group g low high = (group_among ρ ns sizes texts (joined cells) known g low high).holds.2

  pub joined_cells : length (joined cells) ≡ record_cells ρ ns
  unfolding Tally.cell_tally Sum.sum
  joined_cells = each_cells (cells_in ρ ns) sizes (up_from 1 60) texts (joined cells) known ∙ sym (zero-add (sum (map (cells_in ρ ns) (up_from 1 60))))

  joined_fit : fit_of ρ ns (joined cells) ≡ Ok tt
  joined_fit = own_groups ρ ns (joined cells) (each_own (cells_in ρ ns) (λ g c. group_fit ρ ns g c ≡ Ok tt) (λ g x c k. (k.0, k.1)) (up_from 1 60) texts (joined cells) known)

  -- writing what was read gives 0
  pub read_writes : (room : ℕ) → record_bytes ρ ns ≤ room → writing_of ρ ns (joined cells) room ≡ Ok (record_bytes ρ ns)
  read_writes room enough =
      let told = (reads 3 (omega arith) (omega arith)).date refl in
      is_done ρ ns (joined cells) room (record_bytes ρ ns) record {
        checked = has_cells ρ ns (length (joined cells)) (index_counts ρ (drop at s) ns ((index_is ρ (drop at s) ns).0 here.index)) here.release placed.kept joined_cells;
        fit = joined_fit;
        date = told.date;
        right = ap (λ c. dated_of (map size_of c)) (joined_group 3 (omega arith) (omega arith)) ∙ told.right;
        enough = enough;
        bytes = refl;
      }

  -- ---- a record whose bytes were canonical

  module _ {ds : List ℤ} (h : CanonicalRecord ρ ns (part at n s) ds) where
    inside : (at + 242 ≤ n) × (n ≤ length s)
    inside = (located_long ρ s at n ns placed.located_at, located_range ρ s at n ns placed.located_at)

    whole : take at s ++ (part at n s ++ drop n s) ≡ s
    whole =
        let e : at + (n - at) ≡ n = omega (arith, inside.0) in
        sym (part_cut s at (n - at) ∙ rw (e, drop-drop (n - at) at s, e))

    group_again : (g : ℕ) → 1 ≤ g → g ≤ 60 → CanonicalGroup ρ ns g (group_part ρ s at ns g) (group_cells ρ ns ds g)
    group_again g low high =
        let e : length (take at s) ≡ at = length-take-le at s (omega (arith, inside.0, inside.1)) in
        subst (λ m. CanonicalGroup ρ ns g (group_part ρ s m ns g) (group_cells ρ ns ds g)) e
        (subst (λ t. CanonicalGroup ρ ns g (group_part ρ t (length (take at s)) ns g) (group_cells ρ ns ds g)) whole (standing_group ρ h (take at s) (drop n s) g low high))

    -- its cells are those that are read
    pub canonical_joined : ds ≡ joined cells
    canonical_joined = cells_joined ρ ns ds cells (canonical_cells ρ h) each
      where
        same : {a b : List ℤ} → ◌≡◌ {A = Cells} (done a) (done b) → a ≡ b
        same e = cc

        each : (g : ℕ) → 1 ≤ g → g ≤ 60 → group_cells ρ ns ds g ≡ cells g
        each g low high =
            let q = reads g low high in
            same (sym (group_read_lem ρ ns g q.form (group_part ρ s at ns g) (group_cells ρ ns ds g) q.has (group_again g low high)) ∙ q.lines)

    -- and what is written for them is these bytes
    pub written_again : record_text ρ ns (joined cells) ≡ part at n s
    written_again = ap (record_text ρ ns) (sym canonical_joined) ∙ sym (canonical_text ρ h)

    pub again_bytes : record_bytes ρ ns ≡ n - at
    again_bytes =
        let e : at + (n - at) ≡ n = omega (arith, inside.0) in
        sym (record_length ρ ns (joined cells) ((index_is ρ (drop at s) ns).0 here.index).many joined_fit)
        ∙ ap length written_again
        ∙ ap (λ m. length (part at m s)) (sym e)
        ∙ part_length s at (n - at) (omega (arith, inside.0, inside.1))

    -- D2.5: every byte of the record is there again
    pub returns_same : (old : List ℕ) → n - at ≤ length old
        → (writing_of ρ ns (joined cells) (length old) ≡ Ok (n - at)) × (output_by ρ ns (joined cells) (writing_of ρ ns (joined cells) (length old)) old ≡ over 0 (part at n s) old)
    returns_same old enough =
        let w : writing_of ρ ns (joined cells) (length old) ≡ Ok (n - at) = read_writes (length old) (omega (arith, again_bytes)) ∙ ap Ok again_bytes in
        (w, rw (w, written_again))

  pub writes_again : WritesAgain ρ s at n cells
  writes_again = record { written = read_writes; cells_same = λ ds h. canonical_joined h; bytes_same = λ ds h. written_again h }
