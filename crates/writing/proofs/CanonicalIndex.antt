-- A canonical index: each of its lines is the text that is written for 40 counts and reads as these, and both together are two lines that read
-- as all 80, whatever stands behind them.
-- Assumes nothing.
use mathlib.Core.Path.{◌≡◌, refl, sym, ◌∙◌, ap, ap₂, subst}
use mathlib.Core.List.{List, [], ◌∷◌, ◌++◌, append_assoc}
use Prim.Native.Nat.{ℕ, ◌-◌, ◌*◌}
use native.Mathlib.Omega.{arith}
use borrow.Author.Tests.{eq-eqb}
use lib.Dec.{lit<}
use lib.ListN.{length, take, drop, length-append, length-drop, take-append-drop}
use lib.Seq.{take_at, drop_at, length-take-le}
use Rattle.rules.specs.declared.Rules.{Rules}
use Rattle.base.specs.Part.{part}
use Rattle.base.specs.Pieces.{Each, none, more}
use Rattle.base.proofs.Ascii.{printable_without}
use Rattle.base.proofs.Taken.{drop_none}
use Rattle.field.specs.Entry.{CanonicalEntry}
use Rattle.field.proofs.Entries.{is_entry, canonical_entry, entry_one, entry_plain}
use Rattle.line.proofs.Pieces.{each_plain, unbroken_plain}
use Rattle.line.specs.Lines.{Whole, Plain}
use Rattle.line.proofs.Whole.{whole_append, lines_whole, behind_whole}
use Rattle.line.proofs.Contents.{content_append, content_line}
use Rattle.place.specs.Index
use Rattle.place.specs.Index.{counts, read_entries, read_index_line, read_index}
use Rattle.writing.specs.Text.{line_end, entries_text}
use Rattle.writing.specs.Canonical.{EntryOf, CanonicalIndexLine}

-- ---- entries

entries_text_lem : (ns s cs : List ℕ) → Each EntryOf ns s cs → s ≡ entries_text ns
unfolding entries_text
entries_text_lem [] [] [] none = refl
entries_text_lem (n ∷ ns) s cs (more x c {y} {d} p h) = ap₂ ◌++◌ (entry_one x n p.0) (entries_text_lem ns y d h)
entries_text_lem [] [] (_ ∷ _) x5 = elim x5 [ ]
entries_text_lem [] (_ ∷ _) cs x5 = elim x5 [ ]

entries_bytes : (ns s cs : List ℕ) → Each EntryOf ns s cs → length s ≡ length ns * 3
entries_bytes [] [] [] none = refl
entries_bytes (n ∷ ns) s cs (more x c {y} {d} p h) = length-append x y ∙ omega (arith, p.0.width, entries_bytes ns y d h)
entries_bytes [] [] (_ ∷ _) x5 = elim x5 [ ]
entries_bytes [] (_ ∷ _) cs x5 = elim x5 [ ]

entries_plain : (ns s cs : List ℕ) → Each EntryOf ns s cs → Plain s
entries_plain ns s cs h = each_plain (λ n x c p. entry_unbroken n x p.0) ns s cs h
  where
    entry_unbroken : (n : ℕ) (x : List ℕ) → CanonicalEntry x n → Plain x
    entry_unbroken n x p = unbroken_plain x (printable_without 10 x (lit< tt) (rw (entry_one x n p) (entry_plain n)))

entries_read : (ns s cs : List ℕ) → Each EntryOf ns s cs → read_entries (length ns) s ≡ counts ns
unfolding Index.read_entries
entries_read [] [] [] none = refl
entries_read (n ∷ ns) s cs (more x c {y} {d} p h) =
    let w = p.0.width in
    rw (take_at x y 3 w, drop_at x y 3 w, is_entry x n (canonical_entry x n p.0), entries_read ns y d h)
entries_read [] [] (_ ∷ _) x5 = elim x5 [ ]
entries_read [] (_ ∷ _) cs x5 = elim x5 [ ]

-- ---- a line of 40 counts

module _ (ρ : Rules) (ns x : List ℕ) (h : CanonicalIndexLine ns x) where
  pub index_line_text : x ≡ entries_text ns ++ line_end
  index_line_text = h.is ∙ ap (λ s. s ++ line_end) (entries_text_lem ns h.content ns h.good)

  pub index_line_whole : Whole 1 x
  index_line_whole = subst (Whole 1) (sym h.is) (content_line h.content (entries_plain ns h.content ns h.good))

  pub index_line_read : length ns ≡ 40 → read_index_line ρ x ≡ counts ns
  unfolding Index.read_index_line
  index_line_read many =
      let s = h.content in
      let n : length s ≡ 120 = entries_bytes ns s ns h.good ∙ omega arith in
      let p : part 0 (length s) (s ++ line_end) ≡ s = ap (take (length s - 0)) (drop_none (s ++ line_end)) ∙ take_at s line_end (length s - 0) (omega arith) in
      rw (h.is, content_append ρ s, eq-eqb (length s) 120 n, p) (ap (λ k. read_entries k s) (sym many) ∙ entries_read ns s ns h.good)

-- ---- both lines

module _ (ρ : Rules) (ns first second : List ℕ) (many : length ns ≡ 80) (a : CanonicalIndexLine (take 40 ns) first) (b : CanonicalIndexLine (drop 40 ns) second) where
  pub index_whole : Whole 2 (first ++ second)
  index_whole = whole_append (index_line_whole ρ (take 40 ns) first a) (index_line_whole ρ (drop 40 ns) second b)

  pub index_read : (rest : List ℕ) → read_index ρ ((first ++ second) ++ rest) ≡ counts ns
  unfolding Index.read_index
  index_read rest =
      let u = index_line_whole ρ (take 40 ns) first a in
      let v = index_line_whole ρ (drop 40 ns) second b in
      rw (
        append_assoc first second rest,
        lines_whole (second ++ rest) u,
        behind_whole (second ++ rest) u,
        lines_whole rest v,
        index_line_read ρ (take 40 ns) first a
            (length-take-le 40 ns (omega arith)),
        index_line_read ρ (drop 40 ns) second b (length-drop 40 ns ∙ omega arith),
      )
      (ap counts (take-append-drop 40 ns))
