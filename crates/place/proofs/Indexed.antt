-- What an index is: the two lines read as counts exactly if they are the index of these counts (IsIndex). The counts of an index are 80 that
-- each have an entry, and such counts are those that the whole check passes.
-- Assumes nothing.
use Rattle.std.specs.Prelude.{Option, Some, None}
use mathlib.Core.Path.{◌≡◌, refl, sym, ◌∙◌, ap, subst}
use mathlib.Core.Bool.{Bool, true, false, cond}
use mathlib.Core.List.{List, [], ◌∷◌, ◌++◌}
use mathlib.Core.Logic.{◌↔◌}
use Prim.Native.Nat.{ℕ, zero, suc, ◌+◌, ◌-◌, ◌*◌, ◌<◌}
use native.Mathlib.Nat.{le_of_suc-le-suc, sub-zero}
use native.Mathlib.Omega.{arith}
use borrow.Author.Tests.{eqb-true, leb-true, leb-false}
use lib.Dec.{leb, eqb, leb→le, le→leb}
use lib.ListN.{length, take, drop, get_or, length-append, length-drop, take-append-drop, get_or-append}
use lib.Seq.{drop-drop, get_or-append-add, get_or-take, get_or-drop, length-take-le}
use Rattle.rules.specs.declared.Rules.{Rules}
use Rattle.base.specs.Part.{part}
use Rattle.form.specs.Count.{most_count}
use Rattle.count.specs.Tally.{count_of}
use Rattle.count.specs.Due.{HasCounts}
use Rattle.field.specs.Entry.{entry_of, IsEntry, HasEntry}
use Rattle.field.proofs.Entries.{entry_is, is_entry, has_entry}
use Rattle.line.specs.Lines.{lines, behind}
use Rattle.line.specs.Contents.{content_of, HasContent}
use Rattle.line.proofs.Contents.{content_is, is_content, content_taken}
use Rattle.place.specs.Index.{Indexed, counts, misformed, entry_then, read_entries, read_index_content, read_index_line, read_index, IsIndex}
use Rattle.place.proofs.Placed.{two_lines}

-- ---- entries one behind the other

-- k entries of s, and the counts that they give
record Entries (k : ℕ) (s ns : List ℕ) : Type 0 where
  pub many : length ns ≡ k
  pub each : (i : ℕ) → i < k → IsEntry (part (i * 3) (i * 3 + 3) s) (get_or ns i 0)

three : (i : ℕ) (s : List ℕ) → part (i * 3) (i * 3 + 3) s ≡ take 3 (drop (i * 3) s)
three i s = let e : i * 3 + 3 - i * 3 ≡ 3 = omega arith in rw e

entry_first : (s : List ℕ) → part (0 * 3) (0 * 3 + 3) s ≡ take 3 s
entry_first s = refl

entry_later : (i : ℕ) (s : List ℕ) → part (suc i * 3) (suc i * 3 + 3) s ≡ part (i * 3) (i * 3 + 3) (drop 3 s)
entry_later i s =
    let e : suc i * 3 ≡ 3 + i * 3 = omega arith in
    three (suc i) s ∙ ap (λ n. take 3 (drop n s)) e ∙ ap (take 3) (sym (drop-drop (i * 3) 3 s)) ∙ sym (three i (drop 3 s))

-- an entry in front of others
record Front (x : Option ℕ) (r : Indexed) (ns : List ℕ) : Type 0 where
  pub count : ℕ
  pub rest : List ℕ
  pub first : x ≡ Some count
  pub others : r ≡ counts rest
  pub all : ns ≡ count ∷ rest

front : (x : Option ℕ) (r : Indexed) (ns : List ℕ) → entry_then x r ≡ counts ns → Front x r ns
front (Some n) (counts ms) ns e = record { count = n; rest = ms; first = refl; others = refl; all = cc }
front (Some n) misformed ns e = let z : ◌≡◌ {A = ℕ} 0 1 = cc in absurd (omega arith)
front None r ns e = let z : ◌≡◌ {A = ℕ} 0 1 = cc in absurd (omega arith)

read_entries_lem : (k : ℕ) (s ns : List ℕ) → read_entries k s ≡ counts ns → Entries k s ns
unfolding read_entries
read_entries_lem zero s ns e = let z : [] ≡ ns = cc in record { many = sym (ap length z); each = λ i h. absurd (omega arith) }
read_entries_lem (suc k) s ns e =
    let f = front (entry_of (take 3 s)) (read_entries k (drop 3 s)) ns e in
    let more = read_entries_lem k (drop 3 s) f.rest f.others in
    rw f.all (record { many = ap suc more.many; each = by f.count f.rest (entry_is (take 3 s) f.count f.first) more })
  where
    by : (n : ℕ) (ms : List ℕ) → IsEntry (take 3 s) n → Entries k (drop 3 s) ms → (i : ℕ) → i < suc k → IsEntry (part (i * 3) (i * 3 + 3) s) (get_or (n ∷ ms) i 0)
    by n ms h more zero l = rw (entry_first s) h
    by n ms h more (suc i) l = rw (entry_later i s) (more.each i (le_of_suc-le-suc l))

entries_read : (k : ℕ) (s ns : List ℕ) → Entries k s ns → read_entries k s ≡ counts ns
unfolding read_entries
entries_read zero s [] h = refl
entries_read zero s (n ∷ ns) h = absurd (omega (arith, h.many))
entries_read (suc k) s [] h = absurd (omega (arith, h.many))
entries_read (suc k) s (n ∷ ns) h =
    let first : entry_of (take 3 s) ≡ Some n = is_entry (take 3 s) n (rw (entry_first s) at (h.each 0 (omega arith))) in
    let more : Entries k (drop 3 s) ns = record { many = omega (arith, h.many); each = λ i l. rw (entry_later i s) at (h.each (suc i) (omega (arith, l))) } in
    rw (first, entries_read k (drop 3 s) ns more)

-- ---- a line

-- an index line of these counts
record Line (ρ : Rules) (x ns : List ℕ) : Type 0 where
  pub content : List ℕ
  pub is : HasContent ρ x content
  pub wide : length content ≡ 120
  pub entries : Entries 40 content ns

read_line_lem : (ρ : Rules) (x ns : List ℕ) → read_index_line ρ x ≡ counts ns → Line ρ x ns
unfolding read_index_line
read_line_lem ρ x ns e = by (content_of ρ x) refl e
  where
    whole : (n : ℕ) (t : Bool) → content_of ρ x ≡ Some n → eqb n 120 ≡ t → cond t (read_entries 40 (part 0 n x)) misformed ≡ counts ns → Line ρ x ns
    whole n true f u g =
        let c = is_content ρ x n f in
        let p : part 0 n x ≡ take n x = rw (sub-zero n) in
        record { content = take n x; is = c.0; wide = c.1 ∙ eqb-true n 120 u; entries = read_entries_lem 40 (take n x) ns (rw p at g) }
    whole n false f u g = let z : ◌≡◌ {A = ℕ} 0 1 = cc in absurd (omega arith)

    by : (c : Option ℕ) → content_of ρ x ≡ c → read_index_content x c ≡ counts ns → Line ρ x ns
    by (Some n) f g = whole n (eqb n 120) f refl g
    by None f g = let z : ◌≡◌ {A = ℕ} 0 1 = cc in absurd (omega arith)

line_read_lem : (ρ : Rules) (x ns : List ℕ) → Line ρ x ns → read_index_line ρ x ≡ counts ns
unfolding read_index_line
line_read_lem ρ x ns h =
    let f : content_of ρ x ≡ Some 120 = content_is ρ x h.content h.is ∙ ap Some h.wide in
    let p : part 0 120 x ≡ h.content = content_taken ρ x h.content 120 h.is f in
    rw (f, p) (entries_read 40 h.content ns h.entries)

-- ---- both lines

module _ (ρ : Rules) (xs ns : List ℕ) where
  read_index_lem : read_index ρ xs ≡ counts ns → IsIndex ρ xs ns
  unfolding read_index
  read_index_lem e =
      let t = two_lines (read_index_line ρ (lines 1 xs)) (read_index_line ρ (lines 1 (behind 1 xs))) ns e in
      let a = read_line_lem ρ (lines 1 xs) t.first t.first_is in
      let b = read_line_lem ρ (lines 1 (behind 1 xs)) t.second t.second_is in
      let long : length t.first ≡ 40 = a.entries.many in
      record {
        many = ap length t.all ∙ length-append t.first t.second ∙ omega (arith, a.entries.many, b.entries.many);
        first = record {
          content = a.content;
          is = a.is;
          wide = a.wide;
          each = λ k h. subst (IsEntry (part (k * 3) (k * 3 + 3) a.content)) (left t.first t.second k (omega (arith, h, long)) t.all) (a.entries.each k h);
        };
        second = record {
          content = b.content;
          is = b.is;
          wide = b.wide;
          each = λ k h. subst (IsEntry (part (k * 3) (k * 3 + 3) b.content)) (right t.first t.second k long t.all) (b.entries.each k h);
        };
      }
    where
      left : (a b : List ℕ) (k : ℕ) → k < length a → ns ≡ a ++ b → get_or a k 0 ≡ count_of ns (0 + k + 1)
      left a b k h e = let n : 0 + k + 1 ≡ suc k = omega arith in rw (e, n) (sym (get_or-append a b 0 k h))

      right : (a b : List ℕ) (k : ℕ) → length a ≡ 40 → ns ≡ a ++ b → get_or b k 0 ≡ count_of ns (40 + k + 1)
      right a b k l e = let n : 40 + k + 1 ≡ suc (length a + k) = omega (arith, l) in rw (e, n) (sym (get_or-append-add a b k 0))

  index_read : IsIndex ρ xs ns → read_index ρ xs ≡ counts ns
  unfolding read_index
  index_read h =
      let a : Line ρ (lines 1 xs) (take 40 ns) = record {
        content = h.first.content;
        is = h.first.is;
        wide = h.first.wide;
        entries = record {
          many = length-take-le 40 ns (omega (arith, h.many));
          each = λ k l. subst (IsEntry (part (k * 3) (k * 3 + 3) h.first.content)) (left k l) (h.first.each k l);
        };
      } in
      let b : Line ρ (lines 1 (behind 1 xs)) (drop 40 ns) = record {
        content = h.second.content;
        is = h.second.is;
        wide = h.second.wide;
        entries = record {
          many = length-drop 40 ns ∙ omega (arith, h.many);
          each = λ k l. subst (IsEntry (part (k * 3) (k * 3 + 3) h.second.content)) (right k) (h.second.each k l);
        };
      } in
      rw (line_read_lem ρ (lines 1 xs) (take 40 ns) a, line_read_lem ρ (lines 1 (behind 1 xs)) (drop 40 ns) b) (ap counts (take-append-drop 40 ns))
    where
      left : (k : ℕ) → k < 40 → count_of ns (0 + k + 1) ≡ get_or (take 40 ns) k 0
      left k l = let n : 0 + k + 1 ≡ suc k = omega arith in rw n (sym (get_or-take 40 ns k 0 l))

      right : (k : ℕ) → count_of ns (40 + k + 1) ≡ get_or (drop 40 ns) k 0
      right k = let n : 40 + k + 1 ≡ suc (40 + k) = omega arith in rw n (sym (get_or-drop 40 ns k 0))

  -- the two lines give these counts exactly if they are the index of these counts
  pub index_is : read_index ρ xs ≡ counts ns ↔ IsIndex ρ xs ns
  index_is = (read_index_lem, index_read)

-- 4 exactly if they are the index of no counts
pub no_index : (ρ : Rules) (xs : List ℕ) → read_index ρ xs ≡ misformed ↔ ((ns : List ℕ) → IsIndex ρ xs ns → ⊥)
no_index ρ xs = (λ e ns h. let c = sym e ∙ (index_is ρ xs ns).1 h in let z : ◌≡◌ {A = ℕ} 0 1 = cc in omega arith, λ n. by (read_index ρ xs) refl n)
  where
    by : (r : Indexed) → read_index ρ xs ≡ r → ((ns : List ℕ) → IsIndex ρ xs ns → ⊥) → r ≡ misformed
    by (counts ns) e n = absurd (n ns ((index_is ρ xs ns).0 e))
    by misformed e n = refl

-- ---- 80 counts that each have an entry

-- the whole check's 4: there are 80, and each has an entry
pub counts_entries : (ns : List ℕ) → HasCounts ns ↔ ((length ns ≡ 80) × ((i : ℕ) → i < 80 → HasEntry (get_or ns i 0)))
counts_entries ns = (
  λ h. (h.many, λ i l. (has_entry (get_or ns i 0)).1 (le→leb (get_or ns i 0) most_count (h.small i l))),
  λ h. record { many = h.0; small = λ i l. leb→le (get_or ns i 0) most_count ((has_entry (get_or ns i 0)).0 (h.1 i l)) },
)

-- the counts of an index are such
pub index_counts : (ρ : Rules) (xs ns : List ℕ) → IsIndex ρ xs ns → HasCounts ns
index_counts ρ xs ns h = (counts_entries ns).1 (h.many, λ i l. by i l (leb 40 i) refl)
  where
    by : (i : ℕ) → i < 80 → (t : Bool) → leb 40 i ≡ t → HasEntry (get_or ns i 0)
    by i l true e =
        let low = leb-true 40 i e in
        let n : 40 + (i - 40) + 1 ≡ suc i = omega arith in
        record { columns = _; entry = subst (λ m. IsEntry (part ((i - 40) * 3) ((i - 40) * 3 + 3) h.second.content) (count_of ns m)) n (h.second.each (i - 40) (omega arith)) }
    by i l false e =
        let high = leb-false 40 i e in
        let n : 0 + i + 1 ≡ suc i = omega arith in
        record { columns = _; entry = subst (λ m. IsEntry (part (i * 3) (i * 3 + 3) h.first.content) (count_of ns m)) n (h.first.each i (omega arith)) }
