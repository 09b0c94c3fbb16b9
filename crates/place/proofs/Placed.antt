-- What it means that a record is located, as one record of facts, both ways; where it lies; and that its index lines are 121 bytes each at least.
-- Assumes nothing.
use Rattle.std.specs.Prelude.{Option, Some, None, Result, Ok, Err}
use mathlib.Core.Path.{◌≡◌, refl, sym, ◌∙◌, ap}
use mathlib.Core.Bool.{Bool, true, false, cond}
use mathlib.Core.List.{List, ◌++◌}
use Prim.Native.Nat.{ℕ, ◌+◌, ◌-◌, ◌<◌, ◌≤◌}
use native.Mathlib.Omega.{arith}
use borrow.Author.Tests.{eqb-true, leb-true, le-leb}
use lib.Dec.{leb, ltb, eqb}
use lib.ListN.{length, take, drop, length-drop}
use Rattle.rules.specs.declared.Rules.{Rules}
use Rattle.line.specs.Lines.{feeds, reach, lines, behind}
use Rattle.line.specs.Contents.{content_of}
use Rattle.line.proofs.Feeds.{feeds_le}
use Rattle.line.proofs.Reach.{reach_le, reach_mono, reach_add, length_lines}
use Rattle.line.proofs.Contents.{content_two}
use Rattle.count.specs.Tally.{record_lines}
use Rattle.count.specs.Rules.{release_of}
use Rattle.count.proofs.Tallied.{record_two}
use Rattle.reply.specs.declared.Refusal.{Refusal}
use Rattle.reply.specs.declared.Refusal.TheVariants.{End, Beyond, TooFewLines}
use Rattle.place.specs.Index.{Indexed, counts, misformed, read_index_content, read_entries, read_index_line, both_lines, read_index}
use Rattle.place.specs.Placing.{located, refused, locate, locate_index, locate_release, counts_by, counts_at}
use Rattle.place.proofs.Steps.{locate_index_lem}

-- the facts of a located record
pub record IsLocated (ρ : Rules) (s : List ℕ) (at n : ℕ) (ns : List ℕ) : Type 0 where
  pub inside : at < length s
  pub head : 2 ≤ feeds (drop at s)
  pub index : read_index ρ (drop at s) ≡ counts ns
  pub release : release_of ns ≡ Ok tt
  pub many : record_lines ρ ns ≤ feeds (drop at s)
  pub next : n ≡ at + reach (drop at s) (record_lines ρ ns)

pub is_located : (ρ : Rules) (s : List ℕ) (at n : ℕ) (ns : List ℕ) → IsLocated ρ s at n ns → locate ρ s at ≡ located n ns
is_located ρ s at n ns p =
    locate_index_lem ρ s at p.inside p.head
    ∙ rw (p.index, p.release, le-leb (record_lines ρ ns) (feeds (drop at s)) p.many)
    (ap (λ m. located m ns) (sym p.next))

-- no answer is two
-- what is refused is no record
pub no_record : {A : Type 0} {p : Refusal} {n : ℕ} {ns : List ℕ} → refused p ≡ located n ns → A
no_record e = let z : ◌≡◌ {A = ℕ} 0 1 = cc in absurd (omega arith)

module _ (ρ : Rules) (s : List ℕ) (at n : ℕ) (ns : List ℕ) where
  xs : List ℕ
  xs = drop at s

  by_lines : (ms : List ℕ) (t : Bool) → at < length s → 2 ≤ feeds xs → read_index ρ xs ≡ counts ms → release_of ms ≡ Ok tt → leb (record_lines ρ ms) (feeds xs) ≡ t
      → cond t (located (at + reach xs (record_lines ρ ms)) ms) (refused TooFewLines) ≡ located n ns → IsLocated ρ s at n ns
  unfolding xs
  by_lines ms true i h r f u e =
      let p : ms ≡ ns = cc in
      let m = leb-true (record_lines ρ ms) (feeds xs) u in
      record { inside = i; head = h; index = r ∙ ap counts p; release = rw p at f; many = rw p at m; next = cc }
  by_lines ms false i h r f u e = no_record e

  by_release_lem : (ms : List ℕ) (r : Result (Unit {0}) Refusal) → at < length s → 2 ≤ feeds xs → read_index ρ xs ≡ counts ms → release_of ms ≡ r → locate_release ρ xs at ms r ≡ located n ns → IsLocated ρ s at n ns
  unfolding xs
  by_release_lem ms (Ok five) i h x f e = by_lines ms (leb (record_lines ρ ms) (feeds xs)) i h x f refl e
  by_release_lem ms (Err r) i h x f e = no_record e

  by_index : (q : Indexed) → at < length s → 2 ≤ feeds xs → read_index ρ xs ≡ q → locate_index ρ xs at q ≡ located n ns → IsLocated ρ s at n ns
  by_index (counts ms) i h x e = by_release_lem ms (release_of ms) i h x refl e
  by_index misformed i h x e = no_record e

  pub located_is : locate ρ s at ≡ located n ns → IsLocated ρ s at n ns
  unfolding locate xs
  located_is e = by (ltb (length s) at) (eqb (length s) at) (leb 2 (feeds xs)) refl refl refl e
    where
      by : (a b c : Bool) → ltb (length s) at ≡ a → eqb (length s) at ≡ b → leb 2 (feeds xs) ≡ c
          → cond a (refused Beyond) (cond b (refused End) (cond c (locate_index ρ xs at (read_index ρ xs)) (refused TooFewLines))) ≡ located n ns → IsLocated ρ s at n ns
      by true b c u v w e = no_record e
      by false true c u v w e = no_record e
      by false false false u v w e = no_record e
      by false false true u v w e =
          let h = leb-true 2 (feeds xs) w in
          by_index (read_index ρ xs) (omega (arith, h, feeds_le xs, length-drop at s)) h refl e

-- ---- where it lies

pub located_range : (ρ : Rules) (s : List ℕ) (at n : ℕ) (ns : List ℕ) → locate ρ s at ≡ located n ns → n ≤ length s
located_range ρ s at n ns e =
    let p = located_is ρ s at n ns e in
    omega (arith, p.next, p.inside, reach_le (drop at s) (record_lines ρ ns), length-drop at s)

-- ---- the index is two lines of 121 bytes at least

line_bytes : (ρ : Rules) (x ns : List ℕ) → read_index_line ρ x ≡ counts ns → 121 ≤ length x
unfolding read_index_line
line_bytes ρ x ns e = by (content_of ρ x) refl e
  where
    whole : (n : ℕ) (t : Bool) → content_of ρ x ≡ Some n → eqb n 120 ≡ t → cond t (read_entries 40 (take (n - 0) (drop 0 x))) misformed ≡ counts ns → 121 ≤ length x
    whole n true f u g = omega (arith, (content_two ρ x n f).0, eqb-true n 120 u)
    whole n false f u g = let z : ◌≡◌ {A = ℕ} 0 1 = cc in absurd (omega arith)

    by : (c : Option ℕ) → content_of ρ x ≡ c → read_index_content x c ≡ counts ns → 121 ≤ length x
    by (Some n) f g = whole n (eqb n 120) f refl g
    by None f g = let z : ◌≡◌ {A = ℕ} 0 1 = cc in absurd (omega arith)

-- both lines of an index are well formed
pub record TwoLines (a b : Indexed) (ns : List ℕ) : Type 0 where
  pub first : List ℕ
  pub second : List ℕ
  pub first_is : a ≡ counts first
  pub second_is : b ≡ counts second
  pub all : ns ≡ first ++ second

pub two_lines : (a b : Indexed) (ns : List ℕ) → both_lines a b ≡ counts ns → TwoLines a b ns
two_lines (counts x) (counts y) ns e = record { first = x; second = y; first_is = refl; second_is = refl; all = cc }
two_lines (counts x) misformed ns e = let z : ◌≡◌ {A = ℕ} 0 1 = cc in absurd (omega arith)
two_lines misformed b ns e = let z : ◌≡◌ {A = ℕ} 0 1 = cc in absurd (omega arith)

pub index_bytes : (ρ : Rules) (xs ns : List ℕ) → read_index ρ xs ≡ counts ns → 242 ≤ reach xs 2
unfolding read_index
index_bytes ρ xs ns e =
    let t = two_lines (read_index_line ρ (lines 1 xs)) (read_index_line ρ (lines 1 (behind 1 xs))) ns e in
    omega
    (arith, reach_add xs 1 1, length_lines xs 1, line_bytes ρ (lines 1 xs) t.first t.first_is, length_lines (behind 1 xs) 1, line_bytes ρ (lines 1 (behind 1 xs)) t.second t.second_is)

-- so a record has at least 242 bytes
pub located_long : (ρ : Rules) (s : List ℕ) (at n : ℕ) (ns : List ℕ) → locate ρ s at ≡ located n ns → at + 242 ≤ n
located_long ρ s at n ns e =
    let p = located_is ρ s at n ns e in
    omega (arith, p.next, index_bytes ρ (drop at s) ns p.index, reach_mono (drop at s) 2 (record_lines ρ ns) (record_two ρ ns))

-- the counts beside the answer are those of the located record
pub counts_at_lem : (ρ : Rules) (s : List ℕ) (at n : ℕ) (ns : List ℕ) → locate ρ s at ≡ located n ns → counts_at ρ s at ≡ ns
unfolding counts_at
counts_at_lem ρ s at n ns e = ap counts_by e
