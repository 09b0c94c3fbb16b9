-- The entries of an index line, stored one after the other; as many counts as entries.
-- Assumes nothing.
use Rattle.std.specs.Prelude.{Option, Some, None}
use mathlib.Core.Path.{◌≡◌, refl, sym, ◌∙◌, ap}
use mathlib.Core.Bool.{Bool, true, false, cond}
use mathlib.Core.List.{List, [], ◌∷◌, ◌++◌, append_assoc, append-nil}
use native.Mathlib.Numerals.{add-one}
use Prim.Native.Nat.{ℕ, zero, suc, ◌+◌, ◌/◌, ◌<◌, ◌≤◌}
use native.Mathlib.Omega.{arith}
use lib.ListN.{length, get_or, take, drop, set, replicate, length-append, drop_of_length-le}
use lib.Seq.{drop-cons}
use lib.Dec.{eqb}
use Rattle.rules.specs.declared.Rules.{Rules}
use Rattle.std.specs.Simd.{first_chunks}
use Rattle.base.proofs.Taken.{drop_none}
use Rattle.base.specs.Part.{part, over}
use Rattle.base.proofs.Part.{over_none, over_one, over_all, over_then, over_length}
use Rattle.line.specs.Contents.{content_of}
use Rattle.field.specs.Entry.{entry_of}
use Rattle.place.specs.Index.{Indexed, counts, misformed, entry_then, read_entries, read_index_content, read_index_line}

-- counts that stand before others
abbrev pub behind_these : List ℕ → Indexed → Indexed
behind_these a (counts b) = counts (a ++ b)
behind_these a misformed = misformed

none_before : (r : Indexed) → r ≡ behind_these [] r
none_before (counts b) = refl
none_before misformed = refl

one_before : (a : List ℕ) (n : ℕ) (r : Indexed) → behind_these a (entry_then (Some n) r) ≡ behind_these (a ++ (n ∷ [])) r
one_before a n (counts b) = ap counts (sym (append_assoc a (n ∷ []) b))
one_before a n misformed = refl

-- entries that are given one by one, and those of a content
abbrev pub entries_of : List (List ℕ) → Indexed
entries_of [] = counts []
entries_of (e ∷ es) = entry_then (entry_of e) (entries_of es)

entries_chunked : (k : ℕ) (s : List ℕ) → read_entries k s ≡ entries_of (first_chunks 3 k s)
unfolding read_entries
entries_chunked zero s = refl
entries_chunked (suc k) s = ap (entry_then (entry_of (take 3 s))) (entries_chunked k (drop 3 s))

-- the forty of an index line's content
pub content_chunked : (s : List ℕ) (es : List (List ℕ)) → length s ≡ 120 → es ≡ first_chunks 3 (length s / 3) s → read_entries 40 s ≡ entries_of es
content_chunked s es l e =
    let forty : length s / 3 ≡ 40 = ap (λ n. n / 3) l in
    entries_chunked 40 s ∙ ap entries_of (sym (e ∙ ap (λ k. first_chunks 3 k s) forty))

pub content_forty : (s : List ℕ) (n : ℕ) → length s ≡ 120 → n ≡ length s / 3 → n ≡ 40
content_forty s n l e = e ∙ ap (λ n. n / 3) l

-- k entries have been stored in 40 places
pub record Storing (es : List (List ℕ)) (k : ℕ) (new : List ℕ) : Type 0 where
  pub stored : List ℕ
  pub many : length stored ≡ k
  pub place : new ≡ over 0 stored (replicate 40 0)
  pub rest : entries_of es ≡ behind_these stored (entries_of (drop k es))

pub storing_none : (es : List (List ℕ)) → Storing es 0 (replicate 40 0)
storing_none es = record { stored = []; many = refl; place = over_none (replicate 40 0) 0; rest = none_before (entries_of es) ∙ ap (λ xs. behind_these [] (entries_of xs)) (sym (drop_none es)) }

module _ (es : List (List ℕ)) (k : ℕ) (new : List ℕ) (b : Storing es k new) where
  next : k < length es → (e : List ℕ) → e ≡ get_or es k [] → entries_of es ≡ behind_these b.stored (entry_then (entry_of e) (entries_of (drop (k + 1) es)))
  next h e f = b.rest ∙ rw (f, add-one k, drop-cons es k [] h) refl

  pub storing_bad : k < length es → (e : List ℕ) → e ≡ get_or es k [] → entry_of e ≡ None → entries_of es ≡ misformed
  storing_bad h e f m = next h e f ∙ rw m

  pub storing_more : k < length es → k < 40 → (e : List ℕ) → e ≡ get_or es k [] → (n : ℕ) → entry_of e ≡ Some n → Storing es (k + 1) (set new k n)
  storing_more h few e f n m =
      let old : List ℕ = replicate 40 0 in
      let l : length (over 0 b.stored old) ≡ 40 = over_length old b.stored 0 (omega (arith, b.many)) in
      record {
        stored = b.stored ++ (n ∷ []);
        many = length-append b.stored (n ∷ []) ∙ omega (arith, b.many);
        place = over_then old b.stored (n ∷ []) 0 k (omega (arith, b.many), omega arith) b.place
            (over_one new k n (omega (arith, ap length b.place)));
        rest = next h e f ∙ ap (λ x. behind_these b.stored (entry_then x (entries_of (drop (k + 1) es)))) m
            ∙ one_before b.stored n (entries_of (drop (k + 1) es));
      }

  -- all are stored
  pub storing_done : length es ≤ k → k ≡ 40 → entries_of es ≡ counts new
  storing_done h l =
      b.rest ∙ rw (drop_of_length-le es h) (ap counts (append-nil b.stored ∙ sym (b.place ∙ over_all (replicate 40 0) b.stored (b.many ∙ l))))

-- ---- as many counts as entries

-- an entry before k others
then_counts : (x : Option ℕ) (r : Indexed) (ns : List ℕ) (k : ℕ) → ((ms : List ℕ) → r ≡ counts ms → length ms ≡ k) → entry_then x r ≡ counts ns → length ns ≡ suc k
then_counts (Some n) (counts ms) ns k f e =
    let p : n ∷ ms ≡ ns = cc in
    sym (ap length p) ∙ ap suc (f ms refl)
then_counts (Some n) misformed ns k f e = let z : ◌≡◌ {A = ℕ} 0 1 = cc in absurd (omega arith)
then_counts None r ns k f e = let z : ◌≡◌ {A = ℕ} 0 1 = cc in absurd (omega arith)

-- k entries that are well formed give k counts
pub entries_length : (k : ℕ) (s ns : List ℕ) → read_entries k s ≡ counts ns → length ns ≡ k
unfolding read_entries
entries_length zero s ns e =
    let p : [] ≡ ns = cc in
    sym (ap length p)
entries_length (suc k) s ns e = then_counts (entry_of (take 3 s)) (read_entries k (drop 3 s)) ns k (λ ms f. entries_length k (drop 3 s) ms f) e

-- an index line that is well formed gives 40
pub line_length : (ρ : Rules) (x ns : List ℕ) → read_index_line ρ x ≡ counts ns → length ns ≡ 40
unfolding read_index_line
line_length ρ x ns e = by (content_of ρ x) e
  where
    forty : (n : ℕ) (t : Bool) → cond t (read_entries 40 (part 0 n x)) misformed ≡ counts ns → length ns ≡ 40
    forty n true f = entries_length 40 (part 0 n x) ns f
    forty n false f = let z : ◌≡◌ {A = ℕ} 0 1 = cc in absurd (omega arith)

    by : (c : Option ℕ) → read_index_content x c ≡ counts ns → length ns ≡ 40
    by (Some n) f = forty n (eqb n 120) f
    by None f = let z : ◌≡◌ {A = ℕ} 0 1 = cc in absurd (omega arith)

-- two lines of 40, stored one behind the other, are all 80
pub both_stored : {mid new : List ℕ} (a b old : List ℕ) → length a ≡ 40 → length b ≡ 40 → length old ≡ 80 → mid ≡ over 0 a old → new ≡ over 40 b mid → new ≡ a ++ b
both_stored a b old p q l e f =
    over_then old a b 0 40 (omega arith, omega arith) e f
    ∙ over_all old (a ++ b) (length-append a b ∙ omega arith)
