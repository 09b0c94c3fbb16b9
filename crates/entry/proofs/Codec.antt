-- R520 to R524: what is written for an entry reads as the entry, whatever stands behind; what is read from bytes is written as these bytes.
-- Assumes nothing.
use mathlib.Core.Path.{◌≡◌, refl, sym, ap, ap₂, ◌∙◌}
use mathlib.Core.Bool.{cond}
use mathlib.Core.List.{List, [], ◌∷◌, ◌++◌, append_assoc}
use Prim.Native.Nat.{ℕ, zero, suc, ◌+◌, ◌-◌, ◌/◌, ◌%◌, ◌^◌, ◌<◌, ◌≤◌}
use native.Mathlib.Nat.{zero-add}
use native.Mathlib.Omega.{arith}
use lib.Dec.{ltb, eqb}
use lib.IntN.{ℤ}
use lib.ListN.{length, take, drop, length-append, length-drop, length-take, take-append-drop}
use lib.Seq.{take_at, drop_at, drop-drop, take-take, length-take-le}
use borrow.Author.Tests.{lt-ltb, le-ltb, ltb-false, eqb-true}
use Rattle.base.proofs.Choice.{cond_elim}
use Rattle.base.proofs.Taken.{take_none, drop_take}
use Rattle.entry.specs.declared.Entry.{Entry}
use Rattle.entry.specs.declared.Entry.TheVariants.{Set, Open, Release, Undo, Misformed}
use Rattle.entry.specs.Bytes.{number_bytes, value_from, bits_of, cell_of, AllBytes}
use Rattle.entry.specs.Field.{tagged, entry_text, entry_size, numbered, set_of, entry_in}
use Rattle.entry.specs.Codec.{Sized, sized_set, sized_open, sized_release, sized_undo, ReadsEntry, BothWays}
use Rattle.entry.proofs.Numbers.{length_bytes, value_bytes, bytes_value, value_small}
use Rattle.entry.proofs.Signed.{bits_small, cell_bits, bits_cell}

-- ---- the text of a set

module _ (g c : ℕ) (o n : ℤ) where
  -- what stands behind the length
  abbrev pub set_body : List ℕ
  set_body = number_bytes 1 g ++ (number_bytes 2 c ++ (number_bytes 8 (bits_of o) ++ number_bytes 8 (bits_of n)))

  pub set_length : length set_body ≡ 19
  set_length =
      simp (length-append, length_bytes)

low : (n : ℕ) → n < 256 → number_bytes 2 n ≡ 0 ∷ n ∷ []
unfolding number_bytes
low n h = let d : n / 256 ≡ 0 = omega arith in let m : n % 256 ≡ n = omega arith in rw (d, m)

one : (n : ℕ) → n < 256 → number_bytes 1 n ≡ n ∷ []
unfolding number_bytes
one n h = let m : n % 256 ≡ n = omega arith in rw m

-- R521, R522 in figures
pub text_set : (g c : ℕ) (o n : ℤ) → entry_text (Set g c o n) ≡ 1 ∷ 0 ∷ 19 ∷ set_body g c o n
unfolding entry_text
text_set g c o n = rw (set_length g c o n, low 19 (omega arith), one 1 (omega arith))

pub numbered_text : (tag k : ℕ) → tag < 256 → tagged tag (number_bytes 1 k) ≡ tag ∷ 0 ∷ 1 ∷ number_bytes 1 k
numbered_text tag k h = rw (length_bytes 1 k, low 1 (omega arith), one tag h)

pub length_text : (e : Entry) → length (entry_text e) ≡ entry_size e
unfolding entry_text
length_text (Set g c o n) = ap length (text_set g c o n) ∙ ap (λ m. suc (suc (suc m))) (set_length g c o n)
length_text (Open k) = ap length (numbered_text 2 k (omega arith)) ∙ ap (λ m. suc (suc (suc m))) (length_bytes 1 k)
length_text (Release k) = ap length (numbered_text 3 k (omega arith)) ∙ ap (λ m. suc (suc (suc m))) (length_bytes 1 k)
length_text (Undo k) = ap length (numbered_text 4 k (omega arith)) ∙ ap (λ m. suc (suc (suc m))) (length_bytes 1 k)
length_text Misformed = refl

-- ---- what is written reads as it was

numbered_figures : (tag k : ℕ) (r : List ℕ) → entry_in (tag ∷ 0 ∷ 1 ∷ k ∷ r) ≡ cond (eqb tag 1) Misformed (numbered tag k)
unfolding entry_in
numbered_figures tag k r = rw (le-ltb (suc (suc (suc (suc (length r))))) 4 (omega arith))

numbered_back : (tag k : ℕ) (r : List ℕ) → tag < 256 → k < 256 → entry_in (tagged tag (number_bytes 1 k) ++ r) ≡ cond (eqb tag 1) Misformed (numbered tag k)
numbered_back tag k r l h =
    ap (λ l. entry_in (l ++ r)) (numbered_text tag k l ∙ ap (λ l. tag ∷ 0 ∷ 1 ∷ l) (one k h)) ∙ numbered_figures tag k r

set_figures : (g c : ℕ) (o n : ℤ) (r : List ℕ) → Sized (Set g c o n) → entry_in (1 ∷ 0 ∷ 19 ∷ g ∷ ((number_bytes 2 c ++ (number_bytes 8 (bits_of o) ++ number_bytes 8 (bits_of n))) ++ r)) ≡ Set g c o n
unfolding entry_in value_from
set_figures g c o n r (sized_set hg hc ho hn) =
    let a = number_bytes 2 c in
    let b = number_bytes 8 (bits_of o) in
    let d = number_bytes 8 (bits_of n) in
    let y = (a ++ (b ++ d)) ++ r in
    let e : y ≡ a ++ (b ++ (d ++ r)) = append_assoc a (b ++ d) r ∙ ap (λ l. a ++ l) (append_assoc b d r) in
    let l : length y ≡ 18 + length r = ap length e ∙ simp (length-append, length_bytes) (omega arith) in
    let p : take 2 y ≡ a = ap (take 2) e ∙ take_at a (b ++ (d ++ r)) 2 (length_bytes 2 c) in
    let f : drop 2 y ≡ b ++ (d ++ r) = ap (drop 2) e ∙ drop_at a (b ++ (d ++ r)) 2 (length_bytes 2 c) in
    let q : take 8 (drop 2 y) ≡ b = ap (take 8) f ∙ take_at b (d ++ r) 8 (length_bytes 8 (bits_of o)) in
    let m : drop 10 y ≡ d ++ r = sym (drop-drop 8 2 y) ∙ ap (drop 8) f ∙ drop_at b (d ++ r) 8 (length_bytes 8 (bits_of o)) in
    let s : take 8 (drop 10 y) ≡ d = ap (take 8) m ∙ take_at d r 8 (length_bytes 8 (bits_of n)) in
    rw (
      le-ltb (suc (suc (suc (suc (length y))))) 4 (omega arith),
      le-ltb (suc (suc (suc (suc (length y))))) 22 (omega arith),
      p,
      q,
      s,
      zero-add g,
      value_bytes 2 c (omega arith),
      value_bytes 8 (bits_of o) (bits_small o ho),
      value_bytes 8 (bits_of n) (bits_small n hn),
      cell_bits o ho,
      cell_bits n hn,
    )

set_back : (g c : ℕ) (o n : ℤ) (r : List ℕ) → Sized (Set g c o n) → entry_in (entry_text (Set g c o n) ++ r) ≡ Set g c o n
set_back g c o n r (sized_set hg hc ho hn) =
    ap (λ l. entry_in (l ++ r)) (text_set g c o n ∙ ap (λ l. 1 ∷ 0 ∷ 19 ∷ (l ++ (number_bytes 2 c ++ (number_bytes 8 (bits_of o) ++ number_bytes 8 (bits_of n))))) (one g hg))
    ∙ set_figures g c o n r (sized_set hg hc ho hn)

pub field_text_lem : (e : Entry) (r : List ℕ) → Sized e → entry_in (entry_text e ++ r) ≡ e
unfolding entry_text
field_text_lem (Set g c o n) r h = set_back g c o n r h
field_text_lem (Open k) r (sized_open h) = numbered_back 2 k r (omega arith) h
field_text_lem (Release k) r (sized_release h) = numbered_back 3 k r (omega arith) h
field_text_lem (Undo k) r (sized_undo h) = numbered_back 4 k r (omega arith) h
field_text_lem Misformed r h = elim h [ ]

-- ---- what is read is written as it stood

pub bytes_take : (n : ℕ) (s : List ℕ) → AllBytes s → AllBytes (take n s)
bytes_take zero [] h = tt
bytes_take zero (b ∷ s) h = tt
bytes_take (suc n) [] h = tt
bytes_take (suc n) (b ∷ s) h = (h.0, bytes_take n s h.1)

pub bytes_drop : (n : ℕ) (s : List ℕ) → AllBytes s → AllBytes (drop n s)
bytes_drop zero [] h = tt
bytes_drop zero (b ∷ s) h = h
bytes_drop (suc n) [] h = tt
bytes_drop (suc n) (b ∷ s) h = bytes_drop n s h.1

take_plus : (m n : ℕ) (s : List ℕ) → take (m + n) s ≡ take m s ++ take n (drop m s)
take_plus m n s =
    let z : m + n - m ≡ n = omega arith in
    sym (take-append-drop m (take (m + n) s)) ∙ ap₂ ◌++◌ (take-take m (m + n) s (omega arith)) (drop_take m (m + n) s ∙ ap (λ k. take k (drop m s)) z)

module _ (a b c d : ℕ) (r : List ℕ) (h : AllBytes (a ∷ b ∷ c ∷ d ∷ r)) where
  abbrev xs : List ℕ
  xs = a ∷ b ∷ c ∷ d ∷ r

  abbrev Read : Entry → Type 0
  Read e = (e ≡ Misformed → ⊥) → ReadsEntry xs e

  bad : Read Misformed
  bad n = absurd (n refl)

  four : (tag : ℕ) → tag < 256 → a ≡ tag → b ≡ 0 → c ≡ 1 → take 4 xs ≡ tagged tag (number_bytes 1 d)
  four tag l ea eb ec = rw (ea, eb, ec, take_none r) (sym (numbered_text tag d l ∙ ap (λ x. tag ∷ 0 ∷ 1 ∷ x) (one d h.1.1.1.0)))

  read_numbered : b ≡ 0 → c ≡ 1 → Read (numbered a d)
  unfolding entry_text
  read_numbered eb ec =
      let l : d < 256 = h.1.1.1.0 in
      cond_elim Read (eqb a 2) (λ q n. record { text = four 2 (omega arith) (eqb-true a 2 q) eb ec; sized = sized_open l }) (λ _.
      cond_elim Read (eqb a 3) (λ q n. record { text = four 3 (omega arith) (eqb-true a 3 q) eb ec; sized = sized_release l }) (λ _.
      cond_elim Read (eqb a 4) (λ q n. record { text = four 4 (omega arith) (eqb-true a 4 q) eb ec; sized = sized_undo l }) (λ _. bad)))

  read_set : a ≡ 1 → b ≡ 0 → c ≡ 19 → 18 ≤ length r → ReadsEntry xs (set_of xs)
  read_set ea eb ec l =
      let g = take 1 (d ∷ r) in
      let x = take 2 r in
      let y = take 8 (drop 2 r) in
      let z = take 8 (drop 10 r) in
      let rest = h.1.1.1.1 in
      let hg : AllBytes g = bytes_take 1 (d ∷ r) h.1.1.1 in
      let hx : AllBytes x = bytes_take 2 r rest in
      let hy : AllBytes y = bytes_take 8 (drop 2 r) (bytes_drop 2 r rest) in
      let hz : AllBytes z = bytes_take 8 (drop 10 r) (bytes_drop 10 r rest) in
      let lg : length g ≡ 1 = length-take-le 1 (d ∷ r) (omega arith) in
      let lx : length x ≡ 2 = length-take-le 2 r (omega arith) in
      let ly : length y ≡ 8 = length-take-le 8 (drop 2 r) (omega (arith, length-drop 2 r)) in
      let lz : length z ≡ 8 = length-take-le 8 (drop 10 r) (omega (arith, length-drop 10 r)) in
      let vy : value_from 0 y < 2 ^ 64 = value_small 8 y ly hy in
      let vz : value_from 0 z < 2 ^ 64 = value_small 8 z lz hz in
      let ty : number_bytes 8 (bits_of (cell_of (value_from 0 y))) ≡ y = ap (number_bytes 8) (bits_cell (value_from 0 y) vy).0 ∙ bytes_value 8 y ly hy in
      let tz : number_bytes 8 (bits_of (cell_of (value_from 0 z))) ≡ z = ap (number_bytes 8) (bits_cell (value_from 0 z) vz).0 ∙ bytes_value 8 z lz hz in
      let body : set_body (value_from 0 g) (value_from 0 x) (cell_of (value_from 0 y)) (cell_of (value_from 0 z)) ≡ g ++ (x ++ (y ++ z)) = rw (ty, tz, bytes_value 1 g lg hg, bytes_value 2 x lx hx) in
      let cut : take 18 r ≡ x ++ (y ++ z) = take_plus 2 16 r ∙ ap (λ l. x ++ l) (take_plus 8 8 (drop 2 r) ∙ ap (λ l. y ++ take 8 l) (drop-drop 8 2 r)) in
      record {
        text = rw (ea, eb, ec, cut)
            (sym (text_set (value_from 0 g) (value_from 0 x) (cell_of (value_from 0 y)) (cell_of (value_from 0 z)) ∙ ap (λ l. 1 ∷ 0 ∷ 19 ∷ l) (body ∙ ap (λ l. (d ∷ l) ++ (x ++ (y ++ z))) (take_none r))));
        sized = sized_set (value_small 1 g lg hg) (value_small 2 x lx hx) (bits_cell (value_from 0 y) vy).1 (bits_cell (value_from 0 z) vz).1;
      }

  read_long : Read (entry_in xs)
  unfolding entry_in
  read_long =
      rw (le-ltb (suc (suc (suc (suc (length r))))) 4 (omega arith))
      (cond_elim Read (eqb b 0) (λ qb.
      cond_elim Read (eqb a 1)
      (λ qa. cond_elim Read (eqb c 19)
      (λ qc. cond_elim Read (ltb (suc (suc (suc (suc (length r))))) 22) (λ _. bad)
      (λ q n. read_set (eqb-true a 1 qa) (eqb-true b 0 qb) (eqb-true c 19 qc) (omega (arith, ltb-false (suc (suc (suc (suc (length r))))) 22 q)))) (λ _. bad))
      (λ _. cond_elim Read (eqb c 1) (λ qc. read_numbered (eqb-true b 0 qb) (eqb-true c 1 qc)) (λ _. bad)))
      (λ _. bad))

pub field_read : (xs : List ℕ) → AllBytes xs → (entry_in xs ≡ Misformed → ⊥) → ReadsEntry xs (entry_in xs)
unfolding entry_in
field_read [] h n = absurd (n refl)
field_read (a ∷ []) h n = absurd (n refl)
field_read (a ∷ b ∷ []) h n = absurd (n refl)
field_read (a ∷ b ∷ c ∷ []) h n = absurd (n refl)
field_read (a ∷ b ∷ c ∷ d ∷ r) h n = read_long a b c d r h n

-- ---- a field that is cut short

few_bytes : (xs : List ℕ) → length xs < 4 → entry_in xs ≡ Misformed
unfolding entry_in
few_bytes xs h = rw (lt-ltb (length xs) 4 h)

set_cut : (d : ℕ) (r : List ℕ) → length r < 18 → entry_in (1 ∷ 0 ∷ 19 ∷ d ∷ r) ≡ Misformed
unfolding entry_in
set_cut d r h = rw (le-ltb (suc (suc (suc (suc (length r))))) 4 (omega arith), lt-ltb (suc (suc (suc (suc (length r))))) 22 (omega arith))

cut_set : (m : ℕ) (body : List ℕ) → length body ≡ 19 → m < 22 → entry_in (take m (1 ∷ 0 ∷ 19 ∷ body)) ≡ Misformed
cut_set zero body l h = few_bytes [] (omega arith)
cut_set (suc zero) body l h = rw (take_none (0 ∷ 19 ∷ body)) (few_bytes (1 ∷ []) (omega arith))
cut_set (suc (suc zero)) body l h = rw (take_none (19 ∷ body)) (few_bytes (1 ∷ 0 ∷ []) (omega arith))
cut_set (suc (suc (suc zero))) body l h = rw (take_none body) (few_bytes (1 ∷ 0 ∷ 19 ∷ []) (omega arith))
cut_set (suc (suc (suc (suc m)))) [] l h = absurd (omega arith)
cut_set (suc (suc (suc (suc m)))) (d ∷ r) l h = set_cut d (take m r) (omega (arith, length-take m r))

-- a beginning of a field that is not all of it tells nothing
pub field_cut : (e : Entry) (m : ℕ) → m < entry_size e → entry_in (take m (entry_text e)) ≡ Misformed
field_cut (Set g c o n) m h = rw (text_set g c o n) (cut_set m (set_body g c o n) (set_length g c o n) h)
field_cut (Open k) m h = few_bytes (take m (entry_text (Open k))) (omega (arith, length-take m (entry_text (Open k))))
field_cut (Release k) m h = few_bytes (take m (entry_text (Release k))) (omega (arith, length-take m (entry_text (Release k))))
field_cut (Undo k) m h = few_bytes (take m (entry_text (Undo k))) (omega (arith, length-take m (entry_text (Undo k))))
field_cut Misformed m h = absurd (omega arith)

pub both_ways : BothWays
both_ways = record { written = field_text_lem; read = field_read; long = length_text; value = cell_bits; bits = bits_cell }
