-- A row of numbers: one number more, as a loop writes it; how long it is.
-- Assumes nothing.
use mathlib.Core.Path.{◌≡◌, refl, sym, ◌∙◌, ap}
use mathlib.Core.List.{List, [], ◌∷◌, ◌++◌, append_assoc, append-nil}
use Prim.Native.Nat.{ℕ, zero, suc, ◌+◌, ◌*◌, ◌-◌, ◌<◌, ◌≤◌}
use native.Mathlib.Nat.{add-zero, suc-mul}
use native.Mathlib.Omega.{arith}
use native.Mathlib.Numerals.{add-one}
use lib.ListN.{length, drop, set, get_or, length-append, length-drop, drop_of_length-le}
use lib.Seq.{drop-cons}
use Rattle.decimal.specs.Numerals.{numeral}
use borrow.Author.Tests.{le-leb}
use Rattle.decimal.specs.Rows.{row_text, end_byte, row_size}
use Rattle.decimal.specs.Writing.{end_in}
use Rattle.std.proofs.Common.{Some, None}
use Rattle.base.specs.Part.{over}
use Rattle.base.proofs.Part.{over_one, over_length}
use Rattle.decimal.proofs.Lengths.{length_mono}
use Rattle.decimal.proofs.Writing.{end_none, over_rest}

-- the numbers from some on, each with the byte behind it: the row, but nothing where there are none
abbrev pub rest : List ℕ → List ℕ
rest [] = []
rest (n ∷ ns) = row_text (n ∷ ns)

pub rest_cons : (n : ℕ) (ns : List ℕ) → rest (n ∷ ns) ≡ (numeral n ++ (end_byte (length ns) ∷ [])) ++ rest ns
unfolding row_text
rest_cons n [] = sym (append-nil (numeral n ++ (10 ∷ [])))
rest_cons n (m ∷ ns) = sym (append_assoc (numeral n) (32 ∷ []) (row_text (m ∷ ns)))

pub rest_row : (ns : List ℕ) → 0 < length ns → rest ns ≡ row_text ns
rest_row [] h = absurd (omega arith)
rest_row (n ∷ ns) h = refl

pub row_nil : (ns : List ℕ) → length ns ≡ 0 → row_text ns ≡ 10 ∷ []
unfolding row_text
row_nil [] h = refl
row_nil (n ∷ ns) h = absurd (omega arith)

-- one number more
pub rest_turn : (ns : List ℕ) (i : ℕ) → i < length ns → rest (drop i ns) ≡ (numeral (get_or ns i 0) ++ (end_byte (length ns - (i + 1)) ∷ [])) ++ rest (drop (i + 1) ns)
rest_turn ns i h =
    ap rest (drop-cons ns i 0 h)
    ∙ rest_cons (get_or ns i 0) (drop (suc i) ns)
    ∙ rw (add-one, length-drop (suc i) ns)

pub rest_end : (ns : List ℕ) (i : ℕ) → length ns ≤ i → rest (drop i ns) ≡ []
rest_end ns i h = ap rest (drop_of_length-le ns {i = i} h)

-- and the last one
pub rest_last : (ns : List ℕ) (i : ℕ) → i + 1 ≡ length ns → rest (drop i ns) ≡ numeral (get_or ns i 0) ++ (10 ∷ [])
rest_last ns i e =
    let z : length ns - (i + 1) ≡ 0 = omega arith in
    rest_turn ns i (omega arith) ∙ rw (z, rest_end ns (i + 1) (omega arith)) (append-nil (numeral (get_or ns i 0) ++ (10 ∷ [])))

pub rest_length : (ns : List ℕ) (i : ℕ) → i < length ns → length (rest (drop i ns)) ≡ length (numeral (get_or ns i 0)) + 1 + length (rest (drop (i + 1) ns))
rest_length ns i h =
    let t = numeral (get_or ns i 0) in
    let e = end_byte (length ns - (i + 1)) in
    ap length (rest_turn ns i h)
    ∙ length-append (t ++ (e ∷ [])) (rest (drop (i + 1) ns))
    ∙ ap (λ k. k + length (rest (drop (i + 1) ns))) (length-append t (e ∷ []))

-- ---- where a row ends, number by number

pub end_empty : (ns : List ℕ) (at size : ℕ) → length ns ≡ 0 → end_in at 1 size ≡ end_in at (length (row_text ns)) size
end_empty ns at size h = rw (row_nil ns h)

pub end_whole : (ns : List ℕ) (at size : ℕ) → (length ns ≡ 0 → ⊥) → end_in at (length (rest ns)) size ≡ end_in at (length (row_text ns)) size
end_whole ns at size h = rw (rest_row ns (omega arith))

module _ (ns : List ℕ) (i k a size : ℕ) (h : i < length ns) (e : k ≡ length (numeral (get_or ns i 0))) where
  pub end_over : size ≤ a + k → None ≡ end_in a (length (rest (drop i ns))) size
  end_over l = sym (end_none a (length (rest (drop i ns))) size (omega (arith, rest_length ns i h)))

  pub end_turn : end_in (a + (k + 1)) (length (rest (drop (i + 1) ns))) size ≡ end_in a (length (rest (drop i ns))) size
  end_turn = let m : a + (k + 1) + length (rest (drop (i + 1) ns)) ≡ a + length (rest (drop i ns)) = omega (arith, rest_length ns i h) in rw m

pub end_last : (ns : List ℕ) (i a size : ℕ) → length ns ≤ i → a ≤ size → Some a ≡ end_in a (length (rest (drop i ns))) size
end_last ns i a size h l = rw (rest_end ns i h, add-zero a, le-leb a size l)

-- ---- a row put into bytes, number by number

pub put_nil : (ns out : List ℕ) (at : ℕ) → length ns ≡ 0 → at < length out → set out at 10 ≡ over at (row_text ns) out
put_nil ns out at h l = rw (row_nil ns h) (over_one out at 10 l)

pub row_some : (ns : List ℕ) → 0 < length (row_text ns)
unfolding row_text
row_some [] = omega arith
row_some (n ∷ []) = omega (arith, length-append (numeral n) (10 ∷ []))
row_some (n ∷ m ∷ ns) = omega (arith, length-append (numeral n) (32 ∷ row_text (m ∷ ns)))

pub end_space : (k : ℕ) → 0 < k → end_byte k ≡ 32
end_space zero h = absurd (omega arith)
end_space (suc k) h = refl

-- a number and the byte behind it were put at a, and the others are put behind them
module _ (ns out new : List ℕ) (i a b e : ℕ) (h : i < length ns) (r : a + length (rest (drop i ns)) ≤ length out) (p : b ≡ a + (length (numeral (get_or ns i 0)) + 1))
    (q : e ≡ end_byte (length ns - (i + 1))) (o : new ≡ over a (numeral (get_or ns i 0) ++ (e ∷ [])) out) where
  size : length (numeral (get_or ns i 0) ++ (e ∷ [])) ≡ length (numeral (get_or ns i 0)) + 1
  size = length-append (numeral (get_or ns i 0)) (e ∷ [])

  pub put_length : length new ≡ length out
  put_length = ap length o ∙ over_length out (numeral (get_or ns i 0) ++ (e ∷ [])) a (omega (arith, size, rest_length ns i h))

  pub put_place : b + length (rest (drop (i + 1) ns)) ≡ a + length (rest (drop i ns))
  put_place = omega (arith, rest_length ns i h)

  pub put_turn : over b (rest (drop (i + 1) ns)) new ≡ over a (rest (drop i ns)) out
  put_turn =
      over_rest out (numeral (get_or ns i 0) ++ (e ∷ [])) (rest (drop (i + 1) ns)) a b (omega (arith, size), omega (arith, rest_length ns i h)) o
      ∙ ap (λ t. over a t out) (ap (λ d. (numeral (get_or ns i 0) ++ (d ∷ [])) ++ rest (drop (i + 1) ns)) q ∙ sym (rest_turn ns i h))

-- ---- how long a row is

pub row_size_lem : (ns : List ℕ) → 0 < length ns → length (row_text ns) ≡ row_size ns
unfolding row_size
row_size_lem ns h = ap length (sym (rest_row ns h)) ∙ all ns
  where
    all : (ns : List ℕ) → length (rest ns) ≡ row_size ns
    all [] = refl
    all (n ∷ ns) =
        ap length (rest_cons n ns)
        ∙ length-append (numeral n ++ (end_byte (length ns) ∷ [])) (rest ns)
        ∙ omega (arith, length-append (numeral n) (end_byte (length ns) ∷ []), all ns)

-- no number above m: no more than the digits of m and one byte for each
pub size_within : (ns : List ℕ) (m : ℕ) → ((i : ℕ) → i < length ns → get_or ns i 0 ≤ m) → row_size ns ≤ length ns * (length (numeral m) + 1)
unfolding row_size
size_within [] m h = omega arith
size_within (n ∷ ns) m h =
    let w = length (numeral m) + 1 in
    let r = size_within ns m (λ i l. h (suc i) (omega arith)) in
    rw (suc-mul (length ns) w) (omega (arith, length_mono n m (h 0 (omega arith))))

pub row_within : (ns : List ℕ) (m : ℕ) → 0 < length ns → ((i : ℕ) → i < length ns → get_or ns i 0 ≤ m) → length (row_text ns) ≤ length ns * (length (numeral m) + 1)
row_within ns m p h = rw (row_size_lem ns p) (size_within ns m h)

-- what `numbers_end` cites
pub ruleset row_ends = (end_empty, end_whole, end_over, end_turn, end_last)

-- what `put_numbers` cites
pub ruleset row_put = (put_nil, row_some, rest_row, rest_last, rest_length, put_length, put_place, put_turn, end_space)
