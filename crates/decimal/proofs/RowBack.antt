-- A row is one line, and it reads back: two rows with the same text are rows of the same numbers.
-- Assumes nothing.
use mathlib.Core.Path.{◌≡◌, refl, sym, ◌∙◌, ap}
use mathlib.Core.List.{List, [], ◌∷◌, ◌++◌, append_assoc}
use Prim.Native.Nat.{ℕ, zero, suc, ◌<◌, ◌≤◌}
use native.Mathlib.Omega.{arith}
use lib.ListN.{length, get_or, length-append}
use Rattle.decimal.specs.Numerals.{numeral}
use Rattle.decimal.specs.Rows.{row_text, end_byte, NoFeed, OneLine}
use Rattle.decimal.proofs.Lengths.{length_some}
use Rattle.decimal.proofs.Numerals.{numeral_same, numeral_bytes}
use Rattle.decimal.proofs.Rows.{rest, rest_cons}

-- ---- one line

no_feed_append : (a b : List ℕ) → NoFeed a → NoFeed b → NoFeed (a ++ b)
no_feed_append [] b p q i l e = q i l e
no_feed_append (x ∷ a) b p q zero l e = p 0 (omega arith) e
no_feed_append (x ∷ a) b p q (suc i) l e = no_feed_append a b (λ j m. p (suc j) (omega arith)) q i (omega arith) e

numeral_no_feed : (n : ℕ) → NoFeed (numeral n)
numeral_no_feed n i l e = omega (arith, (numeral_bytes n i l).0)

space_no_feed : NoFeed (32 ∷ [])
space_no_feed zero l e = omega arith
space_no_feed (suc i) l e = omega arith

-- what has no line feed may stand before a line
line_after : (a s : List ℕ) → NoFeed a → OneLine s → OneLine (a ++ s)
line_after a s n h = record {
  body = a ++ h.body;
  text = ap (λ t. a ++ t) h.text ∙ sym (append_assoc a h.body (10 ∷ []));
  no_feed = no_feed_append a h.body n h.no_feed;
}

pub row_line : (ns : List ℕ) → OneLine (row_text ns)
unfolding row_text
row_line [] = record { body = []; text = refl; no_feed = λ i l e. omega arith }
row_line (n ∷ []) = record { body = numeral n; text = refl; no_feed = numeral_no_feed n }
row_line (n ∷ m ∷ ns) =
    line_after (numeral n) (32 ∷ row_text (m ∷ ns)) (numeral_no_feed n) (line_after (32 ∷ []) (row_text (m ∷ ns)) space_no_feed (row_line (m ∷ ns)))

-- ---- read back

-- bytes from 48 on, and then one below
record Split (xs ys : List ℕ) (a b : ℕ) (s t : List ℕ) : Type 0 where
  digits : xs ≡ ys
  end : a ≡ b
  others : s ≡ t

High : List ℕ → Type 0
High xs = (i : ℕ) → i < length xs → 48 ≤ get_or xs i 0

split : {a b : ℕ} {s t : List ℕ} (xs ys : List ℕ) → High xs → High ys → a < 48 → b < 48 → xs ++ (a ∷ s) ≡ ys ++ (b ∷ t) → Split xs ys a b s t
unfolding High
split [] [] p q g h e = record { digits = refl; end = cc; others = cc }
split {a = a} [] (y ∷ ys) p q g h e = let z : a ≡ y = cc in absurd (omega (arith, q 0 (omega arith)))
split {b = b} (x ∷ xs) [] p q g h e = let z : x ≡ b = cc in absurd (omega (arith, p 0 (omega arith)))
split {a = a} {b = b} {s = s} {t = t} (x ∷ xs) (y ∷ ys) p q g h e =
    let z : x ≡ y = cc in
    let f : xs ++ (a ∷ s) ≡ ys ++ (b ∷ t) = cc in
    let r = split xs ys (λ i l. p (suc i) (omega arith)) (λ i l. q (suc i) (omega arith)) g h f in
    record { digits = rw (z, r.digits); end = r.end; others = r.others }

numeral_high : (n : ℕ) → High (numeral n)
unfolding High
numeral_high n i l = (numeral_bytes n i l).0

end_low : (k : ℕ) → end_byte k < 48
end_low zero = omega arith
end_low (suc k) = omega arith

rest_split : (n : ℕ) (ns : List ℕ) → rest (n ∷ ns) ≡ numeral n ++ (end_byte (length ns) ∷ rest ns)
rest_split n ns = rest_cons n ns ∙ append_assoc (numeral n) (end_byte (length ns) ∷ []) (rest ns)

rest_some : (n : ℕ) (ns : List ℕ) → 1 < length (rest (n ∷ ns))
rest_some n ns = omega (arith, ap length (rest_split n ns), length-append (numeral n) (end_byte (length ns) ∷ rest ns), length_some n)

rest_same : (ms ns : List ℕ) → rest ms ≡ rest ns → ms ≡ ns
rest_same [] [] e = refl
rest_same [] (n ∷ ns) e = absurd (omega (arith, ap length e, rest_some n ns))
rest_same (m ∷ ms) [] e = absurd (omega (arith, ap length e, rest_some m ms))
rest_same (m ∷ ms) (n ∷ ns) e =
    let f = sym (rest_split m ms) ∙ e ∙ rest_split n ns in
    let r = split (numeral m) (numeral n) (numeral_high m) (numeral_high n) (end_low (length ms)) (end_low (length ns)) f in
    rw (numeral_same m n r.digits, rest_same ms ns r.others)

pub row_same : (ms ns : List ℕ) → row_text ms ≡ row_text ns → ms ≡ ns
unfolding row_text
row_same [] [] e = refl
row_same [] (n ∷ ns) e = absurd (omega (arith, ap length e, rest_some n ns))
row_same (m ∷ ms) [] e = absurd (omega (arith, ap length e, rest_some m ms))
row_same (m ∷ ms) (n ∷ ns) e = rest_same (m ∷ ms) (n ∷ ns) e
