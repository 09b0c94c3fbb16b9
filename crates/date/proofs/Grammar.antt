-- A digit field reads as v exactly if the text has, at its positions, as many digits as the field is long, whose number is v and lies from
-- the least to the greatest (`ReadsNumber`). A number has one such text.
-- Assumes nothing.
use Rattle.std.specs.Prelude.{Option, Some, None, Ok}
use Rattle.std.specs.Option.{ok_or}
use mathlib.Core.Path.{◌≡◌, refl, sym, ap, ◌∙◌}
use mathlib.Core.Bool.{Bool, true, false, cond, ◌&&◌}
use mathlib.Core.List.{List, [], ◌∷◌, ◌++◌}
use Prim.Native.Nat.{ℕ, ◌+◌, ◌-◌, ◌≤◌}
use native.Mathlib.Omega.{arith}
use borrow.Author.Tests.{leb-true, le-leb}
use lib.Dec.{leb}
use lib.ListN.{length, take, drop, length-map, length-append}
use lib.Seq.{length-take-le}
use Rattle.base.specs.Digits.{AllDigits, number_of, digit_text}
use Rattle.base.specs.Every.{every}
use Rattle.base.proofs.Part.{part_cut, part_middle, part_length}
use Rattle.base.proofs.Digits.{same_digits}
use Rattle.base.proofs.Choice.{and_first, and_second}
use Rattle.date.specs.declared.DigitField.{DigitField}
use Rattle.date.specs.Digits.{is_digit, digits_shown, within, read_digits, has_positions, bytes_at, field_digits, ReadsNumber}
use Rattle.date.proofs.Numbers.{digit_is}

-- ---- bytes that are digits, and the digits that they show

bytes_text : (bs : List ℕ) → every is_digit bs ≡ true → bs ≡ digit_text (digits_shown bs)
bytes_text [] e = refl
bytes_text (b ∷ bs) e =
    let h = leb-true 48 b (and_first (leb 48 b) (leb b 57) (and_first (is_digit b) (every is_digit bs) e)) in
    let q : b ≡ 48 + (b - 48) = omega arith in
    ap (λ n. n ∷ bs) q ∙ ap (λ l. (48 + (b - 48)) ∷ l) (bytes_text bs (and_second (is_digit b) (every is_digit bs) e))

bytes_digits : (bs : List ℕ) → every is_digit bs ≡ true → AllDigits (digits_shown bs)
bytes_digits [] e = tt
bytes_digits (b ∷ bs) e =
    let h = leb-true b 57 (and_second (leb 48 b) (leb b 57) (and_first (is_digit b) (every is_digit bs) e)) in
    (omega arith, bytes_digits bs (and_second (is_digit b) (every is_digit bs) e))

text_passes : (ds : List ℕ) → AllDigits ds → every is_digit (digit_text ds) ≡ true
text_passes [] a = refl
text_passes (d ∷ ds) a = rw (digit_is (48 + d) (omega arith) (omega (arith, a.0))) (text_passes ds a.1)

text_digits : (ds : List ℕ) → digits_shown (digit_text ds) ≡ ds
text_digits [] = refl
text_digits (d ∷ ds) = let e : 48 + d - 48 ≡ d = omega arith in rw e (ap (λ l. d ∷ l) (text_digits ds))

-- ---- both directions

number_only : (t : Bool) (x : Option ℕ) (v : ℕ) → cond t x None ≡ Some v → (t ≡ true) × (x ≡ Some v)
number_only true x v e = (refl, e)
number_only false x v e = let z : ◌≡◌ {A = ℕ} 0 1 = cc in absurd (omega arith)

module _ (f : DigitField) (s : List ℕ) (v : ℕ) where
  pub read_is : field_digits f s ≡ Some v → ReadsNumber f s v
  unfolding field_digits
  read_is e =
      let at = f.first - 1 in
      let bs = bytes_at f s in
      let n = number_of (digits_shown bs) in
      let placed = number_only (has_positions f s) (read_digits f.least f.greatest bs) v e in
      let one = leb-true 1 f.first (and_first (leb 1 f.first) (leb (at + f.length) (length s)) placed.0) in
      let room = leb-true (at + f.length) (length s) (and_second (leb 1 f.first) (leb (at + f.length) (length s)) placed.0) in
      let is = number_only (every is_digit bs && within f.least f.greatest n) (Some n) v placed.1 in
      let digits = and_first (every is_digit bs) (within f.least f.greatest n) is.0 in
      let ranged = and_second (every is_digit bs) (within f.least f.greatest n) is.0 in
      let q : n ≡ v = cc in
      record {
        before = take at s;
        digits = digits_shown bs;
        behind = drop f.length (drop at s);
        text = part_cut s at f.length ∙ ap (λ l. take at s ++ (l ++ drop f.length (drop at s))) (bytes_text bs digits);
        each = bytes_digits bs digits;
        many = length-map bs (λ b. b - 48) ∙ part_length s at f.length room;
        position = rw (length-take-le at s (omega arith)) (omega arith);
        value = sym q;
        enough = rw q at (leb-true f.least n (and_first (leb f.least n) (leb n f.greatest) ranged));
        not_more = rw q at (leb-true n f.greatest (and_second (leb f.least n) (leb n f.greatest) ranged));
      }

  reads_bytes : (r : ReadsNumber f s v) → bytes_at f s ≡ digit_text r.digits
  reads_bytes r =
      let e : f.first - 1 ≡ length r.before = omega (arith, r.position) in
      let k : f.length ≡ length (digit_text r.digits) = sym r.many ∙ sym (length-map r.digits (λ d. 48 + d)) in
      rw (e, k, r.text) (part_middle r.before (digit_text r.digits) r.behind)

  pub is_read_lem : ReadsNumber f s v → field_digits f s ≡ Some v
  unfolding field_digits
  is_read_lem r =
      let b = reads_bytes r in
      let q : number_of (digits_shown (bytes_at f s)) ≡ v = ap (λ l. number_of (digits_shown l)) b ∙ ap number_of (text_digits r.digits) ∙ sym r.value in
      let room : f.first - 1 + f.length ≤ length s = omega (arith, r.position, r.many, simp (length-append, length-map) at (ap length r.text)) in
      let digits : every is_digit (bytes_at f s) ≡ true = ap (every is_digit) b ∙ text_passes r.digits r.each in
      rw (
        le-leb 1 f.first (omega (arith, r.position)),
        le-leb (f.first - 1 + f.length) (length s) room,
        q,
        digits,
        le-leb f.least v r.enough,
        le-leb v f.greatest r.not_more,
      )

-- what was read and not blamed
pub ok_read : (answer : Option ℕ) (p v : ℕ) → Ok v ≡ ok_or answer p → answer ≡ Some v
ok_read (Some w) p v e = cc
ok_read None p v e = cc

-- ---- a number has one text

pub reads_once : (f : DigitField) (s t : List ℕ) (v : ℕ) → ReadsNumber f s v → ReadsNumber f t v → bytes_at f s ≡ bytes_at f t
reads_once f s t v r q =
    reads_bytes f s v r
    ∙ ap digit_text (same_digits r.digits q.digits r.each q.each (r.many ∙ sym q.many) (sym r.value ∙ q.value))
    ∙ sym (reads_bytes f t v q)
