-- F fields: what reads as a number is exactly what R72 and R73 say, with that value.
-- Assumes nothing.
use mathlib.Core.Path.{◌≡◌, refl, sym, ap, ap₂, ◌∙◌, subst}
use mathlib.Core.Bool.{Bool, true, false, cond}
use mathlib.Core.List.{List, [], ◌∷◌, ◌++◌, append_assoc}
use Prim.Native.Nat.{ℕ, suc, ◌+◌, ◌-◌, ◌≤◌}
use native.Mathlib.Nat.{sub-zero}
use native.Mathlib.Omega.{arith}
use borrow.Author.Tests.{le-leb, leb-true, eqb-true}
use lib.Dec.{leb, eqb}
use lib.IntN.{ℤ}
use lib.ListN.{length, take, drop, get_or, replicate, length-append, length-drop, length-map}
use lib.Seq.{get_or_at, take_at, drop_at, take_all, split_at}
use Rattle.base.specs.Part.{part}
use Rattle.base.specs.Sign.{of_sign}
use Rattle.base.specs.Digits.{AllDigits, number_of, digit_text}
use Rattle.base.proofs.Choice.{cond_taken, cond_kept}
use Rattle.base.proofs.Digits.{number_append}
use Rattle.number.specs.declared.Scan.{Scan}
use Rattle.number.specs.declared.Scan.TheVariants.{Blanks, Signed, Digits, Broken}
use Rattle.number.specs.declared.Number.TheVariants.{One, Misformed}
use Rattle.number.specs.Scan.{scan_of}
use Rattle.number.specs.Read.{one_of, point_of, parts_f, read_f}
use Rattle.number.specs.Grammar.{IsF, minus_of}
use Rattle.number.proofs.Scanning.{scan_broken}
use Rattle.number.proofs.Grammar.{head_read, digits_read, Held, held, ends}

-- a text that is a head, a column and three columns
pub f_at : (a t : List ℕ) (p : ℕ) → length t ≡ 3 → read_f (a ++ (p ∷ t)) ≡ cond (eqb p 46) (parts_f a t) Misformed
f_at a t p f =
    let s = a ++ (p ∷ t) in
    let h = length a in
    let l : length s ≡ h + 4 = length-append a (p ∷ t) ∙ omega arith in
    let m : length s - 4 ≡ h = omega arith in
    let q : length s - 3 ≡ h + 1 = omega arith in
    let k : length (a ++ (p ∷ [])) ≡ h + 1 = length-append a (p ∷ []) ∙ omega arith in
    let u : part 0 h s ≡ a = rw (sub-zero h) (take_at a (p ∷ t) h refl) in
    let w : length s - (h + 1) ≡ 3 = omega arith in
    let v : part (h + 1) (length s) s ≡ t = rw (w, ← append_assoc a (p ∷ []) t, drop_at (a ++ (p ∷ [])) t (h + 1) k) (take_all 3 t (omega arith)) in
    rw (le-leb 4 (length s) (omega arith), m, q, get_or_at a p t 0 h refl, u, v)

pub f_read : (s : List ℕ) (z : ℤ) → IsF s z → read_f s ≡ One z
f_read s z i =
    let head = replicate i.blanks 32 ++ (minus_of i.minus ++ digit_text i.units) in
    let tail = digit_text i.thousandths in
    let e : s ≡ head ++ (46 ∷ tail) = i.text ∙ simp append_assoc in
    let l : length tail ≡ 3 = simp length-map i.three in
    ap read_f e
    ∙ f_at head tail 46 l
    ∙ ap (λ st. one_of (scan_of st tail)) (head_read i.blanks i.minus i.units i.each)
    ∙ ap one_of (digits_read i.minus (number_of i.units) i.thousandths i.every)
    ∙ ap (λ n. One (of_sign i.minus n)) (sym (number_append 0 i.units i.thousandths))
    ∙ ap One (sym i.value)

-- what stands before the point
record Head (a : List ℕ) (st : Scan) : Type 0 where
  blanks : ℕ
  minus : Bool
  units : List ℕ
  each : AllDigits units
  text : a ≡ replicate blanks 32 ++ (minus_of minus ++ digit_text units)
  starts : point_of st ≡ Digits minus (number_of units)

-- a field, once its parts are known
joined : (a t : List ℕ) (z : ℤ) (st : Scan) → length t ≡ 3 → Head a st → one_of (scan_of (point_of st) t) ≡ One z → IsF (a ++ (46 ∷ t)) z
joined a t z st l h e =
    let n = ends h.minus (number_of h.units) t z (sym (ap (λ s. one_of (scan_of s t)) h.starts) ∙ e) in
    record {
      blanks = h.blanks;
      minus = h.minus;
      units = h.units;
      thousandths = n.digits;
      each = h.each;
      every = n.each;
      three = simp length-map at (sym (ap length n.text) ∙ l);
      text = ap₂ (λ x y. x ++ (46 ∷ y)) h.text n.text ∙ simp append_assoc;
      value = n.value ∙ ap (of_sign h.minus) (sym (number_append 0 h.units n.digits));
    }

no_number : {A : Type 0} (t : List ℕ) (z : ℤ) → one_of (scan_of Broken t) ≡ One z → A
no_number t z e =
    let f : Misformed ≡ One z = sym (ap one_of (scan_broken t)) ∙ e in
    let y : ◌≡◌ {A = ℕ} 0 1 = cc in
    absurd (omega arith)

parts_is : (a t : List ℕ) (z : ℤ) (st : Scan) → length t ≡ 3 → Held a st → one_of (scan_of (point_of st) t) ≡ One z → IsF (a ++ (46 ∷ t)) z
parts_is a t z Blanks l h e =
    joined a t z Blanks l (record { blanks = h.blanks; minus = false; units = []; each = tt; text = h.text; starts = refl }) e
parts_is a t z Signed l h e =
    joined a t z Signed l (record { blanks = h.blanks; minus = true; units = []; each = tt; text = h.text; starts = refl }) e
parts_is a t z (Digits g n) l h e =
    joined a t z (Digits g n) l (record { blanks = h.blanks; minus = g; units = h.digits; each = h.each; text = h.text; starts = ap (Digits g) (sym h.value) }) e
parts_is a t z Broken l h e = no_number t z e

misformed_one : (z : ℤ) → Misformed ≡ One z → ⊥
misformed_one z e = let y : ◌≡◌ {A = ℕ} 0 1 = cc in omega arith

pub read_f_lem : (s : List ℕ) (z : ℤ) → read_f s ≡ One z → IsF s z
read_f_lem s z e =
    let n = length s - 4 in
    let f : 4 ≤ length s = leb-true 4 (length s) (cond_taken (leb 4 (length s)) _ Misformed (One z) (misformed_one z) e) in
    let p = get_or s n 0 in
    let t = drop (suc n) s in
    let q : s ≡ take n s ++ (p ∷ t) = split_at s n 0 (omega arith) in
    let l : length t ≡ 3 = simp length-drop (omega arith) in
    let r : cond (eqb p 46) (parts_f (take n s) t) Misformed ≡ One z = sym (f_at (take n s) t p l) ∙ sym (ap read_f q) ∙ e in
    let w : p ≡ 46 = eqb-true p 46 (cond_taken (eqb p 46) _ Misformed (One z) (misformed_one z) r) in
    let v = cond_kept (eqb p 46) (parts_f (take n s) t) Misformed (One z) (misformed_one z) r in
    subst (λ (x : List ℕ). IsF x z) (sym (q ∙ ap (λ x. take n s ++ (x ∷ t)) w)) (parts_is (take n s) t z (scan_of Blanks (take n s)) l (held (take n s)) v)
