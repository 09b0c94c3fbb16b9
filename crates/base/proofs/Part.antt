-- Parts and overwritten places: a part is what stands in the middle, whatever stands behind the list, and two that meet are one; two writes that
-- meet are one; a part that was lent comes back as `over`; places overwritten from the last to the first, and by a loop that stores one element
-- behind the other.
-- Assumes nothing.
use mathlib.Core.Path.{◌≡◌, refl, sym, ap, ◌∙◌}
use mathlib.Core.List.{List, [], ◌∷◌, ◌++◌, append_assoc, append-nil}
use Prim.Native.Nat.{ℕ, ◌+◌, ◌-◌, ◌<◌, ◌≤◌}
use native.Mathlib.Nat.{add_assoc, zero-add, add-zero}
use native.Mathlib.Numerals.{add-one}
use native.Mathlib.Omega.{arith}
use lib.ListN.{length, take, drop, set, take-append-drop, length-append, length-take, length-drop, drop_of_length-le, get_or}
use lib.Seq.{take_at, drop_at, drop-drop, length-take-le, set_split, take-append-le, drop-append-le, take-take, take-suc, take-add}
use Rattle.base.specs.Part.{part, over}

pub part_length : {A : Type 0} (xs : List A) (at w : ℕ) → at + w ≤ length xs → length (part at (at + w) xs) ≡ w
part_length xs at w h = simp (length-take, length-drop) (omega arith)

pub over_length : {A : Type 0} (xs ys : List A) (at : ℕ) → at + length ys ≤ length xs → length (over at ys xs) ≡ length xs
over_length xs ys at h = simp (length-append, length-drop, length-take-le at xs (omega arith)) (omega arith)

-- nothing written, one place written, everything written
pub over_none : {A : Type 0} (xs : List A) (at : ℕ) → xs ≡ over at [] xs
over_none xs at = rw (add-zero at) (sym (take-append-drop at xs))

pub over_one : {A : Type 0} (xs : List A) (i : ℕ) (v : A) → i < length xs → set xs i v ≡ over i (v ∷ []) xs
over_one xs i v h = rw (set_split xs i v h, add-one i)

pub over_all : {A : Type 0} (xs ys : List A) → length ys ≡ length xs → over 0 ys xs ≡ ys
over_all xs ys e = rw (zero-add (length ys), drop_of_length-le xs {i = length ys} (omega arith)) (append-nil ys)

-- a write that begins where the last one ended
pub over_over : {A : Type 0} (xs a b : List A) (at : ℕ) → at + length a ≤ length xs → over (at + length a) b (over at a xs) ≡ over at (a ++ b) xs
over_over xs a b at h =
    let k : length (take at xs ++ a) ≡ at + length a = simp (length-append, length-take-le at xs (omega arith)) in
    rw (
      ← append_assoc (take at xs) a (drop (at + length a) xs),
      take_at (take at xs ++ a) (drop (at + length a) xs) (at + length a) k,
      ← drop-drop (length b) (at + length a) ((take at xs ++ a) ++ drop (at + length a) xs),
      drop_at (take at xs ++ a) (drop (at + length a) xs) (at + length a) k,
      drop-drop (length b) (at + length a) xs,
      append_assoc (take at xs) a (b ++ drop (at + length a + length b) xs),
      append_assoc a b (drop (at + length (a ++ b)) xs),
      length-append a b,
      ← add_assoc at (length a) (length b),
    )

pub over_then : {A : Type 0} {ys zs : List A} (xs a b : List A) (at k : ℕ) → (k ≡ at + length a) × (k ≤ length xs) → ys ≡ over at a xs → zs ≡ over k b ys → zs ≡ over at (a ++ b) xs
over_then xs a b at k h p q = q ∙ rw (p, h.0) (over_over xs a b at (omega (arith, h.0, h.1)))

-- a part that was lent as `&mut xs[at..at + k]`, as it comes back
pub over_lent : {A : Type 0} (xs ys : List A) (at k : ℕ) → length ys ≡ k → take at xs ++ (ys ++ drop k (drop at xs)) ≡ over at ys xs
over_lent xs ys at k e = rw (drop-drop k at xs, e)

pub part_cut : {A : Type 0} (xs : List A) (at k : ℕ) → xs ≡ take at xs ++ (part at (at + k) xs ++ drop k (drop at xs))
part_cut xs at k =
    let e : at + k - at ≡ k = omega arith in
    sym (take-append-drop at xs) ∙ rw e (ap (λ l. take at xs ++ l) (sym (take-append-drop k (drop at xs))))

pub part_middle : {A : Type 0} (a b c : List A) → part (length a) (length a + length b) (a ++ (b ++ c)) ≡ b
part_middle a b c =
    let e : length a + length b - length a ≡ length b = omega arith in
    rw (drop_at a (b ++ c) (length a) refl, e) (take_at b c (length b) refl)

-- a part and the one behind it
pub part_append : {A : Type 0} (s : List A) (a b c : ℕ) → a ≤ b → b ≤ c → part a b s ++ part b c s ≡ part a c s
part_append s a b c h k =
    let r = drop a s in
    let m : a + (b - a) ≡ b = omega arith in
    let n : b - a + (c - b) ≡ c - a = omega arith in
    let e : drop b s ≡ drop (b - a) r = ap (λ k. drop k s) (sym m) ∙ sym (drop-drop (b - a) a s) in
    rw e (sym (take-add (b - a) (c - b) r) ∙ ap (λ k. take k r) n)

-- a part of a list, whatever stands behind that
pub part_within : {A : Type 0} (s b : List A) (a e : ℕ) → a ≤ e → e ≤ length s → part a e (s ++ b) ≡ part a e s
part_within s b a e h l =
    rw (drop-append-le a s b (omega arith)) (take-append-le (e - a) (drop a s) b (omega (arith, length-drop a s)))

-- ys is xs with t from a place of it on
pub record Put {A : Type 0} (xs : List A) (at : ℕ) (t ys : List A) : Type 0 where
  pub room : at ≤ length xs
  pub is : ys ≡ over at t xs

-- a write that ends where the last one began
pub put_before : {A : Type 0} {xs ys t : List A} {k : ℕ} → Put xs k t ys → (a zs : List A) (at : ℕ) → k ≡ at + length a → zs ≡ over at a ys → Put xs at (a ++ t) zs
put_before {xs = xs} {ys = ys} {t = t} {k = k} p a zs at e q =
    let l : length (take k xs) ≡ k = length-take-le k xs p.room in
    let rest = t ++ drop (k + length t) xs in
    let u : take at ys ≡ take at xs = ap (take at) p.is ∙ take-append-le at (take k xs) rest (omega arith) ∙ take-take at k xs (omega arith) in
    let v : drop (at + length a) ys ≡ rest = ap (λ n. drop n ys) (sym e) ∙ ap (drop k) p.is ∙ drop_at (take k xs) rest k l in
    let w : at + length (a ++ t) ≡ k + length t = ap (λ n. at + n) (length-append a t) ∙ omega arith in
    record { room = omega (arith, p.room); is = q ∙ rw (u, v, append_assoc a t (drop (at + length (a ++ t)) xs), w) }

-- a loop that stores the elements of ys
pub over_turn : {A : Type 0} {zs : List A} (xs ys : List A) (at i : ℕ) (d : A) → i < length ys → at + length ys ≤ length xs → zs ≡ over at (take i ys) xs
    → set zs (at + i) (get_or ys i d) ≡ over at (take (i + 1) ys) xs
over_turn {zs = zs} xs ys at i d h r e =
    let l : length (take i ys) ≡ i = length-take-le i ys (omega arith) in
    let m : length zs ≡ length xs = ap length e ∙ over_length xs (take i ys) at (omega arith) in
    rw (add-one i, take-suc ys i d h)
    (over_then xs (take i ys) (get_or ys i d ∷ []) at (at + i) (omega arith, omega arith) e (over_one zs (at + i) (get_or ys i d) (omega arith)))
