-- Putting a text: whether there is room, what each answer means, and that there is one outcome.
-- Assumes nothing.
use mathlib.Core.Path.{◌≡◌, refl, ◌∙◌, ap}
use mathlib.Core.Bool.{Bool, true, false, cond}
use mathlib.Core.List.{List, [], ◌∷◌, ◌++◌}
use Prim.Native.Nat.{ℕ, ◌+◌, ◌<◌, ◌≤◌}
use native.Mathlib.Omega.{arith}
use lib.Dec.{leb}
use lib.ListN.{length, set, length-append}
use borrow.Author.Tests.{le-leb, lt-leb, leb-true, leb-false}
use Rattle.base.specs.Part.{over}
use Rattle.base.proofs.Part.{over_length, over_one, over_then}
use Rattle.decimal.specs.Writing.{end_in, fits, put_answer, put_bytes, Puts}
use Rattle.std.proofs.Common.{Option, Some, None}

-- ---- room

-- where k bytes end: there is room, there is none; one text behind another
pub end_done : (at k size : ℕ) → at + k ≤ size → end_in at k size ≡ Some (at + k)
end_done at k size h = rw (le-leb (at + k) size h)

pub end_none : (at k size : ℕ) → size < at + k → end_in at k size ≡ None
end_none at k size h = rw (lt-leb (at + k) size h)

pub end_then : (at n size : ℕ) (a b : List ℕ) → n ≡ at + length a → end_in n (length b) size ≡ end_in at (length (a ++ b)) size
end_then at n size a b e = let m : n + length b ≡ at + length (a ++ b) = omega (arith, length-append a b) in rw m

pub end_first : (at size : ℕ) (a b : List ℕ) → size < at + length a → end_in at (length (a ++ b)) size ≡ None
end_first at size a b h = end_none at (length (a ++ b)) size (omega (arith, length-append a b))

-- and what the answers mean
pub end_next : (at k n size : ℕ) → end_in at k size ≡ Some n → (n ≡ at + k) × (n ≤ size)
end_next at k n size e = by (leb (at + k) size) refl e
  where
    by : (c : Bool) → leb (at + k) size ≡ c → cond c (Some (at + k)) None ≡ Some n → (n ≡ at + k) × (n ≤ size)
    by true u f =
        let p : n ≡ at + k = cc in
        (p, omega (arith, leb-true (at + k) size u))
    by false u f = let z : ◌≡◌ {A = ℕ} 0 1 = cc in absurd (omega arith)

pub end_full : (at k size : ℕ) → end_in at k size ≡ None → size < at + k
end_full at k size e = by (leb (at + k) size) refl e
  where
    by : (c : Bool) → leb (at + k) size ≡ c → cond c (Some (at + k)) None ≡ None → size < at + k
    by true u f = let z : ◌≡◌ {A = ℕ} 0 1 = cc in absurd (omega arith)
    by false u f = leb-false (at + k) size u

-- ---- texts behind one another

-- what is put behind x makes one text with it
pub over_rest : {ys : List ℕ} (xs x more : List ℕ) (at k : ℕ) → (k ≡ at + length x) × (k ≤ length xs) → ys ≡ over at x xs → over k more ys ≡ over at (x ++ more) xs
over_rest xs x more at k h p = over_then xs x more at k h p refl

-- one byte behind what was put, and one before what is put
pub over_last : {ys : List ℕ} (xs a : List ℕ) (at k b : ℕ) → k ≡ length a → at + k < length xs → ys ≡ over at a xs → set ys (at + k) b ≡ over at (a ++ (b ∷ [])) xs
over_last {ys = ys} xs a at k b e h p =
    let o : length ys ≡ length xs = ap length p ∙ over_length xs a at (omega arith) in
    over_then xs a (b ∷ []) at (at + k) (omega arith, omega arith) p (over_one ys (at + k) b (omega arith))

pub over_first : (xs zs a : List ℕ) (at b : ℕ) → at < length xs → zs ≡ over (at + 1) a (set xs at b) → zs ≡ over at (b ∷ a) xs
over_first xs zs a at b h p = over_then xs (b ∷ []) a at (at + 1) (refl, omega arith) (over_one xs at b h) p

-- ---- what the answers mean

-- there is room, and it was put; there is none, and nothing was altered
pub puts_done : (at k : ℕ) (text old new : List ℕ) → k ≡ length text → at + k ≤ length old → new ≡ over at text old → Puts at text old (Some (at + k)) new
unfolding put_answer put_bytes
puts_done at k text old new e h p =
    let l = le-leb (at + length text) (length old) (omega arith) in
    record { answer = rw (l, e); bytes = rw l p }

pub puts_none : (at : ℕ) (text old : List ℕ) → length old < at + length text → Puts at text old None old
unfolding put_answer put_bytes
puts_none at text old h =
    let l = lt-leb (at + length text) (length old) h in
    record { answer = rw l; bytes = rw l }

-- where there is room, whatever is answered
pub puts_fit : (at : ℕ) (text old new : List ℕ) (r : Option ℕ) → Puts at text old r new → at + length text ≤ length old → (r ≡ Some (at + length text)) × (new ≡ over at text old)
unfolding put_answer put_bytes
puts_fit at text old new r h l = (h.answer ∙ rw (le-leb (at + length text) (length old) l), h.bytes ∙ rw (le-leb (at + length text) (length old) l))

-- and the other way: what the answers mean
pub next_means : (at n : ℕ) (text old new : List ℕ) → Puts at text old (Some n) new → (n ≡ at + length text) × (n ≤ length old) × (new ≡ over at text old)
unfolding put_answer put_bytes
next_means at n text old new h = go (fits at text old) refl h.answer h.bytes
  where
    go : (c : Bool) → fits at text old ≡ c → Some n ≡ cond c (Some (at + length text)) None → new ≡ cond c (over at text old) old
        → (n ≡ at + length text) × (n ≤ length old) × (new ≡ over at text old)
    go true u e b =
        let p : n ≡ at + length text = cc in
        (p, omega (arith, leb-true (at + length text) (length old) u), b)
    go false u e b = let z : ◌≡◌ {A = ℕ} 0 1 = cc in absurd (omega arith)

pub none_means : (at : ℕ) (text old new : List ℕ) → Puts at text old None new → (length old < at + length text) × (new ≡ old)
unfolding put_answer put_bytes
none_means at text old new h = go (fits at text old) refl h.answer h.bytes
  where
    go : (c : Bool) → fits at text old ≡ c → None ≡ cond c (Some (at + length text)) None → new ≡ cond c (over at text old) old → (length old < at + length text) × (new ≡ old)
    go true u e b = let z : ◌≡◌ {A = ℕ} 0 1 = cc in absurd (omega arith)
    go false u e b = (leb-false (at + length text) (length old) u, b)

-- no byte is added or lost
pub puts_length : (at : ℕ) (text old : List ℕ) (r : Option ℕ) (new : List ℕ) → Puts at text old r new → length new ≡ length old
puts_length at text old (Some n) new h =
    let m = next_means at n text old new h in
    ap length m.2 ∙ over_length old text at (omega arith)
puts_length at text old None new h = ap length (none_means at text old new h).1
