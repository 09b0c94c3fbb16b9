-- Bytes of which a front part was written, behind what was written before; the bytes that a page into which a text was put begins with.
-- Assumes nothing.
use Rattle.std.proofs.Common.{[], drop, ◌-◌, Result, Ok, Err, OnErr, ◌≡◌, ℕ, ◌+◌, ◌≤◌, List, ◌++◌, arith, refl, sym, ap, ◌∙◌, subst, length, take, take-add, take_at, drop_at, length-append}
use lib.Seq.{take-append-le}
use Rattle.std.specs.declared.option.Option.{Option}
use Rattle.std.specs.Io.KnownBytes.{Appends}
use Rattle.std.proofs.KnownBytes.{Appends-trans}
use Rattle.base.specs.Part.{over}
use Rattle.base.proofs.Part.{part_middle}
use Rattle.words.specs.Written.{AppendsFront}

-- a front part of the whole: what was written before, and a front part of what comes next
front_joined : (before here behind : List ℕ) (n : ℕ) → n ≤ length here → before ++ take n here ≡ take (length before + n) (before ++ (here ++ behind))
front_joined before here behind n l =
    sym (take-add (length before) n (before ++ (here ++ behind)) ∙ rw (take_at before (here ++ behind) (length before) refl, drop_at before (here ++ behind) (length before) refl, take-append-le n here behind l) refl)

pub front_behind : (o p q : Option (List ℕ)) (before here behind due : List ℕ) → before ++ (here ++ behind) ≡ due → Appends o p before → AppendsFront p q here
    → AppendsFront o q due
front_behind o p q before here behind due e h (n, l, k) = (
  length before + n,
  omega (arith, l, ap length e, length-append before (here ++ behind), length-append here behind),
  subst (Appends o q) (front_joined before here behind n l ∙ ap (take (length before + n)) e) (Appends-trans o p q before (take n here) h k),
)

-- what an error leaves
pub on_error : {T E P : Type 0} (r : Result T E) → P → OnErr r P
on_error (Ok v) p = tt
on_error (Err e) p = p

-- a page into which a text was put from its first byte on begins with that text
pub front_over : {end : ℕ} {page : List ℕ} (text old : List ℕ) → (end ≡ 0 + length text) × (end ≤ length old) × (page ≡ over 0 text old) → take (end - 0) page ≡ text
front_over text old m = rw (m.0, m.2) (part_middle [] text (drop (0 + length text) old))
