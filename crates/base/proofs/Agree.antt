-- A part that misses the places where two lists may differ is the same part of both.
-- Assumes nothing.
use mathlib.Core.Path.{◌≡◌, refl, sym, ◌∙◌}
use mathlib.Core.List.{List}
use Prim.Native.Nat.{ℕ, ◌+◌, ◌-◌, ◌<◌, min}
use native.Mathlib.Omega.{arith}
use lib.ListN.{length, drop, length-take, length-drop}
use lib.Seq.{ext_get_or, get_or-take, get_or-drop}
use Rattle.base.specs.Agree.{Agree, Misses}
use Rattle.base.specs.Part.{part}

pub agree_refl : (D : ℕ → Type 0) (s : List ℕ) → Agree D s s
agree_refl D s = record { long = refl; same = λ i n. refl }

pub agree_sym : {D : ℕ → Type 0} (s t : List ℕ) → Agree D s t → Agree D t s
agree_sym s t h = record { long = sym h.long; same = λ i n. sym (h.same i n) }

pub part_agree : {D : ℕ → Type 0} (s t : List ℕ) (a e : ℕ) → Agree D s t → Misses D a e → part a e s ≡ part a e t
part_agree s t a e h m =
    let l = h.long in
    ext_get_or 0 (part a e s) (part a e t) (simp (length-take, length-drop, l))
    (λ i n.
    let q : i < min (e - a) (length s - a) = simp (length-take, length-drop) at n in
    let k : i < e - a = omega arith in
    get_or-take (e - a) (drop a s) i 0 k ∙ get_or-drop a s i 0 ∙ h.same (a + i) (m (a + i) (omega arith) (omega arith)) ∙ sym (get_or-drop a t i 0) ∙ sym (get_or-take (e - a) (drop a t) i 0 k))
