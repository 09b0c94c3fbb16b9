-- Only the places of line feeds matter: texts with their lines at the same places have the same lines from any place on.
-- Assumes nothing.
use mathlib.Core.Path.{◌≡◌, refl, sym, ◌∙◌, ap}
use mathlib.Core.List.{List, map}
use Prim.Native.Nat.{ℕ, ◌+◌, ◌-◌, ◌<◌, ◌≤◌, min}
use native.Mathlib.Omega.{arith}
use lib.ListN.{length, drop, get_or, length-take, length-drop}
use lib.Seq.{get_or-take, get_or-drop}
use Rattle.base.specs.Part.{part}
use Rattle.base.proofs.Mapped.{map_drop, map_ext}
use Rattle.line.specs.Lines.{is_feed, feeds, reach}
use Rattle.line.specs.Texts.{SameLines}
use Rattle.line.proofs.Feeds.{feeds_same}
use Rattle.line.proofs.Reach.{reach_same}

pub same_refl : (s : List ℕ) → SameLines s s
same_refl s = record { long = refl; feeds = λ i l. refl }

pub same_sym : (s t : List ℕ) → SameLines s t → SameLines t s
same_sym s t h = record { long = sym h.long; feeds = λ i l. sym (h.feeds i (omega (arith, h.long))) }

pub same_trans : (s t u : List ℕ) → SameLines s t → SameLines t u → SameLines s u
same_trans s t u g h = record { long = g.long ∙ h.long; feeds = λ i l. g.feeds i l ∙ h.feeds i (omega (arith, g.long)) }

-- the same line feeds from any place on
pub same_from : (s t : List ℕ) (at : ℕ) → SameLines s t → map is_feed (drop at s) ≡ map is_feed (drop at t)
same_from s t at h = map_drop is_feed at s ∙ ap (drop at) (map_ext is_feed 0 s t h.long h.feeds) ∙ sym (map_drop is_feed at t)

pub feeds_from : (s t : List ℕ) (at : ℕ) → SameLines s t → feeds (drop at s) ≡ feeds (drop at t)
feeds_from s t at h = feeds_same (drop at s) (drop at t) (same_from s t at h)

pub reach_from : (s t : List ℕ) (at k : ℕ) → SameLines s t → reach (drop at s) k ≡ reach (drop at t) k
reach_from s t at k h = reach_same (drop at s) (drop at t) k (same_from s t at h)

-- the same line feeds in a part
pub same_part : (s t : List ℕ) (a e : ℕ) → e ≤ length s → e ≤ length t → ((i : ℕ) → a ≤ i → i < e → is_feed (get_or s i 0) ≡ is_feed (get_or t i 0)) → map is_feed (part a e s) ≡ map is_feed (part a e t)
same_part s t a e l m h =
    map_ext is_feed 0 (part a e s) (part a e t)
    (simp (length-take, length-drop) (omega arith))
    (λ i n.
    let q : i < min (e - a) (length s - a) = simp (length-take, length-drop) at n in
    let b : i < e - a = omega arith in
    ap is_feed (get_or-take (e - a) (drop a s) i 0 b ∙ get_or-drop a s i 0) ∙ h (a + i) (omega arith) (omega arith) ∙ sym (ap is_feed (get_or-take (e - a) (drop a t) i 0 b ∙ get_or-drop a t i 0)))
