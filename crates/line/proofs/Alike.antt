-- R9: texts whose lines have the same contents: as many lines, alike again behind k lines and in their first k lines, and each line of the one
-- told as that of the other. So are texts with the same contents in which carriage returns stand or lack here and there, under `Either`.
-- Assumes nothing.
use mathlib.Core.Path.{◌≡◌, refl, sym, ◌∙◌, ap, subst}
use mathlib.Core.Bool.{Bool, true, false}
use mathlib.Core.List.{List, [], ◌∷◌, ◌++◌, append_assoc}
use Prim.Native.Nat.{ℕ, zero, suc, ◌+◌, ◌≤◌}
use native.Mathlib.Omega.{arith}
use lib.ListN.{length, take, drop, get_or, length-append, length-drop, take-append-drop}
use lib.Dec.{T, leb, leb→le}
use lib.Seq.{get_or-append_seam, take-append-add, drop-append_seam, drop-drop}
use Rattle.rules.specs.declared.LineEnds.TheVariants.{Either}
use Rattle.rules.specs.declared.Rules.{Rules}
use Rattle.base.specs.Ascii.{printable}
use Rattle.base.specs.Every.{every}
use Rattle.base.specs.Part.{part}
use Rattle.base.proofs.Choice.{and_left, and_right}
use Rattle.base.proofs.Every.{every_at}
use Rattle.base.proofs.Taken.{drop_none, take_none, part_zero}
use Rattle.line.specs.Alike.{SameLine, Alike, same_rest, same_line, AlikeFrom, line_end_by, ended_by, EitherWay, no_content, one_content}
use Rattle.line.specs.Contents.{EndsInReturn, HasContent, content_of}
use Rattle.line.specs.Lines.{feeds, reach, lines, behind, Whole, Plain}
use Rattle.std.proofs.Common.{Option, Some, None}
use Rattle.line.proofs.Contents.{content_is, is_content, content_one, content_line, none_is, is_none}
use Rattle.line.proofs.Ends.{either_has}
use Rattle.line.proofs.Feeds.{feeds_le, plain_nil, printable_plain}
use Rattle.line.proofs.Reach.{reach_zero, reach_le, reach_add, behind_add, feeds_behind}
use Rattle.line.proofs.Whole.{whole_line, whole_lines, whole_behind, reach_whole, lines_whole, behind_whole, feeds_whole}

-- ---- one line more in front

module _ {a : List ℕ} (s : List ℕ) (u : Whole 1 a) (k : ℕ) where
  one_more : suc k ≡ 1 + k
  one_more = omega arith

  reach_line_more : reach (a ++ s) (suc k) ≡ length a + reach s k
  reach_line_more = ap (reach (a ++ s)) one_more ∙ reach_add (a ++ s) 1 k ∙ rw (reach_whole s u, drop-append_seam a s)

  lines_line_more : lines (suc k) (a ++ s) ≡ a ++ lines k s
  lines_line_more = ap (λ n. take n (a ++ s)) reach_line_more ∙ take-append-add a s (reach s k)

  behind_line_more : behind (suc k) (a ++ s) ≡ behind k s
  behind_line_more = ap (λ n. behind n (a ++ s)) one_more ∙ behind_add (a ++ s) 1 k ∙ ap (behind k) (behind_whole s u)

module _ (ρ : Rules) where
  -- ---- two lines

  pub same_line_refl : (a : List ℕ) → SameLine ρ a a
  same_line_refl a c = (λ h. h, λ h. h)

  pub same_line_sym : (a b : List ℕ) → SameLine ρ a b → SameLine ρ b a
  same_line_sym a b h c = ((h c).1, (h c).0)

  -- lines with one content have no other
  pub same_line_by : (a b c : List ℕ) → HasContent ρ a c → HasContent ρ b c → SameLine ρ a b
  same_line_by a b c p q d = (
    λ h. subst (HasContent ρ b) (content_one ρ a c d p h) q,
    λ h. subst (HasContent ρ a) (content_one ρ b c d q h) p,
  )

  -- whatever is made of a line's content alone is the same of both
  pub same_line_told : {A : Type 0} (f : List ℕ → Option ℕ → A) (a b : List ℕ) → ((n : ℕ) → part 0 n a ≡ part 0 n b → f a (Some n) ≡ f b (Some n)) → f a None ≡ f b None → SameLine ρ a b
      → f a (content_of ρ a) ≡ f b (content_of ρ b)
  same_line_told f a b long none h = by (content_of ρ a) refl
    where
      by : (c : Option ℕ) → content_of ρ a ≡ c → f a c ≡ f b (content_of ρ b)
      by (Some n) e =
          let p = is_content ρ a n e in
          let q = (h (take n a)).0 p.0 in
          let m : content_of ρ b ≡ Some n = content_is ρ b (take n a) q ∙ ap Some p.1 in
          let s : take n a ≡ take n b = content_one ρ b (take n a) (take n b) q (is_content ρ b n m).0 in
          long n (part_zero n a ∙ s ∙ sym (part_zero n b)) ∙ ap (f b) (sym m)
      by None e = none ∙ ap (f b) (sym (is_none ρ b (λ c q. none_is ρ a c e ((h c).1 q))))

  -- ---- two texts

  refl_by : (k : ℕ) (s : List ℕ) → feeds s ≡ k → Alike ρ s s
  unfolding Plain
  refl_by zero s e = same_rest s e
  refl_by (suc k) s e =
      let u = whole_lines s 1 (omega arith) in
      subst (λ y. Alike ρ y y) (take-append-drop (reach s 1) s)
      (same_line (lines 1 s) (lines 1 s) u u (same_line_refl (lines 1 s)) (refl_by k (behind 1 s) (omega (arith, feeds_behind s 1 (omega arith)))))

  pub alike_refl : (s : List ℕ) → Alike ρ s s
  alike_refl s = refl_by (feeds s) s refl

  pub alike_sym : (s t : List ℕ) → Alike ρ s t → Alike ρ t s
  alike_sym s t (same_rest a p) = same_rest a p
  alike_sym s t (same_line a b {x} {y} u v h r) = same_line b a v u (same_line_sym a b h) (alike_sym x y r)

  pub alike_feeds : (s t : List ℕ) → Alike ρ s t → feeds s ≡ feeds t
  alike_feeds s t (same_rest a p) = refl
  alike_feeds s t (same_line a b {x} {y} u v h r) = feeds_whole x u ∙ ap (λ n. 1 + n) (alike_feeds x y r) ∙ sym (feeds_whole y v)

  -- both are empty, or both are not
  pub alike_empty : (s t : List ℕ) → Alike ρ s t → length s ≡ 0 → length t ≡ 0
  alike_empty s t (same_rest a p) e = e
  alike_empty s t (same_line a b {x} {y} u v h r) e = absurd (omega (arith, e, length-append a x, feeds_le a, u.many))

  pub alike_behind : (s t : List ℕ) → Alike ρ s t → (k : ℕ) → Alike ρ (behind k s) (behind k t)
  alike_behind s t (same_rest a p) k = alike_refl (behind k a)
  alike_behind s t (same_line a b {x} {y} u v h r) zero =
      rw (reach_zero (a ++ x), reach_zero (b ++ y), drop_none (a ++ x), drop_none (b ++ y)) (same_line a b u v h r)
  alike_behind s t (same_line a b {x} {y} u v h r) (suc k) = rw (behind_line_more x u k, behind_line_more y v k) (alike_behind x y r k)

  pub alike_lines : (s t : List ℕ) → Alike ρ s t → (k : ℕ) → Alike ρ (lines k s) (lines k t)
  alike_lines s t (same_rest a p) k = alike_refl (lines k a)
  alike_lines s t (same_line a b {x} {y} u v h r) zero =
      rw (reach_zero (a ++ x), reach_zero (b ++ y), take_none (a ++ x), take_none (b ++ y)) (same_rest [] plain_nil)
  alike_lines s t (same_line a b {x} {y} u v h r) (suc k) = rw (lines_line_more x u k, lines_line_more y v k) (same_line a b u v h (alike_lines x y r k))

  -- behind the same k lines
  pub alike_ahead : (k : ℕ) (x s t : List ℕ) → Whole k x → Alike ρ s t → Alike ρ (x ++ s) (x ++ t)
  alike_ahead zero x s t u r = none x (omega (arith, u.ends, reach_zero x))
    where
      none : (y : List ℕ) → length y ≡ 0 → Alike ρ (y ++ s) (y ++ t)
      none [] e = r
      none (b ∷ bs) e = absurd (omega arith)
  alike_ahead (suc k) x s t u r =
      let a = lines 1 x in
      let b = behind 1 x in
      let v = whole_lines x 1 (omega (arith, u.many)) in
      let w = same_line a a v v (same_line_refl a) (alike_ahead k b s t (whole_behind x k u) r) in
      subst (λ y. Alike ρ (y ++ s) (y ++ t)) (take-append-drop (reach x 1) x) (rw (append_assoc a b s, append_assoc a b t) w)

  pub alike_first : (s t : List ℕ) → Alike ρ s t → SameLine ρ (lines 1 s) (lines 1 t)
  alike_first s t (same_rest a p) = same_line_refl (lines 1 a)
  alike_first s t (same_line a b {x} {y} u v h r) = rw (lines_whole x u, lines_whole y v) h

  -- the line behind j lines, of each
  pub alike_line : (s t : List ℕ) → Alike ρ s t → (j : ℕ) → SameLine ρ (lines 1 (behind j s)) (lines 1 (behind j t))
  alike_line s t r j = alike_first (behind j s) (behind j t) (alike_behind s t r j)

  -- ---- from a place of each

  pub alike_start : (s t : List ℕ) → Alike ρ s t → AlikeFrom ρ s 0 t 0
  alike_start s t r = record { first_within = omega arith; second_within = omega arith; alike = rw (drop_none s, drop_none t) r }

  module _ (s : List ℕ) (p : ℕ) (t : List ℕ) (q : ℕ) (h : AlikeFrom ρ s p t q) where
    pub alike_from_sym : AlikeFrom ρ t q s p
    alike_from_sym = record { first_within = h.second_within; second_within = h.first_within; alike = alike_sym (drop p s) (drop q t) h.alike }

    -- one place is the end of its text exactly if the other is
    pub alike_ends : length s ≡ p → length t ≡ q
    alike_ends e = omega (arith, h.second_within, length-drop q t, alike_empty (drop p s) (drop q t) h.alike (omega (arith, length-drop p s)))

    pub alike_further : (k : ℕ) → AlikeFrom ρ s (p + reach (drop p s) k) t (q + reach (drop q t) k)
    alike_further k =
        record {
          first_within = omega (arith, h.first_within, reach_le (drop p s) k, length-drop p s);
          second_within = omega (arith, h.second_within, reach_le (drop q t) k, length-drop q t);
          alike = rw (← drop-drop (reach (drop p s) k) p s, ← drop-drop (reach (drop q t) k) q t) (alike_behind (drop p s) (drop q t) h.alike k);
        }

  -- ---- carriage returns here and there

  module _ (either : ρ.ends ≡ Either) where
    ended_has : (c : List ℕ) → (EndsInReturn c → ⊥) → (v : Bool) → HasContent ρ (c ++ line_end_by v) c
    ended_has c n true = (either_has ρ either c n).1
    ended_has c n false = (either_has ρ either c n).0

    ended_line : (c : List ℕ) → Plain c → (v : Bool) → Whole 1 (c ++ line_end_by v)
    ended_line c p true = content_line c p
    ended_line c p false = whole_line c p

    pub alike_ended : (cs : List (List ℕ)) → EitherWay cs → (v w : ℕ → Bool) → Alike ρ (ended_by v cs) (ended_by w cs)
    unfolding ended_by
    alike_ended [] no_content v w = same_rest [] plain_nil
    alike_ended (c ∷ cs) (one_content p n r) v w =
        same_line (c ++ line_end_by (v 0)) (c ++ line_end_by (w 0)) (ended_line c p (v 0)) (ended_line c p (w 0))
        (same_line_by (c ++ line_end_by (v 0)) (c ++ line_end_by (w 0)) c (ended_has c n (v 0)) (ended_has c n (w 0)))
        (alike_ended cs r (λ i. v (suc i)) (λ i. w (suc i)))

    -- one line anywhere: whole lines before it, and whatever stands behind it
    pub alike_one : (k : ℕ) (x : List ℕ) → Whole k x → (a : List ℕ) → Plain a → (EndsInReturn a → ⊥) → (y : List ℕ)
        → Alike ρ (x ++ ((a ++ (10 ∷ [])) ++ y)) (x ++ ((a ++ (13 ∷ 10 ∷ [])) ++ y))
    alike_one k x u a p n y =
        let h = either_has ρ either a n in
        alike_ahead k x ((a ++ (10 ∷ [])) ++ y) ((a ++ (13 ∷ 10 ∷ [])) ++ y) u
        (same_line (a ++ (10 ∷ [])) (a ++ (13 ∷ 10 ∷ [])) (whole_line a p) (content_line a p) (same_line_by (a ++ (10 ∷ [])) (a ++ (13 ∷ 10 ∷ [])) a h.0 h.1) (alike_refl y))

-- what prints is a content with either end
prints_unreturned : (c : List ℕ) → T (every printable c) → EndsInReturn c → ⊥
prints_unreturned c t r =
    let i = length r.before in
    let l : length c ≡ i + 1 = ap length r.is ∙ length-append r.before (13 ∷ []) in
    let b : get_or c i 0 ≡ 13 = ap (λ y. get_or y i 0) r.is ∙ get_or-append_seam r.before 13 [] 0 in
    let p : T (printable (get_or c i 0)) = every_at printable 0 c t i (omega arith) in
    let g : 32 ≤ get_or c i 0 = leb→le 32 (get_or c i 0) (and_left (leb 32 (get_or c i 0)) (leb (get_or c i 0) 126) p) in
    omega arith

pub prints_either_way : (cs : List (List ℕ)) → T (every (every printable) cs) → EitherWay cs
prints_either_way [] t = no_content
prints_either_way (c ∷ cs) t =
    let p = and_left (every printable c) (every (every printable) cs) t in
    one_content (printable_plain c p) (prints_unreturned c p) (prints_either_way cs (and_right (every printable c) (every (every printable) cs) t))
