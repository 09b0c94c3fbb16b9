-- The content of a line, under each rule: it is n bytes exactly if the line is n bytes and a line's end of that rule; it is one; only what
-- stands in the last two places decides whether there is one.
-- Assumes nothing.
use mathlib.Core.Path.{◌≡◌, refl, sym, ◌∙◌, ap, subst}
use mathlib.Core.Bool.{Bool, true, false, cond, ◌&&◌, true≢false}
use mathlib.Core.List.{List, [], ◌∷◌, ◌++◌, append_assoc}
use Prim.Native.Nat.{ℕ, suc, ◌+◌, ◌-◌, ◌<◌, ◌≤◌}
use native.Mathlib.Omega.{arith}
use lib.Dec.{eqb}
use lib.ListN.{length, take, drop, get_or, length-append, length-drop, drop_of_length-le, take-append-drop}
use lib.Seq.{take-append_seam, drop-append_seam, drop-cons, length-take-le, take-take}
use borrow.Author.Tests.{eq-eqb, ne_eqb, eqb-true}
use Rattle.line.specs.Lines.{feeds, reach, lines, Whole, Plain}
use Rattle.rules.specs.declared.LineEnds.{LineEnds}
use Rattle.rules.specs.declared.LineEnds.TheVariants.{Strict, Either}
use Rattle.rules.specs.declared.Rules.{Rules}
use Rattle.line.specs.Contents.{EndsInReturn, HasContent, returned, alone, is_return_feed, is_feed_alone, feed_alone, content_of}
use Rattle.std.proofs.Common.{Option, Some, None}
use Rattle.line.proofs.Feeds.{feeds_append, feeds_cut, plain_nil, plain_cons, plain_append}
use Rattle.line.proofs.Reach.{length_lines}
use Rattle.line.proofs.Whole.{whole_line, whole_lines}

-- the content of a, carriage return, line feed is a, whatever the rules
pub content_append : (ρ : Rules) (a : List ℕ) → content_of ρ (a ++ (13 ∷ 10 ∷ [])) ≡ Some (length a)
unfolding content_of
content_append ρ a =
    let n : length (a ++ (13 ∷ 10 ∷ [])) - 2 ≡ length a = omega (arith, length-append a (13 ∷ 10 ∷ [])) in
    rw (n, drop-append_seam a (13 ∷ 10 ∷ []))

-- only these two bytes in this order pass, and only this one
return_feed : (y : List ℕ) → is_return_feed y ≡ true → y ≡ 13 ∷ 10 ∷ []
return_feed [] e = let z : ◌≡◌ {A = ℕ} 0 1 = cc in absurd (omega arith)
return_feed (r ∷ []) e = let z : ◌≡◌ {A = ℕ} 0 1 = cc in absurd (omega arith)
return_feed (r ∷ f ∷ []) e = go (eqb r 13) (eqb f 10) refl refl e
  where
    go : (b c : Bool) → eqb r 13 ≡ b → eqb f 10 ≡ c → b && c ≡ true → r ∷ f ∷ [] ≡ 13 ∷ 10 ∷ []
    go true true p q e = rw (eqb-true r 13 p, eqb-true f 10 q)
    go true false p q e = let z : ◌≡◌ {A = ℕ} 0 1 = cc in absurd (omega arith)
    go false c p q e = let z : ◌≡◌ {A = ℕ} 0 1 = cc in absurd (omega arith)
return_feed (r ∷ f ∷ x ∷ xs) e = let z : ◌≡◌ {A = ℕ} 0 1 = cc in absurd (omega arith)

feed_alone_lem : (y : List ℕ) → is_feed_alone y ≡ true → y ≡ 10 ∷ []
feed_alone_lem [] e = let z : ◌≡◌ {A = ℕ} 0 1 = cc in absurd (omega arith)
feed_alone_lem (f ∷ []) e = rw (eqb-true f 10 e)
feed_alone_lem (f ∷ x ∷ xs) e = let z : ◌≡◌ {A = ℕ} 0 1 = cc in absurd (omega arith)

-- so a line that ends in them is what stands before, and they
ends_in : (x y : List ℕ) (n : ℕ) → drop n x ≡ y → x ≡ take n x ++ y
ends_in x y n d = sym (take-append-drop n x) ∙ ap (λ z. take n x ++ z) d

-- the carriage return before a line feed alone would be its own
no_return : (x a : List ℕ) → is_return_feed (drop (length x - 2) x) ≡ false → x ≡ a ++ (10 ∷ []) → EndsInReturn a → ⊥
no_return x a u e r =
    let b = r.before in
    let f = r.is in
    let g : x ≡ b ++ (13 ∷ 10 ∷ []) = e ∙ ap (λ y. y ++ (10 ∷ [])) f ∙ append_assoc b (13 ∷ []) (10 ∷ []) in
    let n : length x - 2 ≡ length b = omega (arith, ap length g, length-append b (13 ∷ 10 ∷ [])) in
    let t : is_return_feed (drop (length x - 2) x) ≡ true = rw (n, g, drop-append_seam b (13 ∷ 10 ∷ [])) in
    true≢false (sym t ∙ u)

-- what stands before the same end is the same
pub same_front : (a b y : List ℕ) → a ++ y ≡ b ++ y → a ≡ b
same_front a b y e =
    let l : length a ≡ length b = omega (arith, ap length e, length-append a y, length-append b y) in
    sym (take-append_seam a y) ∙ ap (take (length a)) e ∙ rw l (take-append_seam b y)

is_return : (x a : List ℕ) → is_return_feed (drop (length x - 2) x) ≡ true → x ≡ a ++ (10 ∷ []) → EndsInReturn a
is_return x a u e =
    let b = take (length x - 2) x in
    let f = ends_in x (13 ∷ 10 ∷ []) (length x - 2) (return_feed (drop (length x - 2) x) u) in
    record { before = b; is = same_front a (b ++ (13 ∷ [])) (10 ∷ []) (sym e ∙ f ∙ sym (append_assoc b (13 ∷ []) (10 ∷ []))) }

module _ (ρ : Rules) where
  -- the content of a line is the one that it has
  pub content_is : (x a : List ℕ) → HasContent ρ x a → content_of ρ x ≡ Some (length a)
  unfolding content_of
  content_is x a (returned e) = rw e (content_append ρ a)
  content_is x a (alone k e n) = go (is_return_feed (drop (length x - 2) x)) refl
    where
      m : length x - 1 ≡ length a
      m = omega (arith, ap length e, length-append a (10 ∷ []))

      go : (t : Bool) → is_return_feed (drop (length x - 2) x) ≡ t
          → cond t (Some (length x - 2)) (cond (is_feed_alone (drop (length x - 1) x)) (feed_alone ρ.ends (length x - 1)) None) ≡ Some (length a)
      go true u = absurd (n (is_return x a u e))
      go false u = rw (m, k, e, drop-append_seam a (10 ∷ []))

  -- and a line with a content is it and the line's end
  pub is_content : (x : List ℕ) (n : ℕ) → content_of ρ x ≡ Some n → HasContent ρ x (take n x) × (length (take n x) ≡ n)
  unfolding content_of
  is_content x n e = go (is_return_feed (drop (length x - 2) x)) (is_feed_alone (drop (length x - 1) x)) ρ.ends refl refl refl e
    where
      go : (t f : Bool) (l : LineEnds) → is_return_feed (drop (length x - 2) x) ≡ t → is_feed_alone (drop (length x - 1) x) ≡ f → ρ.ends ≡ l
          → cond t (Some (length x - 2)) (cond f (feed_alone l (length x - 1)) None) ≡ Some n → HasContent ρ x (take n x) × (length (take n x) ≡ n)
      go true f l u v w e =
          let m : length x - 2 ≡ n = cc in
          let d : drop n x ≡ 13 ∷ 10 ∷ [] = rw m at (return_feed (drop (length x - 2) x) u) in
          (returned (ends_in x (13 ∷ 10 ∷ []) n d), length-take-le n x (omega arith))
      go false true Either u v w e =
          let m : length x - 1 ≡ n = cc in
          let d : drop n x ≡ 10 ∷ [] = rw m at (feed_alone_lem (drop (length x - 1) x) v) in
          let y = ends_in x (10 ∷ []) n d in
          (alone w y (no_return x (take n x) u y), length-take-le n x (omega arith))
      go false true Strict u v w e = let z : ◌≡◌ {A = ℕ} 0 1 = cc in absurd (omega arith)
      go false false l u v w e = let z : ◌≡◌ {A = ℕ} 0 1 = cc in absurd (omega arith)

  -- the line's end is one byte or two
  content_end : (x a : List ℕ) → HasContent ρ x a → (length a < length x) × (length x ≤ length a + 2)
  content_end x a (returned e) = let l = ap length e ∙ length-append a (13 ∷ 10 ∷ []) in (omega (arith, l), omega (arith, l))
  content_end x a (alone k e n) = let l = ap length e ∙ length-append a (10 ∷ []) in (omega (arith, l), omega (arith, l))

  pub content_two : (x : List ℕ) (n : ℕ) → content_of ρ x ≡ Some n → (n < length x) × (length x ≤ n + 2)
  content_two x n e =
      let h = is_content x n e in
      rw h.1 at (content_end x (take n x) h.0)

  -- two under the strict rule
  pub content_strict : ρ.ends ≡ Strict → (x : List ℕ) (n : ℕ) → content_of ρ x ≡ Some n → length x ≡ n + 2
  content_strict s x n e = by (is_content x n e).0
    where
      by : HasContent ρ x (take n x) → length x ≡ n + 2
      by (returned f) = ap length f ∙ length-append (take n x) (13 ∷ 10 ∷ []) ∙ omega (arith, (is_content x n e).1)
      by (alone k f m) = let z : ◌≡◌ {A = ℕ} 0 1 = cc in absurd (omega arith)

  -- and under the other each line has a content
  pub content_either : ρ.ends ≡ Either → (a : List ℕ) → content_of ρ (a ++ (10 ∷ [])) ≡ None → ⊥
  unfolding content_of
  content_either k a e = go (is_return_feed (drop (length (a ++ (10 ∷ [])) - 2) (a ++ (10 ∷ [])))) e
    where
      m : length (a ++ (10 ∷ [])) - 1 ≡ length a
      m = omega (arith, length-append a (10 ∷ []))

      f : cond (is_feed_alone (drop (length (a ++ (10 ∷ [])) - 1) (a ++ (10 ∷ [])))) (feed_alone ρ.ends (length (a ++ (10 ∷ [])) - 1)) None ≡ Some (length a)
      f = rw (m, k, drop-append_seam a (10 ∷ []))

      go : (t : Bool)
          → cond t (Some (length (a ++ (10 ∷ [])) - 2))
          (cond (is_feed_alone (drop (length (a ++ (10 ∷ [])) - 1) (a ++ (10 ∷ [])))) (feed_alone ρ.ends (length (a ++ (10 ∷ [])) - 1)) None) ≡ None → ⊥
      go true e = let z : ◌≡◌ {A = ℕ} 0 1 = cc in absurd (omega arith)
      go false e = let g = sym f ∙ e in let z : ◌≡◌ {A = ℕ} 0 1 = cc in absurd (omega arith)

  -- a line has one content
  front : (x a : List ℕ) → HasContent ρ x a → take (length a) x ≡ a
  front x a (returned e) = rw e (take-append_seam a (13 ∷ 10 ∷ []))
  front x a (alone k e n) = rw e (take-append_seam a (10 ∷ []))

  pub content_one : (x a b : List ℕ) → HasContent ρ x a → HasContent ρ x b → a ≡ b
  content_one x a b p q =
      let l : Some (length a) ≡ Some (length b) = sym (content_is x a p) ∙ content_is x b q in
      let m : length a ≡ length b = cc in
      sym (front x a p) ∙ ap (λ n. take n x) m ∙ front x b q

  pub content_taken : (x a : List ℕ) (n : ℕ) → HasContent ρ x a → content_of ρ x ≡ Some n → take n x ≡ a
  content_taken x a n h e = content_one x (take n x) a (is_content x n e).0 h

-- a line that is made of a content without line feeds is one line; the content of one line has no line feed
pub content_line : (a : List ℕ) → Plain a → Whole 1 (a ++ (13 ∷ 10 ∷ []))
content_line a p =
    subst (Whole 1) (append_assoc a (13 ∷ []) (10 ∷ []))
    (whole_line (a ++ (13 ∷ [])) (plain_append a (13 ∷ []) p (plain_cons 13 [] (λ e. omega arith) plain_nil)))

module _ (ρ : Rules) where
  content_feeds : (x a : List ℕ) → HasContent ρ x a → feeds x ≡ feeds a + 1
  content_feeds x a (returned e) = ap feeds e ∙ omega (arith, feeds_append a (13 ∷ 10 ∷ []), (content_line [] plain_nil).many)
  content_feeds x a (alone k e n) = ap feeds e ∙ omega (arith, feeds_append a (10 ∷ []), (whole_line [] plain_nil).many)

  pub content_plain : (x a : List ℕ) → Whole 1 x → HasContent ρ x a → Plain a
  unfolding Plain
  content_plain x a u h = omega (arith, u.many, content_feeds x a h)

  -- the content of a text's first line has no line feed
  pub first_plain : (xs : List ℕ) (n : ℕ) → content_of ρ (lines 1 xs) ≡ Some n → Plain (take n xs)
  first_plain xs n e =
      let h = is_content ρ (lines 1 xs) n e in
      let a = take n (lines 1 xs) in
      let f : 1 ≤ feeds xs = omega (arith, feeds_cut (reach xs 1) xs, content_feeds (lines 1 xs) a h.0) in
      subst Plain (take-take n (reach xs 1) xs (omega (arith, (content_two ρ (lines 1 xs) n e).0, length_lines xs 1))) (content_plain (lines 1 xs) a (whole_lines xs 1 f) h.0)

  -- no content
  pub none_is : (x a : List ℕ) → content_of ρ x ≡ None → HasContent ρ x a → ⊥
  none_is x a e h =
      let p = content_is ρ x a h in
      let z : ◌≡◌ {A = ℕ} 0 1 = cc in
      omega arith

  pub is_none : (x : List ℕ) → ((a : List ℕ) → HasContent ρ x a → ⊥) → content_of ρ x ≡ None
  is_none x n = go (content_of ρ x) refl
    where
      go : (c : Option ℕ) → content_of ρ x ≡ c → content_of ρ x ≡ None
      go (Some m) e = absurd (n (take m x) (is_content ρ x m e).0)
      go None e = e

-- ---- by places, as the code looks

pub last_one : (x : List ℕ) → 1 ≤ length x → drop (length x - 1) x ≡ get_or x (length x - 1) 0 ∷ []
last_one x h = drop-cons x (length x - 1) 0 (omega arith) ∙ ap (λ y. get_or x (length x - 1) 0 ∷ y) (drop_of_length-le x {i = suc (length x - 1)} (omega arith))

last_two : (x : List ℕ) → 2 ≤ length x → drop (length x - 2) x ≡ get_or x (length x - 2) 0 ∷ get_or x (length x - 1) 0 ∷ []
last_two x h =
    let n = length x - 2 in
    let e : suc n ≡ length x - 1 = omega arith in
    drop-cons x n 0 (omega arith)
    ∙ ap (λ y. get_or x n 0 ∷ y) (ap (λ m. drop m x) e ∙ last_one x (omega arith))

not_returned : (x : List ℕ) → (2 ≤ length x → get_or x (length x - 2) 0 ≡ 13 → get_or x (length x - 1) 0 ≡ 10 → ⊥) → is_return_feed (drop (length x - 2) x) ≡ false
not_returned x n = go (is_return_feed (drop (length x - 2) x)) refl
  where
    go : (t : Bool) → is_return_feed (drop (length x - 2) x) ≡ t → t ≡ false
    go false u = refl
    go true u =
        let d = return_feed (drop (length x - 2) x) u in
        let h : 2 ≤ length x = omega (arith, ap length d, length-drop (length x - 2) x) in
        let e = sym (last_two x h) ∙ d in
        let p : get_or x (length x - 2) 0 ≡ 13 = cc in
        let q : get_or x (length x - 1) 0 ≡ 10 = cc in
        absurd (n h p q)

module _ (ρ : Rules) (x : List ℕ) where
  pub content_empty : length x ≡ 0 → content_of ρ x ≡ None
  content_empty h = is_none ρ x (λ a e. omega (arith, (content_end ρ x a e).0))

  module _ (h : 1 ≤ length x) where
    pub content_no_feed : (get_or x (length x - 1) 0 ≡ 10 → ⊥) → content_of ρ x ≡ None
    unfolding content_of
    content_no_feed f = rw (not_returned x (λ l p q. f q), last_one x h, ne_eqb (get_or x (length x - 1) 0) 10 f)

    pub content_found : 2 ≤ length x → get_or x (length x - 2) 0 ≡ 13 → get_or x (length x - 1) 0 ≡ 10 → content_of ρ x ≡ Some (length x - 2)
    unfolding content_of
    content_found l p f = rw (last_two x l, eq-eqb (get_or x (length x - 2) 0) 13 p, eq-eqb (get_or x (length x - 1) 0) 10 f)

    pub content_alone : {e : LineEnds} → get_or x (length x - 1) 0 ≡ 10 → (2 ≤ length x → get_or x (length x - 2) 0 ≡ 13 → ⊥) → ρ.ends ≡ e → content_of ρ x ≡ feed_alone e (length x - 1)
    unfolding content_of
    content_alone f n e = rw (not_returned x (λ l p q. n l p), last_one x h, eq-eqb (get_or x (length x - 1) 0) 10 f, e)

-- what `content_length` cites
pub ruleset last_bytes = (content_empty, content_no_feed, content_found, content_alone)
