-- The number of line feeds: of texts behind one another, of one byte more, of equal line feeds; none in a text that prints.
-- Assumes nothing.
use mathlib.Core.Path.{◌≡◌, refl, sym, ◌∙◌, ap, subst}
use mathlib.Core.Bool.{Bool, true, false, cond}
use mathlib.Core.List.{List, [], ◌∷◌, ◌++◌, map}
use Prim.Native.Nat.{ℕ, suc, ◌+◌, ◌-◌, ◌≤◌, ◌<◌}
use native.Mathlib.Omega.{arith}
use native.Mathlib.Nat.{zero-add}
use lib.ListN.{length, take, drop, get_or, take-append-drop}
use lib.Seq.{drop-cons, drop-drop}
use Rattle.std.proofs.lemmas.List.Sums.{sum_by-cons}
use borrow.Author.Tests.{eq-eqb, ne_eqb}
use lib.Dec.{T, leb, leb→le}
use Rattle.base.specs.Ascii.{printable}
use Rattle.base.specs.Every.{every}
use Rattle.base.specs.Part.{part}
use Rattle.base.proofs.Choice.{and_left}
use Rattle.base.proofs.Every.{every_at}
use Rattle.line.specs.Lines.{is_feed, feeds, Plain}

pub feeds_nil : feeds [] ≡ 0
unfolding feeds
feeds_nil = refl

pub feeds_cons : (x : ℕ) (a : List ℕ) → feeds (x ∷ a) ≡ cond (is_feed x) (suc (feeds a)) (feeds a)
unfolding feeds
feeds_cons x a = sum_by-cons (λ y. cond (is_feed y) 1 0) x a ∙ one (is_feed x)
  where
    one : (c : Bool) → cond c 1 0 + feeds a ≡ cond c (suc (feeds a)) (feeds a)
    one true = omega arith
    one false = omega arith

pub feeds_append : (a b : List ℕ) → feeds (a ++ b) ≡ feeds a + feeds b
unfolding feeds
feeds_append [] b = sym (zero-add (feeds b))
feeds_append (x ∷ a) b = rw (feeds_cons x (a ++ b), feeds_cons x a) (one (is_feed x) (feeds_append a b))
  where
    one : (c : Bool) → feeds (a ++ b) ≡ feeds a + feeds b → cond c (suc (feeds (a ++ b))) (feeds (a ++ b)) ≡ cond c (suc (feeds a)) (feeds a) + feeds b
    one true e = omega arith
    one false e = e

-- a line feed takes a byte
pub feeds_le : (a : List ℕ) → feeds a ≤ length a
unfolding feeds
feeds_le [] = omega arith
feeds_le (x ∷ a) = rw (feeds_cons x a) (one (is_feed x) (feeds_le a))
  where
    one : (c : Bool) → feeds a ≤ length a → cond c (suc (feeds a)) (feeds a) ≤ suc (length a)
    one true h = omega arith
    one false h = omega arith

-- up to a place and from it on
pub feeds_cut : (n : ℕ) (xs : List ℕ) → feeds xs ≡ feeds (take n xs) + feeds (drop n xs)
feeds_cut n xs = ap feeds (sym (take-append-drop n xs)) ∙ feeds_append (take n xs) (drop n xs)

-- in a part and from its end on
pub feeds_part : (s : List ℕ) (a e : ℕ) → a ≤ e → feeds (drop a s) ≡ feeds (part a e s) + feeds (drop e s)
feeds_part s a e h =
    let m : a + (e - a) ≡ e = omega arith in
    feeds_cut (e - a) (drop a s) ∙ ap (λ y. feeds (part a e s) + feeds y) (drop-drop (e - a) a s ∙ ap (λ n. drop n s) m)

-- from a place on, by the byte there
pub feeds_drop_feed : (s : List ℕ) (i : ℕ) → i < length s → get_or s i 0 ≡ 10 → feeds (drop i s) ≡ suc (feeds (drop (suc i) s))
unfolding feeds
feeds_drop_feed s i h e = rw (drop-cons s i 0 h, feeds_cons (get_or s i 0) (drop (suc i) s), eq-eqb (get_or s i 0) 10 e)

pub feeds_drop_other : (s : List ℕ) (i : ℕ) → i < length s → (get_or s i 0 ≡ 10 → ⊥) → feeds (drop i s) ≡ feeds (drop (suc i) s)
unfolding feeds
feeds_drop_other s i h n = rw (drop-cons s i 0 h, feeds_cons (get_or s i 0) (drop (suc i) s), ne_eqb (get_or s i 0) 10 n)

pub feeds_one : feeds (10 ∷ []) ≡ 1
unfolding feeds
feeds_one = refl

-- only which bytes are line feeds matters
pub feeds_same : (s t : List ℕ) → map is_feed s ≡ map is_feed t → feeds s ≡ feeds t
unfolding feeds
feeds_same [] [] e = refl
feeds_same [] (y ∷ t) e = let z : ◌≡◌ {A = ℕ} 0 1 = cc in absurd (omega arith)
feeds_same (x ∷ s) [] e = let z : ◌≡◌ {A = ℕ} 0 1 = cc in absurd (omega arith)
feeds_same (x ∷ s) (y ∷ t) e =
    let b : is_feed x ≡ is_feed y = cc in
    let r : map is_feed s ≡ map is_feed t = cc in
    rw (feeds_cons x s, feeds_cons y t, b, feeds_same s t r)

-- ---- no line feed

pub plain_nil : Plain []
unfolding Plain
plain_nil = feeds_nil

pub plain_cons : (x : ℕ) (a : List ℕ) → (x ≡ 10 → ⊥) → Plain a → Plain (x ∷ a)
unfolding Plain feeds
plain_cons x a n p = rw (feeds_cons x a, ne_eqb x 10 n) p

pub plain_append : (a b : List ℕ) → Plain a → Plain b → Plain (a ++ b)
unfolding Plain
plain_append a b p q = feeds_append a b ∙ omega arith

pub plain_left : (a b : List ℕ) → Plain (a ++ b) → Plain a
unfolding Plain
plain_left a b p = omega (arith, feeds_append a b)

pub plain_right : (a b : List ℕ) → Plain (a ++ b) → Plain b
unfolding Plain
plain_right a b p = omega (arith, feeds_append a b)

pub plain_take : (m : ℕ) (a : List ℕ) → Plain a → Plain (take m a)
plain_take m a p = plain_left (take m a) (drop m a) (subst Plain (sym (take-append-drop m a)) p)

-- told by its bytes, both ways
pub plain_if : (a : List ℕ) → ((i : ℕ) → i < length a → get_or a i 0 ≡ 10 → ⊥) → Plain a
plain_if [] n = plain_nil
plain_if (x ∷ a) n = plain_cons x a (n 0 (omega arith)) (plain_if a (λ i l. n (suc i) (omega arith)))

pub plain_only_if : (a : List ℕ) (i : ℕ) → Plain a → i < length a → get_or a i 0 ≡ 10 → ⊥
unfolding Plain
plain_only_if a i p h e = omega (arith, feeds_cut i a, feeds_drop_feed a i h e)

-- a line feed does not print
pub printable_plain : (s : List ℕ) → T (every printable s) → Plain s
printable_plain s t =
    plain_if s (λ i h e.
    let p : T (printable (get_or s i 0)) = every_at printable 0 s t i h in
    let l : 32 ≤ get_or s i 0 = leb→le 32 (get_or s i 0) (and_left (leb 32 (get_or s i 0)) (leb (get_or s i 0) 126) p) in
    omega arith)
