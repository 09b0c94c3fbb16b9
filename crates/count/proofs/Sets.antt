-- A set's counts, met one after the other: the one nonzero count seen so far is enough to tell whether the nonzero ones are equal.
-- Assumes nothing.
use mathlib.Core.Path.{◌≡◌, refl, sym, ◌∙◌, ap, subst}
use mathlib.Core.Bool.{Bool, true, false, cond, not, ◌&&◌, ◌||◌}
use mathlib.Core.List.{List, [], ◌∷◌, map}
use mathlib.Core.Logic.{◌⊎◌, inl, inr, ⊎_elim}
use Prim.Native.Nat.{ℕ, suc, ◌+◌, ◌-◌, ◌<◌, ◌≤◌}
use borrow.Author.Tests.{eq-eqb, le-leb}
use lib.Dec.{T, eqb, leb, leb→le, eqb→eq, eqb_refl}
use lib.ListN.{get_or}
use Rattle.base.specs.Every.{every, has, up_from}
use Rattle.base.proofs.UpFrom.{up_more, up_done}
use Rattle.base.proofs.Every.{every_has, has_every, every_get_d}
use Rattle.base.proofs.Choice.{or_elim, or_left, or_right, same_test, true_T}
use Rattle.count.specs.declared.Set.{Set}
use Rattle.count.specs.Tally.{count_of}
use Rattle.count.specs.Rules.{zero?, differ, settle, equal_where_nonzero, sets, members, keeps}

-- xs, after the nonzero count v was seen, or none where v is 0
unfoldable pub agree : ℕ → List ℕ → Bool
agree v [] = true
agree v (x ∷ xs) = cond (zero? x) (agree v xs) (cond (zero? v) (agree x xs) (eqb x v && agree v xs))

-- what has been seen behind them
unfoldable pub seen_in : ℕ → List ℕ → ℕ
seen_in v [] = v
seen_in v (x ∷ xs) = cond (zero? x) (seen_in v xs) (cond (zero? v) (seen_in x xs) (seen_in v xs))

-- ---- what was seen: nothing exactly if all counts are zero

seen_step : (v x : ℕ) (xs : List ℕ) (a : Bool) → zero? v ≡ false → seen_in v xs ≡ v → cond a (seen_in v xs) (cond (zero? v) (seen_in x xs) (seen_in v xs)) ≡ v
seen_step v x xs true z r = r
seen_step v x xs false z r = rw z r

seen_stays : (v : ℕ) (xs : List ℕ) → zero? v ≡ false → seen_in v xs ≡ v
unfolding seen_in
seen_stays v [] z = refl
seen_stays v (x ∷ xs) z = seen_step v x xs (zero? x) z (seen_stays v xs z)

nothing_step : (x : ℕ) (xs : List ℕ) (a : Bool) → zero? x ≡ a → every zero? xs ≡ zero? (seen_in 0 xs) → a && every zero? xs ≡ zero? (cond a (seen_in 0 xs) (seen_in x xs))
nothing_step x xs true z r = r
nothing_step x xs false z r = sym (ap zero? (seen_stays x xs z) ∙ z)

pub nothing_seen : (xs : List ℕ) → every zero? xs ≡ zero? (seen_in 0 xs)
unfolding seen_in
nothing_seen [] = refl
nothing_seen (x ∷ xs) = nothing_step x xs (zero? x) refl (nothing_seen xs)

-- ---- the nonzero counts are equal exactly if each nonzero one agrees with the one seen

zero_or_is : ℕ → ℕ → Bool
zero_or_is v x = zero? x || eqb x v

agree_step : (v x : ℕ) (xs : List ℕ) (a : Bool) → zero? v ≡ false → agree v xs ≡ every (zero_or_is v) xs
    → cond a (agree v xs) (cond (zero? v) (agree x xs) (eqb x v && agree v xs)) ≡ (a || eqb x v) && every (zero_or_is v) xs
agree_step v x xs true z r = r
agree_step v x xs false z r = rw (z, r)

agree_with : (v : ℕ) (xs : List ℕ) → zero? v ≡ false → agree v xs ≡ every (zero_or_is v) xs
unfolding agree zero_or_is
agree_with v [] z = refl
agree_with v (x ∷ xs) z = agree_step v x xs (zero? x) z (agree_with v xs z)

abbrev pair : ℕ → ℕ → Bool
pair x y = zero? x || (zero? y || eqb x y)

-- any two of the list
Any2 : List ℕ → Type 0
Any2 xs = (x y : ℕ) → T (has xs x) → T (has xs y) → T (pair x y)

equal_any : (xs : List ℕ) → T (equal_where_nonzero xs) → Any2 xs
unfolding Any2
equal_any xs t x y h k =
    every_has (pair x) xs (every_has (λ a. every (pair a) xs) xs t x h) y k

any_equal : (xs : List ℕ) → Any2 xs → T (equal_where_nonzero xs)
unfolding Any2
any_equal xs f = has_every (λ a. every (pair a) xs) xs (λ x h. has_every (pair x) xs (λ y k. f x y h k))

-- what is zero, or is v, is zero or v
or_zero : (x v : ℕ) → T (zero_or_is v x) → (T (zero? x)) ⊎ (x ≡ v)
unfolding zero_or_is
or_zero x v t = ⊎_elim inl (λ e. inr (eqb→eq x v e)) (or_elim (zero? x) (eqb x v) t)

any_first : (x : ℕ) (xs : List ℕ) (a : Bool) → zero? x ≡ a → (Any2 xs → T (agree 0 xs)) → Any2 (x ∷ xs) → T (cond a (agree 0 xs) (agree x xs))
unfolding Any2 zero_or_is
any_first x xs true z r f = r (λ a b h k. f a b (or_right (eqb x a) (has xs a) h) (or_right (eqb x b) (has xs b) k))
any_first x xs false z r f = rw (agree_with x xs z) (has_every (zero_or_is x) xs each)
  where
    swap : (y : ℕ) → T (pair x y) → T (zero_or_is x y)
    swap y t =
        ⊎_elim
        (λ u. absurd (rw z at u))
        (λ u. ⊎_elim (or_left (zero? y) (eqb y x)) (λ e. or_right (zero? y) (eqb y x) (true_T (eqb y x) (eq-eqb y x (sym (eqb→eq x y e))))) (or_elim (zero? y) (eqb x y) u))
        (or_elim (zero? x) (zero? y || eqb x y) t)

    each : (y : ℕ) → T (has xs y) → T (zero_or_is x y)
    each y k = swap y (f x y (or_left (eqb x x) (has xs x) (eqb_refl x)) (or_right (eqb x y) (has xs y) k))

any_agree : (xs : List ℕ) → Any2 xs → T (agree 0 xs)
unfolding agree
any_agree [] f = tt
any_agree (x ∷ xs) f = any_first x xs (zero? x) refl (any_agree xs) f

-- each of the list is zero or v, so any two are as they should be
all_pair : (v : ℕ) (xs : List ℕ) → ((x : ℕ) → T (has xs x) → (T (zero? x)) ⊎ (x ≡ v)) → Any2 xs
unfolding Any2
all_pair v xs f x y h k =
    ⊎_elim
    (or_left (zero? x) (zero? y || eqb x y))
    (λ p. or_right (zero? x) (zero? y || eqb x y)
    (⊎_elim (or_left (zero? y) (eqb x y)) (λ q. or_right (zero? y) (eqb x y) (true_T (eqb x y) (eq-eqb x y (p ∙ sym q)))) (f y k)))
    (f x h)

agree_first : (x : ℕ) (xs : List ℕ) (a : Bool) → zero? x ≡ a → (T (agree 0 xs) → Any2 xs) → T (cond a (agree 0 xs) (agree x xs)) → Any2 (x ∷ xs)
unfolding Any2
agree_first x xs true z r t = λ a b h k. either a b (r t) (or_elim (eqb x a) (has xs a) h) (or_elim (eqb x b) (has xs b) k)
  where
    zero_one : (a : ℕ) → T (eqb x a) → T (zero? a)
    zero_one a e = subst (λ (n : ℕ). T (zero? n)) (eqb→eq x a e) (true_T (zero? x) z)

    either : (a b : ℕ) → Any2 xs → (T (eqb x a)) ⊎ (T (has xs a)) → (T (eqb x b)) ⊎ (T (has xs b)) → T (pair a b)
    either a b f (inl e) k = or_left (zero? a) (zero? b || eqb a b) (zero_one a e)
    either a b f (inr h) (inl e) = or_right (zero? a) (zero? b || eqb a b) (or_left (zero? b) (eqb a b) (zero_one b e))
    either a b f (inr h) (inr k) = f a b h k
agree_first x xs false z r t = all_pair x (x ∷ xs) each
  where
    each : (a : ℕ) → T (has (x ∷ xs) a) → (T (zero? a)) ⊎ (a ≡ x)
    each a h =
        ⊎_elim
        (λ e. inr (sym (eqb→eq x a e)))
        (λ k. or_zero a x (every_has (zero_or_is x) xs (rw (agree_with x xs z) at t) a k))
        (or_elim (eqb x a) (has xs a) h)

agree_any : (xs : List ℕ) → T (agree 0 xs) → Any2 xs
unfolding agree Any2
agree_any [] t = λ x y h k. absurd h
agree_any (x ∷ xs) t = agree_first x xs (zero? x) refl (agree_any xs) t

pub equal_agree : (xs : List ℕ) → equal_where_nonzero xs ≡ agree 0 xs
equal_agree xs =
    same_test (equal_where_nonzero xs) (agree 0 xs) (λ t. any_agree xs (equal_any xs t)) (λ t. any_equal xs (agree_any xs t))

-- ---- a set's rules by what was seen of its counts

-- the counts of a set from group g on
abbrev pub counts_from : List ℕ → Set → ℕ → List ℕ
counts_from ns s g = map (count_of ns) (up_from g (suc s.last - g))

module _ (ns : List ℕ) (s : Set) where
  -- its two rules
  abbrev pub ends_seen : ℕ → Bool
  ends_seen seen = not s.ends || (zero? seen || (not (zero? (count_of ns s.first)) && not (zero? (count_of ns s.last))))

  pub kept_seen : keeps ns s ≡ agree 0 (counts_from ns s s.first) && ends_seen (seen_in 0 (counts_from ns s s.first))
  unfolding keeps
  kept_seen = rw (equal_agree (map (count_of ns) (members s)), nothing_seen (map (count_of ns) (members s)))

-- ---- one count more

pub settle_agree : (v x : ℕ) (xs : List ℕ) → agree v (x ∷ xs) ≡ not (differ v x) && agree (settle v x) xs
unfolding agree
settle_agree v x xs = by (zero? x) (zero? v) (eqb x v)
  where
    by : (a b c : Bool) → cond a (agree v xs) (cond b (agree x xs) (c && agree v xs)) ≡ not (not a && (not b && not c)) && agree (cond a v (cond b x v)) xs
    by true b c = refl
    by false true c = refl
    by false false true = refl
    by false false false = refl

pub settle_seen : (v x : ℕ) (xs : List ℕ) → seen_in v (x ∷ xs) ≡ seen_in (settle v x) xs
unfolding seen_in
settle_seen v x xs = by (zero? x) (zero? v)
  where
    by : (a b : Bool) → cond a (seen_in v xs) (cond b (seen_in x xs) (seen_in v xs)) ≡ seen_in (cond a v (cond b x v)) xs
    by true b = refl
    by false true = refl
    by false false = refl

-- ---- the loop over a set's groups: v was seen before group g

pub record Seen (ns : List ℕ) (s : Set) (v g : ℕ) : Type 0 where
  pub agrees : agree v (counts_from ns s g) ≡ agree 0 (counts_from ns s s.first)
  pub sees : seen_in v (counts_from ns s g) ≡ seen_in 0 (counts_from ns s s.first)

module _ (ns : List ℕ) (s : Set) where
  pub seen_start : Seen ns s 0 s.first
  seen_start = record { agrees = refl; sees = refl }

  module _ (v g : ℕ) (seen : Seen ns s v g) where
    next : g ≤ s.last → counts_from ns s g ≡ count_of ns g ∷ counts_from ns s (g + 1)
    next h = ap (map (count_of ns)) (up_more g s.last h)

    pub seen_differs : g ≤ s.last → differ v (count_of ns g) ≡ true → keeps ns s ≡ false
    seen_differs h d =
        kept_seen ns s
        ∙ rw (← seen.agrees, next h, settle_agree v (count_of ns g) (counts_from ns s (g + 1)), d)

    pub seen_more : (n w : ℕ) → g ≤ s.last → n ≡ count_of ns g → differ v n ≡ false → w ≡ settle v n → Seen ns s w (g + 1)
    seen_more n w h e d f =
        let more = next h ∙ ap (λ x. x ∷ counts_from ns s (g + 1)) (sym e) in
        let a : agree v (counts_from ns s g) ≡ agree w (counts_from ns s (g + 1)) = rw (more, settle_agree v n (counts_from ns s (g + 1)), d, f) in
        let b : seen_in v (counts_from ns s g) ≡ seen_in w (counts_from ns s (g + 1)) = rw (more, f) (settle_seen v n (counts_from ns s (g + 1))) in
        record { agrees = sym a ∙ seen.agrees; sees = sym b ∙ seen.sees }

    pub seen_end : s.last < g → keeps ns s ≡ ends_seen ns s v
    unfolding agree seen_in
    seen_end h =
        let e : counts_from ns s g ≡ [] = ap (map (count_of ns)) (up_done g s.last h) in
        let a : true ≡ agree 0 (counts_from ns s s.first) = rw e at seen.agrees in
        let b : v ≡ seen_in 0 (counts_from ns s s.first) = rw e at seen.sees in
        kept_seen ns s ∙ rw (← a, ← b)

-- ---- the table's rule: no set reaches beyond the groups

pub last_group : (k : ℕ) (d : Set) → d.last ≤ 79 → (get_or sets k d).last ≤ 79
unfolding sets
last_group k d h =
    leb→le (get_or sets k d).last 79
    (every_get_d (λ s. leb s.last 79) d sets tt (true_T (leb d.last 79) (le-leb d.last 79 h)) k)
