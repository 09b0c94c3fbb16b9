-- Loops over bytes: a test at each, pairs of neighbours, a byte that is sought, a number's digits.
-- Assumes nothing.
use Rattle.std.proofs.Common.{◌≡◌, ◌∙◌, refl, sym, ap, ap₂, Bool, true, false, ◌&&◌, ◌||◌, List, [], ◌∷◌, map, ℕ, zero, suc, ◌+◌, ◌*◌, ◌-◌, ◌^◌, ◌<◌, ◌≤◌, eqb, length, take, get_or, Option, Some, None, option_map, IfSome, IsSomeAnd, MatchBool, IsTrue, add-zero, add-one, arith}
use native.Mathlib.Nat.{pow-suc, pow-le-pow_right}
use lib.Dec.{lit<}
use denote.Ref.{Bor}
use denote.Param.Members.{Mut}
use Rattle.std.specs.Fn.{Called}
use Rattle.std.specs.List.{IsSubsliceAt}
use Rattle.std.specs.Iterator.Runs.{Run, IsWindowsRun, AllItemsGive, AnyItemGives}
use Rattle.std.proofs.lemmas.List.{map_more}
use Rattle.base.specs.Every.{has}
use Rattle.base.specs.Digits.{number_of}
use Rattle.base.proofs.Choice.{and_false}
use Rattle.base.proofs.Digits.{number_append}
use Rattle.run.specs.Columns.{goes_on, pairs}

pub and_assoc : (a b c : Bool) → ((a && b) && c) ≡ (a && (b && c))
and_assoc true b c = refl
and_assoc false b c = refl

pub and_true : (a : Bool) → (a && true) ≡ a
and_true true = refl
and_true false = refl

-- ---- a byte that is sought

pub or_more : (a b c : Bool) → (a || (b || c)) ≡ ((a || b) || c)
or_more true b c = refl
or_more false b c = refl

pub or_one : (a : Bool) → (a || false) ≡ (false || a)
or_one true = refl
or_one false = refl

pub has_more : (b : ℕ) (s : List ℕ) (i : ℕ) → i < length s → has (take (i + 1) s) b ≡ (has (take i s) b || eqb (get_or s i 0) b)
has_more b [] i h = absurd (omega arith)
has_more b (x ∷ s) zero h = or_one (eqb x b)
has_more b (x ∷ s) (suc i) h = rw (add-one (suc i)) (ap (λ t. eqb x b || t) (ap (λ n. has (take n s) b) (sym (add-one i)) ∙ has_more b s i (omega arith)) ∙ or_more (eqb x b) (has (take i s) b) (eqb (get_or s i 0) b))

-- ---- neighbours

-- each column goes on to the next, or some column doesn't
pairs_pass : (s : List ℕ) → ((k : ℕ) → suc k < length s → goes_on (get_or s k 0) (get_or s (suc k) 0) ≡ true) → pairs s ≡ true
unfolding pairs
pairs_pass [] h = refl
pairs_pass (x ∷ []) h = refl
pairs_pass (x ∷ y ∷ s) h = rw (h 0 (omega arith), pairs_pass (y ∷ s) (λ k l. h (suc k) (omega arith)))

pairs_fail : (s : List ℕ) (k : ℕ) → suc k < length s → goes_on (get_or s k 0) (get_or s (suc k) 0) ≡ false → pairs s ≡ false
unfolding pairs
pairs_fail [] k l e = absurd (omega arith)
pairs_fail (x ∷ []) k l e = absurd (omega arith)
pairs_fail (x ∷ y ∷ s) zero l e = rw e
pairs_fail (x ∷ y ∷ s) (suc k) l e = rw (pairs_fail (y ∷ s) k (omega arith) e) (and_false (goes_on x y))

-- what is known of an item that is there
there : {A B : Bor (List ℕ) → Type 0} {v : ℕ} (o : Option (Bor (List ℕ))) → option_map (λ (x : Bor (List ℕ)). get_or x.now 0 0) o ≡ Some v → IfSome o A → IfSome o B → (w : Bor (List ℕ)) × A w × B w
there None e a b = cc
there (Some w) e a b = (w, a, b)

-- the windows of two columns, in whatever order they are asked
module _ {S F : Type 0} {steps : S → Option (Bor (List ℕ)) → S → Type 0} (p : Run steps) (s : List ℕ) (windows : IsWindowsRun p 2 s) (g : Mut F (Bor (List ℕ) × Unit {0}) Bool) (f : F)
    (asks : (a : Bor (List ℕ) × Unit {0}) (r : Bool) (f' : F) → Called g f a r f' → (f' ≡ f) × (r ≡ goes_on (get_or a.0.now 0 0) (get_or a.0.now 1 0))) where
  answered : (k : ℕ) (r : Bool) (w : Bor (List ℕ)) → IsSubsliceAt 2 s k w.now → Called g f (w, tt) r f → goes_on (get_or s k 0) (get_or s (suc k) 0) ≡ r
  answered k r w at c =
      let first : get_or w.now 0 0 ≡ get_or s (k + 0) 0 = at.2 0 0 (omega arith) in
      let second : get_or w.now 1 0 ≡ get_or s (k + 1) 0 = at.2 1 0 (omega arith) in
      let e : get_or s k 0 ≡ get_or w.now 0 0 = ap (λ n. get_or s n 0) (sym (add-zero k)) ∙ sym first in
      let m : get_or s (suc k) 0 ≡ get_or w.now 1 0 = ap (λ n. get_or s n 0) (sym (add-one k)) ∙ sym second in
      ap₂ goes_on e m ∙ sym (asks (w, tt) r f c).1

  keeps : (a : Bor (List ℕ) × Unit {0}) (r : Bool) (f' : F) → Called g f a r f' → f' ≡ f
  keeps a r f' c = (asks a r f' c).0

  pub pairs_run : (r : Bool) → MatchBool r (IsTrue p.whole × AllItemsGive p g f true) (AnyItemGives p g f false) → r ≡ pairs s
  pairs_run true h =
      sym (pairs_pass s (λ k l.
      let n : p.len ≡ length s + 1 - 2 = windows.1 h.0 in
      let w = there (p.at k) (windows.3 k 0 (omega arith)) (windows.2 k) (h.1 keeps k) in
      answered k true w.0 w.1.2 w.2))
  pairs_run false h =
      let a = h keeps in
      let w = there (p.at a.0) (windows.3 a.0 0 a.1) (windows.2 a.0) (one _ (p.at a.0) a.2) in
      sym (pairs_fail s a.0 (omega (arith, w.1.1)) (answered a.0 false w.0 w.1.2 w.2))
    where
      one : (B : Bor (List ℕ) → Type 0) (o : Option (Bor (List ℕ))) → IsSomeAnd o B → IfSome o B
      one B None h = absurd h
      one B (Some w) h = h

-- ---- a number's digits

-- a byte is below 256, so a number that began with 0 is below 29 times a power of ten, and 12 columns have room
pub room_more : (i n d : ℕ) → d < 256 → n + 29 ≤ 29 * 10 ^ i → n * 10 + d + 29 ≤ 29 * 10 ^ (i + 1)
room_more i n d h r = rw (add-one i, pow-suc 10 i) (omega arith)

pub room_all : (i n : ℕ) → i ≤ 12 → n + 29 ≤ 29 * 10 ^ i → n < 2 ^ 48
room_all i n h r = let p = pow-le-pow_right {n = 10} (lit< tt) {i = i} {j = 12} h in omega arith

pub number_more : (worth : ℕ → ℕ) (s : List ℕ) (i : ℕ) → i < length s → number_of (map worth (take (i + 1) s)) ≡ number_of (map worth (take i s)) * 10 + worth (get_or s i 0)
number_more worth s i h = ap number_of (map_more worth s i 0 h) ∙ number_append 0 (map worth (take i s)) (worth (get_or s i 0) ∷ [])
