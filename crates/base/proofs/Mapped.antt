-- A list with a function put to each of its elements: its beginning, its rest, an element of it, and when two of them are equal.
-- Assumes nothing.
use mathlib.Core.Path.{◌≡◌, refl, sym, ◌∙◌, ap}
use mathlib.Core.List.{List, [], ◌∷◌, map}
use Prim.Native.Nat.{ℕ, zero, suc, ◌<◌}
use lib.ListN.{length, take, drop, get_or, length-map, get_or-map}
use lib.Seq.{ext_get_or}
use native.Mathlib.Nat.{le_of_suc-le-suc, not-suc-le-zero}

pub map_take : {A B : Type 0} (f : A → B) (n : ℕ) (s : List A) → map f (take n s) ≡ take n (map f s)
map_take f zero [] = refl
map_take f zero (x ∷ s) = refl
map_take f (suc n) [] = refl
map_take f (suc n) (x ∷ s) = ap (λ y. f x ∷ y) (map_take f n s)

pub map_drop : {A B : Type 0} (f : A → B) (n : ℕ) (s : List A) → map f (drop n s) ≡ drop n (map f s)
map_drop f zero [] = refl
map_drop f zero (x ∷ s) = refl
map_drop f (suc n) [] = refl
map_drop f (suc n) (x ∷ s) = map_drop f n s

-- equal at each place
pub map_ext : {A B : Type 0} (f : A → B) (d : A) (s t : List A) → length s ≡ length t → ((i : ℕ) → i < length s → f (get_or s i d) ≡ f (get_or t i d)) → map f s ≡ map f t
map_ext f d s t e h =
    ext_get_or (f d) (map f s) (map f t)
    (length-map s f ∙ e ∙ sym (length-map t f))
    (λ i l. get_or-map f s i d ∙ h i (rw (length-map s f) at l) ∙ sym (get_or-map f t i d))

pub map_length : {A B : Type 0} (f : A → B) (s t : List A) → map f s ≡ map f t → length s ≡ length t
map_length f s t e = sym (length-map s f) ∙ ap length e ∙ length-map t f

-- within the list no default is met, so any two will do
pub get_d_map_within : {A B : Type 0} (f : A → B) (xs : List A) (k : ℕ) (d : A) (e : B) → k < length xs → get_or (map f xs) k e ≡ f (get_or xs k d)
get_d_map_within f [] k d e h = absurd (not-suc-le-zero h)
get_d_map_within f (x ∷ xs) zero d e h = refl
get_d_map_within f (x ∷ xs) (suc k) d e h = get_d_map_within f xs k d e (le_of_suc-le-suc h)

-- and of functions that give the same
pub map_same : {A B : Type 0} (f h : A → B) → ((a : A) → f a ≡ h a) → (xs : List A) → map f xs ≡ map h xs
map_same f h e [] = refl
map_same f h e (x ∷ xs) = rw (e x, map_same f h e xs)
