-- Pieces of equal width, one behind the other, as a loop meets them: tested one by one, and their cells put one behind the other.
-- Assumes nothing.
use mathlib.Core.List.{flat_map}
use native.Mathlib.Nat.{zero-add, zero-mul, suc-mul, mul-le-mul_right}
use Rattle.std.proofs.Common.{◌≡◌, ◌∙◌, refl, sym, ap, ap₂, Bool, ◌&&◌, List, [], ◌∷◌, ◌++◌, map, ℕ, zero, suc, ◌+◌, ◌*◌, ◌<◌, ◌≤◌, T, ℤ, length, take, drop, get_or, set, take_all, drop-drop, length-take, length-take-le, length-set, arith}
use Rattle.std.specs.List.{list_all, flat_map as flat_map_of}
use Rattle.std.specs.Simd.{first_chunks}
use Rattle.std.proofs.lemmas.List.{length-map, take_more, map_more, flat_map_more}
use Rattle.std.proofs.lemmas.List.Folds.{list_all-map}
use Rattle.base.specs.Every.{every, up_from}
use Rattle.base.specs.Part.{part, over}
use Rattle.base.proofs.Part.{part_length, over_one, over_then}
use Rattle.base.proofs.Every.{every_between}
use Rattle.base.proofs.Taken.{part_zero, drop_none}
use Rattle.base.proofs.UpFrom.{flat_same, parts_flat}
use Rattle.run.specs.Columns.{columns_at, each_piece, all_pieces}
use Rattle.run.proofs.Loops.{and_assoc}

-- piece i is what stands from its place on
columns_lent : (w i a : ℕ) (s : List ℕ) → a ≡ i * w → part a (a + w) s ≡ columns_at w s i
columns_lent w i a s e = let f : a + w ≡ suc i * w = omega (arith, suc-mul i w) in rw (f, e)

-- a piece more lies within the run
pub piece_within : (w k i a n : ℕ) → n ≡ k * w → a ≡ i * w → i < k → a + w ≤ n
piece_within w k i a n l e h = let m = mul-le-mul_right w h in omega (arith, suc-mul i w)

pub piece_long : (w k i a : ℕ) (s : List ℕ) → length s ≡ k * w → a ≡ i * w → i < k → length (part a (a + w) s) ≡ w
piece_long w k i a s l e h = part_length s a w (piece_within w k i a (length s) l e h)

pub columns_long : (w k i : ℕ) (s : List ℕ) → length s ≡ k * w → i < k → length (columns_at w s i) ≡ w
columns_long w k i s l h = ap length (sym (columns_lent w i (i * w) s refl)) ∙ piece_long w k i (i * w) s l refl h

-- ---- by another test, by other cells

pub every_same : (f g : ℕ → Bool) (b n : ℕ) → ((i : ℕ) → b ≤ i → i < b + n → f i ≡ g i) → every f (up_from b n) ≡ every g (up_from b n)
unfolding up_from
every_same f g b zero e = refl
every_same f g b (suc n) e = ap₂ ◌&&◌ (e b (omega arith) (omega arith)) (every_same f g (suc b) n (λ i l h. e i (omega arith) (omega arith)))

module _ (w k : ℕ) (s : List ℕ) (l : length s ≡ k * w) where
  -- tests that agree on w columns
  pub each_same : (f g : List ℕ → Bool) → ((x : List ℕ) → length x ≡ w → f x ≡ g x) → each_piece f w k s ≡ each_piece g w k s
  unfolding each_piece
  each_same f g e = every_same (λ i. f (columns_at w s i)) (λ i. g (columns_at w s i)) 0 k (λ i h m. e (columns_at w s i) (columns_long w k i s l (omega arith)))

  -- the same cells of w columns that pass a test
  pub all_same : (test : List ℕ → Bool) (f g : List ℕ → List ℤ) → ((x : List ℕ) → length x ≡ w → T (test x) → f x ≡ g x) → T (each_piece test w k s) → all_pieces f w k s ≡ all_pieces g w k s
  unfolding each_piece all_pieces
  all_same test f g e t =
      flat_same (λ i. f (columns_at w s i)) (λ i. g (columns_at w s i)) 0 k
      (λ i h m. e (columns_at w s i) (columns_long w k i s l (omega arith)) (every_between (λ i. test (columns_at w s i)) 0 k t i h m))

-- ---- pieces that are looked at byte by byte

every_flat : (f : ℕ → Bool) (g : ℕ → List ℕ) (is : List ℕ) → every (λ i. every f (g i)) is ≡ every f (flat_map g is)
unfolding flat_map
every_flat f g [] = refl
every_flat f g (i ∷ is) = ap (λ b. every f (g i) && b) (every_flat f g is) ∙ every_both (g i)
  where
    every_both : (xs : List ℕ) → (every f xs && every f (flat_map g is)) ≡ every f (xs ++ flat_map g is)
    every_both [] = refl
    every_both (x ∷ xs) = and_assoc (f x) (every f xs) (every f (flat_map g is)) ∙ ap (λ b. f x && b) (every_both xs)

map_flat : (f : ℕ → ℤ) (g : ℕ → List ℕ) (is : List ℕ) → flat_map (λ i. map f (g i)) is ≡ map f (flat_map g is)
unfolding flat_map
map_flat f g [] = refl
map_flat f g (i ∷ is) = ap (λ l. map f (g i) ++ l) (map_flat f g is) ∙ map_both (g i)
  where
    map_both : (xs : List ℕ) → map f xs ++ map f (flat_map g is) ≡ map f (xs ++ flat_map g is)
    map_both [] = refl
    map_both (x ∷ xs) = ap (λ l. f x ∷ l) (map_both xs)

-- a run is its pieces
pieces_run : (w k : ℕ) (s : List ℕ) → length s ≡ k * w → flat_map (columns_at w s) (up_from 0 k) ≡ s
pieces_run w k s l =
    parts_flat (λ i. i * w) s (λ i. omega (arith, suc-mul i w)) 0 k
    ∙ ap₂ (λ a e. part a e s) (zero-mul w) (ap (λ i. i * w) (zero-add k))
    ∙ part_zero (k * w) s
    ∙ take_all (k * w) s (omega arith)

module _ (w k : ℕ) (s : List ℕ) (l : length s ≡ k * w) where
  pub each_byte : (f : ℕ → Bool) → each_piece (every f) w k s ≡ every f s
  unfolding each_piece
  each_byte f = every_flat f (columns_at w s) (up_from 0 k) ∙ ap (every f) (pieces_run w k s l)

  pub all_bytes : (f : ℕ → ℤ) → all_pieces (map f) w k s ≡ map f s
  unfolding all_pieces
  all_bytes f = map_flat f (columns_at w s) (up_from 0 k) ∙ ap (map f) (pieces_run w k s l)

-- ---- the same as arrays, one behind the other

chunks_from : (w k a : ℕ) (s : List ℕ) → first_chunks w k (drop (a * w) s) ≡ map (columns_at w s) (up_from a k)
unfolding up_from
chunks_from w zero a s = refl
chunks_from w (suc k) a s =
    ap₂ ◌∷◌ (ap (λ n. take n (drop (a * w) s)) (omega (arith, suc-mul a w)))
    (ap (first_chunks w k) (drop-drop w (a * w) s ∙ ap (λ n. drop n s) (omega (arith, suc-mul a w))) ∙ chunks_from w k (suc a) s)

chunks : (w k : ℕ) (s : List ℕ) → first_chunks w k s ≡ map (columns_at w s) (up_from 0 k)
chunks w k s = ap (first_chunks w k) (sym (rw (zero-mul w) (drop_none s))) ∙ chunks_from w k 0 s

pub each_chunk : (test : List ℕ → Bool) (w k : ℕ) (s : List ℕ) → list_all test (first_chunks w k s) ≡ each_piece test w k s
unfolding each_piece
each_chunk test w k s = ap (list_all test) (chunks w k s) ∙ list_all-map test (columns_at w s) (up_from 0 k)

flat_chunks : (give : List ℕ → List ℤ) (at : ℕ → List ℕ) (is : List ℕ) → flat_map_of give (map at is) ≡ flat_map (λ i. give (at i)) is
unfolding flat_map
flat_chunks give at [] = refl
flat_chunks give at (i ∷ is) = ap (λ l. give (at i) ++ l) (flat_chunks give at is)

pub all_chunks : (give : List ℕ → List ℤ) (w k : ℕ) (s : List ℕ) → flat_map_of give (first_chunks w k s) ≡ all_pieces give w k s
unfolding all_pieces
all_chunks give w k s = ap (flat_map_of give) (chunks w k s) ∙ flat_chunks give (columns_at w s) (up_from 0 k)

-- one cell for each
pub each_cell : (h : List ℕ → ℤ) (fields : List (List ℕ)) → map h fields ≡ flat_map_of (λ s. h s ∷ []) fields
each_cell h [] = refl
each_cell h (s ∷ fields) = ap (λ l. h s ∷ l) (each_cell h fields)

-- single bytes
pub byte_chunks : (h : ℕ → ℤ) (s : List ℕ) → map (λ t. h (get_or t 0 0)) (first_chunks 1 (length s) s) ≡ map h s
byte_chunks h [] = refl
byte_chunks h (b ∷ s) = ap (λ l. h b ∷ l) (byte_chunks h s)

-- ---- a cell more, and two

two_each : (first second : List ℕ → ℤ) (fields : List (List ℕ)) → length (flat_map_of (λ s. first s ∷ second s ∷ []) fields) ≡ length fields * 2
two_each first second [] = refl
two_each first second (s ∷ fields) = omega (arith, two_each first second fields, suc-mul (length fields) 2)

module _ (old : List ℤ) (cell : ℕ) (fields : List (List ℕ)) (i : ℕ) (s : List ℕ) (here : i < length fields) (is : s ≡ get_or fields i s) where
  pub cell_more : {table : List ℤ} (h : List ℕ → ℤ) → cell + length fields ≤ length old → length table ≡ length old → table ≡ over cell (map h (take i fields)) old
      → set table (cell + i) (h s) ≡ over cell (map h (take (i + 1) fields)) old
  cell_more {table} h room kept e =
      let l : length (map h (take i fields)) ≡ i = simp (length-map, length-take) (omega arith) in
      over_then old (map h (take i fields)) (h s ∷ []) cell (cell + i) (omega arith, omega arith) e (over_one table (cell + i) (h s) (omega arith))
      ∙ ap (λ l. over cell l old) (sym (map_more h fields i s here ∙ ap (λ t. map h (take i fields) ++ (h t ∷ [])) (sym is)))

  pub cells_more : {table : List ℤ} (at : ℕ) (first second : List ℕ → ℤ) → at ≡ cell + i * 2 → cell + length fields * 2 ≤ length old → length table ≡ length old
      → table ≡ over cell (flat_map_of (λ s. first s ∷ second s ∷ []) (take i fields)) old
      → set (set table at (first s)) (at + 1) (second s) ≡ over cell (flat_map_of (λ s. first s ∷ second s ∷ []) (take (i + 1) fields)) old
  cells_more {table} at first second place room kept e =
      let give : List ℕ → List ℤ = λ s. first s ∷ second s ∷ [] in
      let l : length (flat_map_of give (take i fields)) ≡ i * 2 = two_each first second (take i fields) ∙ ap (λ n. n * 2) (length-take-le i fields (omega arith)) in
      let both = over_then table (first s ∷ []) (second s ∷ []) at (at + 1) (refl, omega arith) (over_one table at (first s) (omega arith)) (over_one (set table at (first s)) (at + 1) (second s) (simp length-set (omega arith))) in
      over_then old (flat_map_of give (take i fields)) (give s) cell at (omega arith, omega arith) e both
      ∙ ap (λ l. over cell l old)
      (ap (λ t. flat_map_of give (take i fields) ++ give t) is ∙ flat_map_more give [] (take i fields) (get_or fields i s) ∙ ap (flat_map_of give) (sym (take_more fields i s here)))
