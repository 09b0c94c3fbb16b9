-- Numbers as bytes: how many, what they hold, both ways; and that the bytes of the machine are these.
-- Assumes nothing.
use mathlib.Core.Path.{◌≡◌, refl, sym, ap, ap₂, ◌∙◌}
use mathlib.Core.List.{List, [], ◌∷◌, ◌++◌, append_assoc, append-nil}
use Prim.Native.Nat.{ℕ, zero, suc, ◌+◌, ◌-◌, ◌*◌, ◌/◌, ◌%◌, ◌^◌, ◌<◌, ◌≤◌}
use native.Mathlib.Nat.{pow-suc, pow-succ', div-div-eq-div-mul, zero-add, suc-add}
use native.Mathlib.Omega.{arith}
use lib.ListN.{length, take, drop, replicate, length-append, length-drop, drop_of_length-le}
use lib.Seq.{length-take-le, take_all}
use Rattle.std.specs.Int.{w64, byte_at, bytes_high_first, to_be_bytes, from_be_bytes}
use Rattle.base.specs.Part.{over}
use Rattle.base.proofs.Part.{Put, put_before}
use Rattle.entry.specs.Bytes.{number_bytes, value_from, AllBytes}

pub length_bytes : (k n : ℕ) → length (number_bytes k n) ≡ k
unfolding number_bytes
length_bytes zero n = refl
length_bytes (suc k) n = length-append (number_bytes k (n / 256)) (n % 256 ∷ []) ∙ ap (λ m. m + 1) (length_bytes k (n / 256)) ∙ omega arith

value_last : (a : ℕ) (s : List ℕ) (b : ℕ) → value_from a (s ++ (b ∷ [])) ≡ value_from a s * 256 + b
unfolding value_from
value_last a [] b = refl
value_last a (c ∷ s) b = value_last (a * 256 + c) s b

-- what is written reads as it was
pub value_bytes : (k n : ℕ) → n < 256 ^ k → value_from 0 (number_bytes k n) ≡ n
unfolding value_from number_bytes
value_bytes zero n h = omega arith
value_bytes (suc k) n h =
    let p : 256 ^ suc k ≡ 256 ^ k * 256 = pow-suc 256 k in
    let q : n / 256 < 256 ^ k = omega arith in
    value_last 0 (number_bytes k (n / 256)) (n % 256) ∙ ap (λ m. m * 256 + n % 256) (value_bytes k (n / 256) q) ∙ omega arith

-- ---- and the other way round

-- bytes behind a number a: the bytes of a, then these
bytes_from : (k a : ℕ) (s : List ℕ) → AllBytes s → number_bytes (k + length s) (value_from a s) ≡ number_bytes k a ++ s
unfolding value_from number_bytes
bytes_from k a [] h = let z : k + 0 ≡ k = omega arith in rw z (sym (append-nil (number_bytes k a)))
bytes_from k a (b ∷ s) h =
    let z : k + suc (length s) ≡ suc k + length s = omega arith in
    let q : (a * 256 + b) / 256 ≡ a = omega (arith, h.0) in
    let r : (a * 256 + b) % 256 ≡ b = omega (arith, h.0) in
    let e : number_bytes (suc k) (a * 256 + b) ≡ number_bytes k a ++ (b ∷ []) = rw (q, r) in
    rw z (bytes_from (suc k) (a * 256 + b) s h.1 ∙ ap (λ l. l ++ s) e ∙ append_assoc (number_bytes k a) (b ∷ []) s)

pub bytes_value : (k : ℕ) (s : List ℕ) → length s ≡ k → AllBytes s → number_bytes k (value_from 0 s) ≡ s
unfolding number_bytes
bytes_value k s e h = let z : k ≡ 0 + length s = omega arith in rw z (bytes_from 0 0 s h)

value_small' : (i a : ℕ) (s : List ℕ) → AllBytes s → a < 256 ^ i → value_from a s < 256 ^ (i + length s)
unfolding value_from
value_small' i a [] h k = let z : i + 0 ≡ i = omega arith in rw z k
value_small' i a (b ∷ s) h k =
    let p : 256 ^ suc i ≡ 256 ^ i * 256 = pow-suc 256 i in
    let z : i + suc (length s) ≡ suc i + length s = omega arith in
    rw z (value_small' (suc i) (a * 256 + b) s h.1 (omega (arith, h.0)))

pub value_small : (k : ℕ) (s : List ℕ) → length s ≡ k → AllBytes s → value_from 0 s < 256 ^ k
value_small k s e h = let z : k ≡ 0 + length s = omega arith in rw z (value_small' 0 0 s h (omega arith))

-- ---- the machine's bytes of 64 bits

-- one byte more at the end
byte_before : (k n : ℕ) → byte_at (suc k) n ≡ byte_at k (n / 256)
byte_before zero n = refl
byte_before (suc k) n = ap (λ m. n / m % 256) (pow-succ' 256 (suc k)) ∙ ap (λ m. m % 256) (sym (div-div-eq-div-mul n 256 (256 ^ suc k)))

high_last : (k n : ℕ) → bytes_high_first (suc k) n ≡ bytes_high_first k (n / 256) ++ (n % 256 ∷ [])
high_last zero n = refl
high_last (suc k) n = ap₂ ◌∷◌ (byte_before k n) (high_last k n)

high_bytes : (k n : ℕ) → bytes_high_first k n ≡ number_bytes k n
unfolding number_bytes
high_bytes zero n = refl
high_bytes (suc k) n = high_last k n ∙ ap (λ l. l ++ (n % 256 ∷ [])) (high_bytes k (n / 256))

high_drop : (j k n : ℕ) → drop j (bytes_high_first (j + k) n) ≡ bytes_high_first k n
high_drop zero k n = rw (zero-add k)
high_drop (suc j) k n = rw (suc-add j k) (high_drop j k n)

-- what `to_be_bytes` gives ends in a number's low bytes
pub low_bytes : (k n : ℕ) → k ≤ 8 → take (8 - (8 - k)) (drop (8 - k) (to_be_bytes w64 n)) ≡ number_bytes k n
low_bytes k n h =
    let e : 8 - k + k ≡ 8 = omega arith in
    let v : 8 - (8 - k) ≡ k = omega arith in
    let l : drop (8 - k) (to_be_bytes w64 n) ≡ number_bytes k n = sym (ap (λ m. drop (8 - k) (bytes_high_first m n)) e) ∙ high_drop (8 - k) k n ∙ high_bytes k n in
    rw (l, v) (take_all k (number_bytes k n) (omega (arith, length_bytes k n)))

-- zeros before the first byte change nothing
value_zeros : (n j : ℕ) (s : List ℕ) → value_from 0 (take j (replicate n 0) ++ s) ≡ value_from 0 s
unfolding value_from
value_zeros zero zero s = refl
value_zeros zero (suc j) s = refl
value_zeros (suc n) zero s = refl
value_zeros (suc n) (suc j) s = value_zeros n j s

-- `from_be_bytes` gives what eight bytes hold
be_value : (s : List ℕ) → length s ≡ 8 → from_be_bytes w64 s ≡ value_from 0 s
unfolding value_from
be_value (a ∷ b ∷ c ∷ d ∷ e ∷ f ∷ g ∷ h ∷ []) l = omega arith
be_value [] l = absurd (omega arith)
be_value (a ∷ []) l = absurd (omega arith)
be_value (a ∷ b ∷ []) l = absurd (omega arith)
be_value (a ∷ b ∷ c ∷ []) l = absurd (omega arith)
be_value (a ∷ b ∷ c ∷ d ∷ []) l = absurd (omega arith)
be_value (a ∷ b ∷ c ∷ d ∷ e ∷ []) l = absurd (omega arith)
be_value (a ∷ b ∷ c ∷ d ∷ e ∷ f ∷ []) l = absurd (omega arith)
be_value (a ∷ b ∷ c ∷ d ∷ e ∷ f ∷ g ∷ []) l = absurd (omega arith)
be_value (a ∷ b ∷ c ∷ d ∷ e ∷ f ∷ g ∷ h ∷ i ∷ s) l = absurd (omega arith)

abbrev pub zeros : List ℕ
zeros = replicate 8 0

-- and where zeros fill the bytes before a part, what the part holds
pub filled_value : (k m : ℕ) (t : List ℕ) → k ≤ 8 → k ≤ m → length t ≡ k → from_be_bytes w64 (take (8 - k) zeros ++ (t ++ drop m (drop (8 - k) zeros))) ≡ value_from 0 t
filled_value k m t h g e =
    let n : drop m (drop (8 - k) zeros) ≡ [] = drop_of_length-le (drop (8 - k) zeros) (omega (arith, length-drop (8 - k) zeros)) in
    rw (n, append-nil t)
    (be_value (take (8 - k) zeros ++ t) (length-append (take (8 - k) zeros) t ∙ omega (arith, length-take-le (8 - k) zeros (omega arith))) ∙ value_zeros 8 (8 - k) t)

-- ---- numbers written one before the other

pub bytes_before : (xs t : List ℕ) (at b k n : ℕ) → b ≡ at + k → b ≤ length xs → over at (number_bytes k n) (over b t xs) ≡ over at (number_bytes k n ++ t) xs
bytes_before xs t at b k n e h =
    let p : Put xs b t (over b t xs) = record { room = h; is = refl } in
    (put_before p (number_bytes k n) (over at (number_bytes k n) (over b t xs)) at (e ∙ ap (λ m. at + m) (sym (length_bytes k n))) refl).is
