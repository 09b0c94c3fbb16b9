-- A part of a list, and a list with places overwritten.
use Rattle.std.specs.Prelude.{List, ◌++◌, ℕ, ◌+◌, ◌-◌, length, take, drop}

-- what stands from a up to and without e, as `&s[a..e]` lends it
abbrev pub part : {A : Type 0} → ℕ → ℕ → List A → List A
part a e s = take (e - a) (drop a s)

-- xs with ys in place of what stands from `at` on
abbrev pub over : {A : Type 0} → ℕ → List A → List A → List A
over at ys xs = take at xs ++ (ys ++ drop (at + length ys) xs)
