-- R380, R381: record S, 305 bytes, line by line: the two of the index, four constants of the station, a date, one characteristic.
use Rattle.std.specs.Prelude.{Bool, true, List, [], ◌∷◌, ◌++◌, ℕ, replicate}
use Prim.Native.String.{String}
use Rattle.base.specs.Quoted.{bytes}
use Rattle.line.specs.Alike.{line_end_by, ended_by}

-- R4: a line with this content: carriage return and line feed behind it
abbrev pub quoted_line : String → List ℕ
quoted_line content = bytes content ++ line_end_by true

abbrev pub contents_s : List (List ℕ)
contents_s =
    bytes "  4  0 19  1  0  0  0  0  0  0  0  0  0  0  0  0  0  0  0  0  0  0  0  0  0  0  0  0  0  0  0  0  0  0  0  0  0  0  0  0"
    ∷ bytes "  0  0  0  0  0  0  0  0  0  0  0  0  0  0  0  0  0  0  0  0  0  0  0  0  0  0  0  0  0  0  0  0  0  0  0  0  0  0  0  5"
    ∷ bytes "  1.200 67.000-23.500143.000"
    ∷ bytes "AA20062650922142530"
    ∷ bytes "   7.250"
    ∷ []

-- each with its carriage return
unfoldable pub record_s : List ℕ
record_s = ended_by (λ i. true) contents_s

unfoldable pub counts_s : List ℕ
counts_s = 4 ∷ 0 ∷ 19 ∷ 1 ∷ (replicate 75 0 ++ (5 ∷ []))

-- R382: one copy behind the other
unfoldable pub twice_s : List ℕ
twice_s = record_s ++ record_s

-- R9: the same lines, where `returns i` tells whether line i, from 0, has a carriage return
unfoldable pub twice_ended : (ℕ → Bool) → List ℕ
twice_ended returns = ended_by returns (contents_s ++ contents_s)
