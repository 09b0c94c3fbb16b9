-- R349: `--strict` asks for the strict line end, `--entries` for counts of entries (R13); every other word is unknown, and no later word makes
-- it known.
use Rattle.std.specs.Prelude.{Bool, true, cond, List, ℕ, Option, Some, None, Result, Ok, Err}
use Rattle.std.specs.Option.{ok_or, unwrap_or}
use Rattle.std.specs.Str.{bytes_eq}
use Rattle.base.specs.Quoted.{bytes}
use Rattle.words.specs.declared.Words.{Words}

-- the same bytes one by one (proofs/Same.antt: exactly where the two lists are equal)
abbrev pub same_bytes : List ℕ → List ℕ → Bool
same_bytes a b = bytes_eq a b

-- one known word more; none, if the word is unknown
unfoldable pub with_known : Words → List ℕ → Option Words
with_known w word =
    cond (same_bytes word (bytes "--strict")) (Some (record w { strict = true }))
    (cond (same_bytes word (bytes "--entries")) (Some (record w { entries = true })) None)

-- one word more; an error, from the first unknown one on, with what the known ones asked for
abbrev pub with_word : Result Words Words → List ℕ → Result Words Words
with_word (Ok w) word = ok_or (with_known w word) w
with_word (Err w) word = Err (unwrap_or (with_known w word) w)
