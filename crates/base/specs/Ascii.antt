-- Codes of printable characters.
use Rattle.std.specs.Prelude.{Bool, ◌&&◌, ℕ, leb}

-- from the blank to the tilde
abbrev pub printable : ℕ → Bool
printable b = leb 32 b && leb b 126
