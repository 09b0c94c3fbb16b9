-- Letters: cells and bytes from 32 to 126.
-- Assumes nothing.
use mathlib.Core.Path.{◌≡◌, refl, ap}
use mathlib.Core.List.{List, [], ◌∷◌, map}
use Prim.Native.Nat.{ℕ}
use lib.Dec.{T, leb, leb→le, le→leb}
use lib.IntN.{ℤ, pos, negsuc}
use Rattle.base.specs.Ascii.{printable}
use Rattle.base.specs.Every.{every}
use Rattle.base.specs.Sign.{size_of}
use Rattle.base.proofs.Choice.{and_left, and_right, and_both}
use Rattle.field.specs.Write.{is_letter}
use Rattle.field.specs.Grammar.{Letters}

-- the test at each byte is R80
pub printable_letters : (s : List ℕ) → T (every printable s) → Letters s
printable_letters [] t = tt
printable_letters (b ∷ s) t =
    let p = and_left (printable b) (every printable s) t in
    ((leb→le 32 b (and_left (leb 32 b) (leb b 126) p), leb→le b 126 (and_right (leb 32 b) (leb b 126) p)), printable_letters s (and_right (printable b) (every printable s) t))

pub letters_printable : (s : List ℕ) → Letters s → T (every printable s)
letters_printable [] l = tt
letters_printable (b ∷ s) l =
    and_both (printable b) (every printable s)
    (and_both (leb 32 b) (leb b 126) (le→leb 32 b l.0.0) (le→leb b 126 l.0.1))
    (letters_printable s l.1)

-- cells that are letters, and the bytes that they are
pub bytes_cells : (s : List ℕ) → T (every printable s) → T (every is_letter (map pos s))
bytes_cells [] t = tt
bytes_cells (b ∷ s) t =
    and_both (printable b) (every is_letter (map pos s)) (and_left (printable b) (every printable s) t) (bytes_cells s (and_right (printable b) (every printable s) t))

pub cells_bytes : (cs : List ℤ) → T (every is_letter cs) → T (every printable (map size_of cs))
cells_bytes [] t = tt
cells_bytes (pos n ∷ cs) t =
    and_both (printable n) (every printable (map size_of cs)) (and_left (printable n) (every is_letter cs) t) (cells_bytes cs (and_right (printable n) (every is_letter cs) t))
cells_bytes (negsuc n ∷ cs) t = absurd t

pub cells_back : (cs : List ℤ) → T (every is_letter cs) → map pos (map size_of cs) ≡ cs
cells_back [] t = refl
cells_back (pos n ∷ cs) t = ap (λ l. pos n ∷ l) (cells_back cs (and_right (printable n) (every is_letter cs) t))
cells_back (negsuc n ∷ cs) t = absurd t

pub bytes_back : (s : List ℕ) → map size_of (map pos s) ≡ s
bytes_back [] = refl
bytes_back (b ∷ s) = ap (λ l. b ∷ l) (bytes_back s)
