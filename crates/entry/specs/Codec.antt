-- R520 to R524, both ways: what is written for an entry reads as the entry, and what is read from bytes is written as these bytes.
use Rattle.std.specs.Prelude.{◌≡◌, List, ◌++◌, ℕ, ◌^◌, ◌<◌, ℤ, length, take}
use Rattle.std.specs.Int.{w64}
use Rattle.std.proofs.Common.{SFits}
use Rattle.entry.specs.declared.Entry.{Entry}
use Rattle.entry.specs.declared.Entry.TheVariants.{Set, Open, Release, Undo, Misformed}
use Rattle.entry.specs.Bytes.{bits_of, cell_of, AllBytes}
use Rattle.entry.specs.Field.{entry_text, entry_size, entry_in}

-- an entry that has a field of its own: its numbers have the bytes that a field has for them
pub data Sized : Entry → Type 0 where
  sized_set : {g c : ℕ} {o n : ℤ} → g < 256 → c < 65536 → SFits w64 o → SFits w64 n → Sized (Set g c o n)
  sized_open : {k : ℕ} → k < 256 → Sized (Open k)
  sized_release : {k : ℕ} → k < 256 → Sized (Release k)
  sized_undo : {k : ℕ} → k < 256 → Sized (Undo k)

-- the bytes of an entry's field are its text
pub record ReadsEntry (xs : List ℕ) (e : Entry) : Type 0 where
  pub text : take (entry_size e) xs ≡ entry_text e
  pub sized : Sized e

pub record BothWays : Type 0 where
  -- whatever stands behind it
  pub written : (e : Entry) (r : List ℕ) → Sized e → entry_in (entry_text e ++ r) ≡ e
  pub read : (xs : List ℕ) → AllBytes xs → (entry_in xs ≡ Misformed → ⊥) → ReadsEntry xs (entry_in xs)
  pub long : (e : Entry) → length (entry_text e) ≡ entry_size e
  -- R524: over all values of 64 bits
  pub value : (z : ℤ) → SFits w64 z → cell_of (bits_of z) ≡ z
  pub bits : (n : ℕ) → n < 2 ^ 64 → (bits_of (cell_of n) ≡ n) × SFits w64 (cell_of n)
