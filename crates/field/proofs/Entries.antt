-- R23, index entries: they read as the rule says, what reads is 0 to 999, and each such count has one canonical text, which is written.
-- Assumes nothing.
use mathlib.Core.Path.{◌≡◌, refl, sym, ap, ◌∙◌}
use mathlib.Core.Bool.{true, false}
use mathlib.Core.List.{List, ◌++◌}
use mathlib.Core.Logic.{◌↔◌}
use Rattle.std.specs.Prelude.{Some, None}
use Prim.Native.Nat.{ℕ, ◌≤◌}
use native.Mathlib.Omega.{arith}
use borrow.Author.Tests.{eq-eqb, eqb-true}
use lib.Dec.{T, eqb, le→leb}
use lib.IntN.{pos}
use lib.ListN.{length, replicate, length-append, length-map}
use Rattle.base.specs.Ascii.{printable}
use Rattle.base.specs.Every.{every}
use Rattle.base.specs.Digits.{number_of, digit_text}
use Rattle.base.specs.Sign.{negative, size_of}
use Rattle.base.proofs.Choice.{cond_taken, cond_kept}
use Rattle.base.proofs.Sign.{negative_of, size_of_lem}
use Rattle.base.proofs.Digits.{number_within, lean_some}
use Rattle.number.specs.declared.Scan.{Scan}
use Rattle.number.specs.declared.Scan.TheVariants.{Blanks, Signed, Digits, Broken}
use Rattle.number.specs.Scan.{scan_of}
use Rattle.number.specs.Grammar.{minus_of}
use Rattle.number.proofs.Grammar.{columns_read, Held, held}
use Rattle.number.proofs.Unique.{lean_text}
use Rattle.number.proofs.Fits.{i_canonical}
use Rattle.number.proofs.Text.{i_length, i_printable}
use Rattle.form.specs.Count.{most_count, is_count}
use Rattle.field.specs.Entry.{IsEntry, HasEntry, CanonicalEntry, count_in, entry_of, index_entry_text}

-- ---- reading

held_is : (s : List ℕ) (n : ℕ) (st : Scan) → length s ≡ 3 → Held s st → count_in st ≡ Some n → IsEntry s n
held_is s n Blanks l h e = cc
held_is s n Signed l h e = cc
held_is s n (Digits true m) l h e = cc
held_is s n (Digits false m) l h e =
    let y : m ≡ n = cc in
    record { width = l; blanks = h.blanks; digits = h.digits; each = h.each; some = h.some; text = h.text; value = sym (h.value ∙ y) }
held_is s n Broken l h e = cc

pub entry_is : (s : List ℕ) (n : ℕ) → entry_of s ≡ Some n → IsEntry s n
unfolding entry_of
entry_is s n e =
    let l = eqb-true (length s) 3 (cond_taken (eqb (length s) 3) (count_in (scan_of Blanks s)) None (Some n) (λ h. cc) e) in
    held_is s n (scan_of Blanks s) l (held s) (cond_kept (eqb (length s) 3) (count_in (scan_of Blanks s)) None (Some n) (λ h. cc) e)

pub is_entry : (s : List ℕ) (n : ℕ) → IsEntry s n → entry_of s ≡ Some n
unfolding entry_of
is_entry s n i =
    rw (eq-eqb (length s) 3 i.width)
    (ap (λ t. count_in (scan_of Blanks t)) i.text
    ∙ ap count_in (columns_read i.blanks false i.digits i.each i.some)
    ∙ ap Some (sym i.value))

-- ---- fits exactly

pub entry_fitting : (s : List ℕ) (n : ℕ) → IsEntry s n → T (is_count n)
entry_fitting s n i =
    let d : length (digit_text i.digits) ≡ length i.digits = simp length-map in
    let l = length-append (replicate i.blanks 32) (digit_text i.digits) in
    let w : length i.digits ≤ 3 = omega (arith, ap length i.text, i.width) in
    le→leb n most_count (omega (arith, i.value, number_within i.digits 3 i.each w))

-- ---- canonical is one

pub entry_canonical : (n : ℕ) → T (is_count n) → CanonicalEntry (index_entry_text n) n
entry_canonical n t =
    let c = i_canonical 2 99 999 refl refl (pos n) t in
    let m = number_of c.digits in
    let g : c.sign ≡ false = sym (ap negative c.value ∙ negative_of c.sign m c.zero) in
    record {
      width = c.width;
      blanks = c.blanks;
      digits = c.digits;
      each = c.each;
      lean = c.lean;
      text = c.text ∙ ap (λ b. replicate c.blanks 32 ++ (minus_of b ++ digit_text c.digits)) g;
      value = ap size_of c.value ∙ size_of_lem c.sign m;
    }

pub entry_one : (s : List ℕ) (n : ℕ) → CanonicalEntry s n → s ≡ index_entry_text n
entry_one s n c =
    c.text
    ∙ lean_text c.blanks false c.digits 3 c.each c.lean (sym (ap length c.text) ∙ c.width)
    ∙ ap index_entry_text (sym c.value)

pub canonical_entry : (s : List ℕ) (n : ℕ) → CanonicalEntry s n → IsEntry s n
canonical_entry s n c =
    record { width = c.width; blanks = c.blanks; digits = c.digits; each = c.each; some = lean_some c.digits c.lean; text = c.text; value = c.value }

-- ---- written reads

pub entry_back : (n : ℕ) → T (is_count n) → entry_of (index_entry_text n) ≡ Some n
entry_back n t = is_entry (index_entry_text n) n (canonical_entry (index_entry_text n) n (entry_canonical n t))

pub entry_wide : (n : ℕ) → length (index_entry_text n) ≡ 3
entry_wide n = i_length 3 (pos n)

pub entry_plain : (n : ℕ) → T (every printable (index_entry_text n))
entry_plain n = i_printable 3 (pos n)

-- a count has an entry exactly if it is 0 to 999
pub has_entry : (n : ℕ) → HasEntry n ↔ T (is_count n)
has_entry n = (λ h. entry_fitting h.columns n h.entry, λ t. record { columns = index_entry_text n; entry = canonical_entry (index_entry_text n) n (entry_canonical n t) })
