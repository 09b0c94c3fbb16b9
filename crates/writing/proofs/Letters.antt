-- The letters of group 3, from which writing takes the date: they are there, they are letters, and the first 19 decide.
-- Assumes nothing.
use Rattle.std.specs.Prelude.{Some, Ok}
use mathlib.Core.Path.{◌≡◌, refl, sym, ◌∙◌, ap, subst}
use mathlib.Core.Bool.{true}
use mathlib.Core.List.{List, [], ◌∷◌, map}
use Prim.Native.Nat.{ℕ, zero, suc, ◌+◌, ◌-◌, ◌*◌, ◌≤◌, min}
use native.Mathlib.Nat.{mul-one}
use native.Mathlib.Omega.{arith}
use lib.Dec.{T, eqb}
use lib.IntN.{ℤ}
use lib.ListN.{length, take, drop, length-map, length-take, length-drop}
use Rattle.rules.specs.declared.Rules.{Rules}
use Rattle.base.specs.Every.{every}
use Rattle.base.specs.Part.{part}
use Rattle.base.specs.Sign.{size_of}
use Rattle.base.proofs.Choice.{and_left, and_right, and_both}
use Rattle.base.proofs.Mapped.{map_take}
use Rattle.base.proofs.Taken.{take_none, take_both}
use Rattle.form.specs.declared.Form.TheVariants.{A1}
use Rattle.form.specs.Table
use Rattle.form.specs.Table.{row_of, form_of}
use Rattle.form.specs.Count
use Rattle.form.specs.Count.{cells_of}
use Rattle.form.proofs.Segments.{letters_elements}
use Rattle.field.specs.Write
use Rattle.field.specs.Write.{is_letter, fits_of}
use Rattle.count.specs.Tally.{count_of, cells_before}
use Rattle.count.proofs.Tallied.{cells_has, cells_next, cells_below, all_cells}
use Rattle.count.specs.Check.{checked_of}
use Rattle.date.specs.Date.{dated_of}
use Rattle.reading.proofs.Dates.{dated_take}
use Rattle.reading.proofs.Steps.{kept_letters}
use Rattle.writing.specs.Fitting.{Fitted, fit_of}
use Rattle.writing.specs.Writing.{date_letters}
use Rattle.count.proofs.Due as Counts
use Rattle.count.proofs.Rulings.{kept_ruling}
use Rattle.writing.proofs.Fitting.{group_fitted}

-- ---- cells that fit A1 are letters

letter_row : (row_of A1).cells ≡ 1
unfolding Table.row_of Table.listed_as
letter_row = refl

letter_fits : (c : List ℤ) → T (fits_of A1 c) → T (every is_letter c)
unfolding Write.fits_of
letter_fits c t = and_right (eqb (length c) (row_of A1).cells) (every is_letter c) t

letters_fit : (k : ℕ) (cs : List ℤ) → Fitted A1 k cs → T (every is_letter (take k cs))
letters_fit zero cs h = subst (λ l. T (every is_letter l)) (sym (take_none cs)) tt
letters_fit (suc k) [] h = tt
letters_fit (suc k) (z ∷ cs) h =
    and_both (is_letter z) (every is_letter (take k cs))
    (and_left (is_letter z) true (subst (λ l. T (every is_letter l)) (one_first z cs) (letter_fits (take (row_of A1).cells (drop (0 * (row_of A1).cells) (z ∷ cs))) (h 0 (omega arith)))))
    (letters_fit k cs rest)
  where
    one_first : (z : ℤ) (cs : List ℤ) → take (row_of A1).cells (drop (0 * (row_of A1).cells) (z ∷ cs)) ≡ z ∷ []
    one_first z cs = rw (letter_row) (ap (λ l. z ∷ l) (take_none cs))

    rest : Fitted A1 k cs
    rest i l =
        let e : suc i * (row_of A1).cells ≡ suc (i * (row_of A1).cells) = ap (λ c. suc i * c) letter_row ∙ mul-one (suc i) ∙ ap suc (sym (ap (λ c. i * c) letter_row ∙ mul-one i)) in
        subst (λ n. T (fits_of A1 (take (row_of A1).cells (drop n (z ∷ cs))))) e (h (suc i) (omega arith))

-- ---- group 3

three : form_of 3 ≡ Some A1
unfolding Table.form_of Table.form_among Table.listed_as
three = refl

letters_many : (ρ : Rules) (count : ℕ) → cells_of ρ A1 count ≡ count
unfolding Count.cells_of
letters_many ρ count = rw (letters_elements ρ count) (ap (λ c. count * c) letter_row ∙ mul-one count)

module _ (ρ : Rules) (ns : List ℕ) (cs : List ℤ) (c : checked_of ρ ns (length cs) ≡ Ok tt) (fit : fit_of ρ ns cs ≡ Ok tt) where
  enough : 19 ≤ count_of ns 3
  enough = kept_letters ns (kept_ruling ns ((Counts.first_due ρ ns (length cs) (Ok tt)).0 c).rules.kept)

  behind : cells_before ρ ns 4 ≡ cells_before ρ ns 3 + count_of ns 3
  behind = cells_next ρ ns 3 (omega arith) (omega arith) ∙ ap (λ n. cells_before ρ ns 3 + n) (cells_has ρ ns 3 A1 three ∙ letters_many ρ (count_of ns 3))

  inside : cells_before ρ ns 4 ≤ length cs
  inside = omega (arith, cells_below ρ ns 4 61 (omega arith), all_cells ρ ns, ((Counts.first_due ρ ns (length cs) (Ok tt)).0 c).needed)

  pub date_inside : cells_before ρ ns 3 + 19 ≤ length cs
  date_inside = omega (arith, enough, behind, inside)

  nineteen : cells_before ρ ns 3 + 19 - cells_before ρ ns 3 ≡ 19
  nineteen = omega arith

  pub date_letters_lem : T (every is_letter (part (cells_before ρ ns 3) (cells_before ρ ns 3 + 19) cs))
  date_letters_lem =
      let h = group_fitted ρ ns cs fit 3 A1 (omega arith) (omega arith) three in
      rw nineteen (letters_fit 19 (drop (cells_before ρ ns 3) cs) (λ i l. h i (omega (arith, enough, letters_elements ρ (count_of ns 3)))))

  pub date_same : dated_of (map size_of (part (cells_before ρ ns 3) (cells_before ρ ns 3 + 19) cs)) ≡ dated_of (date_letters ρ ns cs)
  date_same =
      let b = cells_before ρ ns 3 in
      let w : cells_before ρ ns 4 - b ≡ count_of ns 3 = omega (arith, behind) in
      let l : length (date_letters ρ ns cs) ≡ count_of ns 3 =
      length-map (part b (cells_before ρ ns 4) cs) size_of ∙ length-take (cells_before ρ ns 4 - b) (drop b cs) ∙ omega (arith, w, length-drop b cs, inside, behind) in
      let m : min 19 (cells_before ρ ns 4 - b) ≡ b + 19 - b = omega (arith, w, enough) in
      let t : take 19 (date_letters ρ ns cs) ≡ map size_of (part b (b + 19) cs) =
      sym (map_take size_of 19 (part b (cells_before ρ ns 4) cs)) ∙ ap (map size_of) (take_both 19 (cells_before ρ ns 4 - b) (drop b cs) ∙ ap (λ n. take n (drop b cs)) m) in
      ap dated_of (sym t) ∙ dated_take (date_letters ρ ns cs) 19 (omega (arith, l, enough)) (omega arith)
