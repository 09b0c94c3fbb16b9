-- Cells of whole elements that fit, the first so many and the others: each are such cells, and their texts stand one behind the other.
-- Assumes nothing.
use native.Mathlib.Nat.{add-mul, zero-mul, mul-le-mul_right, mul-div_cancel, div-eq_of_lt, suc-mul}
use Rattle.std.proofs.Common.{◌≡◌, ◌∙◌, refl, sym, ap, ap₂, List, ◌++◌, ℕ, zero, suc, ◌+◌, ◌-◌, ◌*◌, ◌/◌, ◌<◌, ◌≤◌, ◌⊎◌, inl, inr, ℤ, min, length, take, drop, take_at, drop_at, take_all, length-append, add-one, arith}
use Rattle.base.specs.Every
use Rattle.base.specs.Every.{up_from}
use Rattle.base.specs.Pieces
use Rattle.base.specs.Pieces.{emit}
use Rattle.base.proofs.Pieces.{emit_take}
use Rattle.base.proofs.UpFrom.{sum_up_same}
use Rattle.base.proofs.Order.{le_or_lt}
use Rattle.form.specs.declared.Form.{Form}
use Rattle.form.specs.Table.{row_of}
use Rattle.form.specs.Count.{rounded_up, Takes}
use Rattle.form.proofs.Rounding.{lines_are}
use Rattle.field.specs.Write.{field_text}
use Rattle.reading.specs.Plan
use Rattle.reading.specs.Plan.{Line, line_at, plan_from}
use Rattle.writing.specs.Fitting.{Fitted, many_of, AllFit}
use Rattle.writing.specs.Text.{line_end, line_cells, fields_text, line_text, line_of_many, many_text}
use Rattle.writing.proofs.Rows.{some_cells, some_elements}
use Rattle.writing.proofs.Fitting.{fitted_drop, fitted_take}

pub min_times : (p n c : ℕ) → min (p * c) (n * c) ≡ min p n * c
min_times p n c = by (le_or_lt p n)
  where
    by : (p ≤ n) ⊎ (n < p) → min (p * c) (n * c) ≡ min p n * c
    by (inl u) = let e : min p n ≡ p = omega arith in omega (arith, mul-le-mul_right {m = p} {n = n} c u, ap (λ i. i * c) e)
    by (inr u) = let e : min p n ≡ n = omega arith in omega (arith, mul-le-mul_right {m = n} {n = p} c (omega arith), ap (λ i. i * c) e)

module _ (f : Form) where
  pub many_is : (n : ℕ) (cs : List ℤ) → length cs ≡ n * (row_of f).cells → many_of f cs ≡ n
  many_is n cs l = ap (λ m. m / (row_of f).cells) l ∙ mul-div_cancel n (some_cells f)

  pub all_fit : (n : ℕ) (cs : List ℤ) → length cs ≡ n * (row_of f).cells → Fitted f n cs → AllFit f cs
  all_fit n cs l h = let e = many_is n cs l in record { whole = rw e l; each = rw e h }

  -- cells that are too few for an element are none
  pub none_fit : (cs : List ℤ) → AllFit f cs → length cs < (row_of f).cells → many_of f cs ≡ 0
  none_fit cs a h = div-eq_of_lt h

  module _ (k : ℕ) (x r : List ℤ) (l : length x ≡ k * (row_of f).cells) (a : AllFit f (x ++ r)) where
    abbrev n : ℕ
    n = many_of f (x ++ r)

    fewer : k ≤ n
    fewer = by (le_or_lt (n + 1) k)
      where
        by : (n + 1 ≤ k) ⊎ (k < n + 1) → k ≤ n
        by (inl u) = absurd (omega (arith, a.whole, l, length-append x r, mul-le-mul_right (row_of f).cells u, add-one n, suc-mul n (row_of f).cells, some_cells f))
        by (inr u) = omega arith

    rest_long : length r ≡ (n - k) * (row_of f).cells
    rest_long =
        let e : n ≡ k + (n - k) = omega (arith, fewer) in
        omega (arith, a.whole, l, length-append x r, ap (λ m. m * (row_of f).cells) e, add-mul k (n - k) (row_of f).cells)

    rest_many : many_of f r ≡ n - k
    rest_many = many_is (n - k) r rest_long

    pub many_both : n ≡ k + many_of f r
    many_both = omega (arith, rest_many, fewer)

    pub front_fits : AllFit f x
    front_fits = all_fit k x l (rw (take_at x r (k * (row_of f).cells) l) at (fitted_take f n k (x ++ r) fewer a.each))

    pub rest_fits : AllFit f r
    rest_fits = all_fit (n - k) r rest_long (rw (drop_at x r (k * (row_of f).cells) l) at (fitted_drop f n k (x ++ r) a.each))

-- ---- texts whatever their numbers are

module _ (f : Form) where
  abbrev size : ℕ → ℕ
  size e = (row_of f).cells

  abbrev text : ℕ → List ℤ → List ℕ
  text e c = field_text f c

  -- fields are the same whatever their numbers are
  emit_any : (a b k : ℕ) (cs : List ℤ) → emit size text (up_from a k) cs ≡ emit size text (up_from b k) cs
  unfolding Pieces.emit Every.up_from
  emit_any a b zero cs = refl
  emit_any a b (suc k) cs = ap (λ y. field_text f (take (row_of f).cells cs) ++ y) (emit_any (suc a) (suc b) k (drop (row_of f).cells cs))

  -- a line's text is the same wherever it stands in its group, and takes no cells but its own
  pub line_any : (l : Line) (cs : List ℤ) → line_text f l (take (line_cells f l) cs) ≡ line_text f (line_of_many l.many) cs
  unfolding line_text fields_text
  line_any l cs =
      ap (λ y. y ++ line_end)
      (emit_take size text (up_from l.first l.many) cs (line_cells f l) (omega (arith, sum_up_same (row_of f).cells l.first l.many))
      ∙ emit_any l.first 1 l.many cs)

-- ---- a line's first field and the others

pub fields_first : (f : Form) (m : ℕ) (x r : List ℤ) → length x ≡ (row_of f).cells → fields_text f (line_of_many (suc m)) (x ++ r) ≡ field_text f x ++ fields_text f (line_of_many m) r
unfolding fields_text Pieces.emit Every.up_from
fields_first f m x r l = rw (take_at x r (row_of f).cells l, drop_at x r (row_of f).cells l) (ap (λ y. field_text f x ++ y) (emit_any f 2 1 m r))

-- ---- a group's first line and the others

module _ (f : Form) where
  abbrev p : ℕ
  p = (row_of f).per_line

  -- lines are the same whatever their numbers are
  lines_any : (n j q : ℕ) (cs : List ℤ) → emit (line_cells f) (line_text f) (plan_from p n (suc j) q) cs ≡ emit (line_cells f) (line_text f) (plan_from p (n - p) j q) cs
  unfolding Plan.plan_from Pieces.emit Every.up_from
  lines_any n j zero cs = refl
  lines_any n j (suc q) cs =
      let m : (line_at p n (suc j)).many ≡ (line_at p (n - p) j).many = omega (arith, suc-mul j p) in
      ap₂ ◌++◌
      (line_any f (line_at p n (suc j)) cs ∙ ap (λ k. line_text f (line_of_many k) cs) m ∙ sym (line_any f (line_at p (n - p) j) cs))
      (ap (λ k. emit (line_cells f) (line_text f) (plan_from p n (suc (suc j)) q) (drop (k * (row_of f).cells) cs)) m
      ∙ lines_any n (suc j) q (drop ((line_at p (n - p) j).many * (row_of f).cells) cs))

  -- one line fewer
  rounded_more : (n : ℕ) → 0 < n → rounded_up n p ≡ suc (rounded_up (n - p) p)
  rounded_more n h =
      (lines_are n p (some_elements f) (suc few)).1 record {
        enough = omega (arith, suc-mul few p, takes.enough);
        needed = λ l. needed few takes.needed;
      }
    where
      few : ℕ
      few = rounded_up (n - p) p

      takes : Takes (n - p) p few
      takes = (lines_are (n - p) p (some_elements f) few).0 refl

      needed : (k : ℕ) → (0 < k → (k - 1) * p < n - p) → (suc k - 1) * p < n
      needed zero g = let e : suc zero - 1 ≡ 0 = omega arith in rw (e, zero-mul p) h
      needed (suc k) g =
          let e : suc (suc k) - 1 ≡ suc k = omega arith in
          let d : suc k - 1 ≡ k = omega arith in
          rw e (omega (arith, suc-mul k p, rw d at (g (omega arith))))

  pub lines_first : (k m : ℕ) (x r : List ℤ) → length x ≡ k * (row_of f).cells → 0 < k → k ≡ min p (k + m) → many_text f (k + m) (x ++ r) ≡ line_text f (line_of_many k) x ++ many_text f m r
  unfolding many_text Plan.plan_from Pieces.emit Every.up_from
  lines_first k m x r l h e =
      let here = line_at p (k + m) 0 in
      let q : rounded_up (k + m) p ≡ suc (rounded_up (k + m - p) p) = rounded_more (k + m) (omega arith) in
      let d : k + m - p ≡ m = omega arith in
      let u : here.many ≡ k = omega (arith, zero-mul p) in
      let n : here.many * (row_of f).cells ≡ k * (row_of f).cells = ap (λ i. i * (row_of f).cells) u in
      let front : take (line_cells f here) (x ++ r) ≡ x = ap (λ i. take i (x ++ r)) n ∙ take_at x r (k * (row_of f).cells) l in
      let behind : drop (line_cells f here) (x ++ r) ≡ r = ap (λ i. drop i (x ++ r)) n ∙ drop_at x r (k * (row_of f).cells) l in
      ap (λ i. emit (line_cells f) (line_text f) (plan_from p (k + m) 0 i) (x ++ r)) q
      ∙ ap₂ ◌++◌
      (ap (line_text f here) (front ∙ sym (take_all (line_cells f here) x (omega arith))) ∙ line_any f here x ∙ ap (λ i. line_text f (line_of_many i) x) u)
      (ap (emit (line_cells f) (line_text f) (plan_from p (k + m) 1 (rounded_up (k + m - p) p))) behind
      ∙ lines_any (k + m) 0 (rounded_up (k + m - p) p) r
      ∙ ap (λ i. emit (line_cells f) (line_text f) (plan_from p i 0 (rounded_up i p)) r) d)
