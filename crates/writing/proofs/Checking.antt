-- The first pass over the cells: its state as it comes to an element of a group, and to a group; one that fits, one that doesn't, and the end.
-- Assumes nothing.
use native.Mathlib.Nat.{mul-le-mul_right, mul-div_cancel}
use denote.Ref.{Bor}
use denote.Param.Members.{Mut}
use Rattle.std.proofs.Common.{◌≡◌, ◌∙◌, refl, sym, ap, Bool, true, false, not, List, [], map, ℕ, ◌+◌, ◌-◌, ◌*◌, ◌/◌, ◌<◌, ◌≤◌, ◌⊎◌, inl, inr, ℤ, length, take, drop, drop-drop, length-take, length-drop, Option, Some, None, Result, Ok, Err, option_map, IfSome, IsSomeAnd, MatchOption, IsTrue, arith}
use Rattle.std.specs.Fn.{Called}
use Rattle.std.specs.List.{IsSubsliceAt}
use Rattle.std.specs.Iterator.Runs.{Run, IsChunksExactRun, AllItemsGive, IsFirstToGive}
use Rattle.rules.specs.declared.Rules.{Rules}
use Rattle.base.specs.Every
use Rattle.base.specs.Every.{up_from}
use Rattle.base.specs.Part.{part}
use Rattle.base.specs.Sum.{sum}
use Rattle.base.proofs.Order.{le_or_lt}
use Rattle.base.proofs.Taken.{drop_none}
use Rattle.base.proofs.UpFrom.{up_more, up_own, sum_up_same}
use Rattle.form.specs.declared.Form.{Form}
use Rattle.form.specs.Table.{row_of, form_of}
use Rattle.form.specs.Count
use Rattle.form.specs.Count.{elements_of, cells_of}
use Rattle.field.specs.Write.{fits_of}
use Rattle.count.specs.Tally.{count_of, cells_in, cells_before}
use Rattle.count.proofs.Tallied.{cells_has, cells_first, cells_next, cells_below}
use Rattle.writing.specs.Fitting.{first_of, first_misfit, element_fit, many_fit, elements_fit, group_fit, fit_of}
use Rattle.writing.proofs.Fitting.{elements_take, own_misfit}
use Rattle.writing.proofs.Rows.{some_cells}
use Rattle.writing.proofs.Misfits.{found_first}
use Rattle.reply.specs.declared.Refusal.{Refusal}
use Rattle.reply.specs.declared.Refusal.TheVariants.{NoField}

-- ---- the elements of a group, by the chunks of its cells

module _ (f : Form) (g n : ℕ) (cs : List ℤ) where
  abbrev cells_at : ℕ → List ℤ
  cells_at i = take (row_of f).cells (drop (i * (row_of f).cells) cs)

  element_at : (i : ℕ) → element_fit f g (1 + i) (take (row_of f).cells (drop (sum (map (λ (e : ℕ). (row_of f).cells) (up_from 1 i))) cs)) ≡ element_fit f g (1 + i) (cells_at i)
  element_at i = ap (λ m. element_fit f g (1 + i) (take (row_of f).cells (drop m cs))) (sum_up_same (row_of f).cells 1 i)

  elements_good : ((i : ℕ) → i < n → fits_of f (cells_at i) ≡ true) → Ok tt ≡ many_fit f g n cs
  elements_good h =
      sym
      (own_misfit (λ (e : ℕ). (row_of f).cells) (element_fit f g) (up_from 1 n) cs
      (up_own (λ (e : ℕ). (row_of f).cells) (λ e c. element_fit f g e c ≡ Ok tt) 1 n cs (λ i l. element_at i ∙ rw (h i l))))

  pub elements_bad : (e : ℕ) → e < n → ((i : ℕ) → i < e → fits_of f (cells_at i) ≡ true) → fits_of f (cells_at e) ≡ false → Err (NoField g (e + 1)) ≡ many_fit f g n cs
  elements_bad e l h b =
      let k : e + 1 ≡ 1 + e = omega arith in
      sym
      (found_first (λ (e : ℕ). (row_of f).cells) (element_fit f g) 1 n cs (NoField g (e + 1)) record {
        at = e;
        inside = l;
        earlier = λ i m. element_at i ∙ rw (h i m);
        told = element_at e ∙ rw (b, k);
      })

-- what `position` of the first that fits no field gives
abbrev pub found : ℕ → Option ℕ → Result (Unit {0}) Refusal
found g None = Ok tt
found g (Some e) = Err (NoField g (e + 1))

module _ {S F : Type 0} {steps : S → Option (Bor (List ℤ)) → S → Type 0} (p : Run steps) (f : Form) (g n : ℕ) (cs : List ℤ) (long : length cs ≡ n * (row_of f).cells)
    (chunks : IsChunksExactRun p (row_of f).cells cs) (m : Mut F (Bor (List ℤ) × Unit {0}) Bool) (c : F)
    (asks : (a : Bor (List ℤ) × Unit {0}) (r : Bool) (c' : F) → Called m c a r c' → (c' ≡ c) × (r ≡ not (fits_of f a.0.now))) where
  keeps : (a : Bor (List ℤ) × Unit {0}) (r : Bool) (c' : F) → Called m c a r c' → c' ≡ c
  keeps a r c' k = (asks a r c' k).0

  turned : (b r : Bool) → r ≡ not b → b ≡ not r
  turned true r e = rw e refl
  turned false r e = rw e refl

  -- item k is there, and what was answered of it was answered of the cells of element k
  answered : (k : ℕ) (r : Bool) (o : Option (Bor (List ℤ))) → IsSomeAnd o (λ x. Called m c (x, tt) r c) → IfSome o (λ x. (length x.now ≡ (row_of f).cells) × (k * (row_of f).cells + (row_of f).cells ≤ length cs) × IsSubsliceAt (row_of f).cells cs (k * (row_of f).cells) x.now)
      → (fits_of f (cells_at f g n cs k) ≡ not r) × (k * (row_of f).cells + (row_of f).cells ≤ length cs)
  answered k r None h a = absurd h
  answered k r (Some x) h a = (ap (fits_of f) (sym a.2.0) ∙ turned (fits_of f x.now) r (asks (x, tt) r c h).1, a.1)

  there : (B : Bor (List ℤ) → Type 0) {v : Bor (List ℤ)} (o : Option (Bor (List ℤ))) → option_map (λ (y : Bor (List ℤ)). y) o ≡ Some v → IfSome o B → IsSomeAnd o B
  there B None e h = cc
  there B (Some x) e h = h

  within : (e : ℕ) → e * (row_of f).cells + (row_of f).cells ≤ length cs → e < n
  within e h = by (le_or_lt n e)
    where
      by : (n ≤ e) ⊎ (e < n) → e < n
      by (inl u) = absurd (omega (arith, long, mul-le-mul_right {m = n} {n = e} (row_of f).cells u, some_cells f))
      by (inr u) = u

  pub elements_run : (r : Option ℕ) → MatchOption r (IsTrue p.whole × AllItemsGive p m c false) (λ i. (p.len ≡ i + 1) × IsFirstToGive p m c true false i) → found g r ≡ many_fit f g n cs
  elements_run None h =
      elements_good f g n cs (λ i l.
      let many : p.len ≡ n = chunks.1 h.0 ∙ ap (λ k. k / (row_of f).cells) long ∙ mul-div_cancel n (some_cells f) in
      (answered i false (p.at i) (there _ (p.at i) (p.reads i record { ref_ptr = (0, 0); now = [] } (omega arith)) (h.1 keeps i)) (chunks.2 i)).0)
  elements_run (Some e) h =
      let a = h.1 keeps in
      let b = answered e true (p.at e) a.0 (chunks.2 e) in
      elements_bad f g n cs e (within e b.1) (λ i l. (answered i false (p.at i) (a.1 i l) (chunks.2 i)).0) b.0

-- those of a count: what was told of its cells alone
module _ (ρ : Rules) (f : Form) (count g : ℕ) (cs : List ℤ) (from to : ℕ) where
  pub elements_told : {r : Result (Unit {0}) Refusal} → to ≡ from + cells_of ρ f count → to ≤ length cs
      → ((n : ℕ) → length (part from to cs) ≡ n * (row_of f).cells → r ≡ many_fit f g n (part from to cs)) → r ≡ elements_fit ρ f g count (drop from cs)
  unfolding elements_fit Count.cells_of
  elements_told e h t =
      let k : to - from ≡ elements_of ρ f count * (row_of f).cells = omega arith in
      let l : length (part from to cs) ≡ elements_of ρ f count * (row_of f).cells = simp (length-take, length-drop) (omega arith) in
      t (elements_of ρ f count) l ∙ ap (λ k. elements_fit ρ f g count (take k (drop from cs))) k ∙ elements_take ρ f g count (drop from cs)

-- ---- the groups

-- groups 1 to g - 1 have been found to fit, and the next has its cells from `from` on
pub record Groups (ρ : Rules) (ns : List ℕ) (cs : List ℤ) (from g : ℕ) : Type 0 where
  pub low : 1 ≤ g
  pub high : g ≤ 61
  pub place : from ≡ cells_before ρ ns g
  pub same : first_misfit (cells_in ρ ns) (group_fit ρ ns) (up_from g (61 - g)) (drop from cs) ≡ fit_of ρ ns cs

module _ (ρ : Rules) (ns : List ℕ) (cs : List ℤ) where
  pub groups_start : Groups ρ ns cs 0 1
  unfolding fit_of
  groups_start = record { low = omega arith; high = omega arith; place = sym (cells_first ρ ns); same = ap (first_misfit (cells_in ρ ns) (group_fit ρ ns) (up_from 1 60)) (drop_none cs) }

  module _ {from g : ℕ} (b : Groups ρ ns cs from g) where
    pub groups_end : 61 ≤ g → Ok tt ≡ fit_of ρ ns cs
    unfolding first_misfit Every.up_from
    groups_end h = let z : 61 - g ≡ 0 = omega arith in rw z at b.same

    module _ (h : g < 61) (f : Form) (e : form_of g ≡ Some f) (n : ℕ) (c : n ≡ count_of ns g) where
      next : cells_before ρ ns (g + 1) ≡ from + cells_of ρ f n
      next = cells_next ρ ns g (omega (arith, b.low)) h ∙ rw (b.place, c, cells_has ρ ns g f e)

      pub group_range : length cs ≡ cells_before ρ ns 61 → from + cells_of ρ f n ≤ length cs
      group_range l = omega (arith, next, cells_below ρ ns (g + 1) 61 (omega arith))

      step : first_misfit (cells_in ρ ns) (group_fit ρ ns) (up_from g (61 - g)) (drop from cs) ≡ first_of (elements_fit ρ f g n (drop from cs))
          (first_misfit (cells_in ρ ns) (group_fit ρ ns) (up_from (g + 1) (61 - (g + 1))) (drop (from + cells_of ρ f n) cs))
      unfolding first_misfit
      step =
          let z : cells_in ρ ns g ≡ cells_of ρ f n = cells_has ρ ns g f e ∙ ap (cells_of ρ f) (sym c) in
          let t : group_fit ρ ns g (take (cells_of ρ f n) (drop from cs)) ≡ elements_fit ρ f g n (drop from cs) = rw (e, ← c) (elements_take ρ f g n (drop from cs)) in
          ap (λ l. first_misfit (cells_in ρ ns) (group_fit ρ ns) l (drop from cs)) (up_more g 60 (omega arith)) ∙ rw (z, drop-drop (cells_of ρ f n) from cs, t)

      all_more : first_of (elements_fit ρ f g n (drop from cs)) (first_misfit (cells_in ρ ns) (group_fit ρ ns) (up_from (g + 1) (61 - (g + 1))) (drop (from + cells_of ρ f n) cs)) ≡ fit_of ρ ns cs
      all_more = sym step ∙ b.same

      pub groups_more : elements_fit ρ f g n (drop from cs) ≡ Ok tt → Groups ρ ns cs (from + cells_of ρ f n) (g + 1)
      groups_more t = record { low = omega arith; high = omega arith; place = sym next; same = rw t at all_more }

      pub groups_bad : {why : Refusal} → elements_fit ρ f g n (drop from cs) ≡ Err why → Err why ≡ fit_of ρ ns cs
      groups_bad t = rw t at all_more
