-- R303: the first element of a record, group after group, whose cells fit no field of its form.
use Rattle.std.specs.Prelude.{◌≡◌, cond, List, [], ◌∷◌, ℕ, ◌*◌, ◌/◌, ◌<◌, T, ℤ, length, take, drop, Option, Some, None, Result, Ok, Err}
use Rattle.rules.specs.declared.Rules.{Rules}
use Rattle.base.specs.Every.{up_from}
use Rattle.form.specs.declared.Form.{Form}
use Rattle.form.specs.Table.{row_of, form_of}
use Rattle.form.specs.Count.{elements_of}
use Rattle.field.specs.Write.{fits_of}
use Rattle.count.specs.Tally.{count_of, cells_in}
use Rattle.reply.specs.declared.Refusal.TheVariants.{NoField}
use Rattle.reply.specs.declared.Refusal.{Refusal}

abbrev pub first_of : Result (Unit {0}) Refusal → Result (Unit {0}) Refusal → Result (Unit {0}) Refusal
first_of (Ok all) y = y
first_of (Err r) y = Err r

-- over pieces that take as many cells each as `size` says
unfoldable pub first_misfit : {A : Type 0} → (A → ℕ) → (A → List ℤ → Result (Unit {0}) Refusal) → List A → List ℤ → Result (Unit {0}) Refusal
first_misfit size fit [] cs = Ok tt
first_misfit size fit (a ∷ bs) cs = first_of (fit a (take (size a) cs)) (first_misfit size fit bs (drop (size a) cs))

abbrev pub element_fit : Form → ℕ → ℕ → List ℤ → Result (Unit {0}) Refusal
element_fit f g e c = cond (fits_of f c) (Ok tt) (Err (NoField g e))

-- R231: so many elements of group g, counted from 1
abbrev pub many_fit : Form → ℕ → ℕ → List ℤ → Result (Unit {0}) Refusal
many_fit f g many cs = first_misfit (λ (e : ℕ). (row_of f).cells) (element_fit f g) (up_from 1 many) cs

module _ (ρ : Rules) where
  unfoldable pub elements_fit : Form → ℕ → ℕ → List ℤ → Result (Unit {0}) Refusal
  elements_fit f g count cs = many_fit f g (elements_of ρ f count) cs

  abbrev pub group_fit_by : Option Form → ℕ → ℕ → List ℤ → Result (Unit {0}) Refusal
  group_fit_by (Some f) g count cs = elements_fit f g count cs
  group_fit_by None g count cs = Ok tt

  abbrev pub group_fit : List ℕ → ℕ → List ℤ → Result (Unit {0}) Refusal
  group_fit ns g cs = group_fit_by (form_of g) g (count_of ns g) cs

  -- the groups of a record
  unfoldable pub fit_of : List ℕ → List ℤ → Result (Unit {0}) Refusal
  fit_of ns cs = first_misfit (cells_in ρ ns) (group_fit ns) (up_from 1 60) cs

-- ---- all of them

-- each of the first k elements of these cells fits
abbrev pub Fitted : Form → ℕ → List ℤ → Type 0
Fitted f k cs = (i : ℕ) → i < k → T (fits_of f (take (row_of f).cells (drop (i * (row_of f).cells) cs)))

-- how many elements have these cells
abbrev pub many_of : Form → List ℤ → ℕ
many_of f cs = length cs / (row_of f).cells

-- the cells of whole elements, each of which fits
pub record AllFit (f : Form) (cs : List ℤ) : Type 0 where
  pub whole : length cs ≡ many_of f cs * (row_of f).cells
  pub each : Fitted f (many_of f cs) cs
