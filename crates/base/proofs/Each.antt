-- A text that is pieces: how many cells and bytes it has; what is read from it, whatever stands behind, and that what is read as a whole is
-- such a text; that it is what is written, and what is written is such a text; pieces of pieces; a piece among the others.
-- Assumes nothing.
use mathlib.Core.Path.{◌≡◌, refl, sym, ◌∙◌, ap, ap₂, subst}
use mathlib.Core.Bool.{Bool}
use mathlib.Core.List.{List, [], ◌∷◌, ◌++◌, map, flat_map, append_assoc}
use Prim.Native.Nat.{ℕ, zero, suc, ◌+◌, ◌<◌}
use native.Mathlib.Omega.{arith}
use lib.Dec.{T}
use lib.ListN.{length, take, drop, get_or, length-append, length-drop, take-append-drop}
use lib.Seq.{take-append_seam, drop-append_seam, take_at, drop_at, length-take-le}
use Rattle.base.specs.Every.{every}
use Rattle.base.specs.Pieces.{Got, done, gather, emit, Own, Each, none, more}
use Rattle.base.specs.Sum.{sum}
use Rattle.base.proofs.Choice.{and_left, and_right}
use Rattle.base.proofs.Pieces.{both_done}

-- pieces read as their cells, each as wide as it is found to be, whatever stands behind it
pub record Gathers {A B C : Type 0} (P : A → List ℕ → List C → Type 0) (wide : A → List ℕ → ℕ) (read : A → List ℕ → Got B C) : Type 0 where
  pub back : (a : A) (x : List ℕ) (c : List C) → P a x c → read a x ≡ done c
  pub exact : (a : A) (x : List ℕ) (c : List C) (b : List ℕ) → P a x c → wide a (x ++ b) ≡ length x

module _ {A C : Type 0} {P : A → List ℕ → List C → Type 0} where
  -- as many cells, and as many bytes, as all pieces together
  pub each_cells : (size : A → ℕ) → ((a : A) (x : List ℕ) (c : List C) → P a x c → length c ≡ size a) → (bs : List A) (s : List ℕ) (cs : List C) → Each P bs s cs → length cs ≡ sum (map size bs)
  unfolding sum
  each_cells size l [] [] [] none = refl
  each_cells size l (a ∷ bs) s cs (more x c {y} {d} p h) =
      length-append c d ∙ ap₂ ◌+◌ (l a x c p) (each_cells size l bs y d h)
  each_cells size l [] [] (_ ∷ _) x5 = elim x5 [ ]
  each_cells size l [] (_ ∷ _) cs x5 = elim x5 [ ]

  pub each_bytes : (size : A → ℕ) → ((a : A) (x : List ℕ) (c : List C) → P a x c → length x ≡ size a) → (bs : List A) (s : List ℕ) (cs : List C) → Each P bs s cs → length s ≡ sum (map size bs)
  unfolding sum
  each_bytes size l [] [] [] none = refl
  each_bytes size l (a ∷ bs) s cs (more x c {y} {d} p h) =
      length-append x y ∙ ap₂ ◌+◌ (l a x c p) (each_bytes size l bs y d h)
  each_bytes size l [] [] (_ ∷ _) x5 = elim x5 [ ]
  each_bytes size l [] (_ ∷ _) cs x5 = elim x5 [ ]

  -- pieces that hold of another statement too
  pub each_imply : {Q : A → List ℕ → List C → Type 0} → ((a : A) (x : List ℕ) (c : List C) → P a x c → Q a x c) → (bs : List A) (s : List ℕ) (cs : List C) → Each P bs s cs → Each Q bs s cs
  each_imply f [] [] [] none = none
  each_imply f (a ∷ bs) s cs (more x c {y} {d} p h) = more x c (f a x c p) (each_imply f bs y d h)
  each_imply {Q = Q} f [] [] (_ ∷ _) x5 = elim x5 [ ]
  each_imply {Q = Q} f [] (_ ∷ _) cs x5 = elim x5 [ ]

  -- a test that every piece passes
  pub each_passed : (f : A → Bool) (bs : List A) (s : List ℕ) (cs : List C) → T (every f bs) → Each P bs s cs → Each (λ a x c. T (f a) × P a x c) bs s cs
  each_passed f [] [] [] t none = none
  each_passed f (a ∷ bs) s cs t (more x c {y} {d} p h) =
      more x c (and_left (f a) (every f bs) t, p) (each_passed f bs y d (and_right (f a) (every f bs) t) h)
  each_passed f [] [] (_ ∷ _) t x8 = elim x8 [ ]
  each_passed f [] (_ ∷ _) cs t x7 = elim x7 [ ]

  -- pieces that are gathered so: all cells are read
  pub each_gather : {B : Type 0} {wide : A → List ℕ → ℕ} {read : A → List ℕ → Got B C} → Gathers P wide read → (bs : List A) (s : List ℕ) (cs : List C) (b : List ℕ)
      → Each P bs s cs → gather wide read bs (s ++ b) ≡ done cs
  unfolding gather
  each_gather g [] [] [] b none = refl
  each_gather g (a ∷ bs) s cs b (more x c {y} {d} p h) =
      rw (append_assoc x y b, g.exact a x c (y ++ b) p, take-append_seam x (y ++ b), drop-append_seam x (y ++ b), g.back a x c p, each_gather g bs y d b h)
  each_gather {B = B} {wide = wide} {read = read} g [] [] (_ ∷ _) b x5 = elim x5 [ ]
  each_gather {B = B} {wide = wide} {read = read} g [] (_ ∷ _) cs b x5 = elim x5 [ ]

  -- pieces that are the texts of their cells: the whole is what is written for all cells
  pub each_emit : (size : A → ℕ) (text : A → List C → List ℕ) → ((a : A) (x : List ℕ) (c : List C) → P a x c → (x ≡ text a c) × (length c ≡ size a))
      → (bs : List A) (s : List ℕ) (cs : List C) → Each P bs s cs → s ≡ emit size text bs cs
  unfolding emit
  each_emit size text t [] [] [] none = refl
  each_emit size text t (a ∷ bs) s cs (more x c {y} {d} p h) =
      let u = t a x c p in
      rw (take_at c d (size a) u.1, drop_at c d (size a) u.1) (ap₂ ◌++◌ u.0 (each_emit size text t bs y d h))
  each_emit size text t [] [] (_ ∷ _) x5 = elim x5 [ ]
  each_emit size text t [] (_ ∷ _) cs x5 = elim x5 [ ]

-- what is written for pieces, each of which has its own cells and a text for them
pub own_each : {A C : Type 0} {P : A → List ℕ → List C → Type 0} (size : A → ℕ) (text : A → List C → List ℕ) (Q : A → List C → Type 0)
    → ((a : A) (c : List C) → length c ≡ size a → Q a c → P a (text a c) c) → (bs : List A) (cs : List C) → length cs ≡ sum (map size bs) → Own size Q bs cs → Each P bs (emit size text bs cs) cs
unfolding sum emit Own
own_each size text Q t [] [] l o = none
own_each size text Q t [] (c ∷ cs) l o = absurd (omega arith)
own_each {P = P} size text Q t (a ∷ bs) cs l o =
    let c = take (size a) cs in
    let d = drop (size a) cs in
    let r : length d ≡ sum (map size bs) = length-drop (size a) cs ∙ omega arith in
    subst (Each P (a ∷ bs) (text a c ++ emit size text bs d)) (take-append-drop (size a) cs)
    (more (text a c) c (t a c (length-take-le (size a) cs (omega arith)) o.0) (own_each size text Q t bs d r o.1))

-- and back: each piece has its own cells
module _ {A C : Type 0} {P : A → List ℕ → List C → Type 0} where
  pub each_own : (size : A → ℕ) (Q : A → List C → Type 0) → ((a : A) (x : List ℕ) (c : List C) → P a x c → (length c ≡ size a) × Q a c) → (bs : List A) (s : List ℕ) (cs : List C)
      → Each P bs s cs → Own size Q bs cs
  unfolding Own
  each_own size Q t [] [] [] none = tt
  each_own size Q t (a ∷ bs) s cs (more x c {y} {d} p h) =
      let u = t a x c p in
      rw (take_at c d (size a) u.0, drop_at c d (size a) u.0) (u.1, each_own size Q t bs y d h)
  each_own size Q t [] [] (_ ∷ _) x5 = elim x5 [ ]
  each_own size Q t [] (_ ∷ _) cs x5 = elim x5 [ ]

-- texts and cells of pieces, one behind the other
pub flat_each : {A C : Type 0} (text : A → List ℕ) (cells : A → List C) (bs : List A) → Each (λ a x c. (x ≡ text a) × (c ≡ cells a)) bs (flat_map text bs) (flat_map cells bs)
unfolding flat_map
flat_each text cells [] = none
flat_each text cells (a ∷ bs) = more (text a) (cells a) (refl, refl) (flat_each text cells bs)

-- some text is pieces with these cells
pub record Pieced {A C : Type 0} (P : A → List ℕ → List C → Type 0) (bs : List A) (cs : List C) : Type 0 where
  pub text : List ℕ
  pub each : Each P bs text cs

-- what is read as a whole is the pieces that were read
pub gather_each : {A B C : Type 0} (wide : A → List ℕ → ℕ) (read : A → List ℕ → Got B C) (bs : List A) (s : List ℕ) (cs : List C) → gather wide read bs s ≡ done cs
    → Pieced (λ a x c. read a x ≡ done c) bs cs
unfolding gather
gather_each {A} {B} {C} wide read [] s cs e =
    let z : [] ≡ cs = cc in
    subst (Pieced (λ a x c. read a x ≡ done c) []) z record { text = []; each = none }
gather_each {A} {B} {C} wide read (a ∷ bs) s cs e =
    let x = take (wide a s) s in
    let d = both_done (read a x) (gather wide read bs (drop (wide a s) s)) cs e in
    let r = gather_each wide read bs (drop (wide a s) s) d.second d.second_is in
    subst (Pieced (λ a x c. read a x ≡ done c) (a ∷ bs)) (sym d.all) record { text = x ++ r.text; each = more x d.first d.first_is r.each }

-- pieces behind one another
pub each_append : {A C : Type 0} {P : A → List ℕ → List C → Type 0} (ks bs : List A) (s t : List ℕ) (cs ds : List C) → Each P ks s cs → Each P bs t ds → Each P (ks ++ bs) (s ++ t) (cs ++ ds)
each_append [] bs [] t [] ds none k = k
each_append {P = P} (a ∷ ks) bs s t cs ds (more x c {y} {d} p h) k =
    subst (λ z. Each P (a ∷ (ks ++ bs)) z ((c ++ d) ++ ds)) (sym (append_assoc x y t))
    (subst (Each P (a ∷ (ks ++ bs)) (x ++ (y ++ t))) (sym (append_assoc c d ds)) (more x c p (each_append ks bs y t d ds h k)))
each_append {A = A} {C = C} {P = P} [] bs [] t (_ ∷ _) ds x8 k = elim x8 [ ]
each_append {A = A} {C = C} {P = P} [] bs (_ ∷ _) t cs ds x7 k = elim x7 [ ]

-- pieces that are pieces themselves
pub each_flat : {A B C : Type 0} {P : B → List ℕ → List C → Type 0} (inner : A → List B) (ks : List A) (s : List ℕ) (cs : List C) → Each (λ a x c. Pieced P (inner a) c) ks s cs
    → Pieced P (flat_map inner ks) cs
unfolding flat_map
each_flat inner [] [] [] none = record { text = []; each = none }
each_flat inner (a ∷ ks) s cs (more x c {y} {d} p h) =
    let r = each_flat inner ks y d h in
    record { text = p.text ++ r.text; each = each_append (inner a) (flat_map inner ks) p.text r.text c d p.each r.each }
each_flat {A = A} {B = B} {C = C} {P = P} inner [] [] (_ ∷ _) x5 = elim x5 [ ]
each_flat {A = A} {B = B} {C = C} {P = P} inner [] (_ ∷ _) cs x5 = elim x5 [ ]

-- piece k of the pieces, with what stands before it and behind it
pub record Among {A C : Type 0} (P : A → List ℕ → List C → Type 0) (bs : List A) (k : ℕ) (a : A) (s : List ℕ) (cs : List C) : Type 0 where
  pub first : List ℕ
  pub itself : List ℕ
  pub rest : List ℕ
  pub first_cells : List C
  pub cells : List C
  pub rest_cells : List C
  pub before : Each P (take k bs) first first_cells
  pub holds : P a itself cells
  pub text : s ≡ first ++ (itself ++ rest)
  pub all : cs ≡ first_cells ++ (cells ++ rest_cells)

pub among : {A C : Type 0} {P : A → List ℕ → List C → Type 0} (o : A) (bs : List A) (k : ℕ) (s : List ℕ) (cs : List C) → k < length bs → Each P bs s cs → Among P bs k (get_or bs k o) s cs
among o [] k s cs l h = absurd (omega arith)
among o (a ∷ bs) zero s cs l (more x c {y} {d} p h) =
    record { first = []; itself = x; rest = y; first_cells = []; cells = c; rest_cells = d; before = none; holds = p; text = refl; all = refl }
among o (a ∷ bs) (suc k) s cs l (more x c {y} {d} p h) =
    let m = among o bs k y d (omega arith) h in
    record {
      first = x ++ m.first;
      itself = m.itself;
      rest = m.rest;
      first_cells = c ++ m.first_cells;
      cells = m.cells;
      rest_cells = m.rest_cells;
      before = more x c p m.before;
      holds = m.holds;
      text = ap (λ (z : List ℕ). x ++ z) m.text ∙ sym (append_assoc x m.first (m.itself ++ m.rest));
      all = ap (λ z. c ++ z) m.all ∙ sym (append_assoc c m.first_cells (m.cells ++ m.rest_cells));
    }
