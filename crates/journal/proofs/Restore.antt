-- Giving old values back: what it leaves in each cell, and that doing it again alters nothing.
-- Assumes nothing.
use Rattle.std.specs.Prelude.{Option, Some, None}
use mathlib.Core.Path.{◌≡◌, refl, sym, ap, ◌∙◌}
use mathlib.Core.Bool.{Bool, true, false, cond}
use mathlib.Core.List.{List, [], ◌∷◌, ◌++◌}
use Prim.Native.Nat.{ℕ, ◌+◌, ◌-◌, ◌<◌, ◌≤◌}
use native.Mathlib.Omega.{arith}
use lib.Dec.{eqb}
use lib.IntN.{ℤ, pos}
use lib.ListN.{length, get_or, set, take, drop, take-append-drop}
use lib.Seq.{get_or-set_same, get_or-set_other, ext_get_or, drop-drop}
use borrow.Author.Tests.{eqb-true, eqb-false}
use Rattle.entry.specs.declared.Entry.{Entry}
use Rattle.entry.specs.declared.Entry.TheVariants.{Set, Open, Release, Undo, Misformed}
use Rattle.journal.specs.Layout.{spot_of, put_at}
use Rattle.journal.specs.Entries.{give_back, restore}
use Rattle.journal.proofs.Spots.{length_put}

module _ (ps : List ℕ) where
  pub length_back : (e : Entry) (t : List ℤ) → length (give_back ps e t) ≡ length t
  length_back (Set g c o n) t = length_put (spot_of ps g c) o t
  length_back (Open k) t = refl
  length_back (Release k) t = refl
  length_back (Undo k) t = refl
  length_back Misformed t = refl

  pub length_restore : (es : List Entry) (t : List ℤ) → length (restore ps es t) ≡ length t
  unfolding restore
  length_restore [] t = refl
  length_restore (e ∷ es) t = length_back e (restore ps es t) ∙ length_restore es t

  pub restore_none : (t : List ℤ) → restore ps [] t ≡ t
  unfolding restore
  restore_none t = refl

  -- two stretches: the later one first
  pub restore_append : (a b : List Entry) (t : List ℤ) → restore ps (a ++ b) t ≡ restore ps a (restore ps b t)
  unfolding restore
  restore_append [] b t = refl
  restore_append (e ∷ a) b t = ap (give_back ps e) (restore_append a b t)

  pub restore_one : (a : List Entry) (e : Entry) (t : List ℤ) → restore ps (a ++ (e ∷ [])) t ≡ restore ps a (give_back ps e t)
  unfolding restore
  restore_one a e t = restore_append a (e ∷ []) t

-- ---- cell by cell

-- cell i behind a put, where it held z before
abbrev pub put_cell : Option ℕ → ℤ → ℕ → ℤ → ℤ
put_cell (Some k) v i z = cond (eqb k i) v z
put_cell None v i z = z

abbrev pub back_cell : List ℕ → Entry → ℕ → ℤ → ℤ
back_cell ps (Set g c o n) i z = put_cell (spot_of ps g c) o i z
back_cell ps (Open k) i z = z
back_cell ps (Release k) i z = z
back_cell ps (Undo k) i z = z
back_cell ps Misformed i z = z

-- the old value of the first set of cell i among the entries, or z
unfoldable pub first_back : List ℕ → List Entry → ℕ → ℤ → ℤ
first_back ps [] i z = z
first_back ps (e ∷ es) i z = back_cell ps e i (first_back ps es i z)

set_cell : (b : Bool) (t : List ℤ) (d i : ℕ) (o : ℤ) → eqb d i ≡ b → i < length t → get_or (set t d o) i (pos 0) ≡ cond b o (get_or t i (pos 0))
set_cell true t d i o e h = rw (eqb-true d i e) (get_or-set_same t i o (pos 0) h)
set_cell false t d i o e h = get_or-set_other t d i o (pos 0) (λ q. eqb-false d i e (sym q))

put_cell_lem : (s : Option ℕ) (v : ℤ) (t : List ℤ) (i : ℕ) → i < length t → get_or (put_at s v t) i (pos 0) ≡ put_cell s v i (get_or t i (pos 0))
put_cell_lem (Some k) v t i h = set_cell (eqb k i) t k i v refl h
put_cell_lem None v t i h = refl

again : (s : Option ℕ) (f : ℤ → ℤ) (o : ℤ) (i : ℕ) (z : ℤ) → f (f z) ≡ f z → put_cell s o i (f (put_cell s o i (f z))) ≡ put_cell s o i (f z)
again (Some k) f o i z q = twice (eqb k i)
  where
    twice : (b : Bool) → cond b o (f (cond b o (f z))) ≡ cond b o (f z)
    twice true = refl
    twice false = q
again None f o i z q = q

module _ (ps : List ℕ) where
  back_cell_lem : (e : Entry) (t : List ℤ) (i : ℕ) → i < length t → get_or (give_back ps e t) i (pos 0) ≡ back_cell ps e i (get_or t i (pos 0))
  back_cell_lem (Set g c o n) t i h = put_cell_lem (spot_of ps g c) o t i h
  back_cell_lem (Open k) t i h = refl
  back_cell_lem (Release k) t i h = refl
  back_cell_lem (Undo k) t i h = refl
  back_cell_lem Misformed t i h = refl

  -- each cell comes to the old value of the first set of it
  pub restore_cell : (es : List Entry) (t : List ℤ) (i : ℕ) → i < length t → get_or (restore ps es t) i (pos 0) ≡ first_back ps es i (get_or t i (pos 0))
  unfolding restore first_back
  restore_cell [] t i h = refl
  restore_cell (e ∷ es) t i h =
      back_cell_lem e (restore ps es t) i (omega (arith, length_restore ps es t)) ∙ ap (back_cell ps e i) (restore_cell es t i h)

  first_again : (es : List Entry) (i : ℕ) (z : ℤ) → first_back ps es i (first_back ps es i z) ≡ first_back ps es i z
  unfolding first_back
  first_again [] i z = refl
  first_again (Set g c o n ∷ es) i z = again (spot_of ps g c) (first_back ps es i) o i z (first_again es i z)
  first_again (Open k ∷ es) i z = first_again es i z
  first_again (Release k ∷ es) i z = first_again es i z
  first_again (Undo k ∷ es) i z = first_again es i z
  first_again (Misformed ∷ es) i z = first_again es i z

  -- what was given back stays when it is given back again
  pub restore_again : (es : List Entry) (t : List ℤ) → restore ps es (restore ps es t) ≡ restore ps es t
  restore_again es t =
      let l : length (restore ps es t) ≡ length t = length_restore ps es t in
      let k : length (restore ps es (restore ps es t)) ≡ length (restore ps es t) = length_restore ps es (restore ps es t) in
      ext_get_or (pos 0) (restore ps es (restore ps es t)) (restore ps es t) k
      (λ i h. restore_cell es (restore ps es t) i (omega arith) ∙ ap (first_back ps es i) (restore_cell es t i (omega arith)) ∙ first_again es i (get_or t i (pos 0))
      ∙ sym (restore_cell es t i (omega arith)))

  -- a shorter stretch first makes no difference
  pub restore_within : (es : List Entry) (i k : ℕ) (t : List ℤ) → i ≤ k → restore ps (drop i es) (restore ps (drop k es) t) ≡ restore ps (drop i es) t
  restore_within es i k t h =
      let m = take (k - i) (drop i es) in
      let e : i + (k - i) ≡ k = omega arith in
      let d : drop (k - i) (drop i es) ≡ drop k es = drop-drop (k - i) i es ∙ ap (λ n. drop n es) e in
      let s : drop i es ≡ m ++ drop k es = sym (take-append-drop (k - i) (drop i es)) ∙ ap (λ l. m ++ l) d in
      ap (λ l. restore ps l (restore ps (drop k es) t)) s ∙ restore_append ps m (drop k es) (restore ps (drop k es) t)
      ∙ ap (restore ps m) (restore_again (drop k es) t) ∙ sym (restore_append ps m (drop k es) t) ∙ sym (ap (λ l. restore ps l t) s)
