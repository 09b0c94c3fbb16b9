-- R289: a question asked with a view is the same question asked with the view's text and its record, said once of code that takes a view apart and
-- calls a function (`asks`): it answers what that one answers (`walk`), whatever is promised, if its calls mean what a fixed environment says. The check
-- proves the contracts of this crate's questions by itself, and none of their proofs stands on this law. What the view owns is what its text and its record own (`apart`). So what is promised
-- of the text and the record is what is promised of the view, no more and no less (`asked`). Of the function that is called, only its contract is known.
-- Assumes nothing.
use mathlib.Core.Path.{◌≡◌, refl, subst}
use mathlib.Core.Bool.{true}
use mathlib.Core.List.{List, [], ◌∷◌}
use lib.Dec.{T as Holds}
use lib.ListN.{length}
use seplogic.Ra.Ura.{Ura}
use mir.Syntax.{Callee, named, erased, imm, w8, w64, Ty, ty_int, ty_ref, field, place, copy, rv_opd, assign, seq, call, return, local, value_local, Fn}
use mir.Val.{Val, WT, has_ty, vint, vstruct}
use mir.Facts.{and_yes}
use base.Logic.{SProp, ent, sep, guard, emp, via, id⊢}
use base.Fml.{Fml, ftrue, flft}
use prog.Model.{Model}
use prog.Routine.{Routine}
use prog.Wp.{Calls, Loops, WpFn}
use types.Logic.{Logic, sem}
use contract.Lifetimes.{Lfts, Shares}
use contract.Running.{Running, tables}
use types.Kit.{‵, raw, ◌⊛◌, given, some, later, ◌$◌, ◌∵◌, !, qed, move, drop, use1, split, join, learn, pick, fsplit, fjoin, frame, check, show}
use types.Kit.{now as at_once, updating, await, done}
use types.Part.{whole, sub, look_in}
use types.Run.{look, init, forget, stop, fld, from, load, of_opd, and_then, no_more, assigns, land, returns}
use types.Run.{enter, alloc1, alloc0, params1, pass1, pass0, free1, free0}
use sound.WpLaws.{FmC, fm→mono_c}
use denote.RattleType.{Denots, Valss, owns, flat}
use denote.Laws.{Is, Ises, Are, Lawful, Typed, shows}
use denote.Plain.{uint_vals, uint_Tells}
use denote.Builtin.{u8, usize, SliceRefOf}
use denote.Exit.{yes}
use denote.Signature.{Slot, Signature, plain, named_lft, types_at}
use denote.Slice.{slice_val, slice_ty}
use denote.Steps.{peeks}
use denote.Struct.At.{spelled}
use denote.Struct.Declared.{Declared}
use denote.Struct.Laws as LL
use denote.Struct.Rest.{all_own, own_open}
use denote.Struct.Values.{Values}
use denote.Triple.Call.{calls_from}
use denote.Triple.End.{Fins, lasts_of}
use denote.Triple.Entry.{on_entry}
use denote.Triple.Spec.{Spec, Meets, Back, exits, triple_of}
use denote.Triple.Statement.{Contract, Triple}
use denote.Triple.Table.{cited, framed}
use Rattle.rules.specs.contracts.Rules as Choice
use Rattle.rules.proofs.Rules.TheLaws as Choice'
use Rattle.place.specs.contracts.Record as Placed
use Rattle.place.proofs.Record.TheLaws as Placed'
use Rattle.view.proofs.Walk.{Code, enters}
use Rattle.view.specs.contracts.View as Viewed
use Rattle.view.proofs.View.TheLaws as Viewed'

-- ---- the code: of rules, a view and a number, f is called with the rules, the view's text, its record and the number
abbrev pub asks : Ty → Callee → Fn
asks τ f = record {
  lifetimes = 1;
  outlives = [];
  params = 3;
  ty_params = [];
  givens = 0;
  locals =
      local τ value_local ∷ local Choice'.mir value_local ∷ local (Viewed'.mir (named 0)) value_local ∷ local (ty_int w64) value_local ∷
      local (slice_ty (ty_ref erased imm (ty_int w8))) value_local ∷ local Placed'.mir value_local ∷ [];
  body =
      seq (assign (place 4 []) (rv_opd (copy (place 2 (field 0 ∷ [])))))
      (seq (assign (place 5 []) (rv_opd (copy (place 2 (field 1 ∷ [])))))
      (seq (call f (copy (place 1 []) ∷ copy (place 4 []) ∷ copy (place 5 []) ∷ copy (place 3 []) ∷ []) (place 0 [])) return));
}

-- a question: of what type its answers are, what its code calls, and that its code does nothing else
pub record Question : Type 2 where
  pub slot : Slot 1
  pub mir : Ty
  pub one : (κs : Lfts 1) → (slot.row κs).mir ≡ mir ∷ []
  pub lawful : {M : Type 1} {𝓤 : Ura M} (𝓛 : Logic 𝓤) → (κs : Lfts 1) → Lawful 𝓛 (slot.row κs)
  pub called : Callee
  pub routine : Routine
  pub code : Code (asks mir called)
  pub calls : code.env called ≡ routine

-- ---- what is passed
abbrev with_view : List (Slot 1)
with_view = plain (λ κs. Choice.the_row) ∷ plain (λ κs. Viewed.the_row (named_lft 1 0 tt κs)) ∷ plain (λ κs. usize) ∷ []

abbrev with_parts : List (Slot 1)
with_parts =
    plain (λ κs. Choice.the_row) ∷ SliceRefOf (0 ∷ []) tt (plain (λ κs. u8)) (λ κs. tt) ∷ plain (λ κs. Placed.the_row) ∷
    plain (λ κs. usize) ∷ []

module _ (κs : Lfts 1) where
  abbrev pub Asked : Type 0
  Asked = Denots (types_at with_view κs)

  abbrev pub Parts : Type 0
  Parts = Denots (types_at with_parts κs)

  abbrev pub the_view : Declared
  the_view = Viewed.the_type (named_lft 1 0 tt κs)

  abbrev pub view_laws : LL.Laws the_view
  view_laws = Viewed'.the_laws (named_lft 1 0 tt κs)

  module _ (a : Asked) where
    abbrev pub parts : Parts
    parts = (a.0, (a.1.0.text, (a.1.0.record, (a.1.1.0, tt))))

    -- the machine values of the rules, of the view, of its text, of its record and of the number
    abbrev chosen : Val
    chosen = LL.val Choice.the_type Choice'.the_laws a.0

    abbrev viewed : Val
    viewed = LL.val the_view view_laws a.1.0

    abbrev text : Val
    text = slice_val a.1.0.text.ref_ptr (length a.1.0.text.now)

    abbrev placed : Val
    placed = LL.val Placed.the_type Placed'.the_laws a.1.0.record

    abbrev number : Val
    number = vint w64 a.1.1.0

    abbrev as_view : Valss (types_at with_view κs)
    as_view = (chosen ∷ [], (viewed ∷ [], (number ∷ [], tt)))

    abbrev as_parts : Valss (types_at with_parts κs)
    as_parts = (chosen ∷ [], (text ∷ [], (placed ∷ [], (number ∷ [], tt))))

-- ---- the contracts
module _ (t : Question) where
  abbrev pub of_view : Signature
  of_view = record { lifetimes = 1; outlives = []; params = with_view; result = t.slot }

  abbrev pub of_parts : Signature
  of_parts = record { lifetimes = 1; outlives = []; params = with_parts; result = t.slot }

  -- what is promised of an answer, by the parts; by a view it is that of its parts, so that no view's contract can say less
  pub record Promise {M : Type 1} (𝓤 : Ura M) : Type 2 where
    pub by_parts : (κs : Lfts 1) → Parts κs → (t.slot.row κs).Denot → SProp 𝓤

module _ {M : Type 1} {𝓤 : Ura M} (𝓛 : Logic 𝓤) (t : Question) (p : Promise t 𝓤) where
  abbrev pub spec_of_parts : Spec 𝓤 (of_parts t)
  spec_of_parts κs a = record {
    ghost = Unit {0};
    requires = λ _. emp 𝓤;
    ensures = λ _ r. exits 𝓛 (of_parts t) (yes, (yes, (yes, (yes, tt)))) κs a (λ _. p.by_parts κs a r);
  }

  abbrev pub spec_of_view : Spec 𝓤 (of_view t)
  spec_of_view κs a = record {
    ghost = Unit {0};
    requires = λ _. emp 𝓤;
    ensures = λ _ r. exits 𝓛 (of_view t) (yes, (yes, (yes, tt))) κs a (λ _. p.by_parts κs (parts κs a) r);
  }

module _ {M : Type 1} {𝓤 : Ura M} (𝓛 : Logic 𝓤) (𝓜 : Model 𝓤 𝓛.H) (𝓡 : Running 𝓤 𝓛.H 𝓜) (t : Question) where
  open 𝓛 use {H}

  abbrev C : Calls 𝓤 H
  C = (tables 𝓤 H 𝓜 𝓡 t.code.env).C

  abbrev Λ : Loops 𝓤 H
  Λ = (tables 𝓤 H 𝓜 𝓡 t.code.env).Λ

  framed_calls : FmC 𝓤 H 𝓛.laws C
  framed_calls f = framed 𝓤 H 𝓜 (tables 𝓤 H 𝓜 𝓡 t.code.env) f

  -- u is of the type of the question's answers
  abbrev Fits : Val → Type 0
  Fits u = Holds (has_ty t.mir u) × WT u

  module _ (κs : Lfts 1) (a : Asked κs) where
    walk : (X : SProp 𝓤) (Q : Val → SProp 𝓤) → Are (types_at with_view κs) (Ises (types_at with_view κs)) a (as_view κs a)
        → ent 𝓤 X (C t.called (flat (types_at with_parts κs) (as_parts κs a)) (λ u. H.⇛ (guard 𝓤 (Fits u) (Q u))))
        → ent 𝓤 X (WpFn 𝓤 H C Λ (asks t.mir t.called) (flat (types_at with_view κs) (as_view κs a)) Q)
    walk X Q are met =
        let rules-fit = ((LL.lawful Choice.the_type Choice'.the_laws 𝓛).typed a.0 _ are.0).0 in
        let view-fits = ((LL.lawful (the_view κs) (view_laws κs) 𝓛).typed a.1.0 _ are.1.0).0 in
        qed 𝓛 (raw X ∷ []) ∵ enter ! C Λ (asks t.mir t.called) (flat (types_at with_view κs) (as_view κs a)) _ $
        alloc1 ! (λ l₀. alloc1 ! (λ l₁. alloc1 ! (λ l₂. alloc1 ! (λ l₃. alloc1 ! (λ l₄. alloc1 ! (λ l₅. alloc0 ! $ params1 ! $
        pass1 ! (init ! 8 refl rules-fit) $ pass1 ! (init ! 6 refl view-fits) $ pass1 ! (init ! 4 refl (tt, record { fits = are.1.1.0.1 })) $ pass0 ! $
        assigns ! (of_opd ! (load ! (from ! (fld ! refl (stop !))) (look_in ! 6 (sub ! 0 refl (whole !))))) (from ! (stop !))
        (init ! 2 refl (tt, view-fits.1.0)) $
        assigns ! (of_opd ! (load ! (from ! (fld ! refl (stop !))) (look_in ! 6 (sub ! 1 refl (whole !))))) (from ! (stop !))
        (init ! 0 refl ((and_yes (has_ty Placed'.mir (placed κs a)) true view-fits.0).0, view-fits.1.1.0)) $
        move ! (12 ∷ []) $
        -- [what the call needs; _5; …; _4; …; _3; …; _2; …; _1; …; room for _0; …]
        calls_from ! framed_calls (raw X) (flat (types_at with_parts κs) (as_parts κs a)) (λ u. H.⇛ (guard 𝓤 (Fits u) (Q u))) met
        (and_then ! (load ! (from ! (stop !)) (look ! 9 refl)) (and_then ! (load ! (from ! (stop !)) (look ! 3 refl))
        (and_then ! (load ! (from ! (stop !)) (look ! 1 refl)) (and_then ! (load ! (from ! (stop !)) (look ! 5 refl)) (no_more !))))) (λ u.
        use1 𝓛 (later (given (Fits u) (raw (Q u)))) (id⊢ 𝓤 _) $ await ! tt $ learn ! (λ fits.
        -- [what is due; and the same]
        land ! (from ! (stop !)) (init ! 11 refl fits) $ returns ! (look ! 11 refl) $
        forget ! 1 refl $ forget ! 3 refl $ forget ! 5 refl $ forget ! 7 refl $ forget ! 9 refl $ forget ! 11 refl $
        move ! (11 ∷ 12 ∷ []) $ free1 ! $ move ! (9 ∷ 10 ∷ []) $ free1 ! $ move ! (7 ∷ 8 ∷ []) $ free1 ! $
        move ! (5 ∷ 6 ∷ []) $ free1 ! $ move ! (3 ∷ 4 ∷ []) $ free1 ! $ move ! (1 ∷ 2 ∷ []) $ free1 ! $ free0 ! $ done !))))))))

    abbrev fields : Values (the_view κs).parts
    fields = (a.1.0.text, (a.1.0.record, tt))

    module _ (qs : Shares 1) where
      -- what the view owns is what its text and its record own
      apart : ent 𝓤 (on_entry 𝓛 (of_view t) κs qs a (as_view κs a)) (sep 𝓤 (on_entry 𝓛 (of_parts t) κs qs (parts κs a) (as_parts κs a)) (emp 𝓤))
      apart =
          qed 𝓛 ((‵ (flft κs.0 qs.0) ⊛ ‵ ftrue) ∷ ‵ (owns (types_at with_view κs) a (as_view κs a)) ∷ []) ∵
          move ! (1 ∷ []) $ fsplit ! $ move ! (1 ∷ []) $ fsplit ! $
          -- [what the view owns; what the number owns; what the rules own; the token]
          use1 𝓛 (given (viewed κs a ∷ [] ≡ vstruct (spelled (the_view κs).parts (view_laws κs) fields) ∷ []) (‵ (all_own (the_view κs).parts (view_laws κs) fields)))
          (own_open 𝓛 (the_view κs) (view_laws κs) fields (viewed κs a)) $ learn ! (λ _.
          fsplit ! $ move ! (1 ∷ []) $ fsplit ! $ move ! (1 ∷ []) $ drop ! $
          -- [what the record owns; what the text owns; what the number owns; what the rules own; the token]
          move ! (0 ∷ 2 ∷ []) $ fjoin ! $ move ! (1 ∷ 0 ∷ []) $ fjoin ! $ move ! (1 ∷ 0 ∷ []) $ fjoin ! $ move ! (1 ∷ 0 ∷ []) $ join ! $ frame ! $ done !)

      module _ (p : Promise t 𝓤) where
        abbrev of_the_parts : Contract 𝓤
        of_the_parts = triple_of 𝓛 (of_parts t) (spec_of_parts 𝓛 t p)

        abbrev of_the_view : Contract 𝓤
        of_the_view = triple_of 𝓛 (of_view t) (spec_of_view 𝓛 t p)

        abbrev with_them : of_the_parts.Ghost
        with_them = ((κs, qs, tt, parts κs a, as_parts κs a), tt)

        abbrev with_it : of_the_view.Ghost
        with_it = ((κs, qs, tt, a, as_view κs a), tt)

        fits : (r : (t.slot.row κs).Denot) (u : Val) → Is (t.slot.row κs) r (u ∷ []) → Fits u
        fits r u is = (subst (λ τs. Typed τs (u ∷ [])) (t.one κs) ((t.lawful 𝓛 κs).typed r (u ∷ []) is)).0

        -- what is said at exit of parameters that hold no `&mut`
        abbrev silent_parts : Fins κs with_parts (yes, (yes, (yes, (yes, tt)))) (parts κs a) → Fml
        silent_parts = lasts_of κs with_parts (yes, (yes, (yes, (yes, tt)))) (parts κs a)

        abbrev silent_view : Fins κs with_view (yes, (yes, (yes, tt))) a → Fml
        silent_view = lasts_of κs with_view (yes, (yes, (yes, tt))) a

        -- an answer that is promised of the parts is one of the view
        answers : (u : Val) → ent 𝓤 (of_the_parts.post with_them u) (H.⇛ (guard 𝓤 (Fits u) (of_the_view.post with_it u)))
        answers u =
            qed 𝓛 (later (some (λ (r : (t.slot.row κs).Denot). ((‵ (flft κs.0 qs.0) ⊛ ‵ ftrue) ⊛ ‵ ((t.slot.row κs).own_val r (u ∷ []))) ⊛
            some (λ (ws : Fins κs with_parts (yes, (yes, (yes, (yes, tt)))) (parts κs a)). ‵ (silent_parts ws) ⊛ raw (p.by_parts κs (parts κs a) r)))) ∷ []) ∵
            updating ! $ await ! tt $ pick ! (λ r. split ! $ split ! $ move ! (1 ∷ []) $
            peeks ! (t.slot.row κs) (Is (t.slot.row κs)) (shows 𝓛 (t.slot.row κs)) r (u ∷ []) (λ is.
            at_once ! $ check ! (fits r u is) $ updating ! $ at_once ! $
            show ! (λ r'. sep 𝓤 (Back 𝓛 (of_view t) with_it.0 u r') ((spec_of_view 𝓛 t p κs a).ensures tt r')) r $
            move ! (1 ∷ 0 ∷ []) $ join ! $ frame ! $ pick ! (λ ws. split ! $ fsplit ! $ drop ! $
            show ! (λ ws'. sep 𝓤 (sem 𝓛 (silent_view ws')) (p.by_parts κs (parts κs a) r)) (tt, (tt, (tt, tt))) $ done !)))

        through : Triple 𝓤 (C t.called) of_the_parts → Are (types_at with_view κs) (Ises (types_at with_view κs)) a (as_view κs a)
            → ent 𝓤 (on_entry 𝓛 (of_view t) κs qs a (as_view κs a))
            (WpFn 𝓤 H C Λ (asks t.mir t.called) (flat (types_at with_view κs) (as_view κs a)) (of_the_view.post with_it))
        through known are = walk _ _ are (via 𝓤 _ apart (via 𝓤 _ (known with_them) (fm→mono_c 𝓤 H 𝓛.laws C framed_calls t.called _ _ _ answers)))

  -- the law, as a function's theorem states it
  pub asked : (p : Promise t 𝓤) → Meets 𝓛 (of_parts t) (𝓡.run t.routine) (spec_of_parts 𝓛 t p)
      → Meets 𝓛 (of_view t) (𝓡.run (t.code.env t.code.name)) (spec_of_view 𝓛 t p)
  asked p met =
      enters 𝓛 𝓜 𝓡 t.code (of_view t) (spec_of_view 𝓛 t p)
      (λ κs. (LL.vals Choice.the_type Choice'.the_laws, (LL.vals (the_view κs) (view_laws κs), (uint_vals w64, tt))))
      (λ κs. (LL.tells Choice.the_type Choice'.the_laws, (LL.tells (the_view κs) (view_laws κs), (uint_Tells w64, tt))))
      (λ κs a qs bounds g. through κs a qs p
      (cited 𝓤 H (triple_of 𝓛 (of_parts t) (spec_of_parts 𝓛 t p)) 𝓜 𝓡 t.code.env t.called t.routine t.calls met))
