-- How a walk by hand becomes a function's theorem: what every walk over a function of a view (R289) needs before its first statement (`enters`) and
-- behind its last one (`ends`). The check proves these functions by itself, and no proof of theirs stands on this law.
-- Nothing is handed back of a parameter, so a walk may use up what they own, and keeps none of it for the end.
-- Assumes nothing.
use mathlib.Core.List.{List, [], ◌∷◌}
use seplogic.Ra.Ura.{Ura}
use mir.Syntax.{Callee, Fn}
use mir.Val.{Val}
use base.Logic.{SProp, ent, ex, sep, emp, via, fst∗}
use prog.Model.{Model}
use prog.Routine.{Env}
use prog.Wp.{Heap, WpFn, Closed}
use types.Logic.{Logic, sem}
use contract.Lifetimes.{Lfts, Shares, AllOutlive}
use contract.Monad.{Fun}
use contract.Running.{Running, tables}
use types.Kit.{‵, raw, ◌$◌, ◌∵◌, !, qed, use0, frame, show, updating, done}
use types.Kit.{now as at_once}
use denote.RattleType.{RattleType, flat}
use denote.Laws.{Ises, Are, Spells, Tellss, valss}
use denote.Shadow.{shadow, Pure, makes_shadow}
use denote.Signature.{Signature, types_at}
use denote.Steps.{said}
use denote.Triple.Bound.{Bound}
use denote.Triple.Clauses.{Ended, Lasts, lasts}
use denote.Triple.Entry.{Args, Vals, Res, on_entry}
use denote.Triple.Spec.{Spec, Meets, Back, exits, triple_of}
use denote.Triple.Table.{entered}

-- the function e under its name, where its calls mean what they do in env
pub record Code (e : Fn) : Type 2 where
  pub env : Env
  pub name : Callee
  pub closed : {M : Type 1} (𝓤 : Ura M) (H : Heap 𝓤) (𝓜 : Model 𝓤 H) (𝓡 : Running 𝓤 H 𝓜)
      → Closed 𝓤 H (tables 𝓤 H 𝓜 𝓡 env).C (tables 𝓤 H 𝓜 𝓡 env).Λ name e

-- a walk may take the parameters' machine values as written out, and knows that they are of their types
module _ {M : Type 1} {𝓤 : Ura M} (𝓛 : Logic 𝓤) (𝓜 : Model 𝓤 𝓛.H) (𝓡 : Running 𝓤 𝓛.H 𝓜) {e : Fn} (c : Code e) (S : Signature) (p : Spec 𝓤 S) where
  open 𝓛 use {H}

  abbrev Meant : Fun 𝓤
  Meant = WpFn 𝓤 H (tables 𝓤 H 𝓜 𝓡 c.env).C (tables 𝓤 H 𝓜 𝓡 c.env).Λ e

  abbrev rows : (κs : Lfts S.lifetimes) → List RattleType
  rows κs = types_at S.params κs

  -- what a walk shows, at the values vs
  abbrev pub Walked : (κs : Lfts S.lifetimes) → Args S κs → Vals S κs → Type 1
  Walked κs a vs = (qs : Shares S.lifetimes) (bounds : AllOutlive S.lifetimes S.outlives κs) (g : (p κs a).ghost) → Are (rows κs) (Ises (rows κs)) a vs
      → ent 𝓤 (on_entry 𝓛 S κs qs a vs) (Meant (flat (rows κs) vs) ((triple_of 𝓛 S p).post ((κs, qs, bounds, a, vs), g)))

  pub enters : (spelling : (κs : Lfts S.lifetimes) → Spells (rows κs)) → ((κs : Lfts S.lifetimes) → Tellss (rows κs) (Ises (rows κs)) (spelling κs))
      → ((κs : Lfts S.lifetimes) (a : Args S κs) → Walked κs a (valss (rows κs) (spelling κs) a)) → Meets 𝓛 S (𝓡.run (c.env c.name)) p
  enters spelling tells walk =
      entered 𝓤 H (triple_of 𝓛 S p) (tables 𝓤 H 𝓜 𝓡 c.env).C (tables 𝓤 H 𝓜 𝓡 c.env).Λ c.name e (c.closed 𝓤 H 𝓜 𝓡) (λ y.
      let κs = y.0.0 in
      let a = y.0.3 in
      via 𝓤 _ (fst∗ 𝓤 _ ((p κs a).requires y.1))
      (said 𝓛 S κs y.0.1 (spelling κs) (tells κs) a
      (λ us. Meant (flat (rows κs) us) ((triple_of 𝓛 S p).post ((κs, y.0.1, y.0.2, a, us), y.1))) y.0.4
      (walk κs a y.0.1 y.0.2 y.1)))

-- the tokens and the result are all that is handed back; and what is promised of the result is shown
module _ {M : Type 1} {𝓤 : Ura M} (𝓛 : Logic 𝓤) (T : Ended) (x : Bound 𝓛 T.signature) where
  open 𝓛 use {H}

  abbrev Ending : (Res T.signature x.0 → SProp 𝓤) → Val → Res T.signature x.0 → SProp 𝓤
  Ending promised v r = sep 𝓤 (Back 𝓛 T.signature x v r) (exits 𝓛 T.signature T.kept x.0 x.3 (λ _. promised r))

  pub ends : (promised : Res T.signature x.0 → SProp 𝓤) (r : Res T.signature x.0) (v : Val) (ws : Lasts T x.0 x.3)
      → Pure (lasts T x.0 x.3 ws) × shadow (lasts T x.0 x.3 ws) → ent 𝓤 (emp 𝓤) (promised r)
      → ent 𝓤 (Back 𝓛 T.signature x v r) (H.⇛ (ex 𝓤 (Ending promised v)))
  ends promised r v ws silent shown =
      qed 𝓛 (raw (Back 𝓛 T.signature x v r) ∷ []) ∵ updating ! $ at_once ! $ show ! (Ending promised v) r $ frame ! $
      show ! (λ ws'. sep 𝓤 (sem 𝓛 (lasts T x.0 x.3 ws')) (promised r)) ws $ use0 𝓛 (raw (promised r)) shown $
      use0 𝓛 (‵ (lasts T x.0 x.3 ws)) (makes_shadow 𝓛 (lasts T x.0 x.3 ws) silent.0 silent.1) $ done !
