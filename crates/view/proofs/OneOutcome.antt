-- R420, R421: one outcome, of the contract itself, for each function that takes or gives a view. It is said of what is ensured, in whatever logic that
-- is read: whoever has it of two outcomes learns that they are one. A contract that leaves open a part of the answer has no proof here.
-- Assumes nothing.
use mathlib.Core.Path.{◌≡◌, refl, sym, ◌∙◌}
use seplogic.Ra.Ura.{Ura}
use base.Logic.{SProp, ent, sep, via, id⊢, fst∗, snd∗}
use borrow.Fn.World.{World}
use prog.Memory.{Memory}
use prog.Routine.{Routine}
use types.Logic.{Logic}
use contract.Lifetimes.{Lfts}
use contract.Monad.{Fun, fact, fact_i, fact_mono, fact_use}
use denote.Triple.Clauses.{Ended, Clauses, Lasts, at_exit}
use denote.Triple.Entry.{Args, Res}
use Rattle.view.specs.contracts.part_of
use Rattle.view.specs.contracts.lines_of
use Rattle.view.specs.contracts.characteristic_of
use Rattle.view.specs.contracts.view_of
use Rattle.view.specs.contracts.counts_of

module _ (m : World) where
  -- whoever has a fact learns it
  told : {φ : Type 0} → ent m.𝓤 (fact m.𝓤 φ) (fact m.𝓤 φ)
  told = id⊢ m.𝓤 _

  -- and of two facts both
  both : {φ ψ : Type 0} {P Q : SProp m.𝓤} → ent m.𝓤 P (fact m.𝓤 φ) → ent m.𝓤 Q (fact m.𝓤 ψ) → ent m.𝓤 (sep m.𝓤 P Q) (fact m.𝓤 (φ × ψ))
  both {φ} {ψ} {P} {Q} p q =
      fact_use m.𝓤 φ (via m.𝓤 P (fst∗ m.𝓤 P Q) p) (λ l. fact_use m.𝓤 ψ (via m.𝓤 Q (snd∗ m.𝓤 P Q) q) (λ k. fact_i m.𝓤 (φ × ψ) _ (l, k)))

-- a contract's clauses, whatever they are read in
abbrev Contract : Ended → Type 2
Contract T = (M : Type 1) (𝓤 : Ura M) (𝓛 : Logic 𝓤) → (Memory → SProp 𝓤) → (Routine → Fun 𝓤) → Clauses 𝓤 T

module _ (T : Ended) where
  abbrev Asked : Lfts T.signature.lifetimes → Type 0
  Asked = Args T.signature

  abbrev Answer : Lfts T.signature.lifetimes → Type 0
  Answer = Res T.signature

  abbrev Alike : Type 1
  Alike = (κs : Lfts T.signature.lifetimes) → Answer κs → Answer κs → Type 0

  abbrev Says : Type 1
  Says = (κs : Lfts T.signature.lifetimes) → Asked κs → Answer κs → Type 0

  module _ (contract : Contract T) where
    abbrev clauses : (m : World) → Clauses m.𝓤 T
    clauses m = contract m.M m.𝓤 m.𝓛 m.𝓜.mem m.𝓡.run

    -- the contract says at least this, of what was asked and the answer
    abbrev Tells : Says → Type 2
    Tells says = (m : World) (κs : Lfts T.signature.lifetimes) (a : Asked κs) (g : (clauses m κs a).ghost) (r : Answer κs) (v : Lasts T κs a)
        → ent m.𝓤 ((clauses m κs a).ensures g r (at_exit T κs a v)) (fact m.𝓤 (says κs a r))

    -- answers are compared by `same`: of a part of the caller's own text the bytes and the address
    abbrev pub OneUpTo : Alike → Type 2
    OneUpTo same =
        (m : World) (κs : Lfts T.signature.lifetimes) (a : Asked κs) (g : (clauses m κs a).ghost) (r q : Answer κs) (v w : Lasts T κs a)
        → ent m.𝓤 (sep m.𝓤 ((clauses m κs a).ensures g r (at_exit T κs a v)) ((clauses m κs a).ensures g q (at_exit T κs a w))) (fact m.𝓤 (same κs r q × (v ≡ w)))

    abbrev pub OneOutcome : Type 2
    OneOutcome = OneUpTo (λ κs r q. r ≡ q)

    -- what it says leaves one outcome, so it has one
    one : {says : Says} {same : Alike} → Tells says
        → ((κs : Lfts T.signature.lifetimes) (a : Asked κs) (r q : Answer κs) (v w : Lasts T κs a) → says κs a r → says κs a q → same κs r q × (v ≡ w))
        → OneUpTo same
    one tells alike m κs a g r q v w = via m.𝓤 _ (both m (tells m κs a g r v) (tells m κs a g q w)) (fact_mono m.𝓤 _ _ (λ l. alike κs a r q v w l.0 l.1))

pub part_of_one : OneUpTo part_of.ended (λ M 𝓤. part_of.clauses {𝓤 = 𝓤}) (λ κs r q. (r.now ≡ q.now) × (r.ref_ptr ≡ q.ref_ptr))
part_of_one =
    one part_of.ended (λ M 𝓤. part_of.clauses {𝓤 = 𝓤}) (λ m κs a g r v. both m (told m) (told m)) (λ κs a r q v w l k. ((l.0 ∙ sym k.0, l.1 ∙ sym k.1), refl))

pub lines_of_one : OneOutcome lines_of.ended (λ M 𝓤. lines_of.clauses {𝓤 = 𝓤})
lines_of_one =
    one lines_of.ended (λ M 𝓤. lines_of.clauses {𝓤 = 𝓤}) (λ m κs a g r v. both m (told m) (both m (told m) (told m))) (λ κs a r q v w l k.
    let found = l.0 ∙ sym k.0 in
    let from = l.1.0 ∙ sym k.1.0 in
    let to = l.1.1 ∙ sym k.1.1 in
    (λ i. record { found = found i; from = from i; to = to i }, refl))

pub characteristic_of_one : OneOutcome characteristic_of.ended (λ M 𝓤. characteristic_of.clauses {𝓤 = 𝓤})
characteristic_of_one = one characteristic_of.ended (λ M 𝓤. characteristic_of.clauses {𝓤 = 𝓤}) (λ m κs a g r v. told m) (λ κs a r q v w l k. (l ∙ sym k, refl))

pub view_of_one : OneOutcome view_of.ended (λ M 𝓤. view_of.clauses {𝓤 = 𝓤})
view_of_one =
    one view_of.ended (λ M 𝓤. view_of.clauses {𝓤 = 𝓤}) (λ m κs a g r v. told m) (λ κs a r q v w l k.
    let text = l.0 ∙ sym k.0 in
    let placed = l.1 ∙ sym k.1 in
    (λ i. record { text = text i; «record» = placed i }, refl))

pub counts_of_one : OneOutcome counts_of.ended (λ M 𝓤. counts_of.clauses {𝓤 = 𝓤})
counts_of_one = one counts_of.ended (λ M 𝓤. counts_of.clauses {𝓤 = 𝓤}) (λ m κs a g r v. told m) (λ κs a r q v w l k. (l ∙ sym k, refl))
