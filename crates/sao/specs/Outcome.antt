-- R421: two outcomes of a contract are one and the same; said once for every contract. `learnt` is what a caller learns of a function's `ensures`:
-- its reading is made from the contract itself, so that nothing is said here a second time. An outcome is the answer, and the last value of
-- each memory that is lent to be altered.
use Rattle.std.specs.Prelude.{◌≡◌}
use contract.Lifetimes.{Lfts}
use denote.Triple.Entry.{Args, Res}
use denote.Triple.Clauses.{Ended, Lasts, AtExit, at_exit}

module _ (T : Ended) where
  abbrev Contract : Type 1
  Contract = (κs : Lfts T.signature.lifetimes) → Args T.signature κs → Res T.signature κs → AtExit T κs → Type 0

  -- answers are compared by `same`: of a part of the caller's own text the bytes and the address
  abbrev pub OneUpTo : ((κs : Lfts T.signature.lifetimes) → Res T.signature κs → Res T.signature κs → Type 0) → Contract → Type 0
  OneUpTo same learnt =
      (κs : Lfts T.signature.lifetimes) (a : Args T.signature κs) (x y : Res T.signature κs) (v w : Lasts T κs a)
      → learnt κs a x (at_exit T κs a v)
      → learnt κs a y (at_exit T κs a w)
      → same κs x y × (v ≡ w)

  abbrev pub OneOutcome : Contract → Type 0
  OneOutcome learnt = OneUpTo (λ κs x y. x ≡ y) learnt

  -- whatever outcome the contract allows is as `says`, of what was asked, the answer and the last values
  abbrev pub Gives : Contract → ((κs : Lfts T.signature.lifetimes) (a : Args T.signature κs) → Res T.signature κs → Lasts T κs a → Type 0) → Type 0
  Gives learnt says = (κs : Lfts T.signature.lifetimes) (a : Args T.signature κs) (x : Res T.signature κs) (v : Lasts T κs a) → learnt κs a x (at_exit T κs a v) → says κs a x v
