-- What an answer of placing says of the walk: 0 or 7, and a record is located; any other reply, and none is.
-- Assumes nothing.
use Rattle.std.specs.Prelude.{Option, Some, None}
use mathlib.Core.Path.{◌≡◌, refl, sym, ◌∙◌, ap, subst}
use mathlib.Core.Bool.{Bool, true, false}
use mathlib.Core.List.{List}
use mathlib.Core.Logic.{◌↔◌, inl, inr, ⊎_elim}
use Prim.Native.Nat.{ℕ, suc}
use native.Mathlib.Omega.{arith}
use borrow.Author.Tests.{eqb-true}
use lib.Dec.{T, eqb}
use Rattle.rules.specs.declared.Rules.{Rules}
use Rattle.base.proofs.Choice.{true_T, T_true, or_elim}
use Rattle.count.specs.Rules.{ruling_of}
use Rattle.place.specs.declared.Placing.{Placing}
use Rattle.place.specs.declared.Placing.TheVariants.{Refused}
use Rattle.reply.specs.declared.Refusal.{Refusal}
use Rattle.place.specs.Placing.{Located, located, refused, locate, ruled_at, placing_by, counts_by, placing_of, counts_at}
use Rattle.place.specs.Numbered.{placing_reply, is_placed}
use Rattle.place.specs.Walk.{PlacedAt, spot, IsRecord, Stops, StopsAt, Walks}
use Rattle.place.proofs.Placed.{no_record}
use Rattle.place.proofs.Due.{refused_due}
use Rattle.place.specs.Due.{RefusedFor, beyond, text_end, few_for_index, few_for_data, bad_index, bad_release, fills_vacant}

abbrev number : Placing → ℕ
number p = (placing_reply p).number

abbrev next : Placing → ℕ
next p = (placing_reply p).next

ruled_next : (n : ℕ) (r : Option ℕ) → next (ruled_at n r) ≡ n
ruled_next n None = refl
ruled_next n (Some g) = refl

ruled_placed : (n : ℕ) (r : Option ℕ) → is_placed (number (ruled_at n r)) ≡ true
ruled_placed n None = refl
ruled_placed n (Some g) = refl

module _ (ρ : Rules) (s : List ℕ) (at : ℕ) where
  -- what placing refuses with is neither 0 nor 7
  refused_placed : (r : Refusal) → RefusedFor ρ s at r → is_placed (number (Refused r)) ≡ false
  refused_placed r (beyond d) = refl
  refused_placed r (text_end d) = refl
  refused_placed r (few_for_index d) = refl
  refused_placed r (few_for_data d) = refl
  refused_placed r (bad_index d) = refl
  refused_placed r (bad_release d) = refl
  refused_placed r (fills_vacant g d) = refl

  -- 0 or 7: a record is located, and its next place and counts are beside the answer
  pub placed_goes : is_placed (number (placing_of ρ s at)) ≡ true → locate ρ s at ≡ located (next (placing_of ρ s at)) (counts_at ρ s at)
  unfolding placing_of counts_at
  placed_goes e = by (locate ρ s at) refl e
    where
      by : (l : Located) → locate ρ s at ≡ l → is_placed (number (placing_by l)) ≡ true → l ≡ located (next (placing_by l)) (counts_by l)
      by (located n ns) f e = ap (λ m. located m ns) (sym (ruled_next n (ruling_of ns)))
      by (refused r) f e = let q = refused_placed r (refused_due ρ s at r f) in let z : ◌≡◌ {A = ℕ} 0 1 = cc in absurd (omega arith)

  -- any other reply: none is
  pub record Halts : Type 0 where
    pub why : Refusal
    pub is : locate ρ s at ≡ refused why

  pub placed_halts : is_placed (number (placing_of ρ s at)) ≡ false → Halts
  unfolding placing_of
  placed_halts e = by (locate ρ s at) refl e
    where
      by : (l : Located) → locate ρ s at ≡ l → is_placed (number (placing_by l)) ≡ false → Halts
      by (located n ns) f e = let q = ruled_placed n (ruling_of ns) in let z : ◌≡◌ {A = ℕ} 0 1 = cc in absurd (omega arith)
      by (refused r) f e = record { why = r; is = f }

  -- the test passes exactly where a record is placed
  pub placed_test : PlacedAt ρ s at ↔ (is_placed (number (placing_of ρ s at)) ≡ true)
  placed_test = (
    λ p. ⊎_elim (λ (e : number (placing_of ρ s at) ≡ 0). rw e refl) (λ (e : number (placing_of ρ s at) ≡ 7). rw e refl) p,
    λ t.
        ⊎_elim
        (λ (e : T (eqb (number (placing_of ρ s at)) 0)). inl (eqb-true (number (placing_of ρ s at)) 0 (T_true (eqb (number (placing_of ρ s at)) 0) e)))
        (λ (e : T (eqb (number (placing_of ρ s at)) 7)). inr (eqb-true (number (placing_of ρ s at)) 7 (T_true (eqb (number (placing_of ρ s at)) 7) e)))
        (or_elim (eqb (number (placing_of ρ s at)) 0) (eqb (number (placing_of ρ s at)) 7) (true_T (is_placed (number (placing_of ρ s at))) t)),
  )

  record_placed : IsRecord ρ s at → is_placed (number (placing_of ρ s at)) ≡ true
  unfolding placing_of
  record_placed r = subst (λ l. is_placed (number (placing_by l)) ≡ true) (sym r.is) (ruled_placed r.next (ruling_of r.ns))

  pub placed_record : PlacedAt ρ s at ↔ IsRecord ρ s at
  placed_record = (
    λ p. record { next = next (placing_of ρ s at); ns = counts_at ρ s at; is = placed_goes (placed_test.0 p) },
    λ r. placed_test.1 (record_placed r),
  )

  placed_not : (PlacedAt ρ s at → ⊥) → is_placed (number (placing_of ρ s at)) ≡ false
  placed_not n = by (is_placed (number (placing_of ρ s at))) refl
    where
      by : (t : Bool) → is_placed (number (placing_of ρ s at)) ≡ t → t ≡ false
      by true e = absurd (n (placed_test.1 e))
      by false e = refl

-- ---- the walk

module _ (ρ : Rules) (s : List ℕ) where
  goes_on : (k : ℕ) → PlacedAt ρ s (spot ρ s k) → spot ρ s (suc k) ≡ next (placing_of ρ s (spot ρ s k))
  unfolding spot
  goes_on k p = rw (placed_goes ρ s (spot ρ s k) ((placed_test ρ s (spot ρ s k)).0 p))

  stays : (k : ℕ) → (PlacedAt ρ s (spot ρ s k) → ⊥) → spot ρ s (suc k) ≡ spot ρ s k
  unfolding spot
  stays k n = rw (placed_halts ρ s (spot ρ s k) (placed_not ρ s (spot ρ s k) n)).is

  stops_at : (many : ℕ) (r : Refusal) → Stops ρ s many r → StopsAt ρ s many r
  unfolding placing_of
  stops_at many r h =
      record {
        each = λ k l. (placed_record ρ s (spot ρ s k)).1 (h.each k l);
        none = λ y. no_record (sym h.last ∙ ((placed_record ρ s (spot ρ s many)).0 y).is);
        answer = ap placing_by h.last;
      }

  at_stops : (many : ℕ) (r : Refusal) → StopsAt ρ s many r → Stops ρ s many r
  unfolding placing_of
  at_stops many r h =
      let k = placed_halts ρ s (spot ρ s many) (placed_not ρ s (spot ρ s many) h.none) in
      let e : Refused k.why ≡ Refused r = sym (ap placing_by k.is) ∙ h.answer in
      let f : k.why ≡ r = cc in
      record { each = λ k l. (placed_record ρ s (spot ρ s k)).0 (h.each k l); last = k.is ∙ ap refused f }

  pub walks : Walks ρ s
  unfolding spot
  walks = record { begins = refl; goes_on = goes_on; stays = stays; stops = λ many r. (stops_at many r, at_stops many r) }
