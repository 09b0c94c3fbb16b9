-- R259: where the lines of each group begin and end, one group after the other, as the code finds them from the data lines on.
-- Assumes nothing.
use Rattle.std.specs.Prelude.{Option, Some, None}
use mathlib.Core.Path.{◌≡◌, refl, sym, ◌∙◌, ap, ap₂}
use mathlib.Core.List.{List, map}
use Prim.Native.Nat.{ℕ, suc, ◌+◌, ◌-◌, ◌<◌, ◌≤◌}
use native.Mathlib.Nat.{zero-add}
use native.Mathlib.Omega.{arith}
use lib.ListN.{length, take, drop, get_or, set, replicate, length-map, length-replicate}
use lib.Seq.{drop-drop, ext_get_or, take_all}
use Rattle.rules.specs.declared.Rules.{Rules}
use Rattle.base.specs.Every.{up_from}
use Rattle.base.specs.Part.{over}
use Rattle.base.proofs.Part.{over_none, over_all, over_turn}
use Rattle.base.proofs.UpFrom.{length_up, get_d_map_up, map_up_same}
use Rattle.form.specs.Table.{form_of}
use Rattle.line.specs.Lines.{reach, behind}
use Rattle.line.specs.Places.{behind_at}
use Rattle.line.proofs.Places.{at_is, behind_at_none, behind_at_then, few_then}
use Rattle.line.proofs.Reach.{reach_add}
use Rattle.count.specs.Tally.{lines_by, lines_in, lines_before, record_lines}
use Rattle.count.proofs.Tallied.{tally_at, before_groups, line_entry, lines_more, lines_in_lem, lines_below, all_lines}
use Rattle.reply.specs.declared.Refusal.TheVariants.{TooFewLines}
use Rattle.place.specs.Parts.{start}
use Rattle.place.specs.Placing.{Located, located, refused, locate, places_by, counts_at, starts_at, ends_at, carried, carried_at, located_behind, locate_lines_from, start_from}

-- a number for each of groups 1 to 60
abbrev pub each_group : (ℕ → ℕ) → List ℕ
each_group f = map f (up_from 1 60)

pub each_length : (f : ℕ → ℕ) → length (each_group f) ≡ 60
each_length f = length-map (up_from 1 60) f ∙ length_up 1 60

pub each_at : (f : ℕ → ℕ) (g : ℕ) → 1 ≤ g → g ≤ 60 → get_or (each_group f) (g - 1) 0 ≡ f g
each_at f g low high = get_d_map_up f 1 60 (g - 1) 0 (omega arith) ∙ ap f (omega arith)

-- these lengths and entries are those of no other list
pub is_each : (f : ℕ → ℕ) (places : List ℕ) → length places ≡ 60 → ((g : ℕ) → 1 ≤ g → g ≤ 60 → get_or places (g - 1) 0 ≡ f g) → each_group f ≡ places
is_each f places long same = ext_get_or 0 (each_group f) places (each_length f ∙ sym long) by
  where
    by : (i : ℕ) → i < length (each_group f) → get_or (each_group f) i 0 ≡ get_or places i 0
    by i h =
        let less : suc i ≤ 60 = omega (arith, h, each_length f) in
        let e : i ≡ suc i - 1 = omega arith in
        rw e (each_at f (suc i) (omega arith) less ∙ sym (same (suc i) (omega arith) less))

no_places_length : length {A = ℕ} (replicate 60 0) ≡ 60
no_places_length = length-replicate {A = ℕ} 60 0

-- so many of them are stored
abbrev pub PlacesStored : (ℕ → ℕ) → ℕ → List ℕ → Type 0
PlacesStored f k places = places ≡ over 0 (take k (each_group f)) (replicate 60 0)

places_none : (f : ℕ → ℕ) → PlacesStored f 0 (replicate 60 0)
places_none f = over_none (replicate 60 0) 0

places_more : (f : ℕ → ℕ) (k n : ℕ) (places : List ℕ) → k < 60 → n ≡ f (suc k) → PlacesStored f k places → PlacesStored f (k + 1) (set places k n)
places_more f k n places h e p =
    let there : n ≡ get_or (each_group f) k 0 = e ∙ sym (tally_at 0 f (suc k) (omega arith) (omega arith)) in
    let long = each_length f in
    let zeros = no_places_length in
    ap (set places k) there ∙ ap (λ i. set places i (get_or (each_group f) k 0)) (sym (zero-add k)) ∙ over_turn (replicate 60 0) (each_group f) 0 k 0 (omega arith) (omega arith) p

places_all : (f : ℕ → ℕ) (places : List ℕ) → PlacesStored f 60 places → places ≡ each_group f
places_all f places p =
    let long = each_length f in
    p ∙ ap (λ xs. over 0 xs (replicate 60 0)) (take_all 60 (each_group f) (omega arith)) ∙ over_all (replicate 60 0) (each_group f) (long ∙ sym no_places_length)

module _ (ρ : Rules) (s : List ℕ) (from : ℕ) (ns : List ℕ) where
  -- k groups have their places, and the next begins at `at`
  pub record Shared (k at : ℕ) (starts ends : List ℕ) : Type 0 where
    pub few : k ≤ 60
    pub place : behind_at s from (lines_before ρ ns (suc k) - 2) ≡ Some at
    pub begin : PlacesStored (start_from ρ s from ns) k starts
    pub end : PlacesStored (λ g. start_from ρ s from ns (suc g)) k ends

  two_before : (k : ℕ) → 2 ≤ lines_before ρ ns (suc k)
  two_before k = omega (arith, (before_groups ρ ns).lines_are, lines_below ρ ns 1 (suc k) (omega arith))

  pub shared_none : Shared 0 from (replicate 60 0) (replicate 60 0)
  shared_none =
      let none : lines_before ρ ns 1 - 2 ≡ 0 = omega (arith, (before_groups ρ ns).lines_are) in
      record { few = omega arith; place = ap (behind_at s from) none ∙ behind_at_none s from; begin = places_none (start_from ρ s from ns); end = places_none (λ g. start_from ρ s from ns (suc g)) }

  module _ (k at : ℕ) (starts ends : List ℕ) (p : Shared k at starts ends) where
    -- the next group has so many lines
    module _ (many : ℕ) (h : k < 60) (l : many ≡ lines_by ρ (form_of (k + 1)) (get_or ns k 0)) where
      one : k + 1 ≡ suc k
      one = omega arith

      with_these : lines_before ρ ns (suc (suc k)) - 2 ≡ lines_before ρ ns (suc k) - 2 + many
      with_these =
          let these : many ≡ lines_in ρ ns (suc k) = l ∙ ap (λ g. lines_by ρ (form_of g) (get_or ns k 0)) one ∙ sym (lines_in_lem ρ ns (suc k)) in
          omega (arith, two_before k, lines_more ρ ns (suc k) (omega arith), line_entry ρ ns (suc k) (omega arith) (omega arith))

      behind_these_lem : (b : Option ℕ) → behind_at s at many ≡ b → behind_at s from (lines_before ρ ns (suc (suc k)) - 2) ≡ b
      behind_these_lem b t = ap (behind_at s from) with_these ∙ behind_at_then s from _ many at p.place ∙ t

      pub shared_few : behind_at s at many ≡ None → locate_lines_from ρ s from ns ≡ refused TooFewLines
      unfolding locate_lines_from
      shared_few t =
          let rest = record_lines ρ ns - lines_before ρ ns (suc (suc k)) in
          let all : record_lines ρ ns - 2 ≡ lines_before ρ ns (suc (suc k)) - 2 + rest =
          omega (arith, two_before (suc k), lines_below ρ ns (suc (suc k)) 61 (omega arith), all_lines ρ ns) in
          ap (located_behind ns) (ap (behind_at s from) all ∙ few_then s from _ rest (behind_these_lem None t))

      pub shared_more : (next : ℕ) → behind_at s at many ≡ Some next → Shared (k + 1) next (set starts k at) (set ends k next)
      shared_more next t =
          let here = behind_these_lem (Some next) t in
          record {
            few = omega arith;
            place = ap (λ g. behind_at s from (lines_before ρ ns (suc g) - 2)) one ∙ here;
            begin = places_more (start_from ρ s from ns) k at starts h (at_is s from _ at p.place).place p.begin;
            end = places_more (λ g. start_from ρ s from ns (suc g)) k next ends h (at_is s from _ next here).place p.end;
          }

    pub shared_all : k ≡ 60 → locate_lines_from ρ s from ns ≡ located at ns
    unfolding locate_lines_from
    shared_all e =
        let all : record_lines ρ ns - 2 ≡ lines_before ρ ns (suc k) - 2 = omega (arith, all_lines ρ ns, ap (λ g. lines_before ρ ns (suc g)) e) in
        ap (located_behind ns) (ap (behind_at s from) all ∙ p.place)

    pub all_begun : k ≡ 60 → starts ≡ each_group (start_from ρ s from ns)
    all_begun e = places_all _ starts (rw e at p.begin)

    pub all_ended : k ≡ 60 → ends ≡ each_group (λ g. start_from ρ s from ns (suc g))
    all_ended e = places_all _ ends (rw e at p.end)

-- the data lines begin behind the two lines of the index
pub start_from_lem : (ρ : Rules) (s : List ℕ) (at : ℕ) (ns : List ℕ) (g : ℕ) → 1 ≤ g → start_from ρ s (at + reach (drop at s) 2) ns g ≡ start ρ s at ns g
unfolding start
start_from_lem ρ s at ns g h =
    let xs = drop at s in
    let k = lines_before ρ ns g - 2 in
    let all : lines_before ρ ns g ≡ 2 + k = omega (arith, (before_groups ρ ns).lines_are, lines_below ρ ns 1 g h) in
    let d : drop (at + reach xs 2) s ≡ behind 2 xs = sym (drop-drop (reach xs 2) at s) in
    let r : reach (drop (at + reach xs 2) s) k ≡ reach (behind 2 xs) k = ap (λ (y : List ℕ). reach y k) d in
    omega (arith, reach_add xs 2 k, ap (reach xs) all)

-- so the places from there are those of the record
pub places_from : (ρ : Rules) (s : List ℕ) (at from : ℕ) (l : Located) → from ≡ at + reach (drop at s) 2
    → (places_by (start_from ρ s from) l ≡ places_by (start ρ s at) l) × (places_by (λ ns g. start_from ρ s from ns (suc g)) l ≡ places_by (λ ns g. start ρ s at ns (suc g)) l)
places_from ρ s at from (located n ns) e =
    rw e (
      map_up_same (start_from ρ s (at + reach (drop at s) 2) ns) (start ρ s at ns) 1 60 (λ g low high. start_from_lem ρ s at ns g low),
      map_up_same (λ g. start_from ρ s (at + reach (drop at s) 2) ns (suc g)) (λ g. start ρ s at ns (suc g)) 1 60 (λ g low high. start_from_lem ρ s at ns (suc g) (omega arith)),
    )
places_from ρ s at from (refused r) e = (refl, refl)

-- ---- each of the 60 groups has its places, in zeros too

places_length : (begins : List ℕ → ℕ → ℕ) (l : Located) → length (places_by begins l) ≡ 60
places_length begins (located n ns) = each_length (begins ns)
places_length begins (refused r) = no_places_length

pub starts_length : (ρ : Rules) (s : List ℕ) (at : ℕ) → length (starts_at ρ s at) ≡ 60
unfolding starts_at
starts_length ρ s at = places_length (start ρ s at) (locate ρ s at)

pub ends_length : (ρ : Rules) (s : List ℕ) (at : ℕ) → length (ends_at ρ s at) ≡ 60
unfolding ends_at
ends_length ρ s at = places_length (λ ns g. start ρ s at ns (suc g)) (locate ρ s at)

-- ---- the places of a record that is located, by a group's number

module _ (ρ : Rules) (s : List ℕ) (at n : ℕ) (ns : List ℕ) (e : locate ρ s at ≡ located n ns) where
  pub start_at : (g : ℕ) → 1 ≤ g → g ≤ 60 → get_or (starts_at ρ s at) (g - 1) 0 ≡ start ρ s at ns g
  unfolding starts_at
  start_at g low high = rw e (each_at (start ρ s at ns) g low high)

  pub end_at_lem : (g : ℕ) → 1 ≤ g → g ≤ 60 → get_or (ends_at ρ s at) (g - 1) 0 ≡ start ρ s at ns (suc g)
  unfolding ends_at
  end_at_lem g low high = rw e (each_at (λ h. start ρ s at ns (suc h)) g low high)

-- where the same is located, and the lines of its groups begin at the same places, the records carry the same
pub carried_same : (ρ : Rules) (s : List ℕ) (σ : Rules) (t : List ℕ) (at : ℕ) → locate ρ s at ≡ locate σ t at
    → ((n : ℕ) (ns : List ℕ) → locate ρ s at ≡ located n ns → (g : ℕ) → start ρ s at ns g ≡ start σ t at ns g) → carried_at ρ s at ≡ carried_at σ t at
unfolding counts_at starts_at ends_at
carried_same ρ s σ t at e starts = by (locate ρ s at) refl
  where
    by : (l : Located) → locate ρ s at ≡ l → carried_at ρ s at ≡ carried_at σ t at
    by (located n ns) u =
        rw (← e, u)
        (ap₂ (carried ns)
        (map_up_same (start ρ s at ns) (start σ t at ns) 1 60 (λ g low high. starts n ns u g))
        (map_up_same (λ g. start ρ s at ns (suc g)) (λ g. start σ t at ns (suc g)) 1 60 (λ g low high. starts n ns u (suc g))))
    by (refused r) u = rw (← e, u) refl
