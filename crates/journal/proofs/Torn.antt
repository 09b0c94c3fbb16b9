-- R544: the first bytes of a journal that calls made, cut anywhere.
-- Assumes nothing.
use Rattle.std.specs.Prelude.{Result, Ok, Err}
use mathlib.Core.Path.{◌≡◌, refl, sym, ap, ◌∙◌, subst}
use mathlib.Core.List.{List, [], ◌∷◌, ◌++◌}
use mathlib.Core.Logic.{◌⊎◌, inl, inr}
use Prim.Native.Nat.{ℕ, zero, suc, ◌+◌, ◌-◌, ◌<◌, ◌≤◌}
use native.Mathlib.Omega.{arith}
use lib.IntN.{ℤ}
use lib.ListN.{length, drop, take, length-append, length-take, take-append-drop, drop_of_length-le}
use Rattle.rules.specs.declared.Rules.{Rules}
use Rattle.base.proofs.Taken.{drop_take}
use lib.Seq.{take-take, take_at, drop_at, take-append-le, length-take-le}
use Rattle.base.proofs.Order.{le_or_lt}
use Rattle.count.specs.Check.{checked_of}
use Rattle.count.specs.Due.{HasCells}
use Rattle.count.proofs.Due as Counted
use Rattle.entry.specs.declared.Entry.{Entry}
use Rattle.entry.specs.declared.Entry.TheVariants.{Misformed}
use Rattle.entry.specs.Field.{entry_text, entry_in}
use Rattle.entry.proofs.Codec.{length_text, field_cut}
use Rattle.journal.specs.Model.{Call, Opens}
use Rattle.journal.specs.Entries.{journal_text}
use Rattle.journal.specs.Calls.{whole}
use Rattle.journal.specs.Plays.{replay_of}
use Rattle.journal.specs.Runs.{Fit, FitCalls, Kept, kept, answer_to, left_by, left_to, entry_to, Adds, FirstBytes, Torn}
use Rattle.journal.proofs.Made.{Stands, used_is, next, fresh, replay_stands, adds_field}
use Rattle.journal.proofs.Text.{text_length}
use Rattle.journal.proofs.Replays.{play_cut, no_field}
use Rattle.reply.specs.declared.Refusal.{Refusal}

-- ---- the first bytes of it

-- what begins alike begins alike in fewer bytes
shorter : (m n : ℕ) (a b : List ℕ) → m ≤ n → take n a ≡ take n b → take m a ≡ take m b
shorter m n a b l q = sym (take-take m n a l) ∙ ap (take m) q ∙ take-take m n b l

module _ (ρ : Rules) (ns : List ℕ) (t₀ : List ℤ) (right : checked_of ρ ns (length t₀) ≡ Ok tt) where
  -- bytes that begin as those kept, and go on with what is no field
  cut_here : (k : Kept) (ts : List (List ℤ)) (j : List ℕ) (n : ℕ) → Stands ρ ns t₀ k ts → k.used ≤ n → take k.used j ≡ take k.used k.journal
      → entry_in (drop k.used (take n j)) ≡ Misformed → replay_of ρ ns j n t₀ ≡ whole k.used n
  unfolding replay_of
  cut_here k ts j n s l q x =
      let es = s.entries in
      let b : take n j ≡ journal_text es ++ drop k.used (take n j) =
      sym (take-append-drop k.used (take n j)) ∙ ap (λ y. y ++ drop k.used (take n j)) (take-take k.used n j l ∙ q ∙ s.bytes) in
      let m : length es ≤ length (take n j) = omega (arith, ap length b, length-append (journal_text es) (drop k.used (take n j)), text_length s.fine) in
      let p = ap (λ r. r.place) (play_cut (take n j) (drop k.used (take n j)) x es s.leads b m) ∙ used_is ρ ns t₀ Opens k ts s in
      rw (right, p) refl

  abbrev after : Call → Kept → Kept
  after c k = left_by ρ ns c k (answer_to ρ ns c k)

  -- what a call leaves: all as it was, or a field behind the bytes used
  adds : (c : Call) (k : Kept) → (after c k ≡ k) ⊎ Adds k (entry_to ρ ns c k) (after c k)
  adds c k = by (answer_to ρ ns c k) refl
    where
      by : (a : Result ℕ Refusal) → answer_to ρ ns c k ≡ a → (after c k ≡ k) ⊎ Adds k (entry_to ρ ns c k) (after c k)
      by (Err r) q = inl (ap (left_by ρ ns c k) q)
      by (Ok n) q = inr (subst (λ a. Adds k (entry_to ρ ns c k) (left_by ρ ns c k a)) (sym q) ((adds_field ρ ns c k).done n q))

  -- the bytes used never become fewer
  grows : (cs : List Call) (k : Kept) → k.used ≤ (left_to ρ ns cs k).used
  grows [] k = omega arith
  grows (c ∷ cs) k = by (adds c k) (grows cs (after c k))
    where
      by : (after c k ≡ k) ⊎ Adds k (entry_to ρ ns c k) (after c k) → (after c k).used ≤ (left_to ρ ns (c ∷ cs) k).used → k.used ≤ (left_to ρ ns (c ∷ cs) k).used
      by (inl q) h = omega (arith, ap (λ x. x.used) q)
      by (inr a) h = omega (arith, a.used)

  module _ (k k' : Kept) (in' : k.used ≤ length k.journal) where
    long_used : length (take k.used k.journal) ≡ k.used
    long_used = length-take-le k.used k.journal in'

    adds_keeps : {e : Entry} → Adds k e k' → take k.used k'.journal ≡ take k.used k.journal
    adds_keeps a = ap (take k.used) a.journal ∙ take_at (take k.used k.journal) _ k.used long_used

    adds_cut : {e : Entry} → Adds k e k' → (n : ℕ) → k.used ≤ n → n < k'.used → drop k.used (take n k'.journal) ≡ take (n - k.used) (entry_text e)
    adds_cut {e} a n l h =
        let x = entry_text e in
        let m : n - k.used ≤ length x = omega (arith, a.used) in
        drop_take k.used n k'.journal ∙ ap (λ y. take (n - k.used) (drop k.used y)) a.journal
        ∙ ap (take (n - k.used)) (drop_at (take k.used k.journal) (x ++ drop (k.used + length x) k.journal) k.used long_used)
        ∙ take-append-le (n - k.used) x (drop (k.used + length x) k.journal) m

  abbrev Begins : Kept → Kept → Type 0
  Begins k end = take k.used end.journal ≡ take k.used k.journal

  -- the bytes used stay
  keeps : (cs : List Call) (k : Kept) (ts : List (List ℤ)) → FitCalls cs → Stands ρ ns t₀ k ts → Begins k (left_to ρ ns cs k)
  keeps [] k ts f s = refl
  keeps (c ∷ cs) k ts f s =
      let n = next ρ ns t₀ c k ts s f.0 in
      one (adds c k) (keeps cs (after c k) n.saved f.1 n.left.stands)
    where
      one : (after c k ≡ k) ⊎ Adds k (entry_to ρ ns c k) (after c k) → Begins (after c k) (left_to ρ ns (c ∷ cs) k) → Begins k (left_to ρ ns (c ∷ cs) k)
      one (inl q) r = subst (λ x. Begins x (left_to ρ ns (c ∷ cs) k)) q r
      one (inr a) r =
          let k' = after c k in
          let l : k.used ≤ k'.used = omega (arith, a.used) in
          shorter k.used k'.used (left_to ρ ns (c ∷ cs) k).journal k'.journal l r ∙ adds_keeps k k' s.inside a

  -- so many calls of a list are whole in n bytes, and no more
  abbrev Most : List Call → Kept → ℕ → ℕ → Type 0
  Most cs k n calls = (m : ℕ) → m ≤ length cs → (left_to ρ ns (take m cs) k).used ≤ n → m ≤ calls

  most_more : (c : Call) (cs : List Call) (k : Kept) (n calls : ℕ) → Most cs (after c k) n calls → Most (c ∷ cs) k n (suc calls)
  most_more c cs k n calls f zero l h = omega arith
  most_more c cs k n calls f (suc m) l h = omega (arith, f m (omega arith) h)

  most_none : (c : Call) (cs : List Call) (k : Kept) (n : ℕ) → n < (after c k).used → Most (c ∷ cs) k n 0
  most_none c cs k n x zero l h = omega arith
  most_none c cs k n x (suc m) l h = absurd (omega (arith, grows (take m cs) (after c k)))

  -- a buffer with the first n bytes
  module _ (n : ℕ) (j : List ℕ) where
    torn : (cs : List Call) (k : Kept) (ts : List (List ℤ)) → FitCalls cs → Stands ρ ns t₀ k ts → k.used ≤ n → FirstBytes (left_to ρ ns cs k) n j → Torn ρ ns t₀ cs k n j
    torn [] k ts f s l b =
        let z : length (take n j) ≤ k.used = omega (arith, length-take n j, b.inside) in
        let q = shorter k.used n j k.journal l b.same in
        record {
          calls = 0;
          among = omega arith;
          before = l;
          most = λ m h _. h;
          answer = cut_here k ts j n s l q (ap entry_in (drop_of_length-le (take n j) {i = k.used} z) ∙ no_field);
          bytes = q;
          rest = replay_stands ρ ns t₀ k ts j s q right;
        }
    torn (c ∷ cs) k ts f s l b =
        let x = next ρ ns t₀ c k ts s f.0 in
        let k' = after c k in
        by (le_or_lt k'.used n) (λ m. torn cs k' x.saved f.1 x.left.stands m b) (keeps (c ∷ cs) k ts f s) (keeps cs k' x.saved f.1 x.left.stands) (adds c k)
      where
        by : ((after c k).used ≤ n) ⊎ (n < (after c k).used) → ((after c k).used ≤ n → Torn ρ ns t₀ cs (after c k) n j) → Begins k (left_to ρ ns (c ∷ cs) k)
            → Begins (after c k) (left_to ρ ns (c ∷ cs) k) → (after c k ≡ k) ⊎ Adds k (entry_to ρ ns c k) (after c k) → Torn ρ ns t₀ (c ∷ cs) k n j
        by (inl m) ih q r a =
            let b = ih m in
            record {
              calls = suc b.calls;
              among = omega (arith, b.among);
              before = b.before;
              most = most_more c cs k n b.calls b.most;
              answer = b.answer;
              bytes = b.bytes;
              rest = b.rest;
            }
        by (inr m) ih q r (inl e) = absurd (omega (arith, ap (λ y. y.used) e))
        by (inr m) ih q r (inr a) =
            let k' = after c k in
            let end = (left_to ρ ns (c ∷ cs) k).journal in
            let y : take n j ≡ take n k'.journal = b.same ∙ shorter n k'.used end k'.journal (omega arith) r in
            let v : drop k.used (take n j) ≡ take (n - k.used) (entry_text (entry_to ρ ns c k)) = ap (drop k.used) y ∙ adds_cut k k' s.inside a n l m in
            let u = field_cut (entry_to ρ ns c k) (n - k.used) (omega (arith, a.used, length_text (entry_to ρ ns c k))) in
            let p = shorter k.used n j end l b.same ∙ q in
            record {
              calls = 0;
              among = omega arith;
              before = l;
              most = most_none c cs k n m;
              answer = cut_here k ts j n s l p (ap entry_in v ∙ u);
              bytes = p;
              rest = replay_stands ρ ns t₀ k ts j s p right;
            }

module _ (ρ : Rules) (ns : List ℕ) (t : List ℤ) (j : List ℕ) (cs : List Call) (ft : Fit t) (fc : FitCalls cs) where
  -- R544: cut at any byte, and whatever stands behind
  pub torn_calls : HasCells ρ ns (length t) → {n : ℕ} {j' : List ℕ} → FirstBytes (left_to ρ ns cs (kept t j 0)) n j' → Torn ρ ns t cs (kept t j 0) n j'
  torn_calls h {n} {j'} b = torn ρ ns t ((Counted.first_due ρ ns (length t) (Ok tt)).1 h) n j' cs (kept t j 0) [] fc (fresh ρ ns t j ft) (omega arith) b
