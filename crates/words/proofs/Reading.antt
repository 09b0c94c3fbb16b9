-- A read into what is left of a space: its first bytes stay, and those that were read stand behind them.
-- Assumes nothing.
use Rattle.std.proofs.Common.{◌≡◌, ℕ, ◌+◌, ◌≤◌, List, ◌++◌, length, take, drop, sym, ap, ◌∙◌, subst, take-add, drop_at, length-take-le}
use lib.Seq.{take-append-le}
use borrow.Rule.Slice.PartMut.{put_mid, post_of, take_put}
use Rattle.std.specs.declared.option.Option.{Option}
use Rattle.std.specs.Io.KnownBytes.{Consumes, Keeps}
use Rattle.std.proofs.KnownBytes.{Consumes-trans, Consumes-kept}

module _ (a b c : Option (List ℕ)) (at room : ℕ) (space part : List ℕ) (within : at ≤ length space) (before : Consumes a b (take at space)) where
  pub read_more : (n : ℕ) → n ≤ length part → Consumes b c (take n part) → Consumes a c (take (at + n) (put_mid at room space part))
  read_more n fits read =
      let behind = part ++ post_of at room space in
      let joined : take at space ++ take n part ≡ take (at + n) (put_mid at room space part) =
      sym
      (take-add at n (put_mid at room space part)
      ∙ ap (λ t. t ++ take n (drop at (put_mid at room space part))) (take_put at room space part within)
      ∙ ap (λ t. take at space ++ take n t) (drop_at (take at space) behind at (length-take-le at space within))
      ∙ ap (λ t. take at space ++ t) (take-append-le n part (post_of at room space) fits))
      in
      subst (Consumes a c) joined (Consumes-trans a b c (take at space) (take n part) before read)

  pub read_none : Keeps b c → Consumes a c (take at (put_mid at room space part))
  read_none kept = subst (Consumes a c) (sym (take_put at room space part within)) (Consumes-kept a b c (take at space) before kept)
