-- What stands on both outputs behind the pieces that were printed: their copies on one, the lines of what was left out on the other.
-- Assumes nothing.
use mathlib.Core.Path.{◌≡◌, refl, sym, ◌∙◌, ap, subst}
use mathlib.Core.List.{List, [], ◌∷◌, ◌++◌, flat_map, append_assoc, append-nil}
use Prim.Native.Nat.{ℕ, ◌<◌, ◌≤◌}
use native.Mathlib.Omega.{arith}
use borrow.Author.Tests.{le-leb, lt-leb}
use lib.ListN.{length}
use Rattle.std.specs.declared.option.Option.{Option}
use Rattle.std.specs.Io.KnownBytes.{Appends}
use Rattle.std.proofs.KnownBytes.{Appends-nil, Appends-trans}
use Rattle.std.proofs.lemmas.Grind.{flat_map-append}
use Rattle.rules.specs.declared.Rules.{Rules}
use Rattle.salvaging.specs.declared.Piece.{Piece}
use Rattle.salvaging.specs.Pieces.{piece_end, piece_at, pieces_from, pieces, copy_of, report_of}
use Rattle.salvaging.specs.Printed.{printed_pieces, BehindPieces, start, one_more}
use Rattle.salvaging.proofs.Pieces.{piece_end_lem, pieces_end, pieces_more}
use Rattle.salvaging.proofs.Printing.{Printing}
use Rattle.words.specs.Written.{AppendsFront}
use Rattle.words.proofs.Fronts.{front_behind}
use Rattle.salvage.specs.Written.{printed_copy, printed_report}

flat_last : {A : Type 0} (f : A → List ℕ) (xs : List A) (x : A) → flat_map f (xs ++ (x ∷ [])) ≡ flat_map f xs ++ f x
unfolding flat_map
flat_last f xs x = flat_map-append f xs (x ∷ []) ∙ ap (λ t. flat_map f xs ++ t) (append-nil (f x))

-- ---- piece by piece

pub record Writing (ρ : Rules) (s : List ℕ) (at : ℕ) (out out' told told' : Option (List ℕ)) : Type 0 where
  pub before : List Piece
  pub reached : BehindPieces ρ s at before
  pub inside : at ≤ length s
  pub whole : before ++ pieces_from ρ s at ≡ pieces ρ s
  pub copied : Appends out out' (flat_map (copy_of s) before)
  pub reported : Appends told told' (flat_map report_of before)

module _ (ρ : Rules) (s : List ℕ) where
  pub writing_first : (out told : Option (List ℕ)) → Writing ρ s 0 out out told told
  unfolding flat_map
  writing_first out told = record {
    before = [];
    reached = start;
    inside = omega arith;
    whole = refl;
    copied = Appends-nil out;
    reported = Appends-nil told;
  }

  -- R341: nothing is to be written of more than 65,536 bytes
  module _ (l : 65536 < length s) where
    none_printed : printed_pieces ρ s ≡ []
    unfolding printed_pieces
    none_printed = rw (lt-leb (length s) 65536 l) refl

    pub none_copied : (out : Option (List ℕ)) → Appends out out (printed_copy ρ s)
    unfolding flat_map
    none_copied out = rw none_printed (Appends-nil out)

    pub none_reported : (told : Option (List ℕ)) → Appends told told (printed_report ρ s)
    unfolding flat_map
    none_reported told = rw none_printed (Appends-nil told)

  module _ {at : ℕ} {out out' told told' : Option (List ℕ)} (w : Writing ρ s at out out' told told') where
    pub printing_of : Printing ρ s at
    printing_of = record { before = w.before; reached = w.reached; inside = w.inside; whole = w.whole }

    module _ (few : length s ≤ 65536) (l : length s ≤ at) where
      all_before : w.before ≡ printed_pieces ρ s
      unfolding printed_pieces
      all_before =
          rw (le-leb (length s) 65536 few) (sym (append-nil w.before) ∙ ap (λ ps. w.before ++ ps) (sym (pieces_end ρ s at l)) ∙ w.whole)

      pub all_copied : Appends out out' (printed_copy ρ s)
      all_copied = subst (λ ps. Appends out out' (flat_map (copy_of s) ps)) all_before w.copied

      pub all_reported : Appends told told' (printed_report ρ s)
      all_reported = subst (λ ps. Appends told told' (flat_map report_of ps)) all_before w.reported

    module _ (l : at < length s) {out'' told'' : Option (List ℕ)} where
      one_further : Appends out' out'' (copy_of s (piece_at ρ s at)) → Appends told' told'' (report_of (piece_at ρ s at))
          → Writing ρ s (piece_end (piece_at ρ s at)) out out'' told told''
      one_further c r =
          let here = piece_at ρ s at in
          record {
            before = w.before ++ (here ∷ []);
            reached = one_more at w.before l w.reached;
            inside = (piece_end_lem ρ s at l).1;
            whole = append_assoc w.before (here ∷ []) (pieces_from ρ s (piece_end here)) ∙ ap (λ ps. w.before ++ ps) (sym (pieces_more ρ s at l)) ∙ w.whole;
            copied = rw (flat_last (copy_of s) w.before here) (Appends-trans out out' out'' (flat_map (copy_of s) w.before) (copy_of s here) w.copied c);
            reported = rw (flat_last report_of w.before here) (Appends-trans told told' told'' (flat_map report_of w.before) (report_of here) w.reported r);
          }

      pub writing_more : {piece : Piece} → piece ≡ piece_at ρ s at → {end : ℕ} → end ≡ piece_end piece → Appends out' out'' (copy_of s piece)
          → Appends told' told'' (report_of piece) → Writing ρ s end out out'' told told''
      writing_more e f c r =
          rw (f, e) (one_further (subst (λ p. Appends out' out'' (copy_of s p)) e c) (subst (λ p. Appends told' told'' (report_of p)) e r))

    -- where the piece at hand is not printed whole: of what is due of it a front part, and so of what is due of all pieces
    module _ (few : length s ≤ 65536) (l : at < length s) {piece : Piece} (e : piece ≡ piece_at ρ s at) where
      due : (f : Piece → List ℕ) → flat_map f w.before ++ (f piece ++ flat_map f (pieces_from ρ s (piece_end piece))) ≡ flat_map f (printed_pieces ρ s)
      unfolding flat_map printed_pieces
      due f =
          rw (e, le-leb (length s) 65536 few)
          (sym (flat_map-append f w.before (piece_at ρ s at ∷ pieces_from ρ s (piece_end (piece_at ρ s at))))
          ∙ ap (λ ps. flat_map f (w.before ++ ps)) (sym (pieces_more ρ s at l))
          ∙ ap (flat_map f) w.whole)

      pub copied_part : (out'' : Option (List ℕ)) → AppendsFront out' out'' (copy_of s piece) → AppendsFront out out'' (printed_copy ρ s)
      copied_part out'' = front_behind out out' out'' (flat_map (copy_of s) w.before) (copy_of s piece) _ (printed_copy ρ s) (due (copy_of s)) w.copied

      pub reported_part : (told'' : Option (List ℕ)) → AppendsFront told' told'' (report_of piece) → AppendsFront told told'' (printed_report ρ s)
      reported_part told'' = front_behind told told' told'' (flat_map report_of w.before) (report_of piece) _ (printed_report ρ s) (due report_of) w.reported
