-- R9, R12: what the rules for line ends promise of one another (specs/Ends.antt).
-- Assumes nothing.
use Rattle.std.specs.Prelude.{Ok}
use mathlib.Core.Path.{◌≡◌, refl}
use Rattle.rules.specs.Choice.{ended}
use Rattle.rules.specs.declared.LineEnds.TheVariants.{Strict}
use Rattle.rules.specs.declared.Rules.{Rules}
use Rattle.count.proofs.Releases.{release_given}
use Rattle.line.proofs.Alike.{alike_ended, alike_one}
use Rattle.line.proofs.Contents.{content_append}
use Rattle.line.proofs.Ends.{either_content, either_some, strict_none, strict_content}
use Rattle.place.proofs.Alike.{alike_placing, alike_counts, alike_spot, alike_stops}
use Rattle.place.proofs.Ends.{strict_misformed, strict_same, strict_placing, strict_spot}
use Rattle.reading.proofs.Ends.{strict_bad_line}
use Rattle.group.proofs.Alike.{alike_read, alike_found, alike_given, alike_characteristic}
use Rattle.group.proofs.Ends.{located_found, located_begins, located_lines, strict_read, strict_characteristic}
use Rattle.writing.proofs.Ends.{canonical_same}
use Rattle.since.proofs.Kept.{alike_first}
use Rattle.whole.proofs.Alike.{alike_whole}
use Rattle.whole.proofs.Ends.{strict_whole}
use Rattle.rewriting.proofs.Alike.{alike_rewriting, alike_text, alike_printed}
use Rattle.rewriting.proofs.Canonical.{right_back}
use Rattle.journal.proofs.SameCounting.{answer_same, left_same, replay_answer_same, replay_left_same}
use Rattle.writing.proofs.SameCounting.{writing_same, output_same}
use Rattle.rewriting.proofs.Ends.{strict_rewriting, strict_text, right_record_same}
use Rattle.sao.specs.Ends.{StrictStays, UnreadSame, LineEndsKept}

strict_stays_so : (ρ : Rules) → StrictStays (ended Strict ρ) ρ
strict_stays_so ρ =
    let σ = ended Strict ρ in
    record {
      content = strict_content σ ρ refl;
      placing = λ s at p. (strict_placing σ ρ refl refl s at p).0;
      carried = λ s at p. (strict_placing σ ρ refl refl s at p).1;
      found = λ s at p. located_found ρ σ refl s at (strict_same σ ρ refl refl s at p);
      begins = λ s at p. located_begins ρ σ refl s at (strict_same σ ρ refl refl s at p);
      lines = λ s at p. located_lines ρ σ refl s at (strict_same σ ρ refl refl s at p);
      spots = strict_spot σ ρ refl refl;
      reading = λ s at. strict_read σ ρ refl refl s at;
      characteristic = λ s at. strict_characteristic σ ρ refl refl s at;
      whole = strict_whole σ ρ refl refl;
      rewriting = strict_rewriting σ ρ refl refl;
      text = strict_text σ ρ refl refl;
    }

unread_same : (σ ρ : Rules) → σ.counting ≡ ρ.counting → UnreadSame σ ρ
unread_same σ ρ alike = record {
  writing = writing_same σ ρ alike;
  output = output_same σ ρ alike;
  call = answer_same σ ρ alike;
  call_left = left_same σ ρ alike;
  replay = replay_answer_same σ ρ alike;
  replay_left = replay_left_same σ ρ alike;
}

pub line_ends : (ρ : Rules) → LineEndsKept ρ
line_ends ρ = record {
  one_return = content_append ρ;
  strictly = λ e. record { no_end = strict_none ρ e; index_line = strict_misformed ρ e; data_line = strict_bad_line ρ e };
  either = λ e. record { either_end = either_content ρ e; some_content = either_some ρ e; here_and_there = alike_ended ρ e; one_line = alike_one ρ e };
  strict_stays = strict_stays_so ρ;
  alike = λ s p t q h.
      record {
        placing = alike_placing ρ s p t q h;
        counts = alike_counts ρ s p t q h;
        reading = alike_read ρ s p t q h;
        whole = alike_whole ρ s p t q h;
        lines = alike_found ρ s p t q h;
        part = alike_given ρ s p t q h;
        characteristic = alike_characteristic ρ s p t q h;
        rewriting = alike_rewriting ρ s p t q h;
        text = alike_text ρ s p t q h;
      };
  walk = λ s t h. record { spots = alike_spot ρ s t h; stops = alike_stops ρ s t h; first = alike_first ρ s t h; prints = alike_printed ρ s t h };
  canonical =
      record {
        reads_back = λ e x r a b. right_back (ended e ρ) (right_record_same ρ (ended e ρ) refl r) a b;
        same = λ e x r a b. canonical_same ρ (ended e ρ) refl r.canonical (release_given r.ns (Ok tt) r.release) a b;
      };
  unread = λ e. unread_same (ended e ρ) ρ refl;
}
