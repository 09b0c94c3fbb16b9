-- R200 to R217 and R222 in figures (specs/Numbers.antt), by computation.
-- Assumes nothing.
use mathlib.Core.Path.{refl}
use Rattle.sao.specs.Numbers.{AnswersTold}

pub answers_told : AnswersTold
answers_told =
    record {
      refusals = record {
        text_end = refl;
        beyond = refl;
        too_few_lines = refl;
        misformed = refl;
        other_release = refl;
        filled_vacant = λ g. refl;
        broken_rule = λ g. refl;
        bad_line = λ l. refl;
        bad_field = λ l e. refl;
        bad_date = λ p. refl;
        no_room = refl;
        no_such_number = refl;
        no_field = λ g e. refl;
        other_length = refl;
        not_open = refl;
        all_open = refl;
        bad_entry = λ p. refl;
        bad_part = refl;
      };
      placing = record { placed = λ n. refl; broken_rule = λ g n. refl; refused = λ r. refl };
      group = record {
        read = λ cs. refl;
        read_refused = λ r. refl;
        given = refl;
        lines_refused = λ r. refl;
        value = λ z. refl;
        no_reading = refl;
        not_reported = refl;
        characteristic_refused = λ r. refl;
      };
      whole = record { read = λ n. (refl, refl); refused = λ g r. (refl, refl) };
      first = record { found = λ p k. (refl, refl, refl); refused = λ k r. (refl, refl, refl) };
      stretch = record { ends = λ p. refl; refused = λ r. refl };
      text = record {
        written = λ n. refl;
        write_refused = λ r. refl;
        rewritten = λ n p. (refl, refl);
        rewrite_refused = λ g r. (refl, refl);
      };
      journal = record { call = λ k. refl; call_refused = λ r. refl };
    }
