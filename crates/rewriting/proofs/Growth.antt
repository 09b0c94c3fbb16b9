-- R258: rewriting in a text that still grows (specs/Growth.antt): all that it rests on stays.
-- Assumes nothing.
use mathlib.Core.Path.{ap}
use mathlib.Core.List.{List, ◌++◌}
use Prim.Native.Nat.{ℕ}
use Rattle.rules.specs.declared.Rules.{Rules}
use Rattle.group.specs.Answers.{AnswersAgree}
use Rattle.group.proofs.Growth.{answers_stay}
use Rattle.whole.proofs.Rests.{SameBasis}
use Rattle.rewriting.specs.Growth.{RewrittenAsBefore, RewritingStays}
use Rattle.rewriting.proofs.Rests.{same_rewriting, same_output, same_table}

module _ (ρ : Rules) (s b : List ℕ) where
  pub rewriting_stays : RewritingStays ρ s b
  rewriting_stays at settled = by (answers_stay ρ s b at settled).answers
    where
      by : AnswersAgree ρ (s ++ b) ρ s at → RewrittenAsBefore ρ s b at
      by h =
          let basis : SameBasis ρ (s ++ b) at s at = record { counts = ap (λ c. c.counts_of) h.carried; groups = h.groups } in
          record {
            answer = λ cells room. ap (λ rewriting. rewriting cells room) (same_rewriting ρ (s ++ b) at s at basis h.placing);
            output = same_output ρ (s ++ b) at s at basis;
            table = same_table ρ (s ++ b) at s at basis;
          }
