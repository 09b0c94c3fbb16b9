-- R9, R12: two rules that give the same answers about the record at a place of a text.
use Rattle.std.specs.Prelude.{List, ℕ}
use Rattle.rules.specs.declared.Rules.{Rules}
use Rattle.group.specs.Answers.{AnswersAgree}

abbrev pub SameAnswers : Rules → Rules → List ℕ → ℕ → Type 0
SameAnswers ρ σ s at = AnswersAgree ρ s σ s at
