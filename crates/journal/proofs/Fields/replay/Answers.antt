use Rattle.journal.proofs.Answers.{played_open}
use Rattle.journal.proofs.Fields.replay.Goals as goal

pub returns-then-state-used-clause-open : goal.returns-then-state-used-clause-open
returns-then-state-used-clause-open c = played_open c.play-state.ensures
