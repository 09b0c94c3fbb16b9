-- `run::pairs` meets its contract: the windows are the columns with their neighbours.
use Rattle.std.proofs.Common.{rules}
use Rattle.run.proofs.Loops.{pairs_run}
use Rattle.run.proofs.pairs.Goals as goal

pub returns : goal.returns
returns c = pairs_run c.all.ensures.runs.0 c.args.s.now (search rules) _ _ (λ a r f' k. search rules) _ c.all.ensures.runs.2
