-- `since::search` meets its contract: each turn by what the step met.
-- Assumes nothing.
use Rattle.std.proofs.Common.{sym, ◌∙◌}
use Rattle.since.proofs.Walked.{walking_first, walking_found, walking_stopped, walking_passed}
use Rattle.since.proofs.search.Goals as goal

pub loop-passed-init : goal.loop-passed-init
loop-passed-init c = walking_first c.args.rules c.args.text.now c.args.from

pub returns-in-Found : goal.returns-in-Found
returns-in-Found c = walking_found c.loop-passed.invariant (sym c.step_at.ensures ∙ c.in-Found.is)

pub returns-in-Stopped : goal.returns-in-Stopped
returns-in-Stopped c = walking_stopped c.loop-passed.invariant (sym c.step_at.ensures ∙ c.in-Stopped.is)

pub loop-passed-preserved : goal.loop-passed-preserved
loop-passed-preserved c = walking_passed c.loop-passed.invariant (sym c.step_at.ensures ∙ c.in-Passed.is)
