-- A month that was read is one.
use Rattle.date.specs.Date.{month}
use Rattle.date.proofs.Grammar.{read_is, ok_read}
use Rattle.date.proofs.Date.new.Goals as goal

pub judge-requires : goal.judge-requires
judge-requires c =
    let r = read_is month c.args.letters.now _ (ok_read _ _ _ c.in_ok-read_or_blame-3.ensures) in
    (r.enough, r.not_more)
