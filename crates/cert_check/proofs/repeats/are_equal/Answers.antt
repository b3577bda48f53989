use Rattle.cert_check.proofs.RepeatLemmas.{entry_at, are_equal_told}
use Rattle.cert_check.proofs.repeats.are_equal.Goals as goal

pub returns-then-x-y : goal.returns-then-x-y
returns-then-x-y c =
    let listed = c.args.listed.now in
    are_equal_told listed c.args.x c.args.y c.index-listed-x.result c.index-listed-y.result c.eq.result (entry_at listed c.args.x.place c.index-listed-x.result c.requires.first c.index-listed-x.is) (entry_at listed c.args.y.place c.index-listed-y.result c.requires.second c.index-listed-y.is) c.eq.ensures
