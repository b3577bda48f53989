use Rattle.std.proofs.Common.{subst}
use Rattle.match_puzzle.specs.Prefix.{Layout}
use Rattle.show_reasons.specs.Reasons.{AreReasons}
use Rattle.show_reasons.proofs.ReasonLemmas.{name_colours}
use Rattle.show_reasons.proofs.finding.reasons_of.Goals as goal

pub returns-clause-colours : goal.returns-clause-colours
returns-clause-colours c =
    name_colours c.args.puzzle.now c.new.ensures.puzzle c.put_tiles.new.reasons.items
    (subst (λ (q : Layout). AreReasons q.puzzle c.put_tiles.new.reasons.items) c.in_ok-partial.ensures.empty c.in_ok-put_tiles.ensures)
