use Rattle.match_puzzle.proofs.TableLemmas.{rule_below}
use Rattle.show_pictures.proofs.bands.asked.Goals as goal

pub returns-clause-below : goal.returns-clause-below
returns-clause-below c =
    rule_below c.args.puzzle.now c.args.cell c.args.side c.rule.result c.requires.puzzle (λ colour is. (c.rule.ensures colour).0 is)
