use Rattle.std.proofs.Common.{ap, subst}
use Rattle.match_puzzle.specs.Puzzle.{Task}
use Rattle.match_puzzle.specs.PrefixFaults.{IsPairList}
use Rattle.cert_tree.specs.Certificate.{flat_piece}
use Rattle.cert_check.specs.Setting.{Setting}
use Rattle.cert_check.proofs.settings.Setting.prefix.Goals as goal

pub returns-clause-right : goal.returns-clause-right
returns-clause-right c =
    let right = c.self.invariant.0.prefixes c.args.lemma (flat_piece c.at.result) c.at.ensures in
    subst (λ (p : Task). IsPairList p c.at.result.prefix.now) (ap (λ (s : Setting). s.puzzle) c.self.view_is) right
