use Rattle.std.proofs.Common.{◌<◌, MatchBool, length, below_more, subst}
use Rattle.match_board.specs.Mates.{HasMate}
use Rattle.match_board.specs.Mates.{HasNoMateAt}
use Rattle.match_board.proofs.MateLemmas.{first_without}
use Rattle.match_board.proofs.mates.broken_mate.Goals as goal

pub returns-then-lacks_mate : goal.returns-then-lacks_mate
returns-then-lacks_mate c =
    let mates = c.args.mates.now in
    let n = c.loop-colour.colour in
    rw c.from.ensures (first_without mates n c.loop-colour-test.true c.loop-colour.invariant (subst (λ b. MatchBool b (HasNoMateAt mates n) (n < length mates → HasMate mates n)) c.if-lacks_mate.true c.lacks_mate.ensures))

pub loop-colour-preserved : goal.loop-colour-preserved
loop-colour-preserved c =
    let mates = c.args.mates.now in
    let n = c.loop-colour.colour in
    below_more (λ k. k < length mates → HasMate mates k) n c.loop-colour.invariant (subst (λ b. MatchBool b (HasNoMateAt mates n) (n < length mates → HasMate mates n)) c.if-lacks_mate.false c.lacks_mate.ensures)
