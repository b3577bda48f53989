use Rattle.std.proofs.Common.{All}
use Rattle.piece_desk.specs.Desks.{IsOf}
use Rattle.test_crews.proofs.desks.post_by_turns.Given as goal

abbrev pub invariant-loop-turn : goal.invariant-loop-turn
invariant-loop-turn g l = All (IsOf l.desk) l.receipts.items
