use Rattle.std.proofs.Common.{◌≡◌}
use Rattle.show_page.proofs.JoiningLemmas.{first_ones}
use Rattle.show_page.proofs.joining.join.Given as goal

abbrev pub invariant-loop-piece : goal.invariant-loop-piece
invariant-loop-piece l = l.text.items ≡ first_ones (λ piece. piece.now) l.pieces l.piece-index
