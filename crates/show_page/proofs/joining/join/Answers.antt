use Rattle.std.proofs.Common.{◌∙◌, arith}
use Rattle.show_page.proofs.JoiningLemmas.{all_joined}
use Rattle.show_page.proofs.joining.join.Goals as goal

pub returns : goal.returns
returns c = c.loop-piece.invariant ∙ all_joined (λ piece. piece.now) c.args.pieces.now c.loop-piece.piece-index (omega arith)
