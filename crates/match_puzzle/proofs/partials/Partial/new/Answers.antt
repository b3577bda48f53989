use Rattle.std.proofs.Common.{◌≡◌, replicate, None, rules}
use Rattle.match_board.specs.Board.{cell_count}
use Rattle.match_puzzle.proofs.Kept.{kept_new}
use Rattle.match_puzzle.proofs.partials.Partial.new.Goals as goal

pub invariant_of-result : goal.invariant_of-result
invariant_of-result c =
    let p = c.args.puzzle.now in
    let placed : c.in_ok-placed.placed.items ≡ replicate (cell_count p.board) None = search rules in
    let asks : c.in_ok-asks.asks.items ≡ c.beginning.result.now = search rules in
    rw (placed, c.copy.ensures, asks) (kept_new p c.legal_numbers.result.now c.beginning.result.now c.beginning.ensures.puzzle c.legal_numbers.ensures.legal c.legal_numbers.ensures.unturned c.beginning.ensures.asks)
