use Rattle.std.proofs.Common.{length, arith, ap, ltb-true}
use Rattle.std.proofs.lemmas.List.{length-map}
use Rattle.match_board.specs.Tile.{word}
use Rattle.match_puzzle.specs.Puzzle.{Task}
use Rattle.match_puzzle.proofs.Words.{legal_by_count}
use Rattle.match_puzzle.proofs.puzzles.Puzzle.legal.Goals as goal

pub returns-then-from-len : goal.returns-then-from-len
returns-then-from-len c =
    legal_by_count c.args.self.now c.args.placement c.turn_count.result
    (omega (arith, ap (λ (q : Task). length q.words) c.self.view_is, length-map c.self.inside.tiles.items word, c.self.inside.tiles.ok.0, c.from.ensures, c.if-from-len.true)) c.turn_count.ensures

pub returns-else-from-len : goal.returns-else-from-len
returns-else-from-len c =
    let words = ap (λ (q : Task). length q.words) c.self.view_is in
    let tiles = length-map c.self.inside.tiles.items word in (
      λ yes. absurd (omega (arith, c.if-from-len.false, ltb-true c.from.result c.len.result yes)),
      λ legal. absurd (omega (arith, words, tiles, c.len.ensures, c.self.inside.tiles.ok.0, c.from.ensures, c.if-from-len.false, legal.tile)),
    )
