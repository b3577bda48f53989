use Rattle.std.proofs.Common.{◌≡◌, ◌<◌, ◌∙◌, length, ap, subst}
use Rattle.match_board.specs.Board.{side_count}
use Rattle.match_puzzle.specs.Puzzle.{Task, word_of}
use Rattle.match_puzzle.proofs.Words.{inside_words}
use Rattle.match_puzzle.proofs.puzzles.Puzzle.tile.Goals as goal

pub returns-clause-sides : goal.returns-clause-sides
returns-clause-sides c =
    let words = ap (λ (p : Task). p.words) c.self.view_is in
    let same = inside_words _ c.self.inside.tiles.items c.args.tile c.index.result.now words c.requires (rw c.from.ensures at c.index.ensures) in
    let Q : Task → Type 0 = λ p. c.args.tile < length p.words → length (word_of p c.args.tile) ≡ side_count p.board in
    ap length same ∙ subst Q c.self.view_is (λ lt. c.self.invariant.puzzle.sides c.args.tile lt) c.requires
