use Rattle.std.proofs.Common.{◌≡◌, ◌≢◌, ℕ, IfErr, sym, subst, ⊎_elim}
use Rattle.match_board.specs.declared.figures.Figure.{Figure}
use Rattle.match_board.specs.Mates.{mating_of}
use Rattle.match_limits.specs.First.{IsFirst}
use Rattle.match_puzzle.specs.Puzzle.{Task, task_with}
use Rattle.match_puzzle.specs.PuzzleFaults.{PuzzleFails, puzzle_rank}
use Rattle.match_puzzle.specs.declared.faults.PuzzleFault.TheVariants.{Memory}
use Rattle.match_text.proofs.puzzles.make_said.Goals as goal

pub returns-clause-fault : goal.returns-clause-fault
returns-clause-fault c =
    let said = c.args.said.now in
    let one = c.if-said-eq1.false in
    let two = c.if-said-eq2.false in
    let three : said.version ≡ 3 = ⊎_elim (λ e. absurd (one e.0)) (λ later. ⊎_elim (λ e. absurd (two e)) (λ e. e) later) c.requires.version in
    let of : Figure → ℕ → Task = λ board version. task_with board said.turns said.border (mating_of version said.mates.items) said.clues.items said.tiles.items in
    let Fails : Figure → ℕ → Type 0 = λ board version. IfErr c.with_clues.result (λ f. f ≢ Memory → IsFirst puzzle_rank (PuzzleFails (of board version)) f) in
    let whole : Fails c.args.board 3 = rw (c.deref-2.ensures.value, c.deref-3.ensures.value, c.deref-4.ensures.value) at c.with_clues.ensures.fault in
    subst (λ board. Fails board said.version) c.requires.board (subst (Fails c.args.board) (sym three) whole)
