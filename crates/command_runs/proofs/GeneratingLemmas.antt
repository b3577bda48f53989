-- What a puzzle comes to that is made like another one.
use Rattle.std.proofs.Common.{List, ℕ, Ok}
use Rattle.match_puzzle.specs.Puzzle.{Task}
use Rattle.match_text.specs.Puzzles.{PuzzleReads}
use Rattle.puzzle_drafts.specs.declared.drafts.Draft.{Draft}
use Rattle.command_runs.specs.Generating.{IsNotMadeLike, LikeFails}
use Rattle.command_runs.specs.Runs.{IsOfTexts}
use Rattle.command_runs.specs.declared.faults.RunFault.{RunFault}
use Rattle.command_runs.specs.declared.faults.RunFault.TheVariants as runs

-- why none is made like the puzzle that a text spells is what a fault says of the text
pub not_made_like : (d : Draft) (text : List ℕ) (m : Task) → PuzzleReads text (Ok m) → (fault : RunFault) → IsNotMadeLike m d fault → LikeFails d text fault × IsOfTexts fault
not_made_like d text m reads (runs.Make fault) is = ((m, reads, is), tt)
not_made_like d text m reads runs.Memory is = (tt, tt)
not_made_like d text m reads _ is = absurd is
