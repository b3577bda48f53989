use Rattle.std.proofs.Common.{All, sym, subst}
use Rattle.match_puzzle.specs.Puzzle.{Task}
use Rattle.puzzle_symmetry.specs.Symmetry.{IsSymmetry}
use Rattle.solver.proofs.solves.suited_depth.Goals as goal

pub symmetries_of-requires : goal.symmetries_of-requires
symmetries_of-requires g c = subst (λ (p : Task). All (IsSymmetry p) c.args.lines.now) (sym c.puzzle.ensures.value) c.requires.lines
