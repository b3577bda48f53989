use Rattle.std.proofs.Common.{All, List, sym, subst}
use Rattle.match_puzzle.specs.Puzzle.{Task}
use Rattle.puzzle_symmetry.specs.Symmetry.{IsSymmetry}
use Rattle.match_symmetry.specs.declared.SymmetryLine.{SymmetryLine}
use Rattle.solver.proofs.solves.solve_watched.Goals as goal

pub suited_depth-requires-clause-lines : goal.suited_depth-requires-clause-lines
suited_depth-requires-clause-lines g c κs within =
    subst (λ (p : Task). All (IsSymmetry p) c.deref.result.now) (sym c.in_ok-xcc.ensures.puzzle)
    (subst (λ (l : List SymmetryLine). All (IsSymmetry c.args.puzzle.now) l) (sym c.deref.ensures.value) c.in_ok-lines.ensures.symmetries)

pub plan_of-requires-clause-lines : goal.plan_of-requires-clause-lines
plan_of-requires-clause-lines g c κs within =
    subst (λ (p : Task). All (IsSymmetry p) c.deref-2.result.now) (sym c.in_ok-xcc.ensures.puzzle)
    (subst (λ (l : List SymmetryLine). All (IsSymmetry c.args.puzzle.now) l) (sym c.deref-2.ensures.value) c.in_ok-lines.ensures.symmetries)
