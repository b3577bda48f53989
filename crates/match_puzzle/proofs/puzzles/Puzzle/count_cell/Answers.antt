use Rattle.std.proofs.Common.{◌∙◌, subst}
use Rattle.std.proofs.lemmas.List.{length-map}
use Rattle.match_puzzle.specs.Fitting.{AreFitting}
use Rattle.match_puzzle.specs.Puzzle.{Task}
use Rattle.match_puzzle.specs.declared.items.Item.TheVariants.{Cell}
use Rattle.match_puzzle.specs.declared.placements.Pair.{Pair}
use Rattle.match_puzzle.proofs.FittingLemmas.{placements_of, cell_listing}
use Rattle.match_puzzle.proofs.puzzles.Puzzle.count_cell.Goals as goal

pub returns : goal.returns
returns c =
    let xs = c.count.ensures.0 in
    let q = c.args.partial.now.placed in
    let fitting = subst (λ (p : Task). AreFitting p q (Cell c.args.cell) xs) c.requires.made c.count.ensures.1 in
    (placements_of c.args.self.now q c.args.cell xs, cell_listing c.args.self.now q c.args.cell xs fitting, length-map xs (λ (x : Pair). x.placement) ∙ c.count.ensures.2)
