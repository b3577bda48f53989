use Rattle.std.proofs.Common.{◌≡◌, ◌∙◌, Some, ap, arith, ⊎_elim}
use Rattle.std.proofs.lemmas.Bool.Decides.{eqb_tells}
use Rattle.match_puzzle.proofs.ArrangementLemmas.{first_tile, read_stands, standing_is}
use Rattle.match_puzzle.specs.Puzzle.{colour_of}
use Rattle.puzzle_maker.proofs.trials.ask_for_shown.Goals as goal

pub colour-shown-requires-clause-tile : goal.colour-shown-requires-clause-tile
colour-shown-requires-clause-tile c = rw c.from.ensures (c.requires.is.legal c.args.cell _ (read_stands c.args.planted.now c.args.cell first_tile (omega (arith, c.requires.is.cells, c.requires.cell)))).tile

pub returns-in-Some : goal.returns-in-Some
returns-in-Some c = λ is x stands.
    let here = ap (λ y. colour_of c.args.puzzle.now y c.args.side) (standing_is c.args.planted.now c.args.cell x first_tile stands) in
    let read = rw c.from.ensures at c.colour-shown.ensures.colour in
    let equal : c.in-Some.asked ≡ c.colour-shown.result = ⊎_elim (λ yes. yes.1) (λ no. let told = no.0 in cc) (eqb_tells c.in-Some.asked c.colour-shown.result) in
    (c.clue_colour.ensures.rule (colour_of c.args.puzzle.now x c.args.side)).0 (c.in-Some.is ∙ ap Some (equal ∙ read ∙ here))
