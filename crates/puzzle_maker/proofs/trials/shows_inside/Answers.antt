use Rattle.std.proofs.Common.{◌≡◌, ◌∙◌, ap, arith, ⊎_elim}
use Rattle.std.proofs.lemmas.Bool.Decides.{eqb_tells}
use Rattle.match_limits.proofs.OptionLemmas.{none_some}
use Rattle.match_puzzle.proofs.ArrangementLemmas.{first_tile, read_stands, standing_is}
use Rattle.match_puzzle.specs.Puzzle.{colour_of}
use Rattle.puzzle_maker.proofs.trials.shows_inside.Goals as goal

pub colour-requires-clause-tile : goal.colour-requires-clause-tile
colour-requires-clause-tile c = rw c.from.ensures (c.requires.is.legal c.args.cell _ (read_stands c.args.planted.now c.args.cell first_tile (omega (arith, c.requires.is.cells, c.requires.cell)))).tile

pub returns-in-None : goal.returns-in-None
returns-in-None c = λ _ other met x meets stands shows. absurd (none_some (c.in-None.ensures.only other met meets))

pub returns-in-Some : goal.returns-in-Some
returns-in-Some c = λ is other met x meets stands shows.
    let here = ap (λ y. colour_of c.args.puzzle.now y c.args.side) (standing_is c.args.planted.now c.args.cell x first_tile stands) in
    let read = rw c.from.ensures at c.colour.ensures.colour in
    let same : c.colour.result ≡ c.args.colour = read ∙ here ∙ shows in
    ⊎_elim (λ yes. let told = yes.0 in cc) (λ no. no.1 same) (eqb_tells c.colour.result c.args.colour)
