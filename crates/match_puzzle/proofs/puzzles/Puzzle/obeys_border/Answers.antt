use Rattle.std.proofs.Common.{◌∙◌, ap, arith, slice_index, sym, refl}
use Rattle.match_puzzle.proofs.Prefixes.{inside}
use Rattle.match_puzzle.specs.Puzzle.{colour_of}
use Rattle.match_limits.proofs.FirstLemmas.{by_test}
use Rattle.match_limits.proofs.OptionLemmas.{none_some}
use Rattle.match_puzzle.proofs.ArrangementLemmas.{first_tile, read_stands, standing_is}
use Rattle.match_puzzle.proofs.puzzles.Puzzle.obeys_border.Goals as goal

pub shown-requires : goal.shown-requires
shown-requires c = rw c.from.ensures (c.requires.legal c.args.cell _ (read_stands c.args.placements.now c.args.cell first_tile (omega (arith, c.requires.long, c.requires.cell))))

pub returns-in-Some : goal.returns-in-Some
returns-in-Some c =
    let p = c.args.self.now in
    let a = c.args.placements.now in
    let here = read_stands a c.args.cell first_tile (omega (arith, c.requires.long, c.requires.cell)) in
    let shows = rw c.from.ensures at (ap (λ side. slice_index c.shown.result side) c.from-in-Some.ensures ∙ (c.shown.ensures c.args.side c.requires.side).0) in
    by_test (slice_index c.shown.result c.from-in-Some.result) c.in-Some.colour _ _
    (λ e colour x stands rule. sym (ap (λ y. colour_of p y c.args.side) (standing_is a c.args.cell x first_tile stands)) ∙ sym shows ∙ e ∙ inside ((c.in-Some.ensures colour).1 rule))
    (λ ne. (_, c.in-Some.colour, here, (c.in-Some.ensures c.in-Some.colour).0 refl, λ e. ne (shows ∙ e)))

pub returns-in-None : goal.returns-in-None
returns-in-None c = λ colour x stands rule. absurd (none_some ((c.in-None.ensures colour).1 rule))
