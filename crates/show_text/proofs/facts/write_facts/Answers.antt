use Rattle.show_text.proofs.FactLemmas.{few_colours}
use Rattle.show_text.proofs.facts.write_facts.Goals as goal

pub put_colour_lines-requires-clause-colours : goal.put_colour_lines-requires-clause-colours
put_colour_lines-requires-clause-colours c = few_colours c.args.puzzle.now c.colours-colours.result c.board-board.ensures.puzzle c.colours-colours.ensures

pub put_mates-requires-clause-colours : goal.put_mates-requires-clause-colours
put_mates-requires-clause-colours c = few_colours c.args.puzzle.now c.colours-colours.result c.board-board.ensures.puzzle c.colours-colours.ensures
