use Rattle.std.specs.String.{string_bytes}
use Rattle.show_pictures.proofs.EdgeLemmas.{along_more}
use Rattle.show_pictures.proofs.parts.part_path.Goals as goal

pub returns : goal.returns
returns c = along_more c.args.puzzle.now c.args.colour (string_bytes c.in_ok-along.along) (string_bytes c.in_ok-rest.rest) _ c.in_ok-along.ensures c.in_ok-path.ensures.ok
