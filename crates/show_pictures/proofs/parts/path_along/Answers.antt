use Rattle.std.specs.String.{string_bytes}
use Rattle.show_pictures.proofs.EdgeLemmas.{is_along}
use Rattle.show_pictures.proofs.parts.path_along.Goals as goal

pub returns : goal.returns
returns c =
    is_along c.args.puzzle.now c.args.colour c.edge_of-edge.result (string_bytes c.in_ok-path.path) c.edge_of-edge.ensures c.in_ok-path.ensures
