use Rattle.show_pictures.proofs.TileLemmas.{have_tiles}
use Rattle.show_pictures.proofs.cut_documents.begin_solution.Goals as goal

pub describe_arrangement-requires : goal.describe_arrangement-requires
describe_arrangement-requires c = have_tiles c.args.puzzle.now c.args.arrangement.now c.requires
