use Rattle.show_pictures.proofs.GrownLemmas.{wrapped_grows}
use Rattle.show_pictures.proofs.tiles.put_outlines.Goals as goal

pub returns : goal.returns
returns c = wrapped_grows c.in_ok-put_group.ensures
