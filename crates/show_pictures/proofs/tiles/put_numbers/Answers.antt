use Rattle.show_pictures.proofs.GrownLemmas.{grows_more, wrapped_grows}
use Rattle.show_pictures.proofs.tiles.put_numbers.Goals as goal

pub returns : goal.returns
returns c = grows_more (wrapped_grows c.in_ok-put_group.ensures) (wrapped_grows c.in_ok-put_group-2.ensures)
