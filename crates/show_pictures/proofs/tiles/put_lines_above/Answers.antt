use Rattle.show_pictures.proofs.GrownLemmas.{grows_more}
use Rattle.show_pictures.proofs.tiles.put_lines_above.Goals as goal

pub returns : goal.returns
returns c = grows_more (grows_more c.in_ok-put_outlines.ensures c.in_ok-put_signs.ensures) c.in_ok-put_numbers.ensures
