use Rattle.show_pictures.proofs.cut_pages.put_tiles_apart.Goals as goal

pub returns : goal.returns
returns c = (c.in_ok-sites.field-0.items, c.in_ok-sites.ensures, c.in_ok-put_tiles.ensures)
