use Rattle.show_pictures.proofs.pictures.put_below.Goals as goal

pub returns : goal.returns
returns c = (c.in_ok-tray_sites.field-0.items, c.in_ok-tray_sites.ensures, c.in_ok-put_tiles.ensures)
