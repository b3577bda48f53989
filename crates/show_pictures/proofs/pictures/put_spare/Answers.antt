use Rattle.std.proofs.Common.{◌≡◌, List, [], length, refl, sym, subst, arith}
use Rattle.std.proofs.lemmas.List.{nil_from_length}
use Rattle.show_pictures.specs.Arrows.{AreTileLines}
use Rattle.show_pictures.specs.declared.canvases.Site.{Site}
use Rattle.match_puzzle.specs.declared.placements.Placement.{Placement}
use Rattle.show_pictures.specs.Grown.{Wraps}
use Rattle.show_pictures.proofs.PictureLemmas.{none_below}
use Rattle.show_pictures.proofs.pictures.put_spare.Goals as goal

pub returns-then-is_empty : goal.returns-then-is_empty
returns-then-is_empty c =
    let spare = c.args.spare.now in
    let text = c.args.text.now.items in
    let layout = c.args.layout.now in
    let none : spare ≡ [] = nil_from_length spare (grind (arith, c.is_empty.ensures, c.if-is_empty.ensures)) in
    subst (λ (xs : List Placement). (tray : List Site) × (length tray ≡ length xs) × Wraps (AreTileLines c.args.puzzle.now layout.tray_left layout.tray_top tray xs) text text) (sym none)
    ([], refl, none_below c.args.puzzle.now layout.tray_left layout.tray_top text)
