use Rattle.std.proofs.Common.{◌≡◌, ◌*◌, ◌∙◌, List, Bool, true, replicate, ap, sym, subst}
use Rattle.match_board.specs.Board.{IsBoard, cell_count, mask_of, second_figure}
use Rattle.match_board.specs.declared.figures.Figure.{Figure}
use Rattle.match_board.specs.declared.figures.Figure.TheVariants.{Rectangle, Shape}
use Rattle.match_board.proofs.Places.{above_in_rectangle}
use Rattle.match_board.proofs.AlikeLemmas.{second_alike, second_is_board}
use Rattle.match_board.proofs.boards.Board.second_form.Goals as goal
use Rattle.match_board.proofs.boards.Board.second_form.Goals.{After-full}

-- The mask is that of a rectangle of which every place has a cell.
every : (c : After-full) → Shape c.in-Rectangle.width c.in-Rectangle.height c.full.result ≡ second_figure (Rectangle c.in-Rectangle.width c.in-Rectangle.height)
every c =
    let width = c.in-Rectangle.width in
    let height = c.in-Rectangle.height in
    let count = subst (λ s. c.self.inside.count ≡ cell_count s) c.in-Rectangle.is c.self.invariant.1 in
    let cells : c.self.inside.count ≡ height * width = count ∙ above_in_rectangle width height height in
    ap (λ (mask : List Bool). Shape width height mask) (c.full.ensures ∙ ap (λ n. mask_of (replicate n true)) cells)

pub invariant_of-t-4 : goal.invariant_of-t-4
invariant_of-t-4 c =
    let rectangle = Rectangle c.in-Rectangle.width c.in-Rectangle.height in
    let is = subst (λ s. IsBoard s × (c.self.inside.count ≡ cell_count s)) c.in-Rectangle.is c.self.invariant in
    let e = every (goal.at.invariant_of-t-4 c).After-full in
    let made : IsBoard (second_figure rectangle) × (c.self.inside.count ≡ cell_count (second_figure rectangle)) = (second_is_board rectangle is.0, is.1 ∙ (second_alike rectangle).cells) in
    subst (λ (s : Figure). IsBoard s × (c.self.inside.count ≡ cell_count s)) (sym e) made

pub returns-in-Rectangle : goal.returns-in-Rectangle
returns-in-Rectangle c =
    every (goal.at.returns-in-Rectangle c).After-full ∙ ap second_figure (sym c.in-Rectangle.is ∙ c.self.view_is)
