use Rattle.std.proofs.Common.{◌≡◌, ◌≤◌, arith, sym, subst, refl}
use Rattle.match_board.specs.Board.{IsBoard, HasRoom, cell_count, shape_of}
use Rattle.match_board.specs.declared.figures.Figure.TheVariants.{Shape}
use Rattle.match_board.proofs.MaskLemmas.{cells_of_shape, shape_is_board, shape_has_room}
use Rattle.match_board.proofs.boards.Board.shape.Goals as goal
use Rattle.match_board.proofs.boards.Board.shape.Goals.{then-mask-gt-MOST_PLACES-via-then-mask-gt-MOST_PLACES, then-mask-gt-MOST_PLACES-via-else-mask-gt-MOST_PLACES+then-cells-from}

pub returns-then-cells-eq0-clause-empty : goal.returns-then-cells-eq0-clause-empty
returns-then-cells-eq0-clause-empty c =
    let same = cells_of_shape c.args.width c.args.height c.args.mask.now c.requires in
    grind (arith, same)

pub returns-then-cells-eq0-clause-too_large : goal.returns-then-cells-eq0-clause-too_large
returns-then-cells-eq0-clause-too_large c =
    let same = cells_of_shape c.args.width c.args.height c.args.mask.now c.requires in
    grind (arith, same)

pub returns-then-mask-gt-MOST_PLACES-clause-empty : goal.returns-then-mask-gt-MOST_PLACES-clause-empty
returns-then-mask-gt-MOST_PLACES-clause-empty c =
    let same = cells_of_shape c.args.width c.args.height c.args.mask.now c.requires in
    grind (arith, same)

pub returns-then-mask-gt-MOST_PLACES-clause-too_large : goal.returns-then-mask-gt-MOST_PLACES-clause-too_large
returns-then-mask-gt-MOST_PLACES-clause-too_large c =
    let same = cells_of_shape c.args.width c.args.height c.args.mask.now c.requires in
    let some : 1 ≤ cell_count (shape_of c.args.width c.args.height c.args.mask.now) = omega (arith, same, c.marks-cells.ensures, c.if-cells-eq0.false) in
    let no_room : HasRoom (shape_of c.args.width c.args.height c.args.mask.now) → ⊥ = λ room.
    let within = shape_has_room c.args.width c.args.height c.args.mask.now c.requires room in
    elim c.then-mask-gt-MOST_PLACES.branch [
      | then-mask-gt-MOST_PLACES-via-then-mask-gt-MOST_PLACES w ↦ absurd (omega (arith, within, w.if-mask-gt-MOST_PLACES.true))
      | then-mask-gt-MOST_PLACES-via-else-mask-gt-MOST_PLACES+then-cells-from w ↦ absurd (omega (arith, within, w.if-cells-from.true, w.from.ensures, c.marks-cells.ensures))
    ] in
    (λ _. (some, no_room), λ _. refl)

pub invariant_of-result : goal.invariant_of-result
invariant_of-result c =
    let marks = c.args.mask.now in
    let same = cells_of_shape c.args.width c.args.height marks c.requires in
    let is = shape_is_board c.args.width c.args.height marks c.requires c.if-mask-gt-MOST_PLACES.false (omega (arith, c.marks-cells.ensures, c.if-cells-eq0.false)) (omega (arith, c.marks-cells.ensures, c.if-cells-from.false, c.from.ensures)) in
    subst (λ mask. IsBoard (Shape c.args.width c.args.height mask) × (c.marks-cells.result ≡ cell_count (Shape c.args.width c.args.height mask))) (sym c.kept-mask.ensures) (is, omega (arith, same, c.marks-cells.ensures))

pub returns-clause-fits : goal.returns-clause-fits
returns-clause-fits c =
    let marks = c.args.mask.now in
    let is = shape_is_board c.args.width c.args.height marks c.requires c.if-mask-gt-MOST_PLACES.false (omega (arith, c.marks-cells.ensures, c.if-cells-eq0.false)) (omega (arith, c.marks-cells.ensures, c.if-cells-from.false, c.from.ensures)) in
    subst (λ mask. IsBoard (Shape c.args.width c.args.height mask)) (sym c.kept-mask.ensures) is

pub returns-clause-empty : goal.returns-clause-empty
returns-clause-empty c =
    let same = cells_of_shape c.args.width c.args.height c.args.mask.now c.requires in
    grind (arith, same)

pub returns-clause-too_large : goal.returns-clause-too_large
returns-clause-too_large c =
    let marks = c.args.mask.now in
    let is = shape_is_board c.args.width c.args.height marks c.requires c.if-mask-gt-MOST_PLACES.false (omega (arith, c.marks-cells.ensures, c.if-cells-eq0.false)) (omega (arith, c.marks-cells.ensures, c.if-cells-from.false, c.from.ensures)) in
    (λ e. absurd cc, λ h. absurd (h.1 is.room))
