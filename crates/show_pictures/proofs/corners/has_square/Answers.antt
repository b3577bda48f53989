use Rattle.std.proofs.Common.{◌<◌, ◌∙◌, arith, subst, sym}
use Rattle.std.proofs.lemmas.Bool.Decides.{Decides-ltb}
use Rattle.std.proofs.lemmas.Int.{ints}
use Rattle.show_pictures.proofs.corners.has_square.Goals as goal
use Rattle.show_pictures.proofs.corners.has_square.Goals.{then-row-rows, else-row-rows}

pub overflow_add-from : goal.overflow_add-from
overflow_add-from c = omega (arith, ints)

pub overflow_add-from-2 : goal.overflow_add-from-2
overflow_add-from-2 c = omega (arith, ints)

pub is_filled-requires-clause-place : goal.is_filled-requires-clause-place
is_filled-requires-clause-place c =
    let row = c.in-Ok-Ok.row in
    let place = c.in-Ok-Ok.place in
    elim c.if-row-rows.branch [
      | then-row-rows w ↦ subst (λ length. place < length) w.row_length.ensures ((Decides-ltb place w.row_length.result).0 (sym w.value-is ∙ c.if-place-row_length.true))
      | else-row-rows w ↦ omega (arith, (Decides-ltb row c.rows.result).0 (sym w.value-is ∙ c.if-place-row_length.true), w.if-row-rows.false)
    ]
