-- The forms in which cells are drawn.
use Rattle.std.specs.Prelude.{◌==◌, ℕ, if◌then◌else◌}
use Rattle.show_pictures.specs.declared.forms.Form.{Form}
use Rattle.show_pictures.specs.declared.forms.Form.TheVariants.{Square, Up, Down}

-- Where a side begins, right of and below the corner of the box: sides run clockwise, from the upper left corner of a
-- square, and from the tip of a triangle.
abbrev pub begin_of : Form → (side : ℕ) → ℕ × ℕ
begin_of Square side =
    if side == 0 then (0, 0) else (if side == 1 then (80, 0) else (if side == 2 then (80, 80) else (0, 80)))
begin_of Up side = if side == 0 then (52, 0) else (if side == 1 then (104, 90) else (0, 90))
begin_of Down side = if side == 0 then (52, 90) else (if side == 1 then (0, 0) else (104, 0))
