use Rattle.std.proofs.Common.{◌≡◌, ◌++◌, ℕ, List, subst}
use Rattle.std.specs.Prelude.{OnOk}
use Rattle.match_text.proofs.ShapeLemmas.{shape_line}
use Rattle.match_text.proofs.puzzle_spellings.put_shape.Goals as goal

pub returns : goal.returns
returns c =
    subst (λ (line : List ℕ). OnOk c.put_lengths.result (c.put_lengths.new.text.items ≡ c.args.text.now.items ++ line)) (shape_line c.args.width c.args.height) c.put_lengths.ensures
