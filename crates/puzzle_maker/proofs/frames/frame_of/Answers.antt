use Rattle.std.proofs.Common.{◌≡◌, ◌<◌, ◌∙◌, length, ap, sym, subst, arith}
use Rattle.match_board.specs.Board.{IsBorderOrder}
use Rattle.match_board.specs.Borders.{rule_of}
use Rattle.match_limits.proofs.OptionLemmas.{none_some}
use Rattle.puzzle_maker.proofs.FrameLemmas.{on_too_many}
use Rattle.puzzle_maker.proofs.frames.frame_of.Goals as goal

pub returns-else-sides_with-from : goal.returns-else-sides_with-from
returns-else-sides_with-from c = λ colour. (
  λ none. absurd (none_some none),
  λ is.
      let outer = c.border_len-outer.ensures in
      let asked = sym c.border.ensures ∙ ap rule_of c.in-One.is in
      let order = subst (λ s. IsBorderOrder s outer.0) c.board.ensures.value outer.1 in
      let many : length outer.0 < c.sides_with.result = omega (arith, outer.2) in
      absurd (on_too_many c.args.model.now c.in-One.colour c.sides_with.result outer.0 asked order c.sides_with.ensures many colour is),
)
