use Rattle.std.proofs.Common.{◌≡◌, ◌<◌, ℕ, get_or, length}
use Rattle.show_text.specs.Face.{IsRuleSign}
use Rattle.show_text.proofs.faces.signs_asked.Given as goal

abbrev pub invariant-loop-side : goal.invariant-loop-side
invariant-loop-side l = record {
  long : length l.signs ≡ 4;
  each : (n : ℕ) → n < l.side → IsRuleSign l.puzzle l.cell n (get_or l.signs n 0);
}
