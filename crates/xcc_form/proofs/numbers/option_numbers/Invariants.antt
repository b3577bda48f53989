use Rattle.std.proofs.Common.{◌≡◌, take, length}
use Rattle.xcc_form.specs.Numbers.{AreNumbered}
use Rattle.xcc_form.proofs.numbers.option_numbers.Given as goal

abbrev pub invariant-loop-pair : goal.invariant-loop-pair
invariant-loop-pair l = record {
  option : l.option ≡ l.pair-index;
  numbered : AreNumbered (length l.puzzle.words) (take l.pair-index l.pairs) l.numbers.items;
}
