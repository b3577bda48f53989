use Rattle.std.proofs.Common.{◌-◌}
use Rattle.show_text.proofs.rough_numbers.RoughNumber.times.Given as goal

abbrev pub decreases-loop-digits : goal.decreases-loop-digits
decreases-loop-digits l = l.digits

abbrev pub decreases-loop-digits-2 : goal.decreases-loop-digits-2
decreases-loop-digits-2 l = 100000000000 - l.digits
