-- The ranges of each version.
use Rattle.std.proofs.Common.{◌≡◌, ℕ, Bool, true, false, cond, eqb, refl, arith}
use Rattle.match_limits.specs.declared.ranges.TheConstants.{FIRST, SECOND}
use Rattle.match_limits.specs.Ranges.{ranges_of, AreRanges}

pub first_are : AreRanges FIRST
first_are = record { plain = omega arith; few = omega arith; last = refl; rules = refl; children = refl; levels = refl }

pub second_are : AreRanges SECOND
second_are = record { plain = omega arith; few = omega arith; last = refl; rules = refl; children = refl; levels = refl }

are_chosen : (first : Bool) → AreRanges (cond first FIRST SECOND)
are_chosen true = first_are
are_chosen false = second_are

pub are_ranges : (version : ℕ) → AreRanges (ranges_of version)
unfolding ranges_of
are_ranges version = are_chosen (eqb version 1)

pub first_is : ranges_of 1 ≡ FIRST
unfolding ranges_of
first_is = refl

pub second_is : ranges_of 2 ≡ SECOND
unfolding ranges_of
second_is = refl
