use Rattle.std.proofs.Common.{◌<◌}
use Rattle.match_limits.specs.Listing.{IsListing}
use Rattle.xcc_form.proofs.ConversionLemmas.{IsTaken}
use Rattle.xcc_form.proofs.xccs.Xcc.options_of.Given as goal

abbrev pub invariant-loop-option : goal.invariant-loop-option
invariant-loop-option l = IsListing ◌<◌ (IsTaken l.self l.placements l.option) l.options.items
