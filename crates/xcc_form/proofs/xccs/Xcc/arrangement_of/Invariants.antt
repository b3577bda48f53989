use Rattle.xcc_form.proofs.ConversionLemmas.{ArePut}
use Rattle.xcc_form.proofs.xccs.Xcc.arrangement_of.Given as goal

abbrev pub invariant-loop-option : goal.invariant-loop-option
invariant-loop-option l = ArePut l.self l.nothing l.options l.option-index l.placements
