use Rattle.std.proofs.Common.{◌≡◌, take}
use Rattle.xcc_form.specs.Chosen.{before_any}
use Rattle.xcc_dance.specs.Placing.{ArePairsOf}
use Rattle.xcc_dance.proofs.paths.SearchPath.choose_all.Given as goal

abbrev pub invariant-loop-pair : goal.invariant-loop-pair
invariant-loop-pair g l = record {
  compiled : (g.E.OpenOptions.selection l.self).compiled ≡ (g.E.OpenOptions.selection l.initial.self).compiled;
  pairs : ArePairsOf (g.E.OpenOptions.selection l.self).compiled (g.E.OpenOptions.selection l.self).chosen (take l.pair-index l.pairs);
  before : before_any g.E.OpenOptions.selection g.E.OpenOptions.taken_back l.self ≡ l.initial.self;
}
