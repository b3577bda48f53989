use Rattle.std.proofs.Common.{List, refl, subst, arith}
use Rattle.std.proofs.lemmas.Option.{slice_get_within, slice_get_read}
use Rattle.match_puzzle.specs.Arrangement.{IsArrangement}
use Rattle.match_puzzle.specs.ArrangementFaults.{IsArrangementFault}
use Rattle.match_puzzle.specs.declared.placements.Placement.{Placement}
use Rattle.match_limits.proofs.ListLemmas.{each_more}
use Rattle.match_puzzle.proofs.puzzles.Puzzle.first_wrong.Goals as goal

pub returns-in-Some : goal.returns-in-Some
returns-in-Some c =
    let a = c.index-listed-number.result in
    let here = slice_get_read c.args.listed.now _ c.loop-number.number a refl c.loop-number-test.true c.index-listed-number.is in
    let fails = subst (λ (b : List Placement). IsArrangementFault c.args.self.now b c.in-Some.fault) c.placements.ensures c.in-Some.ensures in
    record { wrong = (a, here, fails); before = c.loop-number.invariant }

pub loop-number-preserved : goal.loop-number-preserved
loop-number-preserved c =
    let here = slice_get_read c.args.listed.now _ c.loop-number.number c.index-listed-number.result refl c.loop-number-test.true c.index-listed-number.is in
    each_more (IsArrangement c.args.self.now) c.args.listed.now c.loop-number.number c.index-listed-number.result c.loop-number.invariant here (subst (IsArrangement c.args.self.now) c.placements.ensures c.in_default.ensures)

pub returns : goal.returns
returns c = λ number a at. c.loop-number.invariant number a (let lt = slice_get_within c.args.listed.now number a at in omega arith) at
