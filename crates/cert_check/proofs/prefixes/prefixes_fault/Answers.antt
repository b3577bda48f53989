use Rattle.std.proofs.Common.{arith}
use Rattle.std.proofs.lemmas.Option.{slice_get_within}
use Rattle.match_puzzle.specs.PrefixFaults.{IsPairList}
use Rattle.cert_tree.specs.Certificate.{Piece, flat_piece}
use Rattle.match_limits.proofs.ListLemmas.{each_more}
use Rattle.cert_check.proofs.prefixes.prefixes_fault.Goals as goal

pub returns-in-Some : goal.returns-in-Some
returns-in-Some c = record { occurs = (flat_piece c.at.result, c.at.ensures, c.in-Some.ensures); before = c.loop-number.invariant }

pub loop-number-preserved : goal.loop-number-preserved
loop-number-preserved c = each_more (λ (l : Piece). IsPairList c.args.puzzle.now l.prefix) c.args.lemmas.now c.loop-number.number (flat_piece c.at.result) c.loop-number.invariant c.at.ensures c.in_default.ensures

pub returns : goal.returns
returns c = λ number lemma at. c.loop-number.invariant number lemma (let lt = slice_get_within c.args.lemmas.now number lemma at in omega (arith, lt, c.loop-number-test.false, c.len-number-end.ensures)) at
