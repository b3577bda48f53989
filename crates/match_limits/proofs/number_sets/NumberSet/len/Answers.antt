use Rattle.std.proofs.Common.{◌∙◌, ap, take, length, count_ones, arith, refl}
use Rattle.match_limits.specs.NumberSets.{joined}
use Rattle.match_limits.proofs.NumberSetLemmas.{ones_to_end, ones_before, few_ones}
use Rattle.std.proofs.lemmas.List.{take_all}
use lib.Count.{ones}
use Rattle.match_limits.proofs.number_sets.NumberSet.len.Goals as goal

pub loop-word-init : goal.loop-word-init
unfolding joined ones
loop-word-init c = record { counted = refl; few = omega arith }

pub loop-word-preserved : goal.loop-word-preserved
loop-word-preserved c =
    let i = c.self.inside in
    let more = ones_before i.words i.end c.loop-word.word-index c.self.invariant c.loop-word-test.true in
    let few = few_ones i.words i.end c.loop-word.word-index c.self.invariant in
    record { counted = omega (arith, more); few = omega (arith, few) }

pub returns-clause-count : goal.returns-clause-count
returns-clause-count c =
    let i = c.self.inside in
    c.loop-word.invariant.counted ∙ ap (λ ws. count_ones (joined ws)) (take_all c.loop-word.word-index (take i.end i.words) c.loop-word-test.false) ∙ ones_to_end i.words i.end c.self.invariant ∙ ap length c.self.view_is
