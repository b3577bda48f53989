use Rattle.std.proofs.Common.{sym, ◌∙◌}
use Rattle.match_limits.proofs.TakenNumberLemmas.{none_left, first_left, left_above}
use Rattle.match_limits.proofs.number_sets.Members.take_first.Goals as goal

pub returns-then-self-clause-taken : goal.returns-then-self-clause-taken
returns-then-self-clause-taken c =
    let i = c.loop-self.self-inside in
    let none = none_left i.words.now i.end i.place i.word c.loop-self.invariant.are c.loop-self-test.true c.if-self.true in
    (sym c.self.view_is ∙ sym c.loop-self.invariant.same ∙ none, none)

pub returns-clause-taken : goal.returns-clause-taken
returns-clause-taken c =
    let i = c.loop-self.self-inside in
    sym c.self.view_is ∙ sym c.loop-self.invariant.same ∙ first_left i.words.now i.end i.place i.word c.loop-self.invariant.are c.loop-self-test.false

pub returns-clause-least : goal.returns-clause-least
returns-clause-least c =
    let i = c.loop-self.self-inside in
    left_above i.words.now i.end i.place i.word c.loop-self.invariant.are _ _ (first_left i.words.now i.end i.place i.word c.loop-self.invariant.are c.loop-self-test.false)
