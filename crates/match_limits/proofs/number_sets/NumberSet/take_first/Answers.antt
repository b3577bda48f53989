use Rattle.std.proofs.Common.{◌≡◌, ◌∙◌, ◌<◌, ◌≤◌, List, ℕ, ap, sym, subst}
use Rattle.match_limits.specs.NumberSets.{members, AreWordsOfSet}
use Rattle.match_limits.specs.declared.number_sets.NumberSet.TheInside.{Inside}
use Rattle.match_limits.proofs.NumberSetLemmas.{words_left, least_taken, nothing_left}
use Rattle.match_limits.proofs.number_sets.NumberSet.take_first.Goals as goal

-- what is known of the set while nothing is taken off
same_set : {i j : Inside} → i ≡ j → AreWordsOfSet j.words j.end → AreWordsOfSet i.words i.end
same_set e is = subst (λ (k : Inside). AreWordsOfSet k.words k.end) (sym e) is

same_members : {i j : Inside} {numbers : List ℕ} → i ≡ j → members j.words ≡ numbers → numbers ≡ members i.words
same_members e is = sym is ∙ ap (λ (k : Inside). members k.words) (sym e)

pub invariant_of-self-then-word-ne0 : goal.invariant_of-self-then-word-ne0
invariant_of-self-then-word-ne0 c =
    let l = c.loop-i in
    let same = l.invariant.same in
    words_left l.self-inside.words l.self-inside.end l.i (same_set same c.self.invariant) (subst (λ (k : Inside). l.i < k.end) (sym same) c.loop-i-test.true) l.invariant.none c.if-word-ne0.true

pub returns-then-word-ne0 : goal.returns-then-word-ne0
returns-then-word-ne0 c =
    let l = c.loop-i in
    let same = l.invariant.same in
    same_members same c.self.view_is
    ∙ least_taken l.self-inside.words l.self-inside.end l.i (same_set same c.self.invariant) (subst (λ (k : Inside). l.i < k.end) (sym same) c.loop-i-test.true) l.invariant.none c.if-word-ne0.true

pub returns : goal.returns
returns c =
    let l = c.loop-i in
    let same = l.invariant.same in
    let none = nothing_left l.self-inside.words l.self-inside.end l.i (same_set same c.self.invariant) (subst (λ (k : Inside). k.end ≤ l.i) (sym same) c.loop-i-test.false) l.invariant.none in
    (same_members same c.self.view_is ∙ none, none)
