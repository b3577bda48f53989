use Rattle.std.proofs.Common.{◌≡◌, ◌<◌, ◌∙◌, Some, arith, subst, sym, slice_get}
use Rattle.match_puzzle.specs.Fitting.{FitsItem}
use Rattle.match_puzzle.specs.declared.placements.Pair.{Pair}
use Rattle.match_puzzle.proofs.Prefixes.{inside}
use Rattle.cert_tree.specs.Tree.{count}
use Rattle.cert_check.proofs.SceneLemmas.{child_open, child_pair, child_reached, child_within, of_branch, open_item, some_past}
use Rattle.cert_check.proofs.scenes.Scene.go_to_child.Goals.{In-Some, In-Some-pair_at}
use Rattle.cert_check.proofs.scenes.Scene.go_to_child.Goals as goal

pub unreachable-requires : goal.unreachable-requires
unreachable-requires c =
    let s = c.args.self.now in
    let next = c.next-head in
    let given = c.requires.child in
    of_branch s.partial.puzzle s.partial.placed c.args.number next.result s.trees next.new.self given.0 given.1 next.ensures.first c.in_default.ensures given.2

-- There is a tree after the head for each child up to this one.
within : (c : In-Some) → c.args.number < count c.next-head.new.self
within c =
    let s = c.args.self.now in
    let next = c.next-head in
    let given = c.requires.child in
    child_within s.partial.puzzle s.partial.placed c.args.number next.result c.in-Some.item s.trees next.new.self given.0 given.1 next.ensures.first next.ensures.children c.in-Some.ensures given.2

pub go_past-requires : goal.go_past-requires
go_past-requires c = omega (arith, within (goal.at.go_past-requires c).In-Some)

pub pair_at-requires : goal.pair_at-requires
pair_at-requires c =
    let s = c.args.self.now in
    let next = c.next-head in
    let given = c.requires.child in
    open_item s.partial.puzzle s.partial.placed c.in-Some.item c.requires.long
    (child_open s.partial.puzzle s.partial.placed c.args.number next.result c.in-Some.item s.trees next.new.self given.0 given.1 next.ensures.first next.ensures.children c.in-Some.ensures given.2)

pub unreachable-requires-in_default-pair_at : goal.unreachable-requires-in_default-pair_at
unreachable-requires-in_default-pair_at c =
    let s = c.args.self.now in
    let next = c.next-head in
    let given = c.requires.child in
    let there = child_pair s.partial.puzzle s.partial.placed c.args.number next.result c.in-Some.item s.trees next.new.self given.0 given.1 next.ensures.first next.ensures.children c.in-Some.ensures given.2 c.pair_at.ensures.0 c.pair_at.ensures.1 in
    c.in_default-pair_at.not-Some there.0 (c.pair_at.ensures.2 ∙ there.1)

-- The pair that was taken is the one with the number, and fits.
at : (c : In-Some-pair_at) → slice_get c.pair_at.ensures.0 c.args.number ≡ Some c.in-Some-pair_at.pair
at c = sym c.pair_at.ensures.2 ∙ c.in-Some-pair_at.is

fits : (c : In-Some-pair_at) → FitsItem c.args.self.now.partial.puzzle c.args.self.now.partial.placed c.in-Some.item c.in-Some-pair_at.pair
fits c =
    let s = c.args.self.now in
    let next = c.next-head in
    let given = c.requires.child in
    let there = child_pair s.partial.puzzle s.partial.placed c.args.number next.result c.in-Some.item s.trees next.new.self given.0 given.1 next.ensures.first next.ensures.children c.in-Some.ensures given.2 c.pair_at.ensures.0 c.pair_at.ensures.1 in
    subst (λ (x : Pair). FitsItem s.partial.puzzle s.partial.placed c.in-Some.item x) (inside (sym there.1 ∙ at c)) there.2

pub place-requires-clause-legal : goal.place-requires-clause-legal
place-requires-clause-legal c = (fits (goal.at.place-requires-clause-legal c).In-Some-pair_at).1.legal

pub place-requires-clause-free : goal.place-requires-clause-free
place-requires-clause-free c = (fits (goal.at.place-requires-clause-free c).In-Some-pair_at).1.free

pub place-requires-clause-unused : goal.place-requires-clause-unused
place-requires-clause-unused c = (fits (goal.at.place-requires-clause-unused c).In-Some-pair_at).1.unused

pub returns-clause-some : goal.returns-clause-some
returns-clause-some c =
    let left = some_past c.args.number c.next-head.new.self (within (goal.at.returns-clause-some c).In-Some) in
    λ none. left (sym c.go_past.ensures ∙ none)

pub returns-clause-child : goal.returns-clause-child
returns-clause-child c =
    let s = c.args.self.now in
    let next = c.next-head in
    let given = c.requires.child in
    let pair = c.in-Some-pair_at.pair in
    let reached = child_reached s.partial.puzzle s.partial.placed c.args.number next.result c.in-Some.item s.trees next.new.self given.0 given.1 next.ensures.first next.ensures.children c.in-Some.ensures given.2 c.pair_at.ensures.0 c.pair_at.ensures.1 pair (at (goal.at.returns-clause-child c).In-Some-pair_at) in
    rw (c.go_past.ensures, c.place.ensures) reached
