use Rattle.std.proofs.Common.{Some, ◌<◌, arith, sym, subst}
use Rattle.std.proofs.lemmas.Option.{slice_get_within}
use Rattle.match_limits.specs.declared.number_sets.TheConstants.{GROUPS}
use Rattle.match_puzzle.specs.Puzzle.{HasRule}
use Rattle.match_puzzle.specs.Prefix.{Layout, Has}
use Rattle.match_puzzle.proofs.Prefixes.{read_has}
use Rattle.match_puzzle.proofs.Kept.{kept_lifted}
use Rattle.match_puzzle.proofs.AskingLemmas.{asking_lifted, put_tells}
use Rattle.match_puzzle.proofs.partials.Partial.lift.Goals as goal
use Rattle.match_puzzle.proofs.partials.Partial.lift.Goals.{In-Some}

stands : (c : In-Some) → Has c.self.inside.placed.items c.args.cell c.in-Some.placement
stands c = read_has _ c.args.cell _ c.in-Some.placement _ (subst (λ (v : Layout). Has v.placed c.args.cell c.requires.0) (sym c.self.view_is) c.requires.1) (rw c.from.ensures at c.index.ensures) c.in-Some.is

tile_in : (c : In-Some) → c.in-Some.placement.tile < GROUPS
tile_in c =
    let kept = c.self.invariant in
    let legal = kept.prefix.legal c.args.cell c.in-Some.placement (stands c) in
    let tile = legal.tile in
    let few = kept.puzzle.tiles.few in
    omega (arith, tile, few)

pub group-turns-requires : goal.group-turns-requires
group-turns-requires c = tile_in (goal.at.group-turns-requires c).In-Some

pub put_group-requires-clause-group : goal.put_group-requires-clause-group
put_group-requires-clause-group c = tile_in (goal.at.put_group-requires-clause-group c).In-Some

pub asked_beside_empty-requires : goal.asked_beside_empty-requires
asked_beside_empty-requires c =
    let kept = c.self.invariant in
    let within = slice_get_within c.self.inside.placed.items c.args.cell (Some c.in-Some.placement) (stands (goal.at.asked_beside_empty-requires c).In-Some) in
    let cells = kept.prefix.cells in
    omega (arith, within, cells)

pub put-requires : goal.put-requires
put-requires c =
    let kept = c.self.invariant in
    let within = slice_get_within c.self.inside.placed.items c.args.cell (Some c.in-Some.placement) (stands (goal.at.put-requires c).In-Some) in
    let cells = kept.prefix.cells in
    let long = kept.asking.long in
    omega (arith, within, cells, long)

pub invariant_of-self : goal.invariant_of-self
invariant_of-self c =
    let i = c.self.inside in
    let p = i.puzzle.now in
    let here = stands (goal.at.invariant_of-self c).In-Some in
    rw c.from-in-Some.ensures (kept_lifted p i.placed.items i.free i.asks.items c.self.invariant c.args.cell c.in-Some.placement c.group-turns.result c.legal_numbers.result.now _ c.legal_numbers.ensures.legal c.group-turns.ensures.group c.put_group.ensures here
    c.put.new.asks.items
    (asking_lifted p i.placed.items c.args.cell c.in-Some.placement i.asks.items c.put.new.asks.items c.self.invariant.asking c.put.ensures.long c.put.ensures.others here
    (put_tells p c.args.cell c.asked_beside_empty.result c.put.new.asks.items (λ k s side. HasRule p k s) c.asked_beside_empty.ensures c.put.ensures.colours)))
