use Rattle.std.proofs.Common.{◌≡◌, ◌⊎◌, None, arith, sym, subst}
use Rattle.std.proofs.lemmas.Option.{slice_get_within}
use Rattle.match_puzzle.specs.Puzzle.{IsLegal, HasRule, colour_of, mate_of}
use Rattle.match_puzzle.specs.Prefix.{Layout, IsFree, IsUnused}
use Rattle.match_puzzle.proofs.Kept.{kept_placed}
use Rattle.match_puzzle.proofs.AskingLemmas.{asking_placed, put_tells}
use Rattle.match_puzzle.proofs.partials.Partial.place.Goals as goal

pub asked_beside-requires-clause-cell : goal.asked_beside-requires-clause-cell
asked_beside-requires-clause-cell c =
    let within = slice_get_within c.self.inside.placed.items c.args.cell None (subst (λ (v : Layout). IsFree v.placed c.args.cell) (sym c.self.view_is) c.requires.free) in
    let cells = c.self.invariant.prefix.cells in
    omega (arith, within, cells)

pub asked_beside-requires-clause-legal : goal.asked_beside-requires-clause-legal
asked_beside-requires-clause-legal c = subst (λ (v : Layout). IsLegal v.puzzle c.args.placement) (sym c.self.view_is) c.requires.legal

pub put-requires : goal.put-requires
put-requires c =
    let kept = c.self.invariant in
    let within = slice_get_within c.self.inside.placed.items c.args.cell None (subst (λ (v : Layout). IsFree v.placed c.args.cell) (sym c.self.view_is) c.requires.free) in
    let cells = kept.prefix.cells in
    let long = kept.asking.long in
    omega (arith, within, cells, long)

pub invariant_of-self : goal.invariant_of-self
invariant_of-self c =
    let i = c.self.inside in
    let p = i.puzzle.now in
    let kept = c.self.invariant in
    let back = sym c.self.view_is in
    let free = subst (λ (v : Layout). IsFree v.placed c.args.cell) back c.requires.free in
    rw c.from.ensures (kept_placed p i.placed.items i.free i.asks.items kept c.args.cell c.args.placement _ c.remove_group.ensures
    (subst (λ (v : Layout). IsLegal v.puzzle c.args.placement) back c.requires.legal)
    free
    (subst (λ (v : Layout). IsUnused v.placed c.args.placement.tile) back c.requires.unused)
    c.put.new.asks.items
    (asking_placed p i.placed.items c.args.cell c.args.placement i.asks.items c.put.new.asks.items kept.asking c.put.ensures.long c.put.ensures.others (put_tells p c.args.cell c.asked_beside.result c.put.new.asks.items (λ k s side colour. HasRule p k s colour ⊎ (mate_of p (colour_of p c.args.placement side) ≡ colour)) c.asked_beside.ensures c.put.ensures.colours)
    free))
