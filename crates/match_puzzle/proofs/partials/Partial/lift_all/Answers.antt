use Rattle.std.proofs.Common.{◌≡◌, ◌<◌, ◌+◌, ◌-◌, ◌∙◌, length, take, get_or, ap, sym, subst, arith}
use Rattle.match_puzzle.specs.Prefix.{Layout, Prefix, Has, empty_prefix, with_pairs, without_cell}
use Rattle.match_puzzle.specs.declared.placements.Pair.{Pair}
use Rattle.match_puzzle.proofs.PairLemmas.{read_pair, last_stands, last_lifted}
use Rattle.match_puzzle.proofs.partials.Partial.lift_all.Goals as goal

abbrev first_pair : Pair
first_pair = record { cell = 0; placement = record { tile = 0; turn = 0 } }

pub lift-requires : goal.lift-requires
lift-requires c =
    let pairs = c.args.pairs.now in
    let p = c.args.self.now.puzzle in
    let place = c.loop-place.place in
    let some = c.loop-place-test.true in
    let within : place - 1 < length pairs = omega (arith, c.loop-place.auto.place, some) in
    let x = get_or pairs (place - 1) first_pair in
    let after : place - 1 + 1 ≡ place = omega (arith, some) in (
      x.placement,
      subst (λ (w : Layout). Has w.placed x.cell x.placement) (sym c.loop-place.invariant)
          (subst (λ n. Has (with_pairs (take n pairs) (empty_prefix p)) x.cell x.placement) after (last_stands p pairs c.requires.pairs (place - 1) x (read_pair pairs (place - 1) first_pair within))),
    )

pub loop-place-preserved : goal.loop-place-preserved
loop-place-preserved c =
    let pairs = c.args.pairs.now in
    let p = c.args.self.now.puzzle in
    let place = c.loop-place.place in
    let some = c.loop-place-test.true in
    let within : place - 1 < length pairs = omega (arith, c.loop-place.auto.place, some) in
    let x = get_or pairs (place - 1) first_pair in
    let after : place - 1 + 1 ≡ place = omega (arith, some) in
    c.lift.ensures
    ∙ ap (λ (w : Layout). let r : Layout = record { puzzle = w.puzzle; placed = without_cell w.placed x.cell } in r) c.loop-place.invariant
    ∙ ap (λ (q : Prefix). let r : Layout = record { puzzle = p; placed = q } in r)
    (ap (λ n. without_cell (with_pairs (take n pairs) (empty_prefix p)) x.cell) (sym after) ∙ last_lifted p pairs c.requires.pairs (place - 1) x (read_pair pairs (place - 1) first_pair within))
