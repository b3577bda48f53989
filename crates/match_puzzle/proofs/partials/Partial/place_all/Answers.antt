use Rattle.std.proofs.Common.{◌≡◌, ◌∙◌, get_or, ap, sym, subst}
use Rattle.match_puzzle.specs.Puzzle.{IsLegal}
use Rattle.match_puzzle.specs.Prefix.{Layout, Prefix, IsFree, IsUnused, empty_prefix, with_pair}
use Rattle.match_puzzle.specs.declared.placements.Pair.{Pair}
use Rattle.match_puzzle.proofs.PairLemmas.{read_pair, next_free, next_unused, next_pair}
use Rattle.match_puzzle.proofs.partials.Partial.place_all.Goals as goal

abbrev first_pair : Pair
first_pair = record { cell = 0; placement = record { tile = 0; turn = 0 } }

pub place-requires-clause-legal : goal.place-requires-clause-legal
place-requires-clause-legal c =
    let there = read_pair c.args.pairs.now c.loop-pair.pair-index first_pair c.loop-pair-test.true in
    subst (λ (v : Layout). IsLegal v.puzzle (get_or c.args.pairs.now c.loop-pair.pair-index first_pair).placement) (sym c.loop-pair.invariant) (c.requires.pairs.legal c.loop-pair.pair-index _ there)

pub place-requires-clause-free : goal.place-requires-clause-free
place-requires-clause-free c =
    let x = get_or c.args.pairs.now c.loop-pair.pair-index first_pair in
    let there = read_pair c.args.pairs.now c.loop-pair.pair-index first_pair c.loop-pair-test.true in
    subst (λ (v : Layout). IsFree v.placed x.cell) (sym c.loop-pair.invariant) (next_free c.args.self.now.puzzle c.args.pairs.now c.requires.pairs c.loop-pair.pair-index x there)

pub place-requires-clause-unused : goal.place-requires-clause-unused
place-requires-clause-unused c =
    let x = get_or c.args.pairs.now c.loop-pair.pair-index first_pair in
    let there = read_pair c.args.pairs.now c.loop-pair.pair-index first_pair c.loop-pair-test.true in
    subst (λ (v : Layout). IsUnused v.placed x.placement.tile) (sym c.loop-pair.invariant) (next_unused c.args.self.now.puzzle c.args.pairs.now c.requires.pairs c.loop-pair.pair-index x there)

after_pair : (v w n : Layout) (x : Pair) (q : Prefix) → v ≡ w → n ≡ record { puzzle = v.puzzle; placed = with_pair v.placed x.cell x.placement } → with_pair w.placed x.cell x.placement ≡ q → n ≡ record { puzzle = w.puzzle; placed = q }
after_pair v w n x q e is next =
    is ∙ ap (λ (u : Layout). let r : Layout = record { puzzle = u.puzzle; placed = with_pair u.placed x.cell x.placement } in r) e ∙ ap (λ (p : Prefix). let r : Layout = record { puzzle = w.puzzle; placed = p } in r) next

pub loop-pair-preserved : goal.loop-pair-preserved
loop-pair-preserved c =
    let x = get_or c.args.pairs.now c.loop-pair.pair-index first_pair in
    let there = read_pair c.args.pairs.now c.loop-pair.pair-index first_pair c.loop-pair-test.true in
    after_pair c.loop-pair.self _ c.place.new.self x _ c.loop-pair.invariant c.place.ensures (sym (next_pair c.args.pairs.now c.loop-pair.pair-index x (empty_prefix c.args.self.now.puzzle) there))
