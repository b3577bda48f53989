use Rattle.std.proofs.Common.{◌≡◌, ◌∙◌, arith, ap, sym, below_more}
use Rattle.std.specs.Int.{bit_at}
use Rattle.match_board.specs.Tile.{word}
use Rattle.match_board.specs.Turns.{shown}
use Rattle.match_puzzle.proofs.PlacementSetLemmas.{one_more_few, one_more_here, one_more_other, none_more_few, none_at_end}
use Rattle.match_puzzle.proofs.placement_sets.showing_turns.Goals as goal
use Rattle.match_puzzle.proofs.placement_sets.showing_turns.Goals.{then-shows-colour, else-shows-colour}

pub loop-turn-preserved : goal.loop-turn-preserved
loop-turn-preserved c =
    let l = c.loop-turn in
    let w = word c.args.tile.now in
    let few = l.invariant.few in
    let turn_in = c.loop-turn-test.true in
    let is = c.shows.ensures.colour in
    elim c.if-shows-colour.branch [
      | then-shows-colour v ↦
          let shows = v.if-shows-colour.true in
          record {
            few = rw v.turns-is (one_more_few l.turns l.turn few turn_in);
            shows = below_more (λ k. bit_at c.if-shows-colour.turns k ≡ 1 → shown w k c.args.side ≡ c.args.colour) l.turn
                (λ k lt one. l.invariant.shows k lt (sym (one_more_other l.turns l.turn few turn_in k lt) ∙ ap (λ d. bit_at d k) (sym v.turns-is) ∙ one))
                (λ one. sym is ∙ shows);
            all = below_more (λ k. shown w k c.args.side ≡ c.args.colour → bit_at c.if-shows-colour.turns k ≡ 1) l.turn
                (λ k lt e. ap (λ d. bit_at d k) v.turns-is ∙ one_more_other l.turns l.turn few turn_in k lt ∙ l.invariant.all k lt e)
                (λ e. ap (λ d. bit_at d l.turn) v.turns-is ∙ one_more_here l.turns l.turn few turn_in);
          }
      | else-shows-colour v ↦
          let shows_not = v.if-shows-colour.false in
          record {
            few = rw v.turns-is (none_more_few l.turns l.turn few);
            shows = below_more (λ k. bit_at c.if-shows-colour.turns k ≡ 1 → shown w k c.args.side ≡ c.args.colour) l.turn
                (λ k lt one. l.invariant.shows k lt (ap (λ d. bit_at d k) (sym v.turns-is) ∙ one))
                (λ one. absurd (omega (arith, sym (none_at_end l.turns l.turn few) ∙ ap (λ d. bit_at d l.turn) (sym v.turns-is) ∙ one)));
            all = below_more (λ k. shown w k c.args.side ≡ c.args.colour → bit_at c.if-shows-colour.turns k ≡ 1) l.turn
                (λ k lt e. ap (λ d. bit_at d k) v.turns-is ∙ l.invariant.all k lt e)
                (λ e. absurd (shows_not (is ∙ e)));
          }
    ]
