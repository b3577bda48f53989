use Rattle.std.proofs.Common.{◌≡◌, ◌+◌, length, subst, sym, arith, ap, ◌∙◌}
use Rattle.match_puzzle.specs.Puzzle.{Task}
use Rattle.match_puzzle.specs.declared.items.Item.TheVariants.{Tile}
use Rattle.show_reasons.specs.Reasons.{AreReasonsBefore}
use Rattle.show_reasons.proofs.ReasonLemmas.{on_empty, tile_put, tile_skipped, after_tiles, all_stand, some_over, no_tiles}
use Rattle.show_reasons.proofs.finding.put_tiles.Goals as goal
use Rattle.show_reasons.proofs.finding.put_tiles.Goals.{then-count-eq0+in_ok-push, else-count-eq0}

pub loop-tile-preserved : goal.loop-tile-preserved
loop-tile-preserved c =
    let p = c.args.partial.now.puzzle in
    let counted = on_empty p c.args.partial.now.placed (Tile c.loop-tile.tile) c.count.result c.requires.empty c.count.ensures in
    let all = all_stand p c.puzzle-puzzle.result.now c.puzzle-puzzle.ensures.same c.have_all_to_stand.result c.have_all_to_stand.ensures.all c.if-not-have_all_to_stand.false in
    let end : c.tile_count-tile-end.result ≡ length p.words = c.tile_count-tile-end.ensures.count ∙ ap (λ (q : Task). length q.words) c.puzzle-puzzle.ensures.same in
    elim c.if-count-eq0.branch [
      | then-count-eq0+in_ok-push w ↦
          subst (λ items. AreReasonsBefore p (2, c.loop-tile.tile + 1) items) (sym (ap (λ v. v.items) w.reasons-is ∙ w.in_ok-push.ensures.items))
          (tile_put p c.loop-tile.tile c.count.result c.loop-tile.reasons.items all (omega (arith, end, c.loop-tile-test.true)) counted w.if-count-eq0.true c.loop-tile.invariant)
      | else-count-eq0 w ↦
          subst (λ items. AreReasonsBefore p (2, c.loop-tile.tile + 1) items) (sym (ap (λ v. v.items) w.reasons-is))
          (tile_skipped p c.loop-tile.tile c.count.result c.loop-tile.reasons.items counted w.if-count-eq0.false c.loop-tile.invariant)
    ]

pub returns : goal.returns
returns c =
    let p = c.args.partial.now.puzzle in
    let end : c.tile_count-tile-end.result ≡ length p.words = c.tile_count-tile-end.ensures.count ∙ ap (λ (q : Task). length q.words) c.puzzle-puzzle.ensures.same in
    let at : c.loop-tile.tile ≡ length p.words = omega (arith, end, c.loop-tile-test.false, c.loop-tile.auto.tile-end) in
    after_tiles p c.loop-tile.reasons.items (subst (λ n. AreReasonsBefore p (2, n) c.loop-tile.reasons.items) at c.loop-tile.invariant)

pub returns-then-not-have_all_to_stand : goal.returns-then-not-have_all_to_stand
returns-then-not-have_all_to_stand c =
    no_tiles c.args.partial.now.puzzle _ (some_over c.args.partial.now.puzzle c.puzzle-puzzle.result.now c.puzzle-puzzle.ensures.same c.have_all_to_stand.result c.have_all_to_stand.ensures.all c.if-not-have_all_to_stand.true) c.requires.before
