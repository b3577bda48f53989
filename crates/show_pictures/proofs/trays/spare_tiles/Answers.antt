use Rattle.std.proofs.Common.{◌≡◌, ◌<◌, ◌+◌, true≢false, length, refl, sym, ap, subst, arith, ◌∙◌}
use Rattle.std.proofs.lemmas.List.{length_push}
use Rattle.show_pictures.proofs.TileLemmas.{SpareBefore, spare_more, spare_skipped, all_spare}
use Rattle.show_pictures.proofs.trays.spare_tiles.Goals as goal
use Rattle.show_pictures.proofs.trays.spare_tiles.Goals.{then-not-is_placed+in_ok-push, else-not-is_placed}

pub loop-tile-preserved : goal.loop-tile-preserved
loop-tile-preserved c =
    let p = c.args.puzzle.now in
    let a = c.args.arrangement.now in
    let tile = c.loop-tile.tile in
    let before = c.loop-tile.invariant in
    let lt : tile < length p.words = omega (arith, c.loop-tile-test.true, c.tile_count-tile-end.ensures.count) in
    elim c.if-not-is_placed.branch [
      | then-not-is_placed+in_ok-push w ↦
          let pushed = ap (λ v. v.items) w.spare-is ∙ w.in_ok-push.ensures.items in
          record {
            listed = subst (SpareBefore p a (tile + 1)) (sym pushed)
                (spare_more p a tile c.loop-tile.spare.items _ refl refl lt (λ cell x at same. true≢false (sym (c.is_placed.ensures.1 (cell, x, at, same)) ∙ w.if-not-is_placed.true)) before.listed);
            few = let long = ap (λ xs. length xs) pushed ∙ length_push _ _ in omega (arith, long, before.few);
          }
      | else-not-is_placed w ↦
          let same = ap (λ v. v.items) w.spare-is in
          record {
            listed = subst (SpareBefore p a (tile + 1)) (sym same) (spare_skipped p a tile c.loop-tile.spare.items (c.is_placed.ensures.0 w.if-not-is_placed.false) before.listed);
            few = let long = ap (λ xs. length xs) same in omega (arith, long, before.few);
          }
    ]

pub returns-clause-spare : goal.returns-clause-spare
returns-clause-spare c =
    let p = c.args.puzzle.now in
    let a = c.args.arrangement.now in
    let at : c.loop-tile.tile ≡ length p.words = omega (arith, c.loop-tile-test.false, c.loop-tile.auto.tile-end, c.tile_count-tile-end.ensures.count) in
    all_spare p a c.loop-tile.spare.items (subst (λ n. SpareBefore p a n c.loop-tile.spare.items) at c.loop-tile.invariant.listed)
