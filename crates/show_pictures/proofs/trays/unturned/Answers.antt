use Rattle.std.proofs.Common.{◌≡◌, ◌+◌, ℕ, refl, ap, length, ◌∙◌}
use Rattle.std.proofs.lemmas.List.{length_push}
use Rattle.match_puzzle.specs.declared.placements.Placement.{Placement}
use Rattle.show_text.proofs.ListLemmas.{each_more}
use Rattle.show_pictures.proofs.trays.unturned.Goals as goal

pub loop-tile-preserved : goal.loop-tile-preserved
loop-tile-preserved c =
    let are = c.loop-tile.invariant in
    let pushed = c.in_ok-push.ensures.items in
    record {
      many = ap (λ l. length l) pushed ∙ length_push _ _ ∙ ap (λ n. n + 1) are.many;
      tiles = each_more (λ (tile : ℕ) (x : Placement). (x.tile ≡ tile) × (x.turn ≡ 0)) _ _ _ _ pushed are.many are.tiles (refl, refl);
    }
