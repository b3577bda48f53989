use Rattle.std.proofs.Common.{◌≡◌, ◌<◌, ℕ, get_or, length, true, false, sym, ◌∙◌, arith, eq-eqb}
use Rattle.std.proofs.lemmas.Bool.{ne_eqb, cond-true, cond-false}
use Rattle.match_board.specs.Tile.{word}
use Rattle.match_board.proofs.TurnsLemmas.{shown-none}
use Rattle.show_text.specs.Facts.{is_colour}
use Rattle.show_text.proofs.FactLemmas.{count_from}
use Rattle.show_text.proofs.facts.on_tile.Goals as goal
use Rattle.show_text.proofs.facts.on_tile.Goals.{then-shows-colour, else-shows-colour}

pub loop-side-preserved : goal.loop-side-preserved
loop-side-preserved c =
    let colours = word c.args.tile.now in
    let side = c.loop-side.side in
    let there : side < length colours = omega (arith, c.loop-side-test.true, c.sides-side-end.ensures.count) in
    let here = shown-none colours side there in
    let from = count_from (is_colour c.args.colour) colours side there in
    elim c.if-shows-colour.branch [
      | then-shows-colour w ↦ (
          let is : is_colour c.args.colour (get_or colours side 0) ≡ true = eq-eqb (get_or colours side 0) c.args.colour (sym here ∙ sym c.shows.ensures.colour ∙ w.if-shows-colour.true) in
          let one = cond-true {A = ℕ} (is_colour c.args.colour (get_or colours side 0)) 1 0 is in
          record {
            count = omega (arith, w.count-is, from, one, c.loop-side.invariant.count);
            few = omega (arith, w.count-is, c.loop-side.invariant.few);
          })
      | else-shows-colour w ↦ (
          let is : is_colour c.args.colour (get_or colours side 0) ≡ false = ne_eqb (get_or colours side 0) c.args.colour (λ e. w.if-shows-colour.false (c.shows.ensures.colour ∙ here ∙ e)) in
          let none = cond-false {A = ℕ} (is_colour c.args.colour (get_or colours side 0)) 1 0 is in
          record {
            count = omega (arith, w.count-is, from, none, c.loop-side.invariant.count);
            few = omega (arith, w.count-is, c.loop-side.invariant.few);
          })
    ]
