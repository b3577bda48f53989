use Rattle.std.proofs.Common.{◌≢◌, ◌<◌, length, ap, ◌∙◌, below_more, get_or-set_other, arith, length-set}
use Rattle.std.proofs.lemmas.Grind.{get_or-set_at}
use Rattle.text_words.specs.Spelling.{colour_character}
use Rattle.show_text.proofs.faces.signs_shown.Goals as goal

pub loop-side-preserved : goal.loop-side-preserved
loop-side-preserved c =
    let signs = c.loop-side.signs in
    let at = c.from.result in
    let within : at < length signs = omega (arith, c.loop-side.invariant.long, c.sides-side-end.ensures.few, c.from.ensures) in
    record {
      long = length-set signs at c.character.result ∙ c.loop-side.invariant.long;
      each = below_more _ c.loop-side.side
          (λ n lt. let other : n ≢ at = omega (arith, lt, c.from.ensures) in get_or-set_other signs at n c.character.result 0 other ∙ c.loop-side.invariant.each n lt)
          (get_or-set_at signs at c.loop-side.side c.character.result 0 (omega (arith, c.from.ensures)) within ∙ c.character.ensures ∙ ap colour_character c.colour.ensures.colour);
    }
