use Rattle.std.proofs.Common.{◌≢◌, ◌<◌, length, sym, subst, ◌∙◌, below_more, get_or-set_other, arith, length-set}
use Rattle.std.proofs.lemmas.Grind.{get_or-set_at}
use Rattle.show_text.specs.Face.{IsRuleSign}
use Rattle.show_text.proofs.faces.signs_asked.Goals as goal

pub loop-side-preserved : goal.loop-side-preserved
loop-side-preserved c =
    let signs = c.loop-side.signs in
    let at = c.from.result in
    let rule = IsRuleSign c.args.puzzle.now c.args.cell in
    let within : at < length signs = omega (arith, c.loop-side.invariant.long, c.sides-side-end.ensures.few, c.from.ensures) in
    record {
      long = length-set signs at c.sign_asked.result ∙ c.loop-side.invariant.long;
      each = below_more _ c.loop-side.side
          (λ n lt. let other : n ≢ at = omega (arith, lt, c.from.ensures) in subst (rule n) (sym (get_or-set_other signs at n c.sign_asked.result 0 other)) (c.loop-side.invariant.each n lt))
          (subst (rule c.loop-side.side) (sym (get_or-set_at signs at c.loop-side.side c.sign_asked.result 0 (omega (arith, c.from.ensures)) within)) c.sign_asked.ensures);
    }
