use Rattle.std.proofs.Common.{◌≡◌, ◌∙◌, Some, None, inl, inr, refl, rules, sym}
use Rattle.show_pictures.proofs.clues.part_at.Goals as goal

pub returns-in_ok-part-in-Some : goal.returns-in_ok-part-in-Some
returns-in_ok-part-in-Some c = λ site at. inl (c.in-Some.colour, (c.in-Some.ensures.rule c.in-Some.colour).0 refl, c.in_ok-part-in-Some.ensures site at)

pub returns-in-None : goal.returns-in-None
returns-in-None c = λ site at. inr (λ colour has. (let asked : None ≡ Some colour = sym c.in-None.is ∙ (c.clue_colour.ensures.rule colour).1 has in cc), search rules)
