use Rattle.std.proofs.Common.{◌≡◌, Some, None, refl, inl, inr}
use Rattle.match_puzzle.proofs.TableLemmas.{rule_below}
use Rattle.show_text.proofs.faces.sign_asked.Goals as goal

none_some : {X : Type 0} {x : X} → None ≡ Some x → ⊥
none_some e = cc

pub character-requires : goal.character-requires
character-requires c =
    rule_below c.args.puzzle.now c.args.cell c.args.side (Some c.in-Some.colour) c.requires.puzzle (λ colour is. (c.in-Some.ensures colour).0 is)

pub returns-in-Some : goal.returns-in-Some
returns-in-Some c = inl (c.in-Some.colour, (c.in-Some.ensures c.in-Some.colour).0 refl, c.character.ensures)

pub returns-in-None : goal.returns-in-None
returns-in-None c = inr (λ colour rule. none_some ((c.in-None.ensures colour).1 rule), refl)
