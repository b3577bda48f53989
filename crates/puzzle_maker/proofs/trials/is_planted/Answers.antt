use Rattle.std.proofs.Common.{◌≡◌, rules, subst}
use Rattle.puzzle_maker.specs.Made.{ShowsNoneInside}
use Rattle.puzzle_maker.proofs.trials.is_planted.Goals as goal

pub returns-in-Some : goal.returns-in-Some
returns-in-Some c = λ is. record {
  is = search rules;
  frame = λ colour e. let same : c.in-Some.colour ≡ colour = cc in subst (λ k. ShowsNoneInside k c.args.puzzle.now c.args.planted.now) same (c.shows_none_inside.ensures is);
  clues = c.ask_for_all_shown.ensures c.if-not-ask_for_all_shown.false;
}

pub returns-in-None : goal.returns-in-None
returns-in-None c = λ _. record {
  is = search rules;
  frame = λ colour e. let none = c.in-None.is in cc;
  clues = c.ask_for_all_shown.ensures c.if-not-ask_for_all_shown.false;
}
