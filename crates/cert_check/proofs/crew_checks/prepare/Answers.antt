use Rattle.std.proofs.Common.{◌≡◌, List, Option, Result, Ok, Err, OnErr, ℕ, subst}
use Rattle.match_puzzle.specs.declared.placements.Placement.{Placement}
use Rattle.match_puzzle.specs.declared.faults.ArrangementFault.{ArrangementFault}
use Rattle.match_puzzle.specs.Puzzle.{Task}
use Rattle.cert_check.specs.Setting.{Question}
use Rattle.cert_check.specs.Walk.{TellsOfArrangements}
use Rattle.cert_check.proofs.crew_checks.prepare.Goals as goal

-- what is said of the list that a question has
of_question : (question : Question) (p : Task) (listed : List (List Placement)) (said : Option (ℕ × ArrangementFault)) → p ≡ question.puzzle → listed ≡ question.listed → TellsOfArrangements p listed said
    → TellsOfArrangements question.puzzle question.listed said
of_question question p listed said same_puzzle same_list told =
    subst (λ (q : Task). TellsOfArrangements q question.listed said) same_puzzle (subst (λ (ls : List (List Placement)). TellsOfArrangements p ls said) same_list told)

on_err : {X E A : Type 0} (r : Result X E) → A → OnErr r A
on_err (Ok x) a = tt
on_err (Err e) a = a

pub prepare_listed-requires-clause-arrangements : goal.prepare_listed-requires-clause-arrangements
prepare_listed-requires-clause-arrangements g c =
    let question = c.args.question.now in
    let told = of_question question c.puzzle-puzzle.result.now c.listed-listed.result.now c.in-Ok.bad c.puzzle-puzzle.ensures c.listed-listed.ensures.listed c.in-Ok.ensures.left in
    subst (TellsOfArrangements question.puzzle question.listed) c.in-None.is told

pub prepare-requires-in-Some : goal.prepare-requires-in-Some
prepare-requires-in-Some g c =
    of_question c.args.question.now c.puzzle-puzzle.result.now c.listed-listed.result.now c.in-Ok.bad c.puzzle-puzzle.ensures c.listed-listed.ensures.listed c.in-Ok.ensures.left

pub returns-in-None-clause-memory : goal.returns-in-None-clause-memory
returns-in-None-clause-memory g c =
    let question = c.args.question.now in
    let told = of_question question c.puzzle-puzzle.result.now c.listed-listed.result.now c.in-Ok.bad c.puzzle-puzzle.ensures c.listed-listed.ensures.listed c.in-Ok.ensures.left in
    on_err c.prepare_listed.result (subst (TellsOfArrangements question.puzzle question.listed) c.in-None.is told)
