use Rattle.std.proofs.Common.{subst}
use Rattle.match_puzzle.specs.Puzzle.{IsPuzzle}
use Rattle.cert_check.specs.Answer.{IsShown}
use Rattle.cert_check.specs.Walk.{TellsOfTrees}
use Rattle.cert_check.proofs.CheckLemmas.{first_tree}
use Rattle.cert_check.proofs.Soundness.{complete, all_covered}
use Rattle.cert_check.proofs.prepared.Prepared.answer.Goals as goal

-- the trees hold too
shown : (c : goal.In-None) → IsShown c.args.self.now
shown c = record {
  prepared = c.question.ensures.prepared;
  trees = subst (TellsOfTrees c.args.self.now) c.in-None.is c.requires;
}

puzzle : (c : goal.In-None) → IsPuzzle c.args.self.now.puzzle
puzzle c = c.question.ensures.puzzle

pub returns-in-None-clause-answer : goal.returns-in-None-clause-answer
returns-in-None-clause-answer c = shown c

pub returns-in-None-clause-complete : goal.returns-in-None-clause-complete
returns-in-None-clause-complete c = λ _. complete c.args.self.now (puzzle c) (shown c)

pub returns-in-None-clause-covered : goal.returns-in-None-clause-covered
returns-in-None-clause-covered c = λ _. all_covered c.args.self.now (puzzle c) (shown c)

pub returns-in-Some-clause-answer : goal.returns-in-Some-clause-answer
returns-in-Some-clause-answer c =
    first_tree c.args.self.now c.question.ensures.prepared c.in-Some.number c.in-Some.fault (subst (TellsOfTrees c.args.self.now) c.in-Some.is c.requires)
