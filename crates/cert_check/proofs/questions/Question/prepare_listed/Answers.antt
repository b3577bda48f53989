use Rattle.std.proofs.Common.{◌≡◌, ◌∙◌, ℕ, List, Option, Some, MatchBool, ap, map, sym, subst}
use Rattle.cert_tree.specs.Certificate.{Piece}
use Rattle.puzzle_symmetry.specs.Motion.{motion_of}
use Rattle.cert_check.specs.Setting.{Question, question_of, BeginWithPrefixes}
use Rattle.cert_check.specs.Derivation.{HasRoot}
use Rattle.match_puzzle.specs.Arrangement.{AreArrangements}
use Rattle.puzzle_symmetry.specs.Complete.{AreSymmetries}
use Rattle.cert_check.specs.Answer.{IsPrepared, IsPreparedWith, Occurs, fault_rank}
use Rattle.cert_check.specs.Lines.{LinesFail, TellsOfPrefixes}
use Rattle.cert_check.specs.Walk.{TellsOfRepeats}
use Rattle.match_limits.specs.First.{IsFirst}
use Rattle.cert_check.specs.declared.faults.Fault.TheVariants as faults
use Rattle.cert_check.proofs.CheckLemmas.{first_repeated, first_symmetry, first_prefix, first_root}
use Rattle.cert_check.proofs.questions.Question.prepare_listed.Goals as goal

-- what is required, of the question that is seen inside
listed_of : (inside seen : Question) (repeated : Option ℕ) → inside ≡ seen → (a : AreArrangements seen.puzzle seen.listed × TellsOfRepeats seen.listed repeated) → AreArrangements inside.puzzle inside.listed × TellsOfRepeats inside.listed repeated
listed_of inside seen repeated same a = (subst (λ (q : Question). AreArrangements q.puzzle q.listed) (sym same) a.0, subst (λ (q : Question). TellsOfRepeats q.listed repeated) (sym same) a.1)

pub returns-in-Some-clause-fault : goal.returns-in-Some-clause-fault
returns-in-Some-clause-fault c =
    let question = question_of c.self.inside.puzzle.now c.self.inside.listed.now c.self.inside.certificate.now in
    let listed = listed_of question c.args.self.now c.args.repeated c.self.view_is (c.requires.arrangements, c.requires.repeated) in
    let least = subst (TellsOfRepeats question.listed) c.in-Some.is listed.1 in
    let number = c.in-Some.number in
    subst (λ q. IsFirst fault_rank (Occurs q) (faults.Repeated number)) c.self.view_is (first_repeated question listed.0 number least)

pub returns-in-Err-Line-clause-fault : goal.returns-in-Err-Line-clause-fault
returns-in-Err-Line-clause-fault c =
    let question = question_of c.self.inside.puzzle.now c.self.inside.listed.now c.self.inside.certificate.now in
    let listed = listed_of question c.args.self.now c.args.repeated c.self.view_is (c.requires.arrangements, c.requires.repeated) in
    let distinct = subst (TellsOfRepeats question.listed) c.in_default.is listed.1 in
    let is = subst (LinesFail question.puzzle question.symmetries) c.in-Err-Line.field-0-is (subst (λ lines. LinesFail question.puzzle lines c.in-Err-Line.field-0) c.symmetries.ensures.symmetries c.in-Err-Line.ensures.fault) in
    let number = c.in-Err-Line.number in
    let fault = c.in-Err-Line.fault in
    rw (c.in-Err-Line.number-is, c.in-Err-Line.fault-is) (subst (λ q. IsFirst fault_rank (Occurs q) (faults.Symmetry number fault)) c.self.view_is (first_symmetry question listed.0 distinct number fault is))

pub returns-in-Some-prefixes_fault-clause-fault : goal.returns-in-Some-prefixes_fault-clause-fault
returns-in-Some-prefixes_fault-clause-fault c =
    let question = question_of c.self.inside.puzzle.now c.self.inside.listed.now c.self.inside.certificate.now in
    let listed = listed_of question c.args.self.now c.args.repeated c.self.view_is (c.requires.arrangements, c.requires.repeated) in
    let distinct = subst (TellsOfRepeats question.listed) c.in_default.is listed.1 in
    let symmetric = subst (AreSymmetries question.puzzle) c.symmetries.ensures.symmetries c.in-Ok.ensures.moves in
    let number = c.in-Some-prefixes_fault.number in
    let fault = c.in-Some-prefixes_fault.fault in
    let is = subst (λ (ls : List Piece). TellsOfPrefixes question.puzzle ls (Some (number, fault))) c.lemmas-lemmas.ensures.lemmas c.in-Some-prefixes_fault.ensures in
    subst (λ q. IsFirst fault_rank (Occurs q) (faults.Prefix number fault)) c.self.view_is (first_prefix question listed.0 distinct symmetric number fault is)

pub returns-then-not-ends_at_a_root-clause-fault : goal.returns-then-not-ends_at_a_root-clause-fault
returns-then-not-ends_at_a_root-clause-fault c =
    let question = question_of c.self.inside.puzzle.now c.self.inside.listed.now c.self.inside.certificate.now in
    let listed = listed_of question c.args.self.now c.args.repeated c.self.view_is (c.requires.arrangements, c.requires.repeated) in
    let distinct = subst (TellsOfRepeats question.listed) c.in_default.is listed.1 in
    let symmetric = subst (AreSymmetries question.puzzle) c.symmetries.ensures.symmetries c.in-Ok.ensures.moves in
    let prefixes = subst (BeginWithPrefixes question.puzzle) c.lemmas-lemmas.ensures.lemmas c.in_default-prefixes_fault.ensures in
    let ends = subst (λ (ls : List Piece). MatchBool c.ends_at_a_root.result (HasRoot ls) (HasRoot ls → ⊥)) c.lemmas-lemmas.ensures.lemmas c.ends_at_a_root.ensures in
    let none = subst (λ b. MatchBool b (HasRoot question.lemmas) (HasRoot question.lemmas → ⊥)) c.if-not-ends_at_a_root.true ends in
    subst (λ q. IsFirst fault_rank (Occurs q) faults.Root) c.self.view_is (first_root question listed.0 distinct symmetric prefixes none)

pub new-requires : goal.new-requires
new-requires c =
    let question = question_of c.self.inside.puzzle.now c.self.inside.listed.now c.self.inside.certificate.now in
    let motions = c.in-Ok.symmetries.items in
    let listed = listed_of question c.args.self.now c.args.repeated c.self.view_is (c.requires.arrangements, c.requires.repeated) in
    let distinct = subst (TellsOfRepeats question.listed) c.in_default.is listed.1 in
    let ends = subst (λ (ls : List Piece). MatchBool c.ends_at_a_root.result (HasRoot ls) (HasRoot ls → ⊥)) c.lemmas-lemmas.ensures.lemmas c.ends_at_a_root.ensures in
    let prepared : IsPrepared question = record {
      distinct = distinct;
      arrangements = listed.0;
      symmetries = subst (AreSymmetries question.puzzle) c.symmetries.ensures.symmetries c.in-Ok.ensures.moves;
      prefixes = subst (BeginWithPrefixes question.puzzle) c.lemmas-lemmas.ensures.lemmas c.in_default-prefixes_fault.ensures;
      root = subst (λ b. MatchBool b (HasRoot question.lemmas) (HasRoot question.lemmas → ⊥)) c.if-not-ends_at_a_root.false ends;
    } in
    let made = c.in-Ok.ensures.made ∙ ap (map (motion_of question.puzzle)) c.symmetries.ensures.symmetries in
    subst (λ q. IsPreparedWith q motions) c.self.view_is (record { puzzle = c.board.ensures.puzzle; prepared = prepared; symmetries = made })
