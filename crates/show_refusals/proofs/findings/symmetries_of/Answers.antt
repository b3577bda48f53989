use Rattle.std.proofs.Common.{◌≡◌, ◌∙◌, List, ap, subst}
use Rattle.match_puzzle.specs.Puzzle.{Task}
use Rattle.puzzle_symmetry.specs.Complete.{AreSymmetries}
use Rattle.match_board.specs.declared.symmetry_lines.SymmetryLine.{SymmetryLine}
use Rattle.cert_tree.specs.Certificate.{Contents}
use Rattle.cert_check.specs.Lines.{LinesFail}
use Rattle.show_refusals.proofs.findings.symmetries_of.Goals as goal

pub unreachable-requires : goal.unreachable-requires
unreachable-requires c =
    let q = c.args.question.now in
    let same : c.symmetries.result.now ≡ q.symmetries = c.symmetries.ensures.symmetries ∙ ap (λ (k : Contents). k.symmetries) c.certificate.ensures in
    let here = subst (λ (p : Task). LinesFail p c.symmetries.result.now c.in-Err-Line.field-0) c.puzzle.ensures c.in-Err-Line.ensures.fault in
    let there = subst (λ (lines : List SymmetryLine). LinesFail q.puzzle lines c.in-Err-Line.field-0) same here in
    let fails = subst (LinesFail q.puzzle q.symmetries) c.in-Err-Line.field-0-is there in
    c.requires.symmetries c.in-Err-Line.field-0-0 c.in-Err-Line.field-0-1 fails.occurs

pub returns-in-Ok-clause-are : goal.returns-in-Ok-clause-are
returns-in-Ok-clause-are c =
    let q = c.args.question.now in
    let same : c.symmetries.result.now ≡ q.symmetries = c.symmetries.ensures.symmetries ∙ ap (λ (k : Contents). k.symmetries) c.certificate.ensures in
    subst (AreSymmetries q.puzzle) same (subst (λ (p : Task). AreSymmetries p c.symmetries.result.now) c.puzzle.ensures c.in-Ok.ensures.moves)
