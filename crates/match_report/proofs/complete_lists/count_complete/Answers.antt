use Rattle.std.proofs.Common.{◌≡◌, ◌∙◌, List, ap, map, subst}
use Rattle.std.proofs.lemmas.Result.{err_from_is_err_and}
use Rattle.match_limits.specs.declared.TheConstants.{MOST_ARRANGEMENTS}
use Rattle.match_puzzle.specs.Arrangement.{HasArrangements}
use Rattle.match_puzzle.specs.Puzzle.{Task}
use Rattle.match_puzzle.specs.declared.placements.Placement.{Placement}
use Rattle.puzzle_symmetry.specs.Motion.{line_of}
use Rattle.match_board.specs.declared.symmetry_lines.SymmetryLine.{SymmetryLine}
use Rattle.puzzle_symmetry.specs.Complete.{IsCompleteList}
use Rattle.cert_check.specs.Setting.{Question}
use Rattle.symmetry_orbits.specs.Expansion.{AreOf}
use Rattle.symmetry_orbits.specs.Orbits.{AreMoreListedOrInOrbit, IsCount}
use Rattle.symmetry_orbits.specs.Pictures.{HasPictures}
use Rattle.symmetry_orbits.proofs.MemberLemmas.{same_error}
use Rattle.match_report.proofs.CompleteLemmas.{read_are, read_complete, said_of_question}
use Rattle.match_report.proofs.complete_lists.count_complete.Goals.{After-symmetries-symmetries}
use Rattle.match_report.proofs.complete_lists.count_complete.Goals as goal

-- ---- what is counted: what is reached from the list by the lines' symmetries

puzzle_is : (g : _) (c : After-symmetries-symmetries g) → c.puzzle-puzzle.result.now ≡ c.args.prepared.now.puzzle
puzzle_is g c = c.puzzle-puzzle.ensures ∙ ap (λ (q : Question). q.puzzle) c.question-question.ensures.question

listed_is : (g : _) (c : After-symmetries-symmetries g) → c.listed-listed.result.now ≡ c.args.prepared.now.listed
listed_is g c = c.listed-listed.ensures.listed ∙ ap (λ (q : Question). q.listed) c.question-question.ensures.question

are : (g : _) (c : After-symmetries-symmetries g) → AreOf c.puzzle-puzzle.result.now c.listed-listed.result.now c.symmetries-symmetries.result.now
are g c = read_are c.args.prepared.now c.question-question.ensures.puzzle c.requires c.puzzle-puzzle.result.now c.listed-listed.result.now c.symmetries-symmetries.result.now (puzzle_is g c) (listed_is g c) c.symmetries-symmetries.ensures

complete : (g : _) (c : After-symmetries-symmetries g) → IsCompleteList c.puzzle-puzzle.result.now (map line_of c.symmetries-symmetries.result.now) c.listed-listed.result.now
complete g c = read_complete c.args.prepared.now c.question-question.ensures.puzzle c.requires c.puzzle-puzzle.result.now c.listed-listed.result.now c.symmetries-symmetries.result.now (puzzle_is g c) (listed_is g c) c.symmetries-symmetries.ensures

said : (g : _) (c : After-symmetries-symmetries g) (P : Task → List SymmetryLine → List (List Placement) → Type 0) → P c.puzzle-puzzle.result.now (map line_of c.symmetries-symmetries.result.now) c.listed-listed.result.now
    → P c.args.prepared.now.puzzle c.args.prepared.now.symmetries c.args.prepared.now.listed
said g c = said_of_question c.args.prepared.now c.question-question.ensures.puzzle c.requires c.puzzle-puzzle.result.now c.listed-listed.result.now c.symmetries-symmetries.result.now (puzzle_is g c) (listed_is g c) c.symmetries-symmetries.ensures

-- ---- the goals

pub count-requires : goal.count-requires
count-requires g c = are g (goal.at.count-requires g c).After-symmetries-symmetries

pub returns-in_err-counted-clause-too_many : goal.returns-in_err-counted-clause-too_many
returns-in_err-counted-clause-too_many g c =
    let at = (goal.at.returns-in_err-counted-clause-too_many g c).After-symmetries-symmetries in
    let w = err_from_is_err_and c.from_residual.result c.from_residual.ensures.1 in
    rw (w.1, w.2) (λ e. said g at (AreMoreListedOrInOrbit MOST_ARRANGEMENTS) (c.in_err-counted.ensures.too_many (same_error e)))

pub returns-clause-count : goal.returns-clause-count
returns-clause-count g c =
    let at = (goal.at.returns-clause-count g c).After-symmetries-symmetries in
    let counted = c.in_ok-counted.counted in
    let is = c.in_ok-counted.ensures.count in
    let has = c.counting_laws.ensures c.puzzle-puzzle.result.now c.listed-listed.result.now c.symmetries-symmetries.result.now counted (are g at) (complete g at) is in
    record {
      reached = said g at (λ p lines l. IsCount p lines l counted) is;
      arrangements = subst (λ (p : Task). HasArrangements p counted.arrangements) (puzzle_is g at) has;
      pictures = subst (λ (p : Task). HasPictures p counted.pictures) (puzzle_is g at) (c.in_ok-counted.ensures.pictures (complete g at));
    }
