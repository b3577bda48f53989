use Rattle.std.proofs.Common.{◌∙◌, ◌≤◌, Err, List, ap, map, rules, subst, sym}
use Rattle.std.proofs.lemmas.Result.{err_from_is_err_and}
use Rattle.match_limits.specs.declared.TheConstants.{MOST_ARRANGEMENTS}
use Rattle.match_puzzle.specs.Puzzle.{IsPuzzle}
use Rattle.match_puzzle.specs.declared.placements.Placement.{Placement}
use Rattle.match_limits.specs.declared.ranges.TheConstants.{FIRST, SECOND}
use Rattle.match_text.specs.ListSpelling.{IsListWithin, list_spelling}
use Rattle.puzzle_symmetry.specs.Motion.{line_of}
use Rattle.find_search.specs.Finding.{AreFirstFound}
use Rattle.command_runs.proofs.FindingLemmas.{found_within, not_compiled}
use Rattle.command_runs.proofs.find_runs.found_text.Goals as goal

pub returns-in_err-xcc-clause-fails : goal.returns-in_err-xcc-clause-fails
returns-in_err-xcc-clause-fails g c =
    let w = err_from_is_err_and c.from_residual.result c.from_residual.ensures.1 in
    rw (w.1, w.2) (not_compiled c.args.plan.now.orbits c.args.puzzle.now c.in_err-xcc.field-0.0 (λ e. c.in_err-xcc.ensures.too_many (ap Err e)))

pub write_list-requires : goal.write_list-requires
write_list-requires g c =
    let puzzle : IsPuzzle c.args.puzzle.now = search rules in
    let most : c.args.plan.now.first ≤ MOST_ARRANGEMENTS = search rules in
    let lines = map line_of c.in_ok-symmetries.symmetries.items in
    let found : AreFirstFound c.args.plan.now.first c.args.puzzle.now lines c.in_ok-listed.listed.items = search rules in
    subst (IsListWithin SECOND) (sym c.deref-2.ensures.value) (found_within c.args.plan.now.first c.args.puzzle.now lines c.in_ok-listed.listed.items puzzle most found)

pub returns-clause-prints : goal.returns-clause-prints
returns-clause-prints g c =
    let lines = map line_of c.in_ok-symmetries.symmetries.items in
    let listed : List (List Placement) = c.in_ok-listed.listed.items in
    let found : AreFirstFound c.args.plan.now.first c.args.puzzle.now lines listed = search rules in
    let value = c.deref-2.ensures.value in
    record {
      lines = lines;
      apart = c.in_ok-symmetries.ensures.apart;
      listed = listed;
      found = found;
      is = record {
        first = λ within. c.in_ok-text.ensures.first (subst (IsListWithin FIRST) (sym value) within) ∙ ap (list_spelling 1) value;
        second = λ beyond. c.in_ok-text.ensures.second (λ within. beyond (subst (IsListWithin FIRST) value within)) ∙ ap (list_spelling 2) value;
      };
    }
