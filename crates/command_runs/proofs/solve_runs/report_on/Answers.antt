use Rattle.std.proofs.Common.{◌≡◌, ◌++◌, length, ap, ◌∙◌, codes}
use Rattle.match_report.specs.TallyText.{tally_text}
use Rattle.show_text.specs.Facts.{number_line}
use Rattle.command_runs.specs.Solving.{checked_line, first_board}
use Rattle.command_runs.proofs.SolvingLemmas.{five_parts}
use Rattle.command_runs.proofs.solve_runs.report_on.Goals as goal

pub returns : goal.returns
returns c =
    let listed = c.args.found.now.listed.now in
    let pieces = c.args.found.now.certificate.now.lemmas in
    let found = number_line (codes "found") (length listed) in
    let lemmas = number_line (codes "lemmas") (length pieces) in
    let many : c.len.result ≡ length pieces = c.len.ensures ∙ ap length c.lemmas.ensures.lemmas in
    let tally = c.deref.ensures.value ∙ c.in_ok-write_tally.ensures in
    let board = c.deref-2.ensures.value ∙ c.in_ok-board_of_first.ensures in
    let one = c.put_number_line.new.text.items in
    let two = c.put_number_line-2.new.text.items in
    let three = c.extend_from_slice.new.self.items in
    let line = c.deref-3.ensures.value ∙ c.in_ok-line_of_check.ensures in
    let four = c.extend_from_slice-2.new.self.items in
    five_parts _ _ _ _ _ _ found lemmas (tally_text c.args.found.now.shares.now) (first_board c.args.found.now.puzzle.now listed) (checked_line c.args.check (length listed))
    c.new-text.ensures.items
    c.in_ok-put_number_line.ensures
    (c.in_ok-put_number_line-2.ensures ∙ ap (λ n. one ++ number_line (codes "lemmas") n) many)
    (c.in_ok-extend_from_slice.ensures.items ∙ ap (λ t. two ++ t) tally)
    (c.in_ok-extend_from_slice-2.ensures.items ∙ ap (λ t. three ++ t) board)
    (c.in_ok-extend_from_slice-3.ensures.items ∙ ap (λ t. four ++ t) line)
