use Rattle.std.proofs.Common.{◌≡◌, ◌++◌, ◌∷◌, [], subst}
use Rattle.count_totals.specs.Lines.{line_text}
use Rattle.count_totals.specs.declared.lines.Line.TheVariants as lines
use Rattle.command_words.specs.Parts.{first_in, parts_with}
use Rattle.sha2.specs.Sha256.{sha256}
use Rattle.command_runs.specs.Census.{part_lines, split_of}
use Rattle.command_runs.proofs.CensusLemmas.{lines_then}
use Rattle.command_runs.proofs.census_runs.parts_text.Goals as goal

pub returns : goal.returns
returns c =
    let parts = c.args.parts.now in
    let first = subst (λ digest. c.put_line.new.text.items ≡ c.new-text.result.items ++ (line_text (lines.Puzzle digest) ++ 10 ∷ [])) c.digest_of.ensures c.in_ok-put_line.ensures in
    let second = subst (λ split. c.put_line-2.new.text.items ≡ c.put_line.new.text.items ++ (line_text (lines.Split split) ++ 10 ∷ [])) c.split_line.ensures c.in_ok-put_line-2.ensures in
    lines_then (lines.Puzzle (sha256 c.args.spelled.now)) (lines.Split (split_of c.args.branches.now)) (part_lines (parts_with parts) (first_in parts) c.args.counts.now) c.new-text.result.items c.put_line.new.text.items c.put_line-2.new.text.items c.put_part_lines.new.text.items c.new-text.ensures.items first second c.in_ok-put_part_lines.ensures
