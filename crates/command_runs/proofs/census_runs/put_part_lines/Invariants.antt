use Rattle.std.proofs.Common.{◌≡◌, ◌+◌, ◌++◌, drop}
use Rattle.count_totals.specs.Lines.{text_of}
use Rattle.command_words.specs.Parts.{first_in, parts_with}
use Rattle.command_runs.specs.Census.{part_lines}
use Rattle.command_runs.proofs.census_runs.put_part_lines.Given as goal

abbrev pub invariant-loop-count : goal.invariant-loop-count
invariant-loop-count l = record {
  number : l.number ≡ first_in l.parts + l.count-index;
  text : l.text.items ++ text_of (part_lines (parts_with l.parts) l.number (drop l.count-index l.counts)) ≡ l.fn.text.items ++ text_of (part_lines (parts_with l.parts) (first_in l.parts) l.counts);
}
