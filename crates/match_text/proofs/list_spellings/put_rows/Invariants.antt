use Rattle.std.proofs.Common.{◌≡◌, ◌++◌}
use Rattle.match_text.specs.ListSpelling.{arrangement_words}
use Rattle.text_words.proofs.WritingLemmas.{first_lines}
use Rattle.match_text.proofs.list_spellings.put_rows.Given as goal

abbrev pub invariant-loop-row : goal.invariant-loop-row
invariant-loop-row l = l.text.items ≡ l.fn.text.items ++ first_lines arrangement_words l.rows l.row-index
