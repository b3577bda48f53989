use Rattle.std.proofs.Common.{◌≡◌, ◌++◌, take}
use Rattle.std.specs.List.{join_with_byte}
use Rattle.match_text.specs.ListSpelling.{arrangement_words}
use Rattle.match_text.proofs.list_spellings.put_row.Given as goal

abbrev pub invariant-loop-index : goal.invariant-loop-index
invariant-loop-index l = l.text.items ≡ l.fn.text.items ++ join_with_byte 32 (arrangement_words (take l.index l.row))
