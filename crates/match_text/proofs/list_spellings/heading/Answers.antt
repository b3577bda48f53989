use Rattle.std.proofs.Common.{sym}
use Rattle.match_text.proofs.ListLemmas.{head_parts}
use Rattle.match_text.proofs.list_spellings.heading.Goals as goal

pub returns : goal.returns
returns c = rw (c.in_ok-put_number_line-2.ensures, c.in_ok-put_number_line.ensures, c.from.ensures, c.new-text.ensures.items) (sym (head_parts c.args.version c.args.count))
