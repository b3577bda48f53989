use Rattle.std.proofs.Common.{sym}
use Rattle.match_text.proofs.ListLemmas.{list_parts}
use Rattle.match_text.proofs.list_spellings.list_text.Goals as goal

pub returns : goal.returns
returns c = rw (c.in_ok-put_end.ensures, c.in_ok-put_rows.ensures, c.in_ok-text.ensures) (sym (list_parts c.args.version c.args.list.now))
