use Rattle.match_text.proofs.ListLemmas.{first_spelled, second_spelled, reads_back}
use Rattle.match_text.proofs.list_spellings.write_list.Goals as goal

pub returns-then-is_list_within-clause-reads : goal.returns-then-is_list_within-clause-reads
returns-then-is_list_within-clause-reads c = reads_back 1 c.args.list.now (first_spelled c.args.list.now c.if-is_list_within.ensures) c.list_text.result c.list_text.ensures

pub returns-clause-reads : goal.returns-clause-reads
returns-clause-reads c = reads_back 2 c.args.list.now (second_spelled c.args.list.now c.requires) c.list_text-2.result c.list_text-2.ensures
