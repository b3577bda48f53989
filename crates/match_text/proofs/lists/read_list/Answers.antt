use Rattle.match_text.proofs.ListLemmas.{found_of, within_of, only_of, cut_of}
use Rattle.match_text.proofs.lists.read_list.Goals as goal

pub returns-clause-found : goal.returns-clause-found
returns-clause-found c = found_of c.args.text.now c.read_text.result c.read_text.ensures

pub returns-clause-within : goal.returns-clause-within
returns-clause-within c = within_of c.args.text.now c.read_text.result c.read_text.ensures

pub returns-clause-only : goal.returns-clause-only
returns-clause-only c = only_of c.args.text.now c.read_text.result c.read_text.ensures

pub returns-clause-cut : goal.returns-clause-cut
returns-clause-cut c = cut_of c.args.text.now c.read_text.result c.read_text.ensures
