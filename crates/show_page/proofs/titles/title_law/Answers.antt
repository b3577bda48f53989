use Rattle.show_page.proofs.TitleLemmas.{title_is}
use Rattle.show_page.proofs.titles.title_law.Goals as goal

pub returns : goal.returns
returns c = title_is
