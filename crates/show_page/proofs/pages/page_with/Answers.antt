use Rattle.show_page.specs.Pages.{page_text}
use Rattle.show_page.proofs.pages.page_with.Goals as goal

pub returns : goal.returns
unfolding page_text
returns c = c.join.ensures
