use Rattle.show_page.proofs.ElementLemmas.{ends_at_the_next_tag}
use Rattle.show_page.proofs.elements.element_law.Goals as goal

pub returns : goal.returns
returns c = ends_at_the_next_tag
