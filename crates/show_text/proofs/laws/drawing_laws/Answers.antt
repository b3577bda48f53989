use Rattle.show_text.proofs.LawLemmas.{drawing_law, telling_law}
use Rattle.show_text.proofs.laws.drawing_laws.Goals as goal

pub returns-clause-drawing : goal.returns-clause-drawing
returns-clause-drawing c = drawing_law

pub returns-clause-telling : goal.returns-clause-telling
returns-clause-telling c = telling_law
