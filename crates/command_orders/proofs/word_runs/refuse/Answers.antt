use Rattle.command_orders.proofs.word_runs.refuse.Goals as goal

pub returns-in-Words : goal.returns-in-Words
returns-in-Words g c = rw c.in-Words.is c.explained.ensures
