use Rattle.std.specs.List.{flat_map}
use Rattle.text_crew.proofs.ReadBackLemmas.{list_text_reads}
use Rattle.text_crew.proofs.texts.write_texts_with.Goals as goal

pub returns-clause-list_reads : goal.returns-clause-list_reads
returns-clause-list_reads g c =
    list_text_reads c.args.listed.now (flat_map (λ part. part.items) c.in_ok-list.list.items) c.requires.list c.in_ok-list.ensures
