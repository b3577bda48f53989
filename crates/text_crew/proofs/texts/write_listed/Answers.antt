use Rattle.match_text.specs.ListSpelling.{IsListText}
use Rattle.text_crew.proofs.PartLemmas.{so_of_parts}
use Rattle.text_crew.proofs.texts.write_listed.Goals as goal

pub returns : goal.returns
returns g c =
    so_of_parts (IsListText c.args.listed.now) c.in_ok-text.text.items c.alone.result
    (record { first = c.in_ok-text.ensures.first; second = c.in_ok-text.ensures.second }) c.alone.ensures
