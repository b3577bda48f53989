use Rattle.match_text.proofs.ListCharacterLemmas.{lists_are}
use Rattle.match_text.proofs.character_laws.list_characters.Goals as goal

pub returns : goal.returns
returns c = lists_are
