use Rattle.match_text.specs.Lists.{list_said}
use Rattle.match_text.specs.ListSpelling.{said_spelling, IsSaidWithin}
use Rattle.text_words.proofs.TextLaws.{reads_what_is_spelled}
use Rattle.match_text.proofs.ListLemmas.{list_found, list_only, list_short}
use Rattle.match_text.proofs.laws.list_laws.Goals as goal

pub returns : goal.returns
returns c = reads_what_is_spelled list_said IsSaidWithin said_spelling list_found list_only list_short
