use Rattle.std.proofs.Common.{◌<◌, ◌++◌, ◌∷◌, [], get_or, append_assoc, ap, ◌∙◌}
use Rattle.std.proofs.lemmas.Option.{slice_get-get_or}
use Rattle.match_limits.specs.declared.TheConstants.{MOST_COLOURS}
use Rattle.match_limits.proofs.ListLemmas.{at_each_place}
use Rattle.text_words.specs.Spelling.{colour_word}
use Rattle.cert_text.proofs.WritingLemmas.{no_word, one_word, all_words}
use Rattle.cert_text.proofs.spellings.put_colours.Goals as goal

pub loop-colour-init : goal.loop-colour-init
loop-colour-init c = no_word colour_word c.args.colours.now c.args.text.now.items

pub character-requires : goal.character-requires
character-requires c =
    let colours = c.args.colours.now in
    let i = c.loop-colour.colour-index in
    at_each_place (λ colour. colour < MOST_COLOURS) colours c.requires i (get_or colours i 0) (slice_get-get_or colours i 0 c.loop-colour-test.true)

pub loop-colour-preserved : goal.loop-colour-preserved
loop-colour-preserved c =
    let before = c.loop-colour.text.items in
    let character = c.character.result in
    let written = c.in_ok-push-2.ensures.items ∙ ap (λ t. t ++ character ∷ []) c.in_ok-push.ensures.items ∙ append_assoc before (32 ∷ []) (character ∷ []) ∙ ap (λ n. before ++ 32 ∷ n ∷ []) c.character.ensures in
    one_word colour_word c.args.colours.now c.args.text.now.items before c.push-in-loop-colour.new.self.items c.loop-colour.colour-index 0 c.loop-colour-test.true c.loop-colour.invariant written

pub returns : goal.returns
returns c = all_words colour_word c.args.colours.now c.args.text.now.items c.loop-colour.text.items c.loop-colour.colour-index c.loop-colour-test.false c.loop-colour.invariant
