use Rattle.std.proofs.Common.{◌≡◌, ◌≢◌, ◌∙◌, sym, ap, rules, Some, codes}
use Rattle.std.specs.Option.{option_map}
use Rattle.clap.specs.Words.{found_of}
use Rattle.clap.proofs.WalkLemmas.{first_value-rows}
use Rattle.command_words.proofs.readings.place_if_named.Goals as goal

pub returns-in_default : goal.returns-in_default
returns-in_default c = sym (first_value-rows (found_of c.args.matches.now) c.args.id.now) ∙ sym c.get_str.ensures ∙ ap (option_map (λ s. s.now)) c.in_default.is

pub returns-then-eq : goal.returns-then-eq
returns-then-eq c =
    let same : c.in-Some.name.now ≡ codes "-" = search rules in
    sym (first_value-rows (found_of c.args.matches.now) c.args.id.now) ∙ sym c.get_str.ensures ∙ ap (option_map (λ s. s.now)) c.in-Some.is ∙ ap Some same

pub returns : goal.returns
returns c =
    let differs : c.in-Some.name.now ≢ codes "-" = search rules in (
      sym (first_value-rows (found_of c.args.matches.now) c.args.id.now) ∙ sym c.get_str.ensures ∙ ap (option_map (λ s. s.now)) c.in-Some.is ∙ ap Some (sym c.in_ok-file.ensures.ok),
      λ same. differs (sym c.in_ok-file.ensures.ok ∙ same),
    )
