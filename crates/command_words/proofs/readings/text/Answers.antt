use Rattle.std.proofs.Common.{◌≡◌, ◌∙◌, ap, sym, Some, None}
use Rattle.std.specs.Option.{option_map}
use Rattle.std.proofs.lemmas.Result.{IfOk-weaker}
use Rattle.clap.specs.Words.{found_of}
use Rattle.clap.proofs.WalkLemmas.{first_value-rows}
use Rattle.command_words.proofs.readings.text.Goals as goal

pub unreachable-requires : goal.unreachable-requires
unreachable-requires c =
    let none : None ≡ Some c.requires.0 = ap (option_map (λ s. s.now)) (sym c.in_default.is) ∙ c.get_str.ensures ∙ first_value-rows (found_of c.args.matches.now) c.args.id.now ∙ c.requires.1 in
    cc

pub returns : goal.returns
returns c =
    let found = sym (first_value-rows (found_of c.args.matches.now) c.args.id.now) ∙ sym c.get_str.ensures ∙ ap (option_map (λ s. s.now)) c.in-Some.is in
    IfOk-weaker c.from_str.result _ _ (λ text same. found ∙ ap Some (sym same)) c.from_str.ensures.ok
