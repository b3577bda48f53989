use Rattle.std.proofs.Common.{◌≡◌, ◌∙◌, Some, None, ap, codes, subst, sym}
use Rattle.std.specs.Option.{option_map}
use Rattle.std.specs.Str.Parse.{digits_value, without_leading_plus}
use Rattle.clap.specs.Words.{IsUnsignedIn, first_of, found_of, rows_of}
use Rattle.clap.proofs.WalkLemmas.{first_value-rows}
use Rattle.command_words.proofs.ProgramLemmas.{none_is_some, some_is}
use Rattle.command_words.proofs.readings.seed.Goals as goal

pub unreachable-requires : goal.unreachable-requires
unreachable-requires c =
    let none : None ≡ Some c.requires.0 = ap (option_map (λ s. s.now)) (sym c.in_default.is) ∙ c.get_str.ensures ∙ first_value-rows (found_of c.args.matches.now) (codes "seed") ∙ c.requires.1 in
    none_is_some none

pub long_number-requires : goal.long_number-requires
long_number-requires c =
    let same : Some c.in-Some.text.now ≡ Some c.requires.0 = ap (option_map (λ s. s.now)) (sym c.in-Some.is) ∙ c.get_str.ensures ∙ first_value-rows (found_of c.args.matches.now) (codes "seed") ∙ c.requires.1 in
    subst (IsUnsignedIn 0 18446744073709551615) (sym (some_is same)) c.requires.2

pub returns : goal.returns
returns c =
    let found : Some c.in-Some.text.now ≡ first_of (codes "seed") (rows_of (found_of c.args.matches.now)) =
    ap (option_map (λ s. s.now)) (sym c.in-Some.is) ∙ c.get_str.ensures ∙ first_value-rows (found_of c.args.matches.now) (codes "seed") in
    ap (option_map (λ text. digits_value 10 (without_leading_plus text))) (sym found) ∙ ap Some (sym c.long_number.ensures)
