use Rattle.std.proofs.Common.{◌≡◌, ◌≤◌, ◌∙◌, rules, ap, sym, subst, arith, Some, None}
use Rattle.std.specs.Option.{option_map}
use Rattle.std.specs.Str.Parse.{digits_value, without_leading_plus}
use Rattle.clap.specs.Words.{IsUnsignedIn, first_of, found_of, rows_of}
use Rattle.clap.proofs.WalkLemmas.{first_value-rows}
use Rattle.command_words.proofs.ProgramLemmas.{some_is}
use Rattle.command_words.proofs.readings.number.Goals as goal

pub unreachable-requires : goal.unreachable-requires
unreachable-requires g c =
    let none : None ≡ Some c.requires.0 = ap (option_map (λ s. s.now)) (sym c.in_default.is) ∙ c.get_str.ensures ∙ first_value-rows (found_of c.args.matches.now) c.args.id.now ∙ c.requires.1 in
    cc

pub unreachable-requires-in_default-parse : goal.unreachable-requires-in_default-parse
unreachable-requires-in_default-parse g c =
    let same : Some c.in-Some.text.now ≡ Some c.requires.0 = ap (option_map (λ s. s.now)) (sym c.in-Some.is) ∙ c.get_str.ensures ∙ first_value-rows (found_of c.args.matches.now) c.args.id.now ∙ c.requires.1 in
    let read = subst (IsUnsignedIn g.row.LEAST g.row.MOST) (sym (some_is same)) c.requires.2 in
    c.in_default-parse.ensures.value.0 (read.0, omega (arith, read.3, g.MOST.fits))

pub new-requires : goal.new-requires
new-requires g c =
    let same : Some c.in-Some.text.now ≡ Some c.requires.0 = ap (option_map (λ s. s.now)) (sym c.in-Some.is) ∙ c.get_str.ensures ∙ first_value-rows (found_of c.args.matches.now) c.args.id.now ∙ c.requires.1 in
    let read = subst (IsUnsignedIn g.row.LEAST g.row.MOST) (sym (some_is same)) c.requires.2 in
    let range : (g.row.LEAST ≤ c.in-Ok.number) × (c.in-Ok.number ≤ g.row.MOST) = subst (λ n. (g.row.LEAST ≤ n) × (n ≤ g.row.MOST)) (sym c.in-Ok.ensures.value.0.1) (read.2, read.3) in
    (search rules, range)

pub returns : goal.returns
returns g c =
    let found : Some c.in-Some.text.now ≡ first_of c.args.id.now (rows_of (found_of c.args.matches.now)) =
    ap (option_map (λ s. s.now)) (sym c.in-Some.is) ∙ c.get_str.ensures ∙ first_value-rows (found_of c.args.matches.now) c.args.id.now in
    ap (option_map (λ text. digits_value 10 (without_leading_plus text))) (sym found) ∙ ap Some (sym c.in-Ok.ensures.value.0.1 ∙ sym c.new.ensures)
