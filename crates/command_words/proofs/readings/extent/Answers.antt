use Rattle.std.proofs.Common.{◌≡◌, ◌∙◌, sym, ap, Some, None, codes, arith}
use Rattle.std.specs.Option.{option_map}
use Rattle.std.specs.Str.Parse.{digits_value, without_leading_plus}
use Rattle.clap.specs.Words.{found_of, rows_of}
use Rattle.clap.proofs.WalkLemmas.{first_value-rows}
use Rattle.command_words.proofs.ExtentLemmas.{both_named, no_parts}
use Rattle.command_words.proofs.readings.extent.Goals as goal

pub long_number-requires : goal.long_number-requires
long_number-requires c =
    let found = sym (first_value-rows (found_of c.args.matches.now) (codes "most")) ∙ sym c.get_str-most.ensures ∙ ap (option_map (λ s. s.now)) c.in-Some-None.is-0 in
    c.requires c.in-Some-None.most.now found

pub returns-in-None-None : goal.returns-in-None-None
returns-in-None-None c = (
  sym (first_value-rows (found_of c.args.matches.now) (codes "most")) ∙ sym c.get_str-most.ensures ∙ ap (option_map (λ s. s.now)) c.in-None-None.is-0,
  sym (first_value-rows (found_of c.args.matches.now) (codes "part")) ∙ sym c.get_str-text.ensures ∙ ap (option_map (λ s. s.now)) c.in-None-None.is-1,
)

pub returns-in-Some-None : goal.returns-in-Some-None
returns-in-Some-None c =
    let found = sym (first_value-rows (found_of c.args.matches.now) (codes "most")) ∙ sym c.get_str-most.ensures ∙ ap (option_map (λ s. s.now)) c.in-Some-None.is-0 in (
      ap (option_map (λ text. digits_value 10 (without_leading_plus text))) found ∙ ap Some (sym c.long_number.ensures),
      sym (first_value-rows (found_of c.args.matches.now) (codes "part")) ∙ sym c.get_str-text.ensures ∙ ap (option_map (λ s. s.now)) c.in-Some-None.is-1,
    )

pub returns-in_ok-parts-in-None-Some : goal.returns-in_ok-parts-in-None-Some
returns-in_ok-parts-in-None-Some c = (
  sym (first_value-rows (found_of c.args.matches.now) (codes "most")) ∙ sym c.get_str-most.ensures ∙ ap (option_map (λ s. s.now)) c.in-None-Some.is-0,
  c.in-None-Some.text.now,
  sym (first_value-rows (found_of c.args.matches.now) (codes "part")) ∙ sym c.get_str-text.ensures ∙ ap (option_map (λ s. s.now)) c.in-None-Some.is-1,
  c.in_ok-parts-in-None-Some.ensures,
)

pub returns-in_err-parts-in-None-Some : goal.returns-in_err-parts-in-None-Some
returns-in_err-parts-in-None-Some c =
    let rows = rows_of (found_of c.args.matches.now) in
    let most = sym (first_value-rows (found_of c.args.matches.now) (codes "most")) ∙ sym c.get_str-most.ensures ∙ ap (option_map (λ s. s.now)) c.in-None-Some.is-0 in
    let part = sym (first_value-rows (found_of c.args.matches.now) (codes "part")) ∙ sym c.get_str-text.ensures ∙ ap (option_map (λ s. s.now)) c.in-None-Some.is-1 in
    let gone : c.from_residual.result ≡ None = grind arith in
    rw gone (no_parts rows c.in-None-Some.text.now most part c.in_err-parts-in-None-Some.ensures)

pub returns-in-Some-Some : goal.returns-in-Some-Some
returns-in-Some-Some c =
    let rows = rows_of (found_of c.args.matches.now) in
    let most = sym (first_value-rows (found_of c.args.matches.now) (codes "most")) ∙ sym c.get_str-most.ensures ∙ ap (option_map (λ s. s.now)) c.in-Some-Some.is-0 in
    let part = sym (first_value-rows (found_of c.args.matches.now) (codes "part")) ∙ sym c.get_str-text.ensures ∙ ap (option_map (λ s. s.now)) c.in-Some-Some.is-1 in
    both_named rows c.in-Some-Some.field-0-0.now c.in-Some-Some.field-0-1.now most part
