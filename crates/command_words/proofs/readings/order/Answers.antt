use Rattle.std.proofs.Common.{◌≡◌, Some, Result, Ok, Err, IfOk, IfErr, map}
use Rattle.std.specs.String.{string_bytes}
use Rattle.std.proofs.lemmas.Result.{err_from_is_err_and}
use Rattle.clap.specs.Words.{found_of, rows_of, subcommand_of}
use Rattle.command_words.specs.Commands.{whole_app}
use Rattle.command_words.specs.Orders.{IsOrder, IsOrderOf, IsMisfit, IsRefused}
use Rattle.command_words.proofs.ProgramLemmas.{enters_nothing, faultless_of, joined_of, misfit_refused, order_of, parse_enters, parse_refuses}
use Rattle.command_words.proofs.readings.order.Goals.{In-Some}
use Rattle.command_words.proofs.readings.order.Goals as goal

pub returns-in_err-matches : goal.returns-in_err-matches
returns-in_err-matches c =
    let p = err_from_is_err_and c.from_residual-in_err-matches.result c.from_residual-in_err-matches.ensures.1 in
    rw p.1 (record {
      order = tt;
      refused = parse_refuses c.in_ok-program.field-0 (map string_bytes c.args.words.now) c.in_err-matches.field-0.0 p.0 c.in_ok-program.ensures c.in_err-matches.ensures.kinds c.in_err-matches.ensures.passes p.2;
    })

-- what the words enter
entered : (c : In-Some) → subcommand_of whole_app (map string_bytes c.args.words.now) ≡ Some (c.in-Some.name.now, rows_of (found_of c.in-Some.matches.now))
entered c =
    parse_enters c.in_ok-program.field-0 c.in_ok-matches.matches (map string_bytes c.args.words.now) c.in_ok-program.ensures c.in_ok-matches.ensures.matches
    c.in-Some.name.now (rows_of (found_of c.in-Some.matches.now)) c.in-Some.ensures.name c.in-Some.ensures.rows

pub returns-in_default-clause-order : goal.returns-in_default-clause-order
returns-in_default-clause-order c =
    let words = map string_bytes c.args.words.now in
    joined_of words (enters_nothing c.in_ok-program.field-0 c.in_ok-matches.matches words c.in_ok-program.ensures c.in_ok-matches.ensures.matches c.in_default.ensures.variant)

pub order_of-requires : goal.order_of-requires
order_of-requires c = record {
  words = map string_bytes c.args.words.now;
  faultless = faultless_of c.in_ok-program.field-0 (map string_bytes c.args.words.now) c.in_ok-program.ensures c.in_ok-matches.ensures.kinds;
  enters = entered (goal.at.order_of-requires c).In-Some;
}

-- what is said of an order, and of why there is none
made : {T E : Type 0} (P Q : T → Type 0) (r : Result T E) → ((x : T) → P x → Q x) → IfOk r P → IfOk r Q
made P Q (Ok x) follows is = follows x is
made P Q (Err e) follows is = is

failed : {T E : Type 0} (P Q : E → Type 0) (r : Result T E) → ((e : E) → P e → Q e) → IfErr r P → IfErr r Q
failed P Q (Ok x) follows is = is
failed P Q (Err e) follows is = follows e is

pub returns-clause-order : goal.returns-clause-order
returns-clause-order c =
    let words = map string_bytes c.args.words.now in
    let name = c.in-Some.name.now in
    let rows = rows_of (found_of c.in-Some.matches.now) in
    made (IsOrderOf (Some (name, rows))) (IsOrder words) c.order_of.result (λ given is. order_of words name rows given (entered (goal.at.returns-clause-order c).In-Some) is) c.order_of.ensures.order

pub returns-clause-refused : goal.returns-clause-refused
returns-clause-refused c =
    let words = map string_bytes c.args.words.now in
    let name = c.in-Some.name.now in
    let rows = rows_of (found_of c.in-Some.matches.now) in
    failed (IsMisfit (Some (name, rows))) (IsRefused words) c.order_of.result (λ fault is. misfit_refused words name rows fault (entered (goal.at.returns-clause-refused c).In-Some) is) c.order_of.ensures.refused
