use Rattle.std.proofs.Common.{◌≡◌, ◌∙◌, sym, subst, Bool, true, false, Some}
use Rattle.clap.specs.Values.{bool_text}
use Rattle.clap.specs.Words.{found_of, one_text, rows_of}
use Rattle.clap.proofs.WalkLemmas.{one_text-rows}
use Rattle.command_words.specs.Orders.{IsFlagged}
use Rattle.command_words.proofs.readings.flag.Goals as goal

pub returns : goal.returns
returns c = subst (IsFlagged c.args.id.now (rows_of (found_of c.args.matches.now))) (sym (is c.requires.0 (one_text-rows (found_of c.args.matches.now) c.args.id.now ∙ c.requires.1))) c.requires.1
  where
    is : (given : Bool) → one_text (found_of c.args.matches.now) c.args.id.now ≡ Some (bool_text given) → c.get_flag.result ≡ given
    is true reads = c.get_flag.ensures.value reads
    is false reads = c.get_flag.ensures.other reads
