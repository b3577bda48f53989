use Rattle.std.proofs.Common.{refl, rules, subst, sym}
use Rattle.cert_check.specs.declared.faults.Answer.TheVariants.{Complete}
use Rattle.command_runs.specs.Printing.{Prints}
use Rattle.command_runs.proofs.printing_runs.complete_text.Goals.{in-All+in_ok-text-in-All, in-Orbits+in_ok-text-in-Orbits, in-Count+in_ok-text-in-Count, in-Picture+in_ok-text-in-Picture, in-Explanation+in_ok-text-in-Explanation}
use Rattle.command_runs.proofs.printing_runs.complete_text.Goals as goal

pub returns : goal.returns
returns c =
    let printed : Prints c.args.prepared Complete c.args.printing c.match-printing.text.items =
    elim c.match-printing.branch [
      | in-All+in_ok-text-in-All w ↦ search rules
      | in-Orbits+in_ok-text-in-Orbits w ↦ search rules
      | in-Count+in_ok-text-in-Count w ↦ search rules
      | in-Picture+in_ok-text-in-Picture w ↦ search rules
      | in-Explanation+in_ok-text-in-Explanation w ↦ search rules
    ]
    in
    record {
      answer = Complete;
      answered = c.requires.0;
      sound = λ e. c.requires.1;
      is = subst (Prints c.args.prepared Complete c.args.printing) (sym c.new.ensures) printed;
      ends = refl;
    }
