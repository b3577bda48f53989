use Rattle.std.proofs.Common.{◌∙◌, length, take, arith, ap, sym, subst}
use Rattle.puzzle_symmetry.specs.Motion.{AreOfPuzzle}
use Rattle.cert_check.specs.Setting.{BeginWithPrefixes, setting_of}
use Rattle.puzzle_symmetry.proofs.MotionLemmas.{are_of_puzzle}
use Rattle.cert_check.proofs.CheckLemmas.{setting_is}
use Rattle.cert_check.proofs.settings.Setting.new.Goals as goal

pub invariant_of-result : goal.invariant_of-result
invariant_of-result c =
    let p = c.args.puzzle.now in
    let lt = c.requires.lemma in (
      record {
        symmetries = subst (AreOfPuzzle p) (sym c.requires.symmetries) (are_of_puzzle p c.args.certificate.now.symmetries);
        prefixes = subst (BeginWithPrefixes p) (sym c.lemmas.ensures.lemmas) c.requires.prefixes;
      },
      omega (arith, lt, ap length c.lemmas.ensures.lemmas),
    )

pub returns : goal.returns
returns c =
    let p = c.args.puzzle.now in
    let listed = c.args.listed.now in
    let motions = c.args.symmetries.now in
    ap (λ ls. setting_of p listed motions (take c.args.lemma ls)) c.lemmas.ensures.lemmas ∙ setting_is p listed c.args.certificate.now motions c.args.lemma c.requires.symmetries
