use Rattle.std.proofs.Common.{arith, subst, sym}
use Rattle.cert_text.specs.LemmaParts.{AreOfParts, TellsOfLimits}
use Rattle.cert_text.proofs.WritingLemmas.{told_by_all}
use Rattle.cert_text.proofs.crew_limits.are_parts_within.Goals as goal

pub returns : goal.returns
returns g c =
    let pieces = c.args.parts.now.lemmas.now in
    let starts = c.args.parts.now.starts.items in
    let told = c.in_ok-told.told in
    let are = subst (AreOfParts (TellsOfLimits c.args.version pieces) starts) (sym c.deref.ensures.value) record {
      many = omega (arith, c.count.ensures.all, c.in_ok-told.ensures.many, told.ok.0);
      each = c.in_ok-told.ensures.each;
    } in
    told_by_all c.args.version pieces starts c.deref.result.now c.requires.cut are c.are_all.result c.are_all.ensures
