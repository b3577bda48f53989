use Rattle.std.proofs.Common.{ap, arith, ◌∙◌}
use Rattle.cert_text.specs.CertificateSpelling.{symmetries_spelling}
use Rattle.command_runs.proofs.DescribingLemmas.{colours_within, lines_within}
use Rattle.command_runs.proofs.description_runs.symmetries_text.Goals as goal

pub write_symmetries-requires-clause-colours : goal.write_symmetries-requires-clause-colours
write_symmetries-requires-clause-colours c =
    rw c.deref.ensures.value
    (colours_within c.in_ok-lines.lines.items (lines_within c.args.puzzle.now c.requires c.in_ok-lines.lines.items c.in_ok-lines.ensures.symmetries c.in_ok-lines.ensures.shifts))

pub returns : goal.returns
returns c = record {
  lines = c.in_ok-lines.lines.items;
  symmetries = c.in_ok-lines.ensures.symmetries;
  within = lines_within c.args.puzzle.now c.requires c.in_ok-lines.lines.items c.in_ok-lines.ensures.symmetries c.in_ok-lines.ensures.shifts;
  few = omega (arith, c.in_ok-lines.ensures.few, c.in_ok-lines.lines.ok.0);
  spelled = c.in_ok-text.ensures ∙ ap symmetries_spelling c.deref.ensures.value;
}
