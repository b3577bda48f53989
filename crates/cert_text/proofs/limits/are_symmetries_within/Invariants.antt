use Rattle.std.proofs.Common.{drop}
use Rattle.std.specs.List.{AllByRecursion}
use Rattle.cert_text.specs.CertificateSpelling.{IsSymmetryWithin}
use Rattle.cert_text.proofs.limits.are_symmetries_within.Given as goal

abbrev pub invariant-loop-line : goal.invariant-loop-line
invariant-loop-line l = record {
  back : AllByRecursion (IsSymmetryWithin l.ranges) (drop l.line-index l.lines) → AllByRecursion (IsSymmetryWithin l.ranges) l.lines;
  on : AllByRecursion (IsSymmetryWithin l.ranges) l.lines → AllByRecursion (IsSymmetryWithin l.ranges) (drop l.line-index l.lines);
}
