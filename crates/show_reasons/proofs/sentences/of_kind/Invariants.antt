use Rattle.std.proofs.Common.{◌≡◌, take, All, filter}
use Rattle.show_reasons.specs.Reasons.{NamesColours}
use Rattle.show_reasons.specs.Sentences.{is_of}
use Rattle.show_reasons.proofs.sentences.of_kind.Given as goal

-- those of the reasons so far
abbrev pub invariant-loop-reason : goal.invariant-loop-reason
invariant-loop-reason l = record {
  listed : l.listed.items ≡ filter (is_of l.kind) (take l.reason-index l.reasons);
  colours : All NamesColours l.listed.items;
}
