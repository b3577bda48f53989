use Rattle.std.proofs.Common.{List, ℕ, length}
use Rattle.byte_streams.proofs.CutLemmas.{Behind}
use Rattle.byte_streams.proofs.documents.document_len.Given as goal

abbrev pub invariant-loop-line : goal.invariant-loop-line
invariant-loop-line l = (front : List ℕ) × Behind l.text front l.rest l.at

abbrev pub decreases-loop-line : goal.decreases-loop-line
decreases-loop-line l = length l.rest
