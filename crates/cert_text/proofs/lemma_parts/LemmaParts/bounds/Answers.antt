use Rattle.std.proofs.Common.{◌+◌, arith}
use Rattle.std.proofs.lemmas.List.{get_or_read}
use Rattle.cert_text.proofs.lemma_parts.LemmaParts.bounds.Goals as goal

pub returns-clause-first : goal.returns-clause-first
returns-clause-first c = get_or_read c.args.self.now.starts.items c.args.number c.index.result.now (omega (arith, c.requires.1)) c.index.ensures 0

pub returns-clause-last : goal.returns-clause-last
returns-clause-last c = get_or_read c.args.self.now.starts.items (c.args.number + 1) c.index-2.result.now c.requires.1 c.index-2.ensures 0

pub returns-clause-within : goal.returns-clause-within
returns-clause-within c =
    let first = returns-clause-first c in
    let last = returns-clause-last c in
    let rising = c.requires.0.rising c.args.number c.requires.1 in
    let within = c.requires.0.within (c.args.number + 1) c.requires.1 in
    (omega (arith, first, last, rising), omega (arith, last, within))
