use Rattle.std.proofs.Common.{◌≡◌, ◌-◌, ◌<◌, ◌≤◌, ◌++◌, ◌∷◌, [], List, length, sym, ap, refl, ◌∙◌, arith, codes, append_assoc, length-append, Ok}
use Rattle.std.proofs.lemmas.List.{append-nil}
use Rattle.std.proofs.lemmas.Result.{err_from_is_err_and}
use Rattle.match_puzzle.specs.declared.placements.Pair.{Pair}
use Rattle.text_words.specs.declared.faults.ReadFault.TheVariants as faults
use Rattle.text_words.specs.Words.{pair_in}
use Rattle.text_words.proofs.LoopLemmas.{none_read, one_read, entry_fails, too_many, all_read, word_shorter}
use Rattle.cert_text.specs.Entries.{entries_before}
use Rattle.cert_tree.proofs.SpanLemmas.{behind_is}
use Rattle.cert_text.proofs.EntryLemmas.{reads_before}
use Rattle.cert_text.proofs.entries.prefix.Goals as goal
use Rattle.cert_text.proofs.entries.prefix.Goals.{After-len}

-- how many were read
many : (c : After-len) → c.len.result - c.len-start.result ≡ length c.loop-scan.invariant.0
many c =
    let h = c.loop-scan.invariant in
    let e = ap length h.1 ∙ length-append c.args.pairs.now.items h.0 in
    omega (arith, e, c.len.ensures, c.len-start.ensures, c.loop-scan.pairs.ok.0, c.args.pairs.now.ok.0)

pub loop-scan-init : goal.loop-scan-init
loop-scan-init c = ([], sym (append-nil c.args.pairs.now.items), none_read c.args.ranges.now.most_cells (λ room. entries_before (codes "tree") room (pair_in c.args.ranges.now)) c.args.scan.now)

pub returns-in_err-further_entry-clause-reads : goal.returns-in_err-further_entry-clause-reads
returns-in_err-further_entry-clause-reads c =
    let p = err_from_is_err_and c.from_residual.result c.from_residual.ensures.1 in
    let h = c.loop-scan.invariant in
    let as_many = many (goal.at.returns-in_err-further_entry-clause-reads c).After-len in
    let full : c.args.ranges.now.most_cells ≤ length h.0 = omega (arith, c.in_err-further_entry.ensures.0, as_many) in
    rw (p.1, p.2, c.in_err-further_entry.ensures.1) (too_many (reads_before (codes "tree") (pair_in c.args.ranges.now)) c.loop-scan.scan h.0 full (sym c.has_other.ensures ∙ c.loop-scan-test.true) h.2)

pub returns-in_err-pair-clause-reads : goal.returns-in_err-pair-clause-reads
returns-in_err-pair-clause-reads c =
    let p = err_from_is_err_and c.from_residual-in_err-pair.result c.from_residual-in_err-pair.ensures.1 in
    let h = c.loop-scan.invariant in
    let as_many = many (goal.at.returns-in_err-pair-clause-reads c).After-len in
    let few : length h.0 < c.args.ranges.now.most_cells = omega (arith, c.in_ok-further_entry.ensures, as_many) in
    rw (p.1, p.2) (entry_fails (reads_before (codes "tree") (pair_in c.args.ranges.now)) c.loop-scan.scan h.0 (faults.Text c.in_err-pair.field-0.0) few (sym c.has_other.ensures ∙ c.loop-scan-test.true) c.in_err-pair.ensures.gives h.2)

pub loop-scan-smaller : goal.loop-scan-smaller
loop-scan-smaller c = word_shorter (pair_in c.args.ranges.now) c.loop-scan.scan c.pair.new.self c.in_ok-pair.pair c.in_ok-pair.ensures.gives

pub loop-scan-preserved : goal.loop-scan-preserved
loop-scan-preserved c =
    let h = c.loop-scan.invariant in
    let pair = c.in_ok-pair.pair in
    let as_many = many (goal.at.loop-scan-preserved c).After-len in
    let few : length h.0 < c.args.ranges.now.most_cells = omega (arith, c.in_ok-further_entry.ensures, as_many) in (
      h.0 ++ pair ∷ [],
      c.in_ok-push.ensures.items ∙ ap (λ (xs : List Pair). xs ++ pair ∷ []) h.1 ∙ append_assoc c.args.pairs.now.items h.0 (pair ∷ []),
      one_read (reads_before (codes "tree") (pair_in c.args.ranges.now)) c.loop-scan.scan c.pair.new.self h.0 (h.0 ++ pair ∷ []) pair few refl (sym c.has_other.ensures ∙ c.loop-scan-test.true) c.in_ok-pair.ensures.gives h.2,
    )

pub returns-clause-reads : goal.returns-clause-reads
returns-clause-reads c =
    let h = c.loop-scan.invariant in
    all_read (reads_before (codes "tree") (pair_in c.args.ranges.now)) c.loop-scan.scan h.0 (sym c.has_other.ensures ∙ c.loop-scan-test.false) h.2
    ∙ ap (λ (xs : List Pair). Ok (xs, c.loop-scan.scan)) (sym (behind_is c.args.pairs.now.items c.loop-scan.pairs.items h.0 h.1))

pub returns-clause-behind : goal.returns-clause-behind
returns-clause-behind c =
    let h = c.loop-scan.invariant in
    h.1 ∙ ap (λ (xs : List Pair). c.args.pairs.now.items ++ xs) (sym (behind_is c.args.pairs.now.items c.loop-scan.pairs.items h.0 h.1))
