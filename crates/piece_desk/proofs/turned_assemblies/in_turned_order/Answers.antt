use Rattle.std.proofs.Common.{◌≡◌, Err, ap}
use Rattle.std.proofs.lemmas.Result.{err_from_is_err_and}
use Rattle.match_limits.specs.declared.TheConstants.{MOST_CELLS}
use Rattle.cert_tree.specs.declared.faults.AssembleFault.TheVariants.{Memory}
use Rattle.cert_tree.proofs.AssemblyLemmas.{assembled_below, assembled_each}
use Rattle.cert_tree.proofs.MadeLemmas.{assembly_map, assembles_map, none_made}
use Rattle.cert_tree.specs.declared.flat_lemmas.FlatLemma.{FlatLemma}
use Rattle.cert_tree.specs.Certificate.{flat_piece, piece_number}
use Rattle.cert_tree.specs.Limits.{IsLemmaWithin}
use Rattle.piece_desk.proofs.turned_assemblies.in_turned_order.Goals as goal

pub returns-in_err-lemmas-clause-fault : goal.returns-in_err-lemmas-clause-fault
returns-in_err-lemmas-clause-fault c =
    let p = err_from_is_err_and c.from_residual.result c.from_residual.ensures.1 in
    rw (p.1, p.2) (assembles_map piece_number flat_piece c.args.count c.args.pieces.items c.in_err-lemmas.field-0.0 c.in_err-lemmas.ensures.err)

pub returns-in_err-lemmas-clause-memory : goal.returns-in_err-lemmas-clause-memory
returns-in_err-lemmas-clause-memory c =
    let p = err_from_is_err_and c.from_residual.result c.from_residual.ensures.1 in
    rw (p.1, p.2) (λ is. none_made piece_number flat_piece c.args.count c.args.pieces.items (c.in_err-lemmas.ensures.memory (let same : c.in_err-lemmas.field-0.0 ≡ Memory = cc in ap Err same)))

pub returns-clause-lemmas : goal.returns-clause-lemmas
returns-clause-lemmas c = assembly_map piece_number flat_piece c.args.count c.args.pieces.items c.in_ok-lemmas.lemmas.items c.in_ok-lemmas.ensures.ok

pub returns-clause-numbers : goal.returns-clause-numbers
returns-clause-numbers c = assembled_below (λ (lemma : FlatLemma). lemma.number) c.args.count c.args.pieces.items c.in_ok-lemmas.lemmas.items c.in_ok-lemmas.ensures.ok

pub returns-clause-within : goal.returns-clause-within
returns-clause-within c =
    assembled_each (λ (lemma : FlatLemma). lemma.number) (λ lemma. IsLemmaWithin MOST_CELLS (flat_piece lemma)) c.args.count c.args.pieces.items c.in_ok-lemmas.lemmas.items c.requires c.in_ok-lemmas.ensures.ok
