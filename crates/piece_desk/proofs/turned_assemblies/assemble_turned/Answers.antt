use Rattle.std.proofs.Common.{◌≡◌, ◌<◌, Err, List, length, map, reverse, ap, sym, subst, ◌∙◌}
use Rattle.std.specs.Prelude.{All}
use Rattle.std.proofs.lemmas.Result.{err_from_is_err_and}
use Rattle.match_limits.specs.declared.TheConstants.{MOST_CELLS}
use Rattle.cert_tree.specs.declared.faults.AssembleFault.TheVariants.{Memory}
use Rattle.cert_tree.proofs.MadeLemmas.{all_made}
use Rattle.cert_tree.specs.declared.flat_lemmas.FlatLemma.{FlatLemma}
use Rattle.cert_tree.specs.Certificate.{Contents, Piece, IsNumbered, flat_piece}
use Rattle.cert_tree.specs.Limits.{IsLemmaWithin}
use Rattle.piece_desk.specs.TurnedAssembly.{turned_piece}
use Rattle.piece_desk.proofs.TurnedAssemblyLemmas.{turned_fault, turned_numbered}
use Rattle.piece_desk.proofs.turned_assemblies.assemble_turned.Goals as goal

pub turned_lemmas-requires-clause-numbers : goal.turned_lemmas-requires-clause-numbers
turned_lemmas-requires-clause-numbers c =
    subst (λ (lemmas : List FlatLemma). All (λ lemma. lemma.number < length c.args.first.now) lemmas) (sym c.deref.ensures.value)
    (subst (λ n. All (λ (lemma : FlatLemma). lemma.number < n) c.in_ok-ordered.ordered.items) (sym c.requires.many) c.in_ok-ordered.ensures.numbers)

pub turned_lemmas-requires-clause-within : goal.turned_lemmas-requires-clause-within
turned_lemmas-requires-clause-within c =
    subst (λ (lemmas : List FlatLemma). All (λ lemma. IsLemmaWithin MOST_CELLS (flat_piece lemma)) lemmas) (sym c.deref.ensures.value) c.in_ok-ordered.ensures.within

pub of-requires : goal.of-requires
of-requires c =
    let turn = turned_piece c.args.count c.args.first.now in
    let sorted = map flat_piece c.in_ok-ordered.ordered.items in
    let made : c.in_ok-lemmas.lemmas ≡ reverse (map turn sorted) = c.in_ok-lemmas.ensures ∙ ap (λ (ls : List FlatLemma). reverse (map turn (map flat_piece ls))) c.deref.ensures.value in
    subst (λ (lemmas : List Piece). IsNumbered (record { symmetries = c.args.symmetries.items; lemmas = lemmas })) (sym made)
    (turned_numbered c.args.count c.args.first.now c.args.symmetries.items (map flat_piece c.args.pieces.items) sorted c.requires.count c.requires.symmetries (all_made flat_piece (IsLemmaWithin MOST_CELLS) c.args.pieces.items c.requires.within) c.in_ok-ordered.ensures.lemmas)

pub returns-clause-lemmas : goal.returns-clause-lemmas
returns-clause-lemmas c =
    let turn = turned_piece c.args.count c.args.first.now in (
      map flat_piece c.in_ok-ordered.ordered.items,
      c.in_ok-ordered.ensures.lemmas,
      ap (λ (contents : Contents). contents.lemmas) c.of.ensures ∙ c.in_ok-lemmas.ensures ∙ ap (λ (ls : List FlatLemma). reverse (map turn (map flat_piece ls))) c.deref.ensures.value,
    )

pub returns-in_err-ordered-clause-fault : goal.returns-in_err-ordered-clause-fault
returns-in_err-ordered-clause-fault c =
    let p = err_from_is_err_and c.from_residual.result c.from_residual.ensures.1 in
    rw (p.1, p.2) (turned_fault c.args.count c.args.first.now (map flat_piece c.args.pieces.items) c.in_err-ordered.field-0.0 c.in_err-ordered.ensures.fault)

pub returns-in_err-ordered-clause-memory : goal.returns-in_err-ordered-clause-memory
returns-in_err-ordered-clause-memory c =
    let p = err_from_is_err_and c.from_residual.result c.from_residual.ensures.1 in
    rw (p.1, p.2) (λ is. c.in_err-ordered.ensures.memory (let same : c.in_err-ordered.field-0.0 ≡ Memory = cc in ap Err same))
