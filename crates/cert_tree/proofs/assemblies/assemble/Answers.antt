use Rattle.std.proofs.Common.{◌≡◌, ◌≢◌, ◌≤◌, ◌<◌, ◌^◌, List, None, length, map, ap, sym, subst, ◌∙◌}
use Rattle.std.specs.Prelude.{All}
use Rattle.cert_tree.specs.Assembly.{HaveNoStranger, TellsLeast, how_often}
use Rattle.cert_tree.proofs.AssemblyLemmas.{first_stranger, no_strangers}
use Rattle.cert_tree.proofs.MadeLemmas.{tells_of_made}
use Rattle.cert_tree.specs.declared.certificates.Lemma.{Lemma}
use Rattle.cert_tree.specs.Certificate.{Piece, piece_number, piece_of}
use Rattle.cert_tree.proofs.ConversionLemmas.{short_pieces}
use Rattle.cert_tree.proofs.assemblies.assemble.Goals as goal
use Rattle.cert_tree.proofs.assemblies.assemble.Goals.{After-least_stranger}

-- the least number at or past the count among the pieces
least_of : (c : After-least_stranger) → TellsLeast (λ n. (c.args.count ≤ n) × (how_often piece_number (map piece_of c.args.pieces.items) n ≢ 0)) c.least_stranger.result
least_of c =
    tells_of_made piece_number piece_of c.args.count c.args.pieces.items c.least_stranger.result
    (subst (λ lemmas. TellsLeast (λ n. (c.args.count ≤ n) × (how_often (λ (lemma : Lemma). lemma.number) lemmas n ≢ 0)) c.least_stranger.result) c.deref.ensures.value c.least_stranger.ensures)

none_past : (c : After-least_stranger) → c.least_stranger.result ≡ None → HaveNoStranger piece_number c.args.count (map piece_of c.args.pieces.items)
none_past c none =
    no_strangers piece_number c.args.count (map piece_of c.args.pieces.items)
    (subst (TellsLeast (λ n. (c.args.count ≤ n) × (how_often piece_number (map piece_of c.args.pieces.items) n ≢ 0))) none (least_of c))

pub returns-in-Some-clause-fault : goal.returns-in-Some-clause-fault
returns-in-Some-clause-fault c =
    let here = (goal.at.returns-in-Some-clause-fault c).After-least_stranger in
    first_stranger piece_number c.args.count (map piece_of c.args.pieces.items) c.in-Some.stranger
    (subst (TellsLeast (λ n. (c.args.count ≤ n) × (how_often piece_number (map piece_of c.args.pieces.items) n ≢ 0))) c.in-Some.is (least_of here))

pub returns-in_err-flat-clause-memory : goal.returns-in_err-flat-clause-memory
returns-in_err-flat-clause-memory c = λ _. none_past (goal.at.returns-in_err-flat-clause-memory c).After-least_stranger c.in_default.is

pub returns-clause-memory : goal.returns-clause-memory
returns-clause-memory c = λ _. none_past (goal.at.returns-clause-memory c).After-least_stranger c.in_default.is

pub assemble_flat-requires-clause-prefixes : goal.assemble_flat-requires-clause-prefixes
assemble_flat-requires-clause-prefixes c =
    let same : c.in_ok-flat.flat ≡ map piece_of c.args.pieces.items = c.in_ok-flat.ensures ∙ ap (map piece_of) c.deref-2.ensures.value in
    subst (λ (pieces : List Piece). All (λ piece. length piece.prefix < 2 ^ 32) pieces) (sym same) (short_pieces c.args.pieces.items c.requires.prefixes)
