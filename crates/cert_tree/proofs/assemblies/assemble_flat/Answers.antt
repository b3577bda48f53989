use Rattle.std.proofs.Common.{ℕ, List, ◌<◌, ◌≤◌, ◌^◌, length, sym, subst, arith}
use Rattle.match_limits.specs.declared.TheConstants.{MOST_LEMMAS}
use Rattle.std.specs.Prelude.{All}
use Rattle.cert_tree.specs.Assembly.{IsAssembly}
use Rattle.cert_tree.proofs.AssemblyLemmas.{assembled_all}
use Rattle.cert_tree.proofs.MadeLemmas.{assembled_made}
use Rattle.match_board.specs.declared.symmetry_lines.SymmetryLine.{SymmetryLine}
use Rattle.cert_tree.specs.Certificate.{Contents, Piece, IsNumbered, piece_number}
use Rattle.cert_tree.specs.Spans.{piece_at}
use Rattle.cert_tree.proofs.SpanLemmas.{assembled_spans}
use Rattle.cert_tree.proofs.assemblies.assemble_flat.Goals as goal
use Rattle.cert_tree.proofs.assemblies.assemble_flat.Goals.{After-of_blocks-lemmas}

-- a certificate may be made of what was assembled
numbered : (count : ℕ) (symmetries : List SymmetryLine) (pieces lemmas : List Piece) → count ≤ MOST_LEMMAS → length symmetries < 2 ^ 32 → All (λ piece. length piece.prefix < 2 ^ 32) pieces → IsAssembly piece_number count pieces lemmas
    → IsNumbered (record { symmetries = symmetries; lemmas = lemmas })
numbered count symmetries pieces lemmas few few_symmetries prefixes is = record {
  numbered = λ number lemma at. (is.only number lemma at).number;
  few_lemmas = omega (arith, is.many, few);
  few_symmetries = few_symmetries;
  prefixes = assembled_all piece_number (λ piece. length piece.prefix < 2 ^ 32) count pieces lemmas prefixes is;
}

pub of_blocks-lemmas-requires : goal.of_blocks-lemmas-requires
of_blocks-lemmas-requires c =
    assembled_spans c.apart-blocks.result.0.items c.args.count c.apart-blocks.result.1.items c.in_ok-spans.spans.items c.apart-blocks.ensures.spans c.in_ok-spans.ensures.ok

assembled : (c : After-of_blocks-lemmas) → IsAssembly piece_number c.args.count c.args.pieces c.of_blocks-lemmas.result
assembled c =
    assembled_made piece_number (piece_at c.apart-blocks.result.0.items) c.args.count c.apart-blocks.result.1.items c.in_ok-spans.spans.items c.args.pieces c.of_blocks-lemmas.result c.apart-blocks.ensures.lemmas c.of_blocks-lemmas.ensures c.in_ok-spans.ensures.ok

pub of-requires : goal.of-requires
of-requires c = numbered c.args.count c.args.symmetries.items c.args.pieces c.of_blocks-lemmas.result c.requires.count c.requires.symmetries c.requires.prefixes (assembled c)

pub returns-clause-lemmas : goal.returns-clause-lemmas
returns-clause-lemmas c = subst (λ (contents : Contents). IsAssembly piece_number c.args.count c.args.pieces contents.lemmas) (sym c.of.ensures) (assembled (goal.at.returns-clause-lemmas c).After-of_blocks-lemmas)
