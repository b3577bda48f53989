-- What follows for texts and certificates from the laws of reading and of assembly.
use Rattle.std.proofs.Common.{◌≡◌, ◌≢◌, ℕ, Bool, true, false, List, length, Result, Ok, Err, refl, sym, ap, subst, ◌∙◌}
use Rattle.std.specs.Prelude.{MatchBool}
use Rattle.std.specs.List.Sorted.{IsPermutation}
use Rattle.std.proofs.lemmas.List.Sorted.{length_permutation}
use Rattle.cert_tree.specs.declared.faults.AssembleFault.{AssembleFault}
use Rattle.cert_tree.specs.declared.faults.AssembleFault.TheVariants as assemble
use Rattle.cert_tree.specs.Assembly.{Assembles, IsSettled}
use Rattle.cert_tree.proofs.OrderLemmas.{one_in_any_order}
use Rattle.text_words.specs.declared.faults.TextFault.{TextFault}
use Rattle.text_words.specs.Laws.{ReadsSpellingsAlone, ReadsEachSpelling}
use Rattle.match_board.specs.declared.symmetry_lines.SymmetryLine.{SymmetryLine}
use Rattle.cert_tree.specs.Certificate.{Contents, Piece, piece_number}
use Rattle.cert_text.specs.declared.faults.CertTextFault.{CertTextFault}
use Rattle.cert_text.specs.declared.faults.CertTextFault.TheVariants.{Text, Assemble, Memory}
use Rattle.cert_text.specs.CertificateText.{Said, Makes}
use Rattle.cert_text.specs.Laws.{MakesOneInAnyOrder}

-- what is within the limits has a text, and nothing else
pub spelled_by_limits : {X : Type 0} (read : List ℕ → Result X TextFault) (Within : X → Type 0) (spelling : X → List ℕ) → ReadsSpellingsAlone read Within spelling → ReadsEachSpelling read Within spelling
    → (x : X) (b : Bool) → MatchBool b (Within x) (Within x → ⊥) → MatchBool b ((text : List ℕ) × (read text ≡ Ok x)) ((text : List ℕ) → read text ≢ Ok x)
spelled_by_limits read Within spelling alone each x true is = (spelling x, each x is)
spelled_by_limits read Within spelling alone each x false not = λ text e. not (alone text x e).0

-- ---- lemmas in any order

abbrev assembled : List Piece → Result (List Piece) AssembleFault
assembled pieces = Ok pieces

abbrev refused : AssembleFault → Result (List Piece) AssembleFault
refused fault = Err fault

ok_is : (xs ys : List Piece) → assembled xs ≡ assembled ys → xs ≡ ys
ok_is xs ys e = cc

err_is : (f g : AssembleFault) → refused f ≡ refused g → f ≡ g
err_is f g e = cc

apart : (xs : List Piece) (f : AssembleFault) → assembled xs ≡ refused f → ⊥
apart xs f e = absurd cc

apart_back : (xs : List Piece) (f : AssembleFault) → refused f ≡ assembled xs → ⊥
apart_back xs f e = absurd cc

abbrev made : List SymmetryLine → List Piece → Result Contents CertTextFault
made symmetries lemmas = Ok (record { symmetries = symmetries; lemmas = lemmas })

abbrev failed : AssembleFault → Result Contents CertTextFault
failed fault = Err (Assemble fault)

settled_ok : (xs : List Piece) → IsSettled (assembled xs)
settled_ok xs e = absurd cc

settled_fault : (fault : AssembleFault) → fault ≢ assemble.Memory → IsSettled (refused fault)
settled_fault fault not e = not (err_is fault assemble.Memory e)

module _ (said other : Said) (symmetries : said.symmetries ≡ other.symmetries) (moved : IsPermutation said.pieces other.pieces) where
  same_count : length other.pieces ≡ length said.pieces
  same_count = length_permutation said.pieces other.pieces moved

  same_outcome : (a b : Result (List Piece) AssembleFault) → IsSettled a → IsSettled b → Assembles piece_number (length said.pieces) said.pieces a → Assembles piece_number (length other.pieces) other.pieces b → a ≡ b
  same_outcome a b s t x y = one_in_any_order piece_number (length said.pieces) said.pieces other.pieces a b moved s t x (subst (λ n. Assembles piece_number n other.pieces b) same_count y)

  pub same_made : (a b : Result Contents CertTextFault) → a ≢ Err Memory → b ≢ Err Memory → Makes said a → Makes other b → a ≡ b
  same_made (Ok c) (Ok d) s t x y =
      let lemmas = ok_is c.lemmas d.lemmas (same_outcome (Ok c.lemmas) (Ok d.lemmas) (settled_ok c.lemmas) (settled_ok d.lemmas) x.1 y.1) in
      ap (λ gs. made gs c.lemmas) (x.0 ∙ symmetries ∙ sym y.0) ∙ ap (λ ps. made d.symmetries ps) lemmas
  same_made (Ok c) (Err (Assemble g)) s t x y = absurd (apart c.lemmas g (same_outcome (Ok c.lemmas) (Err g) (settled_ok c.lemmas) (settled_fault g y.0) x.1 y.1))
  same_made (Err (Assemble f)) (Ok d) s t x y = absurd (apart_back d.lemmas f (same_outcome (Err f) (Ok d.lemmas) (settled_fault f x.0) (settled_ok d.lemmas) x.1 y.1))
  same_made (Err (Assemble f)) (Err (Assemble g)) s t x y = ap (λ h. failed h) (err_is f g (same_outcome (Err f) (Err g) (settled_fault f x.0) (settled_fault g y.0) x.1 y.1))
  same_made (Err (Text f)) b s t x y = absurd x
  same_made a (Err (Text g)) s t x y = absurd y
  same_made (Err Memory) b s t x y = absurd (s refl)
  same_made a (Err Memory) s t x y = absurd (t refl)

pub one_made_in_any_order : MakesOneInAnyOrder
one_made_in_any_order said other a b symmetries moved = same_made said other symmetries moved a b
