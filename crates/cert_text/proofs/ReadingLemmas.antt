-- What calls that read have returned, by the laws of the texts.
use Rattle.std.proofs.Common.{◌≡◌, ℕ, ◌^◌, ◌≤◌, zero, suc, ◌+◌, ◌<◌, List, [], ◌∷◌, length, take, drop, Result, Ok, Err, refl, sym, ap, subst, ◌∙◌, arith}
use Rattle.match_limits.specs.declared.TheConstants.{MOST_CELLS, MOST_SYMMETRIES}
use Rattle.std.specs.Prelude.{IfOk, All, Contains}
use Rattle.std.specs.List.{AllByRecursion}
use Rattle.match_limits.proofs.ListLemmas.{all_by_place}
use Rattle.text_words.specs.declared.faults.TextFault.{TextFault}
use Rattle.text_words.specs.declared.faults.TextKind.TheVariants.{Ends}
use Rattle.match_limits.specs.declared.ranges.Ranges.{Ranges}
use Rattle.match_limits.specs.Ranges.{AreRanges, ranges_of}
use Rattle.cert_tree.specs.declared.faults.AssembleFault.{AssembleFault}
use Rattle.cert_tree.specs.declared.faults.AssembleFault.TheVariants.{Stranger, Double, Missing, Memory}
use Rattle.cert_tree.specs.Assembly.{Assembles}
use Rattle.text_words.specs.Bytes.{line_ends}
use Rattle.text_words.specs.Place.{Says, fail}
use Rattle.match_puzzle.specs.declared.placements.Pair.{Pair}
use Rattle.cert_tree.specs.declared.certificates.Lemma.{Lemma}
use Rattle.cert_tree.specs.declared.flat_lemmas.LemmaSpan.{LemmaSpan}
use Rattle.cert_tree.specs.declared.heads.Head.{Head}
use Rattle.text_words.specs.declared.faults.ReadFault.{ReadFault}
use Rattle.cert_tree.specs.Certificate.{Contents, Piece, piece_of, piece_number}
use Rattle.cert_tree.specs.Heads.{first, trees_in}
use Rattle.cert_tree.specs.Limits.{IsLemmaWithin}
use Rattle.cert_tree.specs.Spans.{piece_in}
use Rattle.cert_text.specs.declared.faults.CertTextFault.{CertTextFault}
use Rattle.cert_text.specs.Faults.{of_assembly}
use Rattle.cert_text.specs.CertificateText.{Said, lemma_of, certificate_of, Makes, CertificateGives}
use Rattle.cert_text.specs.CertificateSpelling.{lemma_spelling, certificate_spelling, IsSymmetryWithin, IsCertificateWithin}
use Rattle.cert_text.specs.Writing.{said_by}
use Rattle.cert_text.proofs.WiderLemmas.{within_second}
use Rattle.cert_text.proofs.CertificateTextLemmas.{lemma_found, lemma_only, lemma_short, certificate_found, certificate_only, certificate_short}

-- ---- a lemma

pub found_of : (text : List ℕ) (result : Result Lemma ReadFault) → Says piece_of result (lemma_of text) → IfOk result (λ lemma. IsLemmaWithin MOST_CELLS (piece_of lemma) × (text ≡ lemma_spelling (piece_of lemma)))
found_of text (Ok lemma) e = lemma_found text (piece_of lemma) e
found_of text (Err f) e = tt

pub only_of : (text : List ℕ) (result : Result Lemma ReadFault) → Says piece_of result (lemma_of text) → (piece : Piece) → IsLemmaWithin MOST_CELLS piece → text ≡ lemma_spelling piece → Says piece_of result (Ok piece)
only_of text result gives piece fits e = subst (λ outcome. Says piece_of result outcome) (ap lemma_of e ∙ lemma_only piece fits) gives

pub cut_of : (text : List ℕ) (result : Result Lemma ReadFault) → Says piece_of result (lemma_of text) → (piece : Piece) (k : ℕ) → IsLemmaWithin MOST_CELLS piece → k < length (lemma_spelling piece) → text ≡ take k (lemma_spelling piece)
    → Says piece_of result (fail (line_ends text + 1) Ends)
cut_of text result gives piece k fits lt e =
    subst (λ outcome. Says piece_of result outcome) (ap lemma_of e ∙ lemma_short (lemma_spelling piece) piece k (lemma_only piece fits) lt ∙ ap (λ t. fail (line_ends t + 1) Ends) (sym e)) gives

pub short_within : (ranges : Ranges) → AreRanges ranges → (pieces : List Piece) → AllByRecursion (IsLemmaWithin ranges.most_cells) pieces → All (λ piece. length piece.prefix < 2 ^ 32) pieces
short_within ranges are [] fits k d lt = absurd (omega (arith, lt))
short_within ranges are (piece ∷ pieces) fits zero d lt = omega (arith, fits.0.few_pairs, are.few)
short_within ranges are (piece ∷ pieces) fits (suc k) d lt = short_within ranges are pieces fits.1 k d (omega (arith, lt))

-- ---- a certificate

pub certificate_found_of : (text : List ℕ) (result : Result Contents CertTextFault) → CertificateGives result (certificate_of text)
    → IfOk result (λ c. (said : Said) × IsCertificateWithin said × (text ≡ certificate_spelling said) × Makes said (Ok c))
certificate_found_of text (Err f) gives = tt
certificate_found_of text (Ok c) gives = by_outcome (certificate_of text) refl gives
  where
    by_outcome : (outcome : Result Said TextFault) → certificate_of text ≡ outcome → CertificateGives (Ok c) outcome → (said : Said) × IsCertificateWithin said × (text ≡ certificate_spelling said) × Makes said (Ok c)
    by_outcome (Ok said) is makes = let h = certificate_found text said is in (said, h.0, h.1, makes)
    by_outcome (Err f) is makes = absurd makes

pub certificate_only_of : (text : List ℕ) (result : Result Contents CertTextFault) → CertificateGives result (certificate_of text) → (said : Said) → IsCertificateWithin said → text ≡ certificate_spelling said → CertificateGives result (Ok said)
certificate_only_of text result gives said fits e = subst (λ outcome. CertificateGives result outcome) (ap certificate_of e ∙ certificate_only said fits) gives

pub certificate_cut_of : (text : List ℕ) (result : Result Contents CertTextFault) → CertificateGives result (certificate_of text) → (said : Said) (k : ℕ) → IsCertificateWithin said → k < length (certificate_spelling said)
    → text ≡ take k (certificate_spelling said) → CertificateGives result (fail (line_ends text + 1) Ends)
certificate_cut_of text result gives said k fits lt e =
    subst (λ outcome. CertificateGives result outcome) (ap certificate_of e ∙ certificate_short (certificate_spelling said) said k (certificate_only said fits) lt ∙ ap (λ t. fail (line_ends t + 1) Ends) (sym e)) gives

pub made_fault : (said : Said) (fault : AssembleFault) → Assembles piece_number (length said.pieces) said.pieces (Err fault) → Makes said (Err (of_assembly fault))
made_fault said (Stranger n) is = ((λ same. absurd cc), is)
made_fault said (Double n) is = ((λ same. absurd cc), is)
made_fault said (Missing n) is = ((λ same. absurd cc), is)
made_fault said Memory is = tt

-- ---- what was assembled of what a text says can be written

contained_within : (Fits : Piece → Type 0) (pieces : List Piece) → AllByRecursion Fits pieces → (piece : Piece) → Contains pieces piece → Fits piece
contained_within Fits [] all piece at = absurd (omega (arith, at.1))
contained_within Fits (x ∷ pieces) all piece (zero, at, is) = subst Fits is all.0
contained_within Fits (x ∷ pieces) all piece (suc k, at, is) = contained_within Fits pieces all.1 piece (k, omega (arith, at), is)

-- in the version of the text
made_within : (said : Said) (c : Contents) → IsCertificateWithin said → Makes said (Ok c) → IsCertificateWithin (said_by said.version c)
made_within said c fits made =
    let ranges = ranges_of said.version in
    record {
      version = fits.version;
      few_symmetries = subst (λ gs. length gs ≤ MOST_SYMMETRIES) (sym made.0) fits.few_symmetries;
      symmetries = subst (AllByRecursion (IsSymmetryWithin ranges)) (sym made.0) fits.symmetries;
      few_pieces = omega (arith, made.1.many, fits.few_pieces);
      pieces = all_by_place (IsLemmaWithin ranges.most_cells) c.lemmas (λ n piece at. contained_within (IsLemmaWithin ranges.most_cells) said.pieces fits.pieces piece (made.1.only n piece at).among);
    }

-- and so in version 2
pub certificate_within_of : (text : List ℕ) (result : Result Contents CertTextFault) → CertificateGives result (certificate_of text) → IfOk result (λ c. IsCertificateWithin (said_by 2 c))
certificate_within_of text (Err f) gives = tt
certificate_within_of text (Ok c) gives = let found = certificate_found_of text (Ok c) gives in within_second (said_by found.0.version c) (made_within found.0 c found.1 found.3)

-- The lemma whose pairs and heads are those from these places on.
pub span_says : (number : ℕ) (span : LemmaSpan) (shown pairs : List Pair) (lent heads : List Head) (from pairs_from behind heads_from : ℕ) → shown ≡ pairs → lent ≡ heads → from ≡ pairs_from → behind ≡ heads_from
    → piece_in shown lent span ≡ record { number = number; prefix = drop from shown; tree = first (trees_in (drop behind lent)) }
    → record { number = number; prefix = drop pairs_from pairs; tree = first (trees_in (drop heads_from heads)) } ≡ piece_in pairs heads span
span_says number span shown pairs lent heads from pairs_from behind heads_from same_pairs same_heads same_from same_behind is = rw (← same_pairs, ← same_heads, ← same_from, ← same_behind) (sym is)
