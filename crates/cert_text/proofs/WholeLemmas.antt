-- A certificate as the lemmas of its own text, and as a whole.
use Rattle.std.proofs.Common.{◌≡◌, ◌≤◌, ℕ, Bool, true, false, List, [], ◌∷◌, ◌++◌, length, map, Ok, refl, ap, ◌∙◌, append_assoc, arith, codes}
use Rattle.std.specs.Prelude.{MatchBool}
use Rattle.match_limits.specs.declared.TheConstants.{MOST_LEMMAS}
use Rattle.std.proofs.lemmas.Option.{slice_get_within}
use Rattle.match_limits.proofs.ListLemmas.{all_by_place, at_each_place}
use Rattle.match_limits.specs.Ranges.{IsVersion, ranges_of}
use Rattle.cert_tree.proofs.NumberedLemmas.{numbered_assembly}
use Rattle.text_words.specs.Spelling.{text_of, first_words, count_words, end_lines}
use Rattle.text_words.proofs.WritingLemmas.{text_of-append}
use Rattle.cert_tree.specs.Certificate.{Contents, piece_number, IsNumbered}
use Rattle.cert_tree.specs.Limits.{IsLemmaWithin}
use Rattle.cert_text.specs.CertificateText.{Makes}
use Rattle.cert_text.specs.CertificateSpelling.{symmetry_words, lemma_words, certificate_spelling, front_spelling, lemma_lines}
use Rattle.cert_text.specs.CertificateSpelling.{AreSymmetriesWithin, AreWithinBetween, IsCertificateWithin}
use Rattle.cert_text.specs.Writing.{said_by}

-- a certificate is made of its own lemmas
pub made_of_itself : (version : ℕ) (c : Contents) → IsNumbered c → Makes (said_by version c) (Ok c)
made_of_itself version c is = (refl, numbered_assembly piece_number c.lemmas is.numbered)

-- ---- writing

-- the parts of a certificate's text, one behind the other
pub certificate_parts : (version : ℕ) (c : Contents)
    → certificate_spelling (said_by version c) ≡ (front_spelling (said_by version c) ++ lemma_lines c.lemmas) ++ text_of end_lines
unfolding certificate_spelling
certificate_parts version c =
    let first = first_words (codes "certificate") version ∷ [] in
    let many = count_words (codes "symmetries") (length c.symmetries) ∷ [] in
    let symmetries = map symmetry_words c.symmetries in
    let count = count_words (codes "lemmas") (length c.lemmas) ∷ [] in
    let lemmas = map lemma_words c.lemmas in
    let apart : text_of (first ++ (many ++ (symmetries ++ (count ++ (lemmas ++ end_lines))))) ≡ text_of first ++ (text_of many ++ (text_of symmetries ++ (text_of count ++ (text_of lemmas ++ text_of end_lines)))) =
    text_of-append first (many ++ (symmetries ++ (count ++ (lemmas ++ end_lines))))
    ∙ ap (λ t. text_of first ++ t) (text_of-append many (symmetries ++ (count ++ (lemmas ++ end_lines)))
    ∙ ap (λ t. text_of many ++ t) (text_of-append symmetries (count ++ (lemmas ++ end_lines))
    ∙ ap (λ t. text_of symmetries ++ t) (text_of-append count (lemmas ++ end_lines)
    ∙ ap (λ t. text_of count ++ t) (text_of-append lemmas end_lines)))) in
    apart ∙ in_order (text_of first) (text_of many) (text_of symmetries) (text_of count) (text_of lemmas) (text_of end_lines)
  where
    in_order : (a b d e f g : List ℕ) → a ++ (b ++ (d ++ (e ++ (f ++ g)))) ≡ ((((a ++ b) ++ d) ++ e) ++ f) ++ g
    in_order a b d e f g = simp append_assoc refl

-- ---- limits

-- a certificate has a spelling where its symmetries have one and all its lemmas
pub whole_within : (version : ℕ) (c : Contents) (b : Bool) → IsVersion version → length c.lemmas ≤ MOST_LEMMAS → AreSymmetriesWithin (ranges_of version) c.symmetries
    → MatchBool b (AreWithinBetween (ranges_of version) c.lemmas 0 (length c.lemmas)) (AreWithinBetween (ranges_of version) c.lemmas 0 (length c.lemmas) → ⊥)
    → MatchBool b (IsCertificateWithin (said_by version c)) (IsCertificateWithin (said_by version c) → ⊥)
whole_within version c true is few symmetries all = record {
  version = is;
  few_symmetries = symmetries.0;
  symmetries = symmetries.1;
  few_pieces = few;
  pieces = all_by_place (IsLemmaWithin (ranges_of version).most_cells) c.lemmas
      (λ number piece at. all number piece (omega arith) (slice_get_within c.lemmas number piece at) at);
}
whole_within version c false is few symmetries not = λ within. not (λ number piece from below at. at_each_place (IsLemmaWithin (ranges_of version).most_cells) c.lemmas within.pieces number piece at)
