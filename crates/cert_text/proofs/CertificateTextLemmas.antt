-- The lemma and the certificate that are read are those that were written, and what was written is read again.
use Rattle.std.proofs.Common.{◌≡◌, ℕ, List, [], ◌∷◌, ◌++◌, length, map, Ok, refl, sym, ap, subst, ◌∙◌, arith, codes}
use Rattle.match_limits.specs.declared.TheConstants.{MOST_CELLS, MOST_SYMMETRIES, MOST_LEMMAS}
use Rattle.std.specs.List.{flat_map}
use Rattle.std.proofs.lemmas.List.{append-nil}
use Rattle.std.proofs.lemmas.List.Concat.{flat_map_single}
use Rattle.match_board.specs.declared.symmetry_lines.SymmetryLine.{SymmetryLine}
use Rattle.match_limits.specs.declared.ranges.TheConstants.{SECOND}
use Rattle.match_limits.specs.Ranges.{ranges_of}
use Rattle.text_words.specs.Laws.{ReadsSpellingsAlone, ReadsEachSpelling, EndsWhereCut}
use Rattle.text_words.specs.Place.{Place, Read, ◌>>=◌, give, times, opening, counted, closing, end_of_text, start}
use Rattle.text_words.specs.Spelling.{text_of, first_words, count_words, end_lines}
use Rattle.match_limits.proofs.RangesLemmas.{are_ranges, second_are}
use Rattle.text_words.proofs.CutLemmas.{CutsShort, LeavesNothing, place, bind_ok, ok_is, cuts_bind, cuts_give, cuts_times, cuts_opening, cuts_counted, cuts_closing, cuts_end_of_text, leaves_closing, leaves_after, end_is_reached, end_leaves}
use Rattle.text_words.proofs.LineLemmas.{TakesLines, takes_opening, takes_counted, closing_is, closing_again, times_is, times_again, lines_then}
use Rattle.text_words.proofs.TextLaws.{reads_alone, reads_each, ends_where_cut}
use Rattle.text_words.proofs.WritingLemmas.{text_of-append}
use Rattle.cert_tree.specs.Certificate.{Piece}
use Rattle.cert_tree.specs.Limits.{IsLemmaWithin}
use Rattle.cert_text.specs.CertificateText.{symmetry_line, lemma_line, lemma_text, lemma_of, Said, certificate_text, certificate_of}
use Rattle.cert_text.specs.CertificateSpelling.{symmetry_words, lemma_words, lemma_spelling, certificate_lines, certificate_spelling, IsSymmetryWithin, IsCertificateWithin}
use Rattle.cert_text.proofs.LemmaTextLemmas.{takes_symmetry, takes_lemma, cuts_symmetry, cuts_lemma}

-- ---- a lemma by itself

lemma_is : (p : Place) (x : Piece × Place) → lemma_text p ≡ Ok x → (p.ahead ≡ text_of (lemma_words x.0 ∷ [])) × IsLemmaWithin MOST_CELLS x.0
unfolding lemma_text
lemma_is p x e =
    let a = bind_ok (lemma_line SECOND p) (λ piece. end_of_text >>= λ _. give piece) x e in
    let b = bind_ok (end_of_text a.0.1) (λ _. give a.0.0) x a.2 in
    let one = (takes_lemma SECOND second_are).is p a.0.0 a.0.1 a.1 in
    let nothing : a.0.1.ahead ≡ [] = end_is_reached a.0.1 b.0 b.1 in
    let whole : p.ahead ≡ text_of (lemma_words a.0.0 ∷ []) = one.0 ∙ ap (λ rest. text_of (lemma_words a.0.0 ∷ []) ++ rest) nothing ∙ append-nil (text_of (lemma_words a.0.0 ∷ [])) in
    subst (λ (z : Piece × Place). (p.ahead ≡ text_of (lemma_words z.0 ∷ [])) × IsLemmaWithin MOST_CELLS z.0) (ok_is (a.0.0, b.0.1) x b.2) (whole, one.1)

lemma_again : (piece : Piece) → IsLemmaWithin MOST_CELLS piece → (end : ℕ) × (lemma_text (start (text_of (lemma_words piece ∷ []))) ≡ Ok (piece, place end [] []))
unfolding lemma_text end_of_text
lemma_again piece fits =
    let one = (takes_lemma SECOND second_are).passes piece fits 0 [] [] in
    let at : lemma_line SECOND (start (text_of (lemma_words piece ∷ []))) ≡ Ok (piece, place one.0 [] []) = subst (λ (t : List ℕ). lemma_line SECOND (start t) ≡ Ok (piece, place one.0 [] [])) (append-nil (text_of (lemma_words piece ∷ []))) one.1 in
    (one.0, rw at refl)

cuts_lemma_text : CutsShort lemma_text
unfolding lemma_text
cuts_lemma_text = cuts_bind (lemma_line SECOND) (λ piece. end_of_text >>= λ _. give piece) (cuts_lemma SECOND second_are) (λ piece. cuts_bind end_of_text (λ _. give piece) cuts_end_of_text (λ _. cuts_give piece))

lemma_leaves : LeavesNothing lemma_text
unfolding lemma_text
lemma_leaves p x e =
    let a = bind_ok (lemma_line SECOND p) (λ piece. end_of_text >>= λ _. give piece) x e in
    let b = bind_ok (end_of_text a.0.1) (λ _. give a.0.0) x a.2 in
    ap (λ (z : Piece × Place). z.1.ahead) (sym (ok_is (a.0.0, b.0.1) x b.2)) ∙ end_leaves a.0.1 b.0 b.1

-- what is read is spelled so
pub lemma_found : ReadsSpellingsAlone lemma_of (IsLemmaWithin MOST_CELLS) lemma_spelling
unfolding lemma_of lemma_spelling
lemma_found = reads_alone lemma_text (IsLemmaWithin MOST_CELLS) (λ piece. text_of (lemma_words piece ∷ [])) lemma_is

-- what is spelled so is read
pub lemma_only : ReadsEachSpelling lemma_of (IsLemmaWithin MOST_CELLS) lemma_spelling
unfolding lemma_of lemma_spelling
lemma_only = reads_each lemma_text (IsLemmaWithin MOST_CELLS) (λ piece. text_of (lemma_words piece ∷ [])) lemma_again

-- a text that is cut short ends at its last line
pub lemma_short : EndsWhereCut lemma_of
unfolding lemma_of
lemma_short = ends_where_cut lemma_text (IsLemmaWithin MOST_CELLS) lemma_spelling cuts_lemma_text lemma_leaves

-- ---- a certificate

abbrev all_symmetry_lines : List SymmetryLine → List (List (List ℕ))
all_symmetry_lines symmetries = flat_map (λ g. symmetry_words g ∷ []) symmetries

abbrev all_lemma_lines : List Piece → List (List (List ℕ))
all_lemma_lines pieces = flat_map (λ x. lemma_words x ∷ []) pieces

abbrev first_line : ℕ → List (List (List ℕ))
first_line version = first_words (codes "certificate") version ∷ []

abbrev symmetries_line : ℕ → List (List (List ℕ))
symmetries_line n = count_words (codes "symmetries") n ∷ []

abbrev lemmas_line : ℕ → List (List (List ℕ))
lemmas_line n = count_words (codes "lemmas") n ∷ []

abbrev lines_from : ℕ → ℕ → Said → List (List (List ℕ))
lines_from many count said = first_line said.version ++ (symmetries_line many ++ (all_symmetry_lines said.symmetries ++ (lemmas_line count ++ (all_lemma_lines said.pieces ++ end_lines))))

lines_are : (said : Said) → certificate_lines said ≡ lines_from (length said.symmetries) (length said.pieces) said
lines_are said =
    ap (λ ls. first_line said.version ++ (symmetries_line (length said.symmetries) ++ (ls ++ (lemmas_line (length said.pieces) ++ (map lemma_words said.pieces ++ end_lines))))) (sym (flat_map_single symmetry_words said.symmetries))
    ∙ ap (λ ls. first_line said.version ++ (symmetries_line (length said.symmetries) ++ (all_symmetry_lines said.symmetries ++ (lemmas_line (length said.pieces) ++ (ls ++ end_lines))))) (sym (flat_map_single lemma_words said.pieces))

abbrev said_of : ℕ → List SymmetryLine → List Piece → Said
said_of version symmetries pieces = record { version = version; symmetries = symmetries; pieces = pieces }

abbrev symmetry_by : ℕ → Read SymmetryLine
symmetry_by version = symmetry_line (ranges_of version)

abbrev lemma_by : ℕ → Read Piece
lemma_by version = lemma_line (ranges_of version)

abbrev pieces_then : ℕ → List SymmetryLine → ℕ → Read Said
pieces_then version symmetries count = times count (lemma_by version) >>= λ pieces. closing >>= λ _. give (said_of version symmetries pieces)

abbrev count_then : ℕ → List SymmetryLine → Read Said
count_then version symmetries = counted (codes "lemmas") 0 MOST_LEMMAS >>= pieces_then version symmetries

abbrev symmetries_then : ℕ → ℕ → Read Said
symmetries_then version many = times many (symmetry_by version) >>= count_then version

abbrev many_then : ℕ → Read Said
many_then version = counted (codes "symmetries") 0 MOST_SYMMETRIES >>= symmetries_then version

-- the lines in the ranges of a version
abbrev IsSymmetryOf : ℕ → SymmetryLine → Type 0
IsSymmetryOf version = IsSymmetryWithin (ranges_of version)

abbrev IsLemmaOf : ℕ → Piece → Type 0
IsLemmaOf version = IsLemmaWithin (ranges_of version).most_cells

takes_symmetry_by : (version : ℕ) → TakesLines (symmetry_by version) (λ g. symmetry_words g ∷ []) (IsSymmetryOf version)
takes_symmetry_by version = takes_symmetry (ranges_of version) (are_ranges version)

takes_lemma_by : (version : ℕ) → TakesLines (lemma_by version) (λ x. lemma_words x ∷ []) (IsLemmaOf version)
takes_lemma_by version = takes_lemma (ranges_of version) (are_ranges version)

certificate_is : (p : Place) (x : Said × Place) → certificate_text p ≡ Ok x → (p.ahead ≡ text_of (certificate_lines x.0)) × IsCertificateWithin x.0
unfolding certificate_text
certificate_is p x e =
    let o = bind_ok (opening (codes "certificate") p) many_then x e in
    let version = o.0.0 in
    let a = bind_ok (counted (codes "symmetries") 0 MOST_SYMMETRIES o.0.1) (symmetries_then version) x o.2 in
    let b = bind_ok (times a.0.0 (symmetry_by version) a.0.1) (count_then version) x a.2 in
    let c = bind_ok (counted (codes "lemmas") 0 MOST_LEMMAS b.0.1) (pieces_then version b.0.0) x b.2 in
    let d = bind_ok (times c.0.0 (lemma_by version) c.0.1) (λ pieces. closing >>= λ _. give (said_of version b.0.0 pieces)) x c.2 in
    let g = bind_ok (closing d.0.1) (λ _. give (said_of version b.0.0 d.0.0)) x d.2 in
    let said = said_of version b.0.0 d.0.0 in
    let first = (takes_opening (codes "certificate") refl).is p o.0.0 o.0.1 o.1 in
    let many = (takes_counted (codes "symmetries") 0 MOST_SYMMETRIES refl (omega arith)).is o.0.1 a.0.0 a.0.1 a.1 in
    let symmetries = times_is (symmetry_by version) (λ s. symmetry_words s ∷ []) (IsSymmetryOf version) (takes_symmetry_by version) a.0.0 a.0.1 b.0.0 b.0.1 b.1 in
    let count = (takes_counted (codes "lemmas") 0 MOST_LEMMAS refl (omega arith)).is b.0.1 c.0.0 c.0.1 c.1 in
    let pieces = times_is (lemma_by version) (λ s. lemma_words s ∷ []) (IsLemmaOf version) (takes_lemma_by version) c.0.0 c.0.1 d.0.0 d.0.1 d.1 in
    let last : d.0.1.ahead ≡ text_of end_lines ++ [] = closing_is d.0.1 g.0 g.1 ∙ sym (append-nil (text_of end_lines)) in
    let five = lines_then c.0.1.ahead (all_lemma_lines d.0.0) end_lines d.0.1.ahead [] pieces.0 last in
    let four = lines_then b.0.1.ahead (lemmas_line c.0.0) (all_lemma_lines d.0.0 ++ end_lines) c.0.1.ahead [] count.0 five in
    let three = lines_then a.0.1.ahead (all_symmetry_lines b.0.0) (lemmas_line c.0.0 ++ (all_lemma_lines d.0.0 ++ end_lines)) b.0.1.ahead [] symmetries.0 four in
    let two = lines_then o.0.1.ahead (symmetries_line a.0.0) (all_symmetry_lines b.0.0 ++ (lemmas_line c.0.0 ++ (all_lemma_lines d.0.0 ++ end_lines))) a.0.1.ahead [] many.0 three in
    let one = lines_then p.ahead (first_line version) (symmetries_line a.0.0 ++ (all_symmetry_lines b.0.0 ++ (lemmas_line c.0.0 ++ (all_lemma_lines d.0.0 ++ end_lines)))) o.0.1.ahead [] first.0 two in
    let counted_so : p.ahead ≡ text_of (lines_from a.0.0 c.0.0 said) = one ∙ append-nil (text_of (lines_from a.0.0 c.0.0 said)) in
    let whole : p.ahead ≡ text_of (certificate_lines said) =
    counted_so ∙ ap (λ n. text_of (lines_from n c.0.0 said)) (sym symmetries.1) ∙ ap (λ n. text_of (lines_from (length b.0.0) n said)) (sym pieces.1) ∙ ap text_of (sym (lines_are said)) in
    let within : IsCertificateWithin said = record {
      version = first.1;
      few_symmetries = omega (arith, many.1.1, symmetries.1);
      symmetries = symmetries.2;
      few_pieces = omega (arith, count.1.1, pieces.1);
      pieces = pieces.2;
    } in
    subst (λ (z : Said × Place). (p.ahead ≡ text_of (certificate_lines z.0)) × IsCertificateWithin z.0) (ok_is (said, g.0.1) x g.2) (whole, within)

parts : (said : Said) → text_of (certificate_lines said) ≡ text_of (first_line said.version) ++ (text_of (symmetries_line (length said.symmetries)) ++ (text_of (all_symmetry_lines said.symmetries) ++ (text_of (lemmas_line (length said.pieces)) ++ (text_of (all_lemma_lines said.pieces) ++ text_of end_lines))))
parts said =
    let symmetries = all_symmetry_lines said.symmetries in
    let pieces = all_lemma_lines said.pieces in
    let many = symmetries_line (length said.symmetries) in
    let count = lemmas_line (length said.pieces) in
    ap text_of (lines_are said) ∙ text_of-append (first_line said.version) (many ++ (symmetries ++ (count ++ (pieces ++ end_lines))))
    ∙ ap (λ t. text_of (first_line said.version) ++ t) (text_of-append many (symmetries ++ (count ++ (pieces ++ end_lines)))
    ∙ ap (λ t. text_of many ++ t) (text_of-append symmetries (count ++ (pieces ++ end_lines))
    ∙ ap (λ t. text_of symmetries ++ t) (text_of-append count (pieces ++ end_lines)
    ∙ ap (λ t. text_of count ++ t) (text_of-append pieces end_lines))))

certificate_again : (said : Said) → IsCertificateWithin said → (end : ℕ) × (certificate_text (start (text_of (certificate_lines said))) ≡ Ok (said, place end [] []))
unfolding certificate_text
certificate_again said fits =
    let version = said.version in
    let many = length said.symmetries in
    let count = length said.pieces in
    let last = text_of end_lines in
    let five = text_of (all_lemma_lines said.pieces) ++ last in
    let four = text_of (lemmas_line count) ++ five in
    let three = text_of (all_symmetry_lines said.symmetries) ++ four in
    let two = text_of (symmetries_line many) ++ three in
    let a = (takes_opening (codes "certificate") refl).passes version fits.version 0 [] two in
    let b = (takes_counted (codes "symmetries") 0 MOST_SYMMETRIES refl (omega arith)).passes many (omega arith, fits.few_symmetries) a.0 [] three in
    let c = times_again (symmetry_by version) (λ s. symmetry_words s ∷ []) (IsSymmetryOf version) (takes_symmetry_by version) said.symmetries fits.symmetries b.0 four in
    let d = (takes_counted (codes "lemmas") 0 MOST_LEMMAS refl (omega arith)).passes count (omega arith, fits.few_pieces) c.0 [] five in
    let g = times_again (lemma_by version) (λ s. lemma_words s ∷ []) (IsLemmaOf version) (takes_lemma_by version) said.pieces fits.pieces d.0 last in
    let h = closing_again g.0 [] in
    (h.0, rw (parts said, a.1, b.1, c.1, d.1, g.1, h.1) refl)

-- ---- certificates that are cut short

cuts_certificate : CutsShort certificate_text
unfolding certificate_text
cuts_certificate = cuts_bind (opening (codes "certificate")) many_then (cuts_opening (codes "certificate"))
    (λ version. cuts_bind (counted (codes "symmetries") 0 MOST_SYMMETRIES) (symmetries_then version) (cuts_counted (codes "symmetries") 0 MOST_SYMMETRIES)
    (λ many. cuts_bind (times many (symmetry_by version)) (count_then version) (cuts_times many (symmetry_by version) (cuts_symmetry (ranges_of version) (are_ranges version)))
    (λ symmetries. cuts_bind (counted (codes "lemmas") 0 MOST_LEMMAS) (pieces_then version symmetries) (cuts_counted (codes "lemmas") 0 MOST_LEMMAS)
    (λ count. cuts_bind (times count (lemma_by version)) (λ pieces. closing >>= λ _. give (said_of version symmetries pieces)) (cuts_times count (lemma_by version) (cuts_lemma (ranges_of version) (are_ranges version)))
    (λ pieces. cuts_bind closing (λ _. give (said_of version symmetries pieces)) cuts_closing (λ _. cuts_give (said_of version symmetries pieces)))))))

certificate_leaves : LeavesNothing certificate_text
unfolding certificate_text
certificate_leaves = leaves_after (opening (codes "certificate")) many_then
    (λ version. leaves_after (counted (codes "symmetries") 0 MOST_SYMMETRIES) (symmetries_then version)
    (λ many. leaves_after (times many (symmetry_by version)) (count_then version)
    (λ symmetries. leaves_after (counted (codes "lemmas") 0 MOST_LEMMAS) (pieces_then version symmetries)
    (λ count. leaves_after (times count (lemma_by version)) (λ pieces. closing >>= λ _. give (said_of version symmetries pieces)) (λ pieces. leaves_closing (said_of version symmetries pieces))))))

-- ---- the laws of `certificate_of`

-- what is read is spelled so
pub certificate_found : ReadsSpellingsAlone certificate_of IsCertificateWithin certificate_spelling
unfolding certificate_of certificate_spelling
certificate_found = reads_alone certificate_text IsCertificateWithin (λ said. text_of (certificate_lines said)) certificate_is

-- what is spelled so is read
pub certificate_only : ReadsEachSpelling certificate_of IsCertificateWithin certificate_spelling
unfolding certificate_of certificate_spelling
certificate_only = reads_each certificate_text IsCertificateWithin (λ said. text_of (certificate_lines said)) certificate_again

-- a text that is cut short ends at its last line
pub certificate_short : EndsWhereCut certificate_of
unfolding certificate_of
certificate_short = ends_where_cut certificate_text IsCertificateWithin certificate_spelling cuts_certificate certificate_leaves
