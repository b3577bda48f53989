-- The lemmas of a certificate, part by part.
use Rattle.std.proofs.Common.{◌≡◌, ℕ, zero, suc, ◌+◌, ◌<◌, ◌≤◌, List, [], ◌∷◌, ◌++◌, Some, Result, Ok, Err, length, get_or, drop, slice_get, refl, sym, ap, subst, ◌∙◌, append_assoc, arith}
use Rattle.std.proofs.lemmas.List.{append-nil}
use Rattle.std.proofs.Math.ListN.{drop_of_length-le}
use Rattle.text_words.specs.declared.faults.TextFault.{TextFault}
use Rattle.text_words.specs.declared.faults.ReadFault.{ReadFault}
use Rattle.text_words.specs.declared.faults.ReadFault.TheVariants as faults
use Rattle.match_limits.specs.declared.ranges.Ranges.{Ranges}
use Rattle.match_limits.specs.Ranges.{ranges_of}
use Rattle.text_words.specs.Place.{Place, Read, Fails, Reads, Says, closing, give, go_on, skip_lines, start, times, value_of}
use Rattle.text_words.proofs.LoopLemmas.{with_front, with_front-nil}
use Rattle.match_limits.proofs.RangesLemmas.{are_ranges}
use Rattle.cert_tree.specs.Certificate.{Piece}
use Rattle.cert_text.specs.declared.parts.CutCertificate.{CutCertificate}
use Rattle.cert_text.specs.declared.parts.LemmaPart.{LemmaPart}
use Rattle.cert_text.specs.CertificateText.{Said, certificate_of, certificate_text, lemma_line, lemmas_then_end}
use Rattle.cert_text.specs.Parts.{◌>>=◌, AreRead, IsCutOf, IsReadAt, cut_says, left_at, part_says, parts_say}
use Rattle.cert_tree.proofs.SpanLemmas.{from_place}
use Rattle.cert_text.proofs.SkipLemmas.{lemmas_read}

-- ---- what is read, and then the rest

-- the values, and then those that are read of the rest; or the first fault
abbrev pub followed : {X : Type 0} → Result (List X) TextFault → Result (List X × Place) TextFault → Result (List X × Place) TextFault
followed (Ok xs) rest = with_front xs rest
followed (Err e) rest = Err e

-- the same, where the rest begins where the first were left
abbrev then_at : {X : Type 0} → Result (List X × Place) TextFault → (Place → Result (List X × Place) TextFault) → Result (List X × Place) TextFault
then_at (Ok read) rest = with_front read.0 (rest read.1)
then_at (Err e) rest = Err e

module _ {X : Type 0} where
  with_front-twice : (xs ys : List X) (read : Result (List X × Place) TextFault) → with_front xs (with_front ys read) ≡ with_front (xs ++ ys) read
  with_front-twice xs ys (Ok z) = ap (λ zs. Ok (zs, z.1)) (sym (append_assoc xs ys z.0))
  with_front-twice xs ys (Err e) = refl

  one_first : (x : X) (read : Result (List X × Place) TextFault) (rest : Place → Result (List X × Place) TextFault)
      → go_on (then_at read rest) (λ xs. give (x ∷ xs)) ≡ then_at (go_on read (λ xs. give (x ∷ xs))) rest
  one_first x (Ok (xs, q)) rest = by_rest (rest q)
    where
      by_rest : (more : Result (List X × Place) TextFault) → go_on (with_front xs more) (λ ys. give (x ∷ ys)) ≡ with_front (x ∷ xs) more
      by_rest (Ok z) = refl
      by_rest (Err e) = refl
  one_first x (Err e) rest = refl

  module _ (r : Read X) where
    first_then : (n k : ℕ) (first : Result (X × Place) TextFault) → ((q : Place) → times (n + k) r q ≡ then_at (times n r q) (times k r))
        → go_on first (λ x q. go_on (times (n + k) r q) (λ xs. give (x ∷ xs))) ≡ then_at (go_on first (λ x q. go_on (times n r q) (λ xs. give (x ∷ xs)))) (times k r)
    first_then n k (Ok (x, q)) split = ap (λ read. go_on read (λ xs. give (x ∷ xs))) (split q) ∙ one_first x (times n r q) (times k r)
    first_then n k (Err e) split = refl

    -- so many, and then others
    times_split : (n k : ℕ) (p : Place) → times (n + k) r p ≡ then_at (times n r p) (times k r)
    unfolding times
    times_split zero k p = let none : 0 + k ≡ k = omega arith in ap (λ j. times j r p) none ∙ sym (with_front-nil (times k r p))
    times_split (suc n) k p = let more : suc n + k ≡ suc (n + k) = omega arith in ap (λ j. times j r p) more ∙ first_then n k (r p) (λ q. times_split n k q)

-- ---- a text that is cut into parts

abbrev lemma_by : ℕ → Read Piece
lemma_by version = lemma_line (ranges_of version)

-- a part, and then the rest from where its lines end
part_then : (part : LemmaPart) (k : ℕ) (m : Place) → ((q : Place) → skip_lines part.count part.scan ≡ Ok (tt, q) → q ≡ m)
    → times (part.count + k) (lemma_by part.version) part.scan ≡ followed (part_says part) (times k (lemma_by part.version) m)
unfolding part_says
part_then part k m ends = times_split (lemma_by part.version) part.count k part.scan ∙ by_read (times part.count (lemma_by part.version) part.scan) refl
  where
    by_read : (read : Result (List Piece × Place) TextFault) → times part.count (lemma_by part.version) part.scan ≡ read → then_at read (times k (lemma_by part.version)) ≡ followed (value_of read) (times k (lemma_by part.version) m)
    by_read (Ok (xs, q)) is = ap (λ at. with_front xs (times k (lemma_by part.version) at)) (ends q (lemmas_read (ranges_of part.version) (are_ranges part.version) part.count part.scan xs q is))
    by_read (Err e) is = refl

-- what is put in front of a rest is in front of what follows it
in_front : (pieces : List Piece) (says : Result (List Piece) TextFault) (rest : Result (List Piece × Place) TextFault) → followed (says >>= λ others. Ok (pieces ++ others)) rest ≡ with_front pieces (followed says rest)
in_front pieces (Ok others) rest = sym (with_front-twice pieces others rest)
in_front pieces (Err e) rest = refl

last_part : (says : Result (List Piece) TextFault) (rest : Result (List Piece × Place) TextFault) → followed (says >>= λ pieces. Ok (pieces ++ [])) rest ≡ with_front [] (followed says rest)
last_part (Ok pieces) rest = ap (λ ps. with_front ps rest) (append-nil pieces) ∙ sym (with_front-nil (with_front pieces rest))
last_part (Err e) rest = refl

first_part : (says longer others : Result (List Piece) TextFault) (rest more : Result (List Piece × Place) TextFault) → followed longer rest ≡ followed others more
    → followed (says >>= λ pieces. longer >>= λ os. Ok (pieces ++ os)) rest ≡ followed (says >>= λ pieces. others >>= λ os. Ok (pieces ++ os)) more
first_part (Ok pieces) longer others rest more same = in_front pieces longer rest ∙ ap (with_front pieces) same ∙ sym (in_front pieces others more)
first_part (Err e) longer others rest more same = refl

-- a part more
part_more : (parts : List LemmaPart) (part : LemmaPart) (rest : Result (List Piece × Place) TextFault) → followed (parts_say (parts ++ part ∷ [])) rest ≡ followed (parts_say parts) (followed (part_says part) rest)
unfolding parts_say
part_more [] part rest = last_part (part_says part) rest
part_more (first ∷ parts) part rest = first_part (part_says first) (parts_say (parts ++ part ∷ [])) (parts_say parts) rest (followed (part_says part) rest) (part_more parts part rest)

-- the lines of a part are cut off
pub cut_off : (parts : List LemmaPart) (part : LemmaPart) (left rest : ℕ) (m : Place) (total : Result (List Piece × Place) TextFault) → left ≡ part.count + rest → ((q : Place) → skip_lines part.count part.scan ≡ Ok (tt, q) → q ≡ m)
    → followed (parts_say parts) (times left (lemma_by part.version) part.scan) ≡ total → followed (parts_say (parts ++ part ∷ [])) (times rest (lemma_by part.version) m) ≡ total
cut_off parts part left rest m total many ends so_far =
    part_more parts part (times rest (lemma_by part.version) m)
    ∙ ap (followed (parts_say parts)) (sym (ap (λ n. times n (lemma_by part.version) part.scan) many ∙ part_then part rest m ends)) ∙ so_far

-- no line is left
pub none_left : (version : ℕ) (parts : List LemmaPart) (left : ℕ) (m : Place) (total : Result (List Piece × Place) TextFault) → left ≡ 0 → followed (parts_say parts) (times left (lemma_by version) m) ≡ total → left_at m (parts_say parts) ≡ total
unfolding times
none_left version parts left m total none so_far = by_parts (parts_say parts) ∙ ap (λ n. followed (parts_say parts) (times n (lemma_by version) m)) (sym none) ∙ so_far
  where
    by_parts : (says : Result (List Piece) TextFault) → left_at m says ≡ followed says (times 0 (lemma_by version) m)
    by_parts (Ok pieces) = ap (λ ps. Ok (ps, m)) (sym (append-nil pieces))
    by_parts (Err e) = refl

-- no line is cut off yet
pub none_cut : (read : Result (List Piece × Place) TextFault) → followed (parts_say []) read ≡ read
unfolding parts_say
none_cut read = with_front-nil read

-- what the text says is what its parts say and the end
module _ (cut : CutCertificate) where
  abbrev said : List Piece → Said
  said pieces = record { version = cut.beginning.version; symmetries = cut.beginning.symmetries.items; pieces = pieces }

  abbrev closing_then : List Piece → Read Said
  closing_then pieces q = go_on (closing q) (λ _. give (said pieces))

  by_end : (pieces : List Piece) (end : Result (Unit {0} × Place) TextFault) → value_of (go_on end (λ _. give (said pieces))) ≡ (value_of end >>= λ _. Ok (said pieces))
  by_end pieces (Ok z) = refl
  by_end pieces (Err e) = refl

  by_parts : (says : Result (List Piece) TextFault) → value_of (go_on (left_at cut.end says) closing_then) ≡ (says >>= λ pieces. value_of (closing cut.end) >>= λ _. Ok (said pieces))
  by_parts (Ok pieces) = by_end pieces (closing cut.end)
  by_parts (Err e) = refl

  pub cut_is : (text : List ℕ) (p : Place) → certificate_text (start text) ≡ lemmas_then_end cut.beginning.version cut.beginning.symmetries.items cut.beginning.count p
      → left_at cut.end (parts_say cut.parts.items) ≡ times cut.beginning.count (lemma_by cut.beginning.version) p → IsCutOf text cut
  unfolding certificate_of cut_says
  cut_is text p begins says = ap value_of begins ∙ ap (λ read. value_of (go_on read closing_then)) (sym says) ∙ by_parts (parts_say cut.parts.items)

-- a fault before the lemmas is the text's
pub fault_before : (text : List ℕ) (fault : ReadFault) → Fails fault (certificate_text (start text)) → Fails fault (certificate_of text)
unfolding certificate_of
fault_before text faults.Memory fails = tt
fault_before text (faults.Text f) fails = ap value_of fails

-- what a call that reads a part returned
pub part_read : (part : LemmaPart) (ranges : Ranges) (scan after : Place) (result : Result (List Piece) ReadFault) → ranges ≡ ranges_of part.version → scan ≡ part.scan
    → Reads (λ pieces. pieces) result after (times part.count (lemma_line ranges) scan) → Says (λ pieces. pieces) result (part_says part)
unfolding part_says
part_read part ranges scan after result same_ranges same_scan reads =
    value_read result (times part.count (lemma_by part.version) part.scan)
    (subst (λ (p : Place). Reads (λ pieces. pieces) result after (times part.count (lemma_by part.version) p)) same_scan
    (subst (λ (rs : Ranges). Reads (λ pieces. pieces) result after (times part.count (lemma_line rs) scan)) same_ranges reads))
  where
    value_read : (result : Result (List Piece) ReadFault) (read : Result (List Piece × Place) TextFault) → Reads (λ pieces. pieces) result after read → Says (λ pieces. pieces) result (value_of read)
    value_read (Ok pieces) read is = ap value_of is
    value_read (Err faults.Memory) read is = tt
    value_read (Err (faults.Text f)) read is = ap value_of is

-- ---- what was read of the parts is joined

-- these, and then those
abbrev pub onto : List Piece → Result (List Piece) TextFault → Result (List Piece) TextFault
onto all (Ok pieces) = Ok (all ++ pieces)
onto all (Err e) = Err e

module _ (parts : List LemmaPart) (n : ℕ) (part : LemmaPart) (all : List Piece) (at : slice_get parts n ≡ Some part) (so_far : onto all (parts_say (drop n parts)) ≡ parts_say parts) where
  this_first : onto all (part_says part >>= λ pieces. parts_say (drop (n + 1) parts) >>= λ others. Ok (pieces ++ others)) ≡ parts_say parts
  unfolding parts_say
  this_first = ap (λ ps. onto all (parts_say ps)) (sym (from_place parts n part at)) ∙ so_far

  -- a part more
  joined_more : (pieces : List Piece) → part_says part ≡ Ok pieces → onto (all ++ pieces) (parts_say (drop (n + 1) parts)) ≡ parts_say parts
  joined_more pieces says =
      sym (by_others (parts_say (drop (n + 1) parts))) ∙ ap (λ r. onto all (r >>= λ ps. parts_say (drop (n + 1) parts) >>= λ others. Ok (ps ++ others))) (sym says) ∙ this_first
    where
      by_others : (others : Result (List Piece) TextFault) → onto all (others >>= λ os. Ok (pieces ++ os)) ≡ onto (all ++ pieces) others
      by_others (Ok os) = ap (λ ps. Ok ps) (sym (append_assoc all pieces os))
      by_others (Err e) = refl

  -- a part with a fault
  joined_fault : (fault : ReadFault) → Fails fault (part_says part) → Fails fault (parts_say parts)
  joined_fault faults.Memory fails = tt
  joined_fault (faults.Text f) fails =
      sym this_first ∙ ap (λ r. onto all (r >>= λ ps. parts_say (drop (n + 1) parts) >>= λ others. Ok (ps ++ others))) fails

part_at : (parts : List LemmaPart) (n : ℕ) → n < length parts → (part : LemmaPart) × (slice_get parts n ≡ Some part)
part_at [] n lt = absurd (omega (arith, lt))
part_at (part ∷ parts) zero lt = (part, refl)
part_at (part ∷ parts) (suc n) lt = part_at parts n (omega (arith, lt))

module _ (parts : List LemmaPart) (read : List (Result (List Piece) ReadFault)) (are : AreRead parts read) (n : ℕ) (one : Result (List Piece) ReadFault) (within : n < length read) (is : one ≡ get_or read n one)
    (all : List Piece) (so_far : onto all (parts_say (drop n parts)) ≡ parts_say parts) where
  it : (part : LemmaPart) × (slice_get parts n ≡ Some part)
  it = let many = are.many in part_at parts n (omega arith)

  says : Says (λ pieces. pieces) one (part_says it.0)
  says = subst (λ o. IsReadAt parts n o) (sym is) (are.each n one within) it.0 it.1

  pub read_more : (pieces : List Piece) → one ≡ Ok pieces → onto (all ++ pieces) (parts_say (drop (n + 1) parts)) ≡ parts_say parts
  read_more pieces ok = joined_more parts n it.0 all it.1 so_far pieces (subst (λ o. Says (λ ps. ps) o (part_says it.0)) ok says)

  pub read_fault : (fault : ReadFault) → one ≡ Err fault → Fails fault (parts_say parts)
  read_fault fault err = joined_fault parts n it.0 all it.1 so_far fault (subst (λ o. Says (λ ps. ps) o (part_says it.0)) err says)

-- no part yet
pub joined_none : (parts : List LemmaPart) → onto [] (parts_say (drop 0 parts)) ≡ parts_say parts
joined_none parts = by_says (parts_say parts)
  where
    by_says : (says : Result (List Piece) TextFault) → onto [] says ≡ says
    by_says (Ok pieces) = refl
    by_says (Err e) = refl

-- all parts
pub joined_all : (parts : List LemmaPart) (n : ℕ) (all : List Piece) → length parts ≤ n → onto all (parts_say (drop n parts)) ≡ parts_say parts → parts_say parts ≡ Ok all
unfolding parts_say
joined_all parts n all le so_far =
    sym so_far ∙ ap (λ ps. onto all (parts_say ps)) (drop_of_length-le parts le) ∙ ap (λ ps. Ok ps) (append-nil all)

-- ---- the whole

-- what the whole says, where its parts were read
pub whole_says : (cut : CutCertificate) (pieces : List Piece) (end : Place) → parts_say cut.parts.items ≡ Ok pieces → closing cut.end ≡ Ok (tt, end)
    → cut_says cut ≡ Ok (record { version = cut.beginning.version; symmetries = cut.beginning.symmetries.items; pieces = pieces })
unfolding cut_says
whole_says cut pieces end says ends = rw (says, ends) refl

-- a fault of a part is that of the whole
pub whole_fails : (cut : CutCertificate) (fault : ReadFault) → Fails fault (parts_say cut.parts.items) → Fails fault (cut_says cut)
unfolding cut_says
whole_fails cut faults.Memory fails = tt
whole_fails cut (faults.Text f) fails = rw fails refl

-- and so is one of the end
pub end_fails : (cut : CutCertificate) (pieces : List Piece) (fault : TextFault) → parts_say cut.parts.items ≡ Ok pieces → closing cut.end ≡ Err fault → cut_says cut ≡ Err fault
unfolding cut_says
end_fails cut pieces fault says ends = rw (says, ends) refl
