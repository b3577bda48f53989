-- The texts of a list and of a certificate, read and written.
use Rattle.std.specs.Prelude.{◌≡◌, ◌⊎◌, ◌+◌, ℕ, List, Result, Ok, Vec, IfOk}
use Rattle.std.specs.List.{slice_range}
use Rattle.std.specs.declared.alloc.Global.{Global}
use Rattle.match_puzzle.specs.declared.placements.Placement.{Placement}
use Rattle.match_text.specs.ListSpelling.{IsListWithin}
use Rattle.match_text.specs.Lists.{list_of}
use Rattle.text_words.specs.Place.{Says}
use Rattle.text_words.specs.declared.faults.ReadFault.{ReadFault}
use Rattle.match_limits.specs.declared.ranges.TheConstants.{SECOND}
use Rattle.cert_tree.specs.Certificate.{Contents}
use Rattle.cert_text.specs.CertificateSpelling.{certificate_spelling, IsCertificateWithin}
use Rattle.cert_text.specs.CertificateText.{Makes, certificate_of}
use Rattle.cert_text.specs.Writing.{said_by}
use Rattle.cert_text.specs.LemmaParts.{part_start}

-- What was read of a list's text: the list that it spells, which can be written, or its first fault.
abbrev pub IsListRead : (text : List ℕ) → Result (Vec (List Placement) Global) ReadFault → Type 0
IsListRead text read =
    Says (λ rows. rows.items) read (list_of text) × IfOk read (λ rows. IsListWithin SECOND rows.items)

-- The version is the first that has the numbers for the certificate.
abbrev pub IsFirstVersion : (version : ℕ) → Contents → Type 0
IsFirstVersion version c =
    ((version ≡ 1) × IsCertificateWithin (said_by 1 c)) ⊎ ((version ≡ 2) × (IsCertificateWithin (said_by 1 c) → ⊥))

-- The text is the certificate's: of version 1 where that has the numbers for it, else of version 2.
pub record IsCertificateText (c : Contents) (text : List ℕ) : Type 0 where
  pub first : IsCertificateWithin (said_by 1 c) → text ≡ certificate_spelling (said_by 1 c)
  pub second : (IsCertificateWithin (said_by 1 c) → ⊥) → text ≡ certificate_spelling (said_by 2 c)

-- The text reads as the certificate, in one of the versions.
abbrev pub ReadsBack : (text : List ℕ) → Contents → Type 0
ReadsBack text c =
    (version : ℕ) × (certificate_of text ≡ Ok (said_by version c)) × Makes (said_by version c) (Ok c)

-- the arrangements of the part with this number, of those that begin there
abbrev pub rows_of_part : List (List Placement) → (starts : List ℕ) → (number : ℕ) → List (List Placement)
rows_of_part listed starts number = slice_range listed (part_start starts number) (part_start starts (number + 1))
