-- A certificate's lemmas in parts.
use Rattle.std.specs.Prelude.{◌≡◌, ◌≤◌, ◌<◌, ◌+◌, ◌-◌, ℕ, List, Bool, Vec, MatchBool, length, slice_index_or}
use Rattle.std.specs.declared.alloc.Global.{Global}
use Rattle.match_limits.specs.declared.TheConstants.{MOST_LEMMAS}
use Rattle.match_limits.specs.Ranges.{ranges_of}
use Rattle.cert_tree.specs.Certificate.{Piece}
use Rattle.cert_text.specs.CertificateSpelling.{AreLinesBetween, AreWithinBetween}

-- where the part with this number begins, of those that begin there
abbrev pub part_start : (starts : List ℕ) → (number : ℕ) → ℕ
part_start starts number = slice_index_or starts number 0

-- `count` lemmas are cut into parts that begin there, one behind the other; the last part ends at the last number.
pub record AreStarts (count : ℕ) (starts : List ℕ) : Type 0 where
  pub some : 1 ≤ length starts
  pub few : length starts ≤ MOST_LEMMAS
  pub from_first : part_start starts 0 ≡ 0
  pub to_last : part_start starts (length starts - 1) ≡ count
  pub rising : (number : ℕ) → number + 1 < length starts → part_start starts number ≤ part_start starts (number + 1)
  pub within : (number : ℕ) → number < length starts → part_start starts number ≤ count

-- The lemmas are cut into parts that begin there.
abbrev pub AreCut : List Piece → (starts : List ℕ) → Type 0
AreCut pieces starts = AreStarts (length pieces) starts

-- There is a part with this number, perhaps one without a lemma.
abbrev pub IsPart : List Piece → (starts : List ℕ) → (number : ℕ) → Type 0
IsPart pieces starts number = AreCut pieces starts × (number + 1 < length starts)

-- This is so of each part: of the lemmas from its first up to the first of the next.
pub record AreOfParts {X : Type 0} (Holds : (first last : ℕ) → X → Type 0) (starts : List ℕ) (parts : List X)
    : Type 0 where
  pub many : length starts ≡ length parts + 1
  pub each : (number : ℕ) (d : X) → number < length parts
      → Holds (part_start starts number) (part_start starts (number + 1)) (slice_index_or parts number d)

-- the lines of the lemmas
abbrev pub AreLines : List Piece → (first last : ℕ) → Vec ℕ Global → Type 0
AreLines pieces first last text = AreLinesBetween pieces first last text.items

-- whether the lemmas have spellings in the version
abbrev pub TellsOfLimits : (version : ℕ) → List Piece → (first last : ℕ) → Bool → Type 0
TellsOfLimits version pieces first last told =
    MatchBool told (AreWithinBetween (ranges_of version) pieces first last)
    (AreWithinBetween (ranges_of version) pieces first last → ⊥)
