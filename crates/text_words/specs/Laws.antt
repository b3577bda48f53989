-- Laws of texts and of what they spell.
use Rattle.std.specs.Prelude.{◌≡◌, ◌<◌, ◌+◌, ℕ, List, Result, Ok, length, take}
use Rattle.text_words.specs.declared.faults.TextFault.{TextFault}
use Rattle.text_words.specs.declared.faults.TextKind.TheVariants.{Ends}
use Rattle.text_words.specs.Bytes.{line_ends}
use Rattle.text_words.specs.Place.{fail}

-- What is read is what has a spelling, and its text is that spelling.
abbrev pub ReadsSpellingsAlone : {X : Type 0} → (List ℕ → Result X TextFault) → (X → Type 0) → (X → List ℕ) → Type 0
ReadsSpellingsAlone {X} read Within spelling =
    (text : List ℕ) (x : X) → read text ≡ Ok x → Within x × (text ≡ spelling x)

-- What has a spelling is read back from it.
abbrev pub ReadsEachSpelling : {X : Type 0} → (List ℕ → Result X TextFault) → (X → Type 0) → (X → List ℕ) → Type 0
ReadsEachSpelling {X} read Within spelling = (x : X) → Within x → read (spelling x) ≡ Ok x

-- Texts of the same value are the same.
abbrev pub HasOneSpelling : {X : Type 0} → (List ℕ → Result X TextFault) → Type 0
HasOneSpelling {X} read = (text other : List ℕ) (x : X) → read text ≡ Ok x → read other ≡ Ok x → text ≡ other

-- Values of the same spelling are the same.
abbrev pub IsOneValue : {X : Type 0} → (X → Type 0) → (X → List ℕ) → Type 0
IsOneValue {X} Within spelling = (x y : X) → Within x → Within y → spelling x ≡ spelling y → x ≡ y

-- A text that is read and then cut short ends at line 1 plus the number of line ends that are left.
abbrev pub EndsWhereCut : {X : Type 0} → (List ℕ → Result X TextFault) → Type 0
EndsWhereCut {X} read =
    (text : List ℕ) (x : X) (k : ℕ) → read text ≡ Ok x → k < length text
    → read (take k text) ≡ fail (line_ends (take k text) + 1) Ends

-- Reading and spelling are each other's inverse, and reading tells where a text is cut short.
pub record ReadsWhatIsSpelled {X : Type 0} (read : List ℕ → Result X TextFault) (Within : X → Type 0)
    (spelling : X → List ℕ) : Type 0 where
  pub alone : ReadsSpellingsAlone read Within spelling
  pub each : ReadsEachSpelling read Within spelling
  pub one_spelling : HasOneSpelling read
  pub one_value : IsOneValue Within spelling
  pub cut : EndsWhereCut read
