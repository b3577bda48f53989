-- Documents that are read as they are given, by what their readers read in turn.
use Rattle.std.proofs.Common.{arith, ◌≡◌, ◌≤◌, ◌⊎◌, ◌||◌, ◌∙◌, ℕ, Bool, true, false, List, [], inl, inr, refl, subst, sym}
use Rattle.std.proofs.KnownBytes.{Consumes-nil}
use Rattle.std.specs.String.{string_bytes}
use Rattle.byte_streams.specs.Documents.{Texts}
use Rattle.byte_streams.specs.Moves.{Reading, ReadsAtMost, ReadsToEnd, reading_of}
use Rattle.byte_streams.specs.Origins.{Origin, one_source, three_sources}
use Rattle.byte_streams.specs.declared.faults.Document.TheVariants as documents
use Rattle.byte_streams.specs.declared.faults.InputFault.{InputFault}
use Rattle.byte_streams.specs.declared.faults.InputFault.TheVariants as inputs
use Rattle.byte_streams.specs.declared.files.FileSystem.{Ghosts as FileMembers}
use Rattle.byte_streams.specs.declared.sources.Source.{Ghosts as SourceMembers}
use Rattle.match_limits.specs.declared.TheConstants.{MOST_BYTES}
use Rattle.command_words.specs.declared.places.Given.{Given}
use Rattle.command_words.specs.declared.places.Given.TheVariants as ways
use Rattle.command_words.specs.declared.places.Place.{Place}
use Rattle.command_words.specs.declared.places.Place.TheVariants as places
use Rattle.command_words.specs.declared.places.Places.{Places}
use Rattle.command_orders.specs.GivenInputs.{AreOpenedAs, InTurn, IsOpenedAt, Stays, are_read_from_input, is_read_from_input, read_apart, read_in_turn, reading_by, readings, reads_input}
use Rattle.command_orders.specs.InputUse.{LeavesInput, is_given_on_input, is_on_input}
use Rattle.command_orders.specs.PlaceOrigins.{AllOpenedAt, OpenedAt, given_documents, read_all_at, read_at}
use Rattle.command_orders.specs.declared.given_inputs.DocumentReader.{DocumentReader}
use Rattle.command_orders.specs.declared.given_inputs.DocumentReader.TheVariants.{File, Input}
use Rattle.command_orders.specs.declared.given_inputs.GivenReaders.{GivenReaders}
use Rattle.command_orders.specs.declared.given_inputs.GivenReaders.TheVariants.{Apart, Joined}
use Rattle.command_orders.specs.declared.given_inputs.ThreeReaders.{ThreeReaders}

-- ---- what standard input is left as

-- a reader that reads nothing stays
stays_unread : {I R : Type 0} (reader : DocumentReader R) (at : I) → Stays reader reader at at
stays_unread Input at = tt
stays_unread (File reader) at = refl

-- one that doesn't read standard input leaves it
left_by : {I R : Type 0} (old new : DocumentReader R) (given later : I) → reads_input old ≡ false → Stays old new given later → later ≡ given
left_by (File old) (File new) given later unread stays = stays
left_by (File old) Input given later unread stays = absurd stays
left_by Input new given later unread stays = absurd (true_is_not unread)
  where
    true_is_not : true ≡ false → ⊥
    true_is_not e = absurd cc

-- of three in turn none does
pub left_in_turn : {I R : Type 0} (old new : ThreeReaders R) (given later : I) → InTurn old new given later → LeavesInput (are_read_from_input old) given later
left_in_turn old new given later turn = go (reads_input old.puzzle) refl (reads_input old.list) refl (reads_input old.certificate) refl
  where
    go : (a : Bool) → reads_input old.puzzle ≡ a → (b : Bool) → reads_input old.list ≡ b → (c : Bool) → reads_input old.certificate ≡ c → LeavesInput (a || (b || c)) given later
    go true e b f c h = tt
    go false e true f c h = tt
    go false e false f true h = tt
    go false e false f false h =
        left_by old.certificate new.certificate turn.second later h turn.certificate
        ∙ left_by old.list new.list turn.first turn.second f turn.list
        ∙ left_by old.puzzle new.puzzle given turn.first e turn.puzzle

-- ---- what came of reading three, one after the other

module _ {I R : Type 0} (input : SourceMembers I) (file : SourceMembers R) where
  -- A reader that isn't read stays untouched, and gives no byte and no error.
  untouched : (reader : DocumentReader R) (at : I) → (reading_by input file reader reader at at).Untouched
  untouched Input at = refl
  untouched (File reader) at = refl

  gives_none : (reader : DocumentReader R) (at : I) → ReadsAtMost MOST_BYTES (reading_by input file reader reader at at)
  gives_none Input at = (([], Consumes-nil (input.left at), omega arith), refl)
  gives_none (File reader) at = (([], Consumes-nil (file.left reader), omega arith), refl)

  -- what was read of each of three, and a fault of the first, the second or the third
  module _ (puzzle list certificate : Reading) where
    first_stopped : (fault : InputFault) → (one_source documents.Puzzle puzzle).Stopped fault → list.Untouched × ReadsAtMost MOST_BYTES list → certificate.Untouched × ReadsAtMost MOST_BYTES certificate
        → (three_sources puzzle list certificate).Stopped fault
    first_stopped (inputs.Read of) (inl stopped) l c = inl (stopped.0, stopped.1, (l.0, (c.0, tt)))
    first_stopped (inputs.Read of) (inr stopped) l c = absurd stopped.1
    first_stopped (inputs.TooLong of) (inl stopped) l c = inl (stopped.0, stopped.1, (l.0, (c.0, tt)))
    first_stopped (inputs.TooLong of) (inr stopped) l c = absurd stopped.1
    first_stopped inputs.Memory stopped l c = (stopped.0, (l.1, (c.1, tt)))

    second_stopped : (fault : InputFault) → (one_source documents.List list).Stopped fault → ReadsToEnd puzzle → (one_source documents.Puzzle puzzle).Stopped inputs.Memory → certificate.Untouched × ReadsAtMost MOST_BYTES certificate
        → (three_sources puzzle list certificate).Stopped fault
    second_stopped (inputs.Read of) (inl stopped) ended without c = inr (ended, inl (stopped.0, stopped.1, (c.0, tt)))
    second_stopped (inputs.Read of) (inr stopped) ended without c = absurd stopped.1
    second_stopped (inputs.TooLong of) (inl stopped) ended without c = inr (ended, inl (stopped.0, stopped.1, (c.0, tt)))
    second_stopped (inputs.TooLong of) (inr stopped) ended without c = absurd stopped.1
    second_stopped inputs.Memory stopped ended without c = (without.0, (stopped.0, (c.1, tt)))

    third_stopped : (fault : InputFault) → (one_source documents.Certificate certificate).Stopped fault → ReadsToEnd puzzle → (one_source documents.Puzzle puzzle).Stopped inputs.Memory
        → ReadsToEnd list → (one_source documents.List list).Stopped inputs.Memory → (three_sources puzzle list certificate).Stopped fault
    third_stopped (inputs.Read of) (inl stopped) puzzle_ended p list_ended l = inr (puzzle_ended, inr (list_ended, inl (stopped.0, stopped.1, tt)))
    third_stopped (inputs.Read of) (inr stopped) puzzle_ended p list_ended l = absurd stopped.1
    third_stopped (inputs.TooLong of) (inl stopped) puzzle_ended p list_ended l = inr (puzzle_ended, inr (list_ended, inl (stopped.0, stopped.1, tt)))
    third_stopped (inputs.TooLong of) (inr stopped) puzzle_ended p list_ended l = absurd stopped.1
    third_stopped inputs.Memory stopped puzzle_ended p list_ended l = (p.0, (l.0, (stopped.0, tt)))

  -- three readers, of which the first, the first two or all were read
  module _ (puzzle list certificate : DocumentReader R) (given : I) where
    pub stopped_first : (read : DocumentReader R) (later : I) → Stays puzzle read given later
        → (fault : InputFault) → (one_source documents.Puzzle (reading_by input file puzzle read given later)).Stopped fault
        → (read_apart input file (record { puzzle = puzzle; list = list; certificate = certificate }) (record { puzzle = read; list = list; certificate = certificate }) given later).Stopped fault
    stopped_first read later stay fault stopped = (
      record { first = later; second = later; puzzle = stay; list = stays_unread list later; certificate = stays_unread certificate later },
      first_stopped (reading_by input file puzzle read given later) (reading_by input file list list later later) (reading_by input file certificate certificate later later) fault stopped (untouched list later, gives_none list later) (untouched certificate later, gives_none certificate later),
    )

    module _ (read : DocumentReader R) (first : I) (stay : Stays puzzle read given first) (text : List ℕ)
        (gave : (one_source documents.Puzzle (reading_by input file puzzle read given first)).Gave text)
        (without : (one_source documents.Puzzle (reading_by input file puzzle read given first)).Stopped inputs.Memory)
        (read_list : DocumentReader R)
      where
        pub stopped_second : (later : I) → Stays list read_list first later
            → (fault : InputFault) → (one_source documents.List (reading_by input file list read_list first later)).Stopped fault
            → (read_apart input file (record { puzzle = puzzle; list = list; certificate = certificate }) (record { puzzle = read; list = read_list; certificate = certificate }) given later).Stopped fault
        stopped_second later stay_list fault stopped = (
          record { first = first; second = later; puzzle = stay; list = stay_list; certificate = stays_unread certificate later },
          second_stopped (reading_by input file puzzle read given first) (reading_by input file list read_list first later) (reading_by input file certificate certificate later later) fault stopped gave.whole.1 without (untouched certificate later, gives_none certificate later),
        )

        module _ (second : I) (stay_list : Stays list read_list first second) (list_text : List ℕ)
            (list_gave : (one_source documents.List (reading_by input file list read_list first second)).Gave list_text)
            (list_without : (one_source documents.List (reading_by input file list read_list first second)).Stopped inputs.Memory)
            (read_certificate : DocumentReader R) (later : I) (stay_certificate : Stays certificate read_certificate second later)
          where
            abbrev turn : InTurn (record { puzzle = puzzle; list = list; certificate = certificate }) (record { puzzle = read; list = read_list; certificate = read_certificate }) given later
            turn = record { first = first; second = second; puzzle = stay; list = stay_list; certificate = stay_certificate }

            pub stopped_third : (fault : InputFault) → (one_source documents.Certificate (reading_by input file certificate read_certificate second later)).Stopped fault
                → (read_apart input file (record { puzzle = puzzle; list = list; certificate = certificate }) (record { puzzle = read; list = read_list; certificate = read_certificate }) given later).Stopped fault
            stopped_third fault stopped =
                (turn, third_stopped (reading_by input file puzzle read given first) (reading_by input file list read_list first second) (reading_by input file certificate read_certificate second later) fault stopped gave.whole.1 without list_gave.whole.1 list_without)

            pub gave_all : (certificate_text : List ℕ) → (one_source documents.Certificate (reading_by input file certificate read_certificate second later)).Gave certificate_text
                → (read_apart input file (record { puzzle = puzzle; list = list; certificate = certificate }) (record { puzzle = read; list = read_list; certificate = read_certificate }) given later).Gave (record { puzzle = text; list = list_text; certificate = certificate_text })
            gave_all certificate_text certificate_gave = (turn, (gave, list_gave, certificate_gave))

            pub none_stopped : (one_source documents.Certificate (reading_by input file certificate read_certificate second later)).Stopped inputs.Memory
                → (read_apart input file (record { puzzle = puzzle; list = list; certificate = certificate }) (record { puzzle = read; list = read_list; certificate = read_certificate }) given later).Stopped inputs.Memory
            none_stopped certificate_without = (turn, (without.0, (list_without.0, (certificate_without.0, tt))))

-- ---- what was read, by where the documents stand

module _ {S R W I : Type 0} (system : FileMembers S R W) (file : SourceMembers R) (at : S) (input : SourceMembers I) where
  -- a document that isn't on standard input leaves it
  left_at : (place : Place) (old new : DocumentReader R) (given later : I) → IsOpenedAt system file at place old → Stays old new given later → (place ≡ places.Input → ⊥) → later ≡ given
  left_at (places.File name) (File old) (File new) given later opened stays not = stays
  left_at (places.File name) (File old) Input given later opened stays not = absurd stays
  left_at (places.File name) Input new given later opened stays not = absurd opened
  left_at places.Input old new given later opened stays not = absurd (not refl)

  -- What was read of a document that is in a file is the same whatever standard input is; one that is there is read
  -- from where it was to where it is later.
  one : (P : Reading → Type 0) (place : Place) (old new : DocumentReader R) (before after : I) → IsOpenedAt system file at place old → Stays old new before after
      → (given later : I) → (place ≡ places.Input → (before ≡ given) × (after ≡ later)) → P (reading_by input file old new before after)
      → (opened : OpenedAt system file at place) × P (read_at system file at input given later place opened)
  one P (places.File name) (File old) (File new) before after opened stays given later there read = (record { opened = old; later = new; is_opened = opened }, read)
  one P (places.File name) (File old) Input before after opened stays given later there read = absurd stays
  one P (places.File name) Input new before after opened stays given later there read = absurd opened
  one P places.Input (File old) new before after opened stays given later there read = absurd opened
  one P places.Input Input (File new) before after opened stays given later there read = absurd stays
  one P places.Input Input Input before after opened stays given later there read =
      let is = there refl in
      (tt, subst (λ (x : I). P (reading_of input x later)) is.0 (subst (λ (x : I). P (reading_of input before x)) is.1 read))

  module _ (three : Places) (old new : ThreeReaders R) (given later : I) (opened : AreOpenedAs system file at (ways.Apart three) (Apart old)) (turn : InTurn old new given later) where
    -- by where each stands
    in_turn : (P : Reading → Reading → Reading → Type 0)
        → P (reading_by input file old.puzzle new.puzzle given turn.first) (reading_by input file old.list new.list turn.first turn.second) (reading_by input file old.certificate new.certificate turn.second later)
        → (all : AllOpenedAt system file at three) × P (read_at system file at input given later three.puzzle all.puzzle) (read_at system file at input given later three.list all.list) (read_at system file at input given later three.certificate all.certificate)
    in_turn P read =
        let second = reading_by input file old.list new.list turn.first turn.second in
        let third = reading_by input file old.certificate new.certificate turn.second later in
        let a = one (λ x. P x second third) three.puzzle old.puzzle new.puzzle given turn.first opened.0 turn.puzzle given later (λ is. (refl, sym (certificate_left is ∙ list_left is))) read in
        let b = one (λ x. P (read_at system file at input given later three.puzzle a.0) x third) three.list old.list new.list turn.first turn.second opened.1 turn.list given later (λ is. (puzzle_left is, sym (certificate_left_of_list is))) a.1 in
        let c = one (λ x. P (read_at system file at input given later three.puzzle a.0) (read_at system file at input given later three.list b.0) x) three.certificate old.certificate new.certificate turn.second later opened.2 turn.certificate given later (λ is. (list_left_of_certificate is ∙ puzzle_left_of_certificate is, refl)) b.1 in
        (record { puzzle = a.0; list = b.0; certificate = c.0 }, c.1)
      where
        list_left : three.puzzle ≡ places.Input → turn.second ≡ turn.first
        list_left is = left_at three.list old.list new.list turn.first turn.second opened.1 turn.list (λ other. three.once (inl (is, other)))

        certificate_left : three.puzzle ≡ places.Input → later ≡ turn.second
        certificate_left is = left_at three.certificate old.certificate new.certificate turn.second later opened.2 turn.certificate (λ other. three.once (inr (inl (is, other))))

        puzzle_left : three.list ≡ places.Input → turn.first ≡ given
        puzzle_left is = left_at three.puzzle old.puzzle new.puzzle given turn.first opened.0 turn.puzzle (λ other. three.once (inl (other, is)))

        certificate_left_of_list : three.list ≡ places.Input → later ≡ turn.second
        certificate_left_of_list is = left_at three.certificate old.certificate new.certificate turn.second later opened.2 turn.certificate (λ other. three.once (inr (inr (is, other))))

        puzzle_left_of_certificate : three.certificate ≡ places.Input → turn.first ≡ given
        puzzle_left_of_certificate is = left_at three.puzzle old.puzzle new.puzzle given turn.first opened.0 turn.puzzle (λ other. three.once (inr (inl (other, is))))

        list_left_of_certificate : three.certificate ≡ places.Input → turn.second ≡ turn.first
        list_left_of_certificate is = left_at three.list old.list new.list turn.first turn.second opened.1 turn.list (λ other. three.once (inr (inr (other, is))))

  module _ (given later : I) where
    -- the texts that came
    pub gave_as : (documents : Given) (old new : GivenReaders R) → AreOpenedAs system file at documents old → (texts : Texts) → (readings input file old new given later).Gave texts
        → (given_documents system file at input given later documents).Gave texts
    gave_as ways.Joined Joined Joined opened texts gave = gave
    gave_as ways.Joined Joined (Apart new) opened texts gave = absurd gave
    gave_as ways.Joined (Apart old) new opened texts gave = absurd opened
    gave_as (ways.Apart three) Joined new opened texts gave = absurd opened
    gave_as (ways.Apart three) (Apart old) Joined opened texts gave = absurd gave
    gave_as (ways.Apart three) (Apart old) (Apart new) opened texts gave = in_turn three old new given later opened gave.0 (λ a b c. (three_sources a b c).Gave texts) gave.1

    -- a fault of reading
    pub stopped_as : (documents : Given) (old new : GivenReaders R) → AreOpenedAs system file at documents old → (fault : InputFault) → (readings input file old new given later).Stopped fault
        → (given_documents system file at input given later documents).Stopped fault
    stopped_as ways.Joined Joined Joined opened fault stopped = stopped
    stopped_as ways.Joined Joined (Apart new) opened fault stopped = absurd stopped
    stopped_as ways.Joined (Apart old) new opened fault stopped = absurd opened
    stopped_as (ways.Apart three) Joined new opened fault stopped = absurd opened
    stopped_as (ways.Apart three) (Apart old) Joined opened fault stopped = absurd stopped
    stopped_as (ways.Apart three) (Apart old) (Apart new) opened fault stopped = inr (in_turn three old new given later opened stopped.0 (λ a b c. (three_sources a b c).Stopped fault) stopped.1)

  -- ---- which documents stand on standard input

  on_input_as : (place : Place) (reader : DocumentReader R) → IsOpenedAt system file at place reader → reads_input reader ≡ is_on_input place
  on_input_as (places.File name) (File reader) opened = refl
  on_input_as (places.File name) Input opened = absurd opened
  on_input_as places.Input (File reader) opened = absurd opened
  on_input_as places.Input Input opened = refl

  pub left_as : (documents : Given) (readers : GivenReaders R) (given later : I) → AreOpenedAs system file at documents readers → LeavesInput (is_read_from_input readers) given later → LeavesInput (is_given_on_input documents) given later
  left_as ways.Joined readers given later opened left = tt
  left_as (ways.Apart three) Joined given later opened left = absurd opened
  left_as (ways.Apart three) (Apart readers) given later opened left =
      subst (λ (x : Bool). LeavesInput (x || (is_on_input three.list || is_on_input three.certificate)) given later) (on_input_as three.puzzle readers.puzzle opened.0)
      (subst (λ (x : Bool). LeavesInput (reads_input readers.puzzle || (x || is_on_input three.certificate)) given later) (on_input_as three.list readers.list opened.1)
      (subst (λ (x : Bool). LeavesInput (reads_input readers.puzzle || (reads_input readers.list || x)) given later) (on_input_as three.certificate readers.certificate opened.2) left))
