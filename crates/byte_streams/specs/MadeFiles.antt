-- What is done to the files of a list and a certificate that are made beside their names.
use Rattle.std.specs.Prelude.{◌≡◌, ◌⊎◌, ◌++◌, ◌∷◌, [], ℕ, List, Option, Result, Ok, Err}
use Rattle.byte_streams.specs.Deeds.{Deed, Did, IsFileOf, did_make, did_put, did_remove}
use Rattle.byte_streams.specs.declared.files.FileSystem.{Ghosts as FileMembers}
use Rattle.byte_streams.specs.declared.made_files.MadeFiles.{MadeFiles}
use Rattle.byte_streams.specs.declared.made_files.ProductNames.{ProductNames}
use Rattle.byte_streams.specs.declared.made_files.Unsettled.{Unsettled}
use Rattle.byte_streams.specs.declared.made_files.NotPut.{NotPut}
use Rattle.byte_streams.specs.declared.made_files.Unsettled.TheVariants as unsettled
use Rattle.byte_streams.specs.declared.outputs.Products.{Products}

-- ---- deeds

-- by the names of the files of the list and the certificate
module _ (list certificate : List ℕ) where
  abbrev pub both_made : List Deed
  both_made = did_make list ∷ did_make certificate ∷ []

  abbrev pub both_put : Products → List Deed
  both_put made = did_put list made.list ∷ did_put certificate made.certificate ∷ []

  abbrev pub both_removed : List Deed
  both_removed = did_remove list ∷ did_remove certificate ∷ []

  -- where the certificate can't be put under its name
  abbrev pub half_put : Products → List Deed
  half_put made = did_put list made.list ∷ did_remove certificate ∷ []

  -- what is done before all is written, where that is stopped: what was made is removed
  abbrev pub IsUndone : List Deed → Type 0
  IsUndone deeds =
      (deeds ≡ []) ⊎ ((deeds ≡ did_make list ∷ did_remove list ∷ []) ⊎ (deeds ≡ both_made ++ both_removed))

  module _ {S : Type 0} (does : S → Deed → S → Type 0) (old new : S) where
    -- What was made was removed, and nothing else was done to a file.
    abbrev pub Undid : Type 0
    Undid = (deeds : List Deed) × IsUndone deeds × Did does old deeds new

    -- No file was made under this name: the list's, and nothing was done; or the certificate's, and the list's was made
    -- and removed.
    abbrev pub NotMadeUnder : (name : List ℕ) → Type 0
    NotMadeUnder name =
        ((name ≡ list) × (new ≡ old))
        ⊎ ((name ≡ certificate) × Did does old (did_make list ∷ did_remove list ∷ []) new)

    -- Both were removed, or the list was put under its name, and the certificate was removed.
    abbrev pub PutsNoneOrHalf : Products → Type 0
    PutsNoneOrHalf made = Did does old both_removed new ⊎ Did does old (half_put made) new

  -- Both names lead to the files that were put under them, with these texts.
  abbrev pub NamesLead : {S : Type 0} → (leads : S → List ℕ → List ℕ → Type 0) → (at : S) → Products → Type 0
  NamesLead leads at texts = leads at list texts.list × leads at certificate texts.certificate

-- ---- the files that are made

-- They were just made beside their names.
pub record AreMade {S W : Type 0} (makes : S → List ℕ → W → Type 0) (list_name certificate_name : List ℕ)
    (made : MadeFiles W) : Type 0 where
  pub at : S
  pub later : S
  pub list : makes at list_name made.list
  pub certificate : makes later certificate_name made.certificate

-- They were made beside their names, and took these texts since.
pub record AreWritten {S W : Type 0} (makes : S → List ℕ → W → Type 0) (written : W → Option (List ℕ))
    (list_name certificate_name : List ℕ) (made : MadeFiles W) (texts : Products) : Type 0 where
  pub list : IsFileOf makes written list_name made.list texts.list
  pub certificate : IsFileOf makes written certificate_name made.certificate texts.certificate

-- All that they took lies on the disk.
pub record AreSynced {W : Type 0} (synced : W → Type 0) (made : MadeFiles W) : Type 0 where
  pub list : synced made.list
  pub certificate : synced made.certificate

-- They were put under their names, with these texts.
pub record ArePut {W : Type 0} (is_put : W → List ℕ → List ℕ → Type 0) (names : ProductNames) (put : MadeFiles W) (texts : Products)
    : Type 0 where
  pub list : is_put put.list names.list.now texts.list
  pub certificate : is_put put.certificate names.certificate.now texts.certificate

-- ---- what comes of making them, and of putting them under their names

module _ {S R W : Type 0} (system : FileMembers S R W) (names : ProductNames) (old new : S) where
  -- Both were made beside their names, the list's first, and nothing else was done to a file.
  abbrev pub MakesBoth : MadeFiles W → Type 0
  MakesBoth made =
      AreMade system.makes names.list.now names.certificate.now made
      × Did system.does old (both_made names.list.now names.certificate.now) new

module _ {S R W : Type 0} (system : FileMembers S R W) (names : ProductNames) (at : S) where
  -- The names lead to these files, where they were put under them.
  abbrev pub BothLead : MadeFiles W → Type 0
  BothLead put =
      (texts : Products) → ArePut system.is_put names put texts
      → NamesLead names.list.now names.certificate.now system.leads at texts

module _ {S R W : Type 0} (system : FileMembers S R W) (written : W → Option (List ℕ)) (names : ProductNames) (made : MadeFiles W)
  where
    -- They took these texts.
    abbrev pub Took : Products → Type 0
    Took texts = AreWritten system.makes written names.list.now names.certificate.now made texts

    -- They took some texts.
    abbrev pub AreWhole : Type 0
    AreWhole = (texts : Products) × Took texts

    module _ (old new : S) where
      -- Both are put under their names, with the texts that they took; or it fails, and both are removed, or the
      -- certificate's alone, and the list's is put.
      abbrev pub PutsBoth : Result (MadeFiles W) NotPut → Type 0
      PutsBoth (Ok put) =
          (texts : Products) → Took texts
          → Did system.does old (both_put names.list.now names.certificate.now texts) new × ArePut system.is_put names put texts
      PutsBoth (Err refused) =
          (texts : Products) → Took texts
          → PutsNoneOrHalf names.list.now names.certificate.now system.does old new texts

      -- So it is where all was written; and where it is done, the names lead to the files that were put there.
      abbrev pub SettlesWhole : {E : Type 0} → Result Unit (Unsettled E) → Type 0
      SettlesWhole {E} (Ok done) =
          (texts : Products) → Took texts
          → Did system.does old (both_put names.list.now names.certificate.now texts) new
          × NamesLead names.list.now names.certificate.now system.leads new texts
      SettlesWhole {E} (Err (unsettled.Replaced name)) =
          (texts : Products) → Took texts
          → Did system.does old (both_put names.list.now names.certificate.now texts) new
      SettlesWhole {E} (Err (unsettled.NotPut refused)) =
          (texts : Products) → Took texts
          → PutsNoneOrHalf names.list.now names.certificate.now system.does old new texts
      SettlesWhole {E} (Err (unsettled.Stopped fault)) = ⊥

      -- Where not all was written, both are removed, and the fault comes back.
      abbrev pub Settles : {E : Type 0} → (writes : Result Unit E) → Result Unit (Unsettled E) → Type 0
      Settles {E} (Ok done) settled = SettlesWhole settled
      Settles {E} (Err fault) settled =
          (settled ≡ Err (unsettled.Stopped fault))
          × Did system.does old (both_removed names.list.now names.certificate.now) new
