-- What follows for a text that is read exactly where it spells a value.
use Rattle.std.proofs.Common.{◌≡◌, ℕ, [], List, Result, Ok, refl, sym, ap, ◌∙◌, zero-add}
use Rattle.text_words.specs.declared.faults.TextFault.{TextFault}
use Rattle.text_words.specs.Place.{Place, Read, start, value_of}
use Rattle.text_words.specs.Laws.{ReadsSpellingsAlone, ReadsEachSpelling, HasOneSpelling, IsOneValue, EndsWhereCut, ReadsWhatIsSpelled}
use Rattle.text_words.proofs.CutLemmas.{CutsShort, LeavesNothing, place, ok_is, ends_early}
use Rattle.text_words.proofs.LineLemmas.{value_ok}

-- ---- a whole text, by where reading it begins

module _ {X : Type 0} (read : Read X) (Within : X → Type 0) (spelling : X → List ℕ) where
  abbrev pub said_by : List ℕ → Result X TextFault
  said_by text = value_of (read (start text))

  -- what is read is spelled so
  pub reads_alone : ((p : Place) (x : X × Place) → read p ≡ Ok x → (p.ahead ≡ spelling x.0) × Within x.0) → ReadsSpellingsAlone said_by Within spelling
  reads_alone is text x e =
      let v = value_ok (read (start text)) x e in
      let told = is (start text) (x, v.0) v.1 in
      (told.1, told.0)

  -- what is spelled so is read
  pub reads_each : ((x : X) → Within x → (end : ℕ) × (read (start (spelling x)) ≡ Ok (x, place end [] []))) → ReadsEachSpelling said_by Within spelling
  reads_each again x fits = ap value_of (again x fits).1

  -- a text that is cut short ends at its last line
  pub ends_where_cut : CutsShort read → LeavesNothing read → EndsWhereCut said_by
  ends_where_cut cuts leaves text x k e lt =
      let v = value_ok (read (start text)) x e in
      let cut = ends_early read cuts leaves text (x, v.0) k v.1 lt in
      rw (cut, zero-add) refl

-- ---- the laws

module _ {X : Type 0} (read : List ℕ → Result X TextFault) (Within : X → Type 0) (spelling : X → List ℕ) where
  one_spelling : ReadsSpellingsAlone read Within spelling → HasOneSpelling read
  one_spelling alone text other x e f = (alone text x e).1 ∙ sym (alone other x f).1

  one_value : ReadsEachSpelling read Within spelling → IsOneValue Within spelling
  one_value each x y fits fits' same = ok_is x y (sym (each x fits) ∙ ap read same ∙ each y fits')

  pub reads_what_is_spelled : ReadsSpellingsAlone read Within spelling → ReadsEachSpelling read Within spelling → EndsWhereCut read → ReadsWhatIsSpelled read Within spelling
  reads_what_is_spelled alone each cut = record { alone = alone; each = each; one_spelling = one_spelling alone; one_value = one_value each; cut = cut }
