-- Chosen options are chosen anew, one after the other.
use Rattle.std.proofs.Common.{◌≡◌, ◌++◌, ◌∷◌, [], ℕ, List, Some, length, slice_get, append_assoc, arith, refl, ap, sym, ◌∙◌, subst}
use Rattle.std.proofs.lemmas.List.{append-nil}
use Rattle.std.proofs.lemmas.Option.{slice_get_within}
use Rattle.match_limits.proofs.ListLemmas.{contains_at, kept_left}
use Rattle.xcc_form.specs.Options.{Compiled, cover_of}
use Rattle.xcc_form.proofs.OptionLemmas.{place_of}
use Rattle.xcc_form.specs.Clashes.{IsOpen}
use Rattle.xcc_form.specs.Chosen.{Selection, IsSelection}

-- what stands behind a list
pub behind : {X : Type 0} (xs ys : List X) (y : X) → slice_get (xs ++ y ∷ ys) (length xs) ≡ Some y
behind [] ys y = refl
behind (x ∷ xs) ys y = behind xs ys y

pub none_picked : (chosen options : List ℕ) → length options ≡ 0 → chosen ++ options ≡ chosen
none_picked chosen [] e = append-nil chosen
none_picked chosen (option ∷ options) e = absurd (omega (arith, e))

pub one_picked : (chosen others options : List ℕ) (option : ℕ) → options ≡ option ∷ others → (chosen ++ option ∷ []) ++ others ≡ chosen ++ options
one_picked chosen others options option e = append_assoc chosen (option ∷ []) others ∙ ap (λ xs. chosen ++ xs) (sym e)

module _ (x : Compiled) (chosen others options : List ℕ) (option : ℕ) (e : options ≡ option ∷ others) (is : IsSelection x (chosen ++ options)) where
  all : IsSelection x (chosen ++ option ∷ others)
  all = subst (λ xs. IsSelection x (chosen ++ xs)) e is

  pub picked_is_open : IsOpen (cover_of x) chosen option
  picked_is_open =
      let here = behind chosen others option in
      record {
        real = all.partial.real option (contains_at (chosen ++ option ∷ others) (length chosen) option here);
        free = λ other c clash.
            let at = place_of chosen other c in
            all.partial.apart at.0 (length chosen) other option (slice_get_within chosen at.0 other at.1) (kept_left chosen (option ∷ others) at.0 other at.1) here clash;
      }

  pub picked_chosen : IsSelection x ((chosen ++ option ∷ []) ++ others)
  picked_chosen = subst (IsSelection x) (sym (one_picked chosen others options option e)) is

-- a selection is chosen where nothing is chosen before
pub selection_for : (v s : Selection) (chosen options : List ℕ) → v ≡ s → s.chosen ≡ [] → options ≡ chosen → IsSelection s.compiled chosen → IsSelection v.compiled (v.chosen ++ options)
selection_for v s chosen options same none e is =
    subst (λ (t : Selection). IsSelection t.compiled (t.chosen ++ options)) (sym same)
    (subst (λ cs. IsSelection s.compiled (cs ++ options)) (sym none) (subst (IsSelection s.compiled) (sym e) is))
