-- What a check of files says of the texts that they hold.
use Rattle.std.proofs.Common.{◌≡◌, ◌∙◌, ◌++◌, List, ℕ, Option, Some, None, ap, drop, refl, subst}
use Rattle.std.proofs.lemmas.List.{append-nil}
use Rattle.std.specs.Io.KnownBytes.{Consumes, IsAtEnd}
use Rattle.match_limits.specs.declared.TheConstants.{MOST_BYTES}
use Rattle.byte_streams.specs.Documents.{Texts, three}
use Rattle.byte_streams.specs.Moves.{Gives, Reading}
use Rattle.command_runs.specs.Checking.{SpellCompleteList}

same_texts : (texts : Texts) (puzzle list certificate : List ℕ) → puzzle ≡ texts.puzzle → list ≡ texts.list → certificate ≡ texts.certificate → texts ≡ three puzzle list certificate
same_texts texts puzzle list certificate p l c = rw (p, l, c) refl

-- known bytes that came whole are the text that came
whole_is : (bytes : List ℕ) (after : Option (List ℕ)) (text : List ℕ) → Consumes (Some bytes) after text → IsAtEnd after → bytes ≡ text
whole_is bytes None text came end = absurd came
whole_is bytes (Some rest) text came end = came ∙ ap (λ xs. text ++ xs) end ∙ append-nil text

pub held_is : (held : List ℕ) (source : Reading) (text : List ℕ) → source.before ≡ Some held → Gives MOST_BYTES source text → held ≡ text
held_is held source text before gave =
    whole_is held source.after text (subst (λ (known : Option (List ℕ)). Consumes known source.after text) before gave.whole.0) gave.whole.1.1

-- what is so of the texts that came is so of those that the files hold
pub held_so : (puzzle list certificate : List ℕ) (texts : Texts) → puzzle ≡ texts.puzzle → list ≡ texts.list → certificate ≡ texts.certificate
    → SpellCompleteList texts → SpellCompleteList (three puzzle list certificate)
held_so puzzle list certificate texts p l c complete = subst SpellCompleteList (same_texts texts puzzle list certificate p l c) complete

-- what is left of a file that was just opened is what it holds
pub all_left : (bytes held : List ℕ) (taken : ℕ) → bytes ≡ held → taken ≡ 0 → ◌≡◌ {A = Option (List ℕ)} (Some (drop taken bytes)) (Some held)
all_left bytes held taken is none = rw (is, none) refl
