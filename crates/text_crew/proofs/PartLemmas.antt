-- Texts in parts, one behind the other.
use Rattle.std.proofs.Common.{◌≡◌, ⊎_elim, ℕ, List, Result, Ok, Err, IfOk, Vec, Global, ap, sym, subst, ◌∙◌}
use Rattle.std.specs.List.{flat_map}
use Rattle.cert_tree.specs.Certificate.{Contents}
use Rattle.cert_text.specs.CertificateSpelling.{IsCertificateWithin, certificate_spelling}
use Rattle.cert_text.specs.Writing.{said_by}
use Rattle.text_crew.specs.Texts.{IsCertificateText, IsFirstVersion}

abbrev pub bytes_of : Vec (Vec ℕ Global) Global → List ℕ
bytes_of parts = flat_map (λ (part : Vec ℕ Global). part.items) parts.items

-- what is so of a text is so of parts that are it
pub so_of_parts : {E : Type 0} (A : List ℕ → Type 0) (text : List ℕ) (made : Result (Vec (Vec ℕ Global) Global) E) → A text → IfOk made (λ parts. bytes_of parts ≡ text) → IfOk made (λ parts. A (bytes_of parts))
so_of_parts A text (Ok parts) holds same = subst A (sym same) holds
so_of_parts A text (Err e) holds same = tt

module _ (version : ℕ) (c : Contents) (is : IsFirstVersion version c) where
  pub within : IsCertificateWithin (said_by 2 c) → IsCertificateWithin (said_by version c)
  within second = ⊎_elim
      (λ one. subst (λ v. IsCertificateWithin (said_by v c)) (sym one.0) one.1)
      (λ two. subst (λ v. IsCertificateWithin (said_by v c)) (sym two.0) second)
      is

  pub is_text : (text : List ℕ) → text ≡ certificate_spelling (said_by version c) → IsCertificateText c text
  is_text text spelled = record {
    first = λ first. spelled ∙ ap (λ v. certificate_spelling (said_by v c)) (⊎_elim (λ one. one.0) (λ two. absurd (two.1 first)) is);
    second = λ not. spelled ∙ ap (λ v. certificate_spelling (said_by v c)) (⊎_elim (λ one. absurd (not one.1)) (λ two. two.0) is);
  }
