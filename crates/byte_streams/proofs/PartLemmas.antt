-- Parts, one behind the other.
use Rattle.std.proofs.Common.{◌≡◌, ◌≢◌, ℕ, suc, List, [], ◌∷◌, ◌++◌, ◌+◌, ◌<◌, Vec, Global, Option, length, get_or, drop, arith, sym, ap, refl, append_assoc, ◌∙◌}
use Rattle.std.specs.List.{flat_map}
use Rattle.std.specs.Io.KnownBytes.{Appends}
use Rattle.std.proofs.KnownBytes.{Appends-trans}
use Rattle.std.proofs.Math.Seq.{drop-cons}
use Rattle.byte_streams.specs.Streams.{AppendsFront}

abbrev pub Part : Type 0
Part = Vec ℕ Global

abbrev pub bytes_of : List Part → List ℕ
bytes_of parts = flat_map (λ (part : Part). part.items) parts

-- the parts from this one on: it, and those behind it
next_part : (parts : List Part) (i : ℕ) (part : Part) → i < length parts → part ≡ get_or parts i part → bytes_of (drop i parts) ≡ part.items ++ bytes_of (drop (i + 1) parts)
next_part parts i part lt is =
    let next : suc i ≡ i + 1 = omega arith in
    ap bytes_of (drop-cons parts i part lt)
    ∙ ap (λ (p : Part). p.items ++ bytes_of (drop (suc i) parts)) (sym is)
    ∙ ap (λ k. part.items ++ bytes_of (drop k parts)) next

still_some : (xs ys : List ℕ) → xs ≢ [] → xs ++ ys ≢ []
still_some [] ys some = absurd (some refl)
still_some (x ∷ xs) ys some = grind arith

-- what went out before a part and what stands from it on are the text
module _ (start before after : Option (List ℕ)) (parts : List Part) (i : ℕ) (part : Part) (lt : i < length parts) (is : part ≡ get_or parts i part) (front : List ℕ) (cut : bytes_of parts ≡ front ++ bytes_of (drop i parts)) (went : Appends start before front) where
  abbrev others : List ℕ
  others = bytes_of (drop (i + 1) parts)

  at_part : bytes_of parts ≡ front ++ (part.items ++ others)
  at_part = cut ∙ ap (λ t. front ++ t) (next_part parts i part lt is)

  -- it went out whole
  pub behind_part : Appends before after part.items → (more : List ℕ) × (bytes_of parts ≡ more ++ bytes_of (drop (i + 1) parts)) × Appends start after more
  behind_part took = (front ++ part.items, at_part ∙ sym (append_assoc front part.items others), Appends-trans start before after front part.items went took)

  -- a front of it did
  pub within_part : AppendsFront before after part.items → AppendsFront start after (bytes_of parts)
  within_part stopped =
      let some = stopped.0 in
      let rest = stopped.1 in (
        front ++ some,
        rest ++ others,
        at_part ∙ ap (λ t. front ++ (t ++ others)) stopped.2 ∙ ap (λ t. front ++ t) (append_assoc some rest others) ∙ sym (append_assoc front some (rest ++ others)),
        still_some rest others stopped.3,
        Appends-trans start before after front some went stopped.4,
      )
