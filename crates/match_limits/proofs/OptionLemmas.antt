-- Something, and nothing.
use Rattle.std.proofs.Common.{◌≡◌, ℕ, Option, Some, None}

-- nothing is not something
pub none_some : {X : Type 0} {x : X} → None ≡ Some x → ⊥
none_some e = cc

pub inside : {X : Type 0} {x y : X} → Some x ≡ Some y → x ≡ y
inside e = cc

pub same_pair : {a b a' b' : ℕ} → a ≡ a' → b ≡ b' → ◌≡◌ {A = Option (ℕ × ℕ)} (Some (a, b)) (Some (a', b'))
same_pair p q = cc
