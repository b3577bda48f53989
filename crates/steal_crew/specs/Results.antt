-- Results by number.
use Rattle.std.specs.Prelude.{map, ◌<◌, ℕ, List, [], ◌∷◌, All, IfSome, Option, Some, None, length, slice_index_or}

-- each result that is entered belongs to its number
abbrev pub Entered : {X : Type 0} → (ℕ → X → Type 0) → List (Option X) → Type 0
Entered {X} gives slots = (n : ℕ) (d : Option X) → n < length slots → IfSome (slice_index_or slots n d) (gives n)

-- each result belongs to its number
abbrev pub Belongs : {X : Type 0} → (ℕ → X → Type 0) → List X → Type 0
Belongs {X} gives results = (n : ℕ) (d : X) → n < length results → gives n (slice_index_or results n d)

-- each result in the list belongs to the number beside it
abbrev pub AreDone : {X : Type 0} → (ℕ → X → Type 0) → List (ℕ × X) → Type 0
AreDone {X} gives done = All (λ e. gives e.0 e.1) done

-- 1 where there is one, else 0
abbrev pub one_if_some : {X : Type 0} → Option X → ℕ
one_if_some None = 0
one_if_some (Some r) = 1

-- 1 where a result is entered at x
abbrev pub filled : {X : Type 0} → ℕ → List (Option X) → ℕ
filled x slots = one_if_some (slice_index_or slots x None)

-- the number, where no result is entered
abbrev pub left_out : {X : Type 0} → ℕ → Option X → List ℕ
left_out n None = n ∷ []
left_out n (Some r) = []

-- the numbers of the results
abbrev pub done_numbers : {X : Type 0} → List (ℕ × X) → List ℕ
done_numbers xs = map (λ e. e.0) xs
