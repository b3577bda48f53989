-- The next open option, and how far it is to the last.
use Rattle.std.proofs.Common.{◌≡◌, ◌<◌, ◌-◌, ℕ, Option, None, Some, IfSome, MatchOption, arith, subst}
use Rattle.xcc_form.specs.Options.{cover_of}
use Rattle.xcc_form.specs.Clashes.{IsOpenAt}
use Rattle.xcc_form.specs.Chosen.{Selection, IsNext, IsLast}

-- how far it is from the next option to the last; nothing, where there is none
abbrev pub left_after : (options : ℕ) → (next : Option ℕ) → ℕ
left_after options None = 0
left_after options (Some option) = options - option

-- It is less far from an option to the last than from the one before.
pub left_smaller : (options option : ℕ) (next : Option ℕ) → option < options → IfSome next (λ n. option < n) → left_after options next < left_after options (Some option)
left_smaller options option None lt after = omega (arith, lt)
left_smaller options option (Some n) lt after = omega (arith, lt, after)

-- The next option comes after that one.
pub comes_after : (s : Selection) (item option : ℕ) (next : Option ℕ) → MatchOption next (IsLast (cover_of s.compiled) s.chosen item (Some option)) (IsNext (cover_of s.compiled) s.chosen item (Some option)) → IfSome next (λ n. option < n)
comes_after s item option None h = tt
comes_after s item option (Some n) h = h.after_it

-- the next option is open
pub next_open : (s start : Selection) (item : ℕ) (after next : Option ℕ) → s ≡ start → MatchOption next (IsLast (cover_of s.compiled) s.chosen item after) (IsNext (cover_of s.compiled) s.chosen item after) → MatchOption next (Unit {0}) (IsOpenAt (cover_of start.compiled) start.chosen item)
next_open s start item after None e h = tt
next_open s start item after (Some option) e h = subst (λ (v : Selection). IsOpenAt (cover_of v.compiled) v.chosen item option) e h.open_option

pub some_open : (s start : Selection) (item : ℕ) (after next : Option ℕ) → s ≡ start → MatchOption next (IsLast (cover_of s.compiled) s.chosen item after) (IsNext (cover_of s.compiled) s.chosen item after) → IfSome next (IsOpenAt (cover_of start.compiled) start.chosen item)
some_open s start item after None e h = tt
some_open s start item after (Some option) e h = subst (λ (v : Selection). IsOpenAt (cover_of v.compiled) v.chosen item option) e h.open_option

-- what stood in a list stands in it with one more
