-- Pieces that are made of others are assembled as those are.
use Rattle.std.proofs.Common.{◌≡◌, ◌≢◌, ℕ, ◌≤◌, zero, suc, List, [], ◌∷◌, Option, map, Ok, Err, sym, ap, subst, ◌∙◌, arith}
use Rattle.std.specs.Prelude.{All, Contains, get_or}
use Rattle.std.proofs.lemmas.List.{length-map}
use Rattle.std.proofs.lemmas.Option.{slice_get-get_or, get_or_from_slice_get}
use Rattle.match_limits.specs.First.{IsFirst}
use Rattle.match_limits.proofs.ListLemmas.{mapped_at}
use Rattle.cert_tree.specs.declared.faults.AssembleFault.{AssembleFault}
use Rattle.cert_tree.specs.declared.faults.AssembleFault.TheVariants.{Stranger, Double, Missing, Memory}
use Rattle.cert_tree.specs.Assembly.{how_often, IsOnly, HaveNoStranger, IsAssembly, AssemblyFails, assembly_rank, Assembles, TellsLeast}
use Rattle.cert_tree.proofs.AssemblyLemmas.{often-map, later_contained, tells_same}

module _ {X Y : Type 0} (number_of : Y → ℕ) (make : X → Y) where
  abbrev number_by : X → ℕ
  number_by x = number_of (make x)

  often-made : (xs : List X) (n : ℕ) → how_often number_of (map make xs) n ≡ how_often number_by xs n
  often-made xs n = often-map number_of make xs n

  contained_map : (xs : List X) (x : X) → Contains xs x → Contains (map make xs) (make x)
  contained_map [] x at = absurd (omega (arith, at.1))
  contained_map (y ∷ xs) x (zero, at, is) = (0, omega arith, ap make is)
  contained_map (y ∷ xs) x (suc k, at, is) = later_contained (make x) (make y) (map make xs) (contained_map xs x (k, omega (arith, at), is))

  only_map : (xs : List X) (n : ℕ) (x : X) → IsOnly number_by xs n x → IsOnly number_of (map make xs) n (make x)
  only_map xs n x is = record { among = contained_map xs x is.among; number = is.number; once = often-made xs n ∙ is.once }

  pub assembly_map : (count : ℕ) (xs sorted : List X) → IsAssembly number_by count xs sorted → IsAssembly number_of count (map make xs) (map make sorted)
  assembly_map count xs sorted is = record {
    many = length-map sorted make ∙ is.many;
    only = λ n piece at. let l = mapped_at make sorted n piece at in subst (IsOnly number_of (map make xs) n) (sym l.2) (only_map xs n l.0 (is.only n l.0 l.1));
    no_stranger = λ n past. often-made xs n ∙ is.no_stranger n past;
  }

  fails_map : (count : ℕ) (xs : List X) (fault : AssembleFault) → AssemblyFails number_by count xs fault → AssemblyFails number_of count (map make xs) fault
  fails_map count xs (Stranger n) fails = (fails.0, λ e. fails.1 (sym (often-made xs n) ∙ e))
  fails_map count xs (Double n) fails = omega (arith, fails, often-made xs n)
  fails_map count xs (Missing n) fails = (fails.0, often-made xs n ∙ fails.1)
  fails_map count xs Memory fails = fails

  fails_back : (count : ℕ) (xs : List X) (fault : AssembleFault) → AssemblyFails number_of count (map make xs) fault → AssemblyFails number_by count xs fault
  fails_back count xs (Stranger n) fails = (fails.0, λ e. fails.1 (often-made xs n ∙ e))
  fails_back count xs (Double n) fails = omega (arith, fails, often-made xs n)
  fails_back count xs (Missing n) fails = (fails.0, sym (often-made xs n) ∙ fails.1)
  fails_back count xs Memory fails = fails

  first_map : (count : ℕ) (xs : List X) (fault : AssembleFault) → IsFirst assembly_rank (AssemblyFails number_by count xs) fault → IsFirst assembly_rank (AssemblyFails number_of count (map make xs)) fault
  first_map count xs fault is = record { occurs = fails_map count xs fault is.occurs; first = λ other fails. is.first other (fails_back count xs other fails) }

  pub assembles_map : (count : ℕ) (xs : List X) (fault : AssembleFault) → Assembles number_by count xs (Err fault) → Assembles number_of count (map make xs) (Err fault)
  assembles_map count xs (Stranger n) is = first_map count xs (Stranger n) is
  assembles_map count xs (Double n) is = first_map count xs (Double n) is
  assembles_map count xs (Missing n) is = first_map count xs (Missing n) is
  assembles_map count xs Memory is = tt

  -- the same of the lists that were made
  pub assembled_made : (count : ℕ) (xs sorted : List X) (pieces others : List Y) → pieces ≡ map make xs → others ≡ map make sorted → Assembles number_by count xs (Ok sorted) → IsAssembly number_of count pieces others
  assembled_made count xs sorted pieces others are made is =
      subst (λ ps. IsAssembly number_of count ps others) (sym are) (subst (λ os. IsAssembly number_of count (map make xs) os) (sym made) (assembly_map count xs sorted is))

  pub failed_made : (count : ℕ) (xs : List X) (pieces : List Y) (fault : AssembleFault) → pieces ≡ map make xs → Assembles number_by count xs (Err fault) → Assembles number_of count pieces (Err fault)
  failed_made count xs pieces fault are is = subst (λ ps. Assembles number_of count ps (Err fault)) (sym are) (assembles_map count xs fault is)

  -- the least number at or past the count, among them and among what is made of them
  pub tells_of_made : (count : ℕ) (xs : List X) (least : Option ℕ) → TellsLeast (λ n. (count ≤ n) × (how_often number_by xs n ≢ 0)) least → TellsLeast (λ n. (count ≤ n) × (how_often number_of (map make xs) n ≢ 0)) least
  tells_of_made count xs least told =
      tells_same (λ n. (count ≤ n) × (how_often number_by xs n ≢ 0)) (λ n. (count ≤ n) × (how_often number_of (map make xs) n ≢ 0)) least told (λ n p. (p.0, λ none. p.1 (sym (often-made xs n) ∙ none)))
      (λ n p. (p.0, λ none. p.1 (often-made xs n ∙ none)))

  -- and none of what is made has a number at or past it, where none of them has
  pub none_made : (count : ℕ) (xs : List X) → HaveNoStranger number_by count xs → HaveNoStranger number_of count (map make xs)
  none_made count xs none n past = often-made xs n ∙ none n past

-- what is true of what is made of each is true of all that are made
pub all_made : {X Y : Type 0} (make : X → Y) (P : Y → Type 0) (xs : List X) → All (λ x. P (make x)) xs → All P (map make xs)
all_made make P xs all n d lt =
    let at = mapped_at make xs n (get_or (map make xs) n d) (slice_get-get_or (map make xs) n d lt) in
    subst P (sym at.2) (subst (λ x. P (make x)) (get_or_from_slice_get xs n at.0 at.0 at.1) (all n at.0 (omega (arith, lt, length-map xs make))))
