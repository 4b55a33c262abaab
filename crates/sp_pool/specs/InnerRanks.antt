-- The order by value and then by arrival. No public clause cites this module.
use Rattle.std.specs.Prelude.{◌≡◌, ℕ, Bool, true, false, not, ◌==◌, ◌||◌, filter, is_some, List, [], ◌∷◌, cond, Option, None, Some, ℤ, int_le}
use Rattle.std.specs.List.{list_any}
use Rattle.sp_pool.specs.InnerLines.{Keyed, AreApart, Row, keys, member_at}
use Rattle.sp_pool.specs.declared.members.Member.{Member}
use Rattle.sp_pool.specs.Pools.{is_listed}

-- a member put before the first one whose value isn't less
abbrev pub placed : Keyed → List Keyed → List Keyed
placed p [] = p ∷ []
placed p (q ∷ qs) = cond (int_le p.1.value q.1.value) (p ∷ q ∷ qs) (q ∷ placed p qs)

-- the members by value, those of one value as they arrived
abbrev pub by_rank : List Keyed → List Keyed
by_rank [] = []
by_rank (p ∷ ps) = placed p (by_rank ps)

-- whether the member has a lesser value, or none greater; none has where there is no member
abbrev pub is_lesser : ℤ → Option Member → Bool
is_lesser value None = false
is_lesser value (Some m) = not (int_le value m.value)

abbrev pub is_up_to : ℤ → Option Member → Bool
is_up_to value None = false
is_up_to value (Some m) = int_le m.value value

-- whether there is a member under the key
abbrev pub is_held : List Keyed → ℕ → Bool
is_held ps key = is_some (member_at key ps)

-- the members without the one under the key, unless its serial is listed
abbrev pub unless_listed : List ℕ → ℕ → List Keyed → List Keyed
unless_listed serials key ps = filter (λ p. not (p.0 == key) || is_listed serials p.1) ps

-- the members after each of these keys has been looked at
abbrev pub swept : List ℕ → List ℕ → List Keyed → List Keyed
swept serials [] ps = ps
swept serials (key ∷ rest) ps = swept serials rest (unless_listed serials key ps)

-- the tests of the keys of these members
abbrev pub at_keys : (Option Member → Bool) → List Keyed → ℕ → Bool
at_keys test ps key = test (member_at key ps)

-- whatever comes before one that passes passes too
abbrev pub IsParted : (ℕ → Bool) → List ℕ → Type 0
IsParted p [] = Unit {0}
IsParted p (x ∷ xs) = (list_any p xs ≡ true → p x ≡ true) × IsParted p xs

-- an index as its calls show it: the members in the pool's order, and how many fit with no more memory
pub record Roll : Type 0 where
  pub members : List Member
  pub storage : ℕ

-- the list of keys is that of the members by value and then by arrival
pub record IsRanked (row : Row) (ranks : List ℕ) : Type 0 where
  pub ranked : ranks ≡ keys (by_rank row.items)
  pub apart : AreApart row.items
