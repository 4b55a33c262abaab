-- The serials of members, in ascending order. No public clause cites this module.
use Rattle.std.specs.Prelude.{◌≡◌, ℕ, suc, ◌==◌, cond, List, [], ◌∷◌, map}
use Rattle.sp_pool.specs.declared.members.Member.{Member}
use Rattle.sp_pool.specs.InnerLines.{Row, members_in}
use Rattle.sp_pool.specs.InnerRanks.{IsRanked}

-- a list of serials as its calls show it, and how many fit with no more memory
pub record Tally : Type 0 where
  pub items : List ℕ
  pub capacity : ℕ

-- how often a serial stands in a list
abbrev pub times : ℕ → List ℕ → ℕ
times serial [] = 0
times serial (x ∷ xs) = cond (x == serial) (suc (times serial xs)) (times serial xs)

abbrev pub serials_of : List Member → List ℕ
serials_of ms = map (λ m. m.serial) ms

-- each serial stands in the list as often as members have it
pub record IsTally (serials : List ℕ) (ms : List Member) : Type 0 where
  pub each : (serial : ℕ) → times serial serials ≡ times serial (serials_of ms)

-- the list of keys is that of the members by value and then by arrival, and the serials are theirs
pub record IsIndexed (row : Row) (ranks serials : List ℕ) : Type 0 where
  pub ranked : IsRanked row ranks
  pub tally : IsTally serials (members_in row.items)
