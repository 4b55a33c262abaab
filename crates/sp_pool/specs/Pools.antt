-- A bounded pool of found points: its list of members, and what each event makes of it.
use Rattle.std.specs.Prelude.{◌≡◌, ◌≤ℤ◌, ◌<ℤ◌, ℕ, zero, suc, ◌-◌, ◌+◌, min, ◌≤◌, ◌^◌, Bool, true, not, ◌&&◌, ◌==◌, nat_lt, cond, List, [], ◌∷◌, ◌++◌, length, drop, filter, All, Option, None, Some, ℤ, int_le, unsigned_abs}
use Rattle.std.specs.Int.{int_min}
use Rattle.std.specs.List.{list_any}
use Rattle.sp_model.specs.declared.gaps.Gap.TheVariants.{Unlimited}
use Rattle.sp_model.specs.declared.gaps.Gaps.{Gaps}
use Rattle.sp_model.specs.Cuts.{cut_of, IsGap}
use Rattle.sp_pool.specs.declared.members.Member.{Member}
use Rattle.sp_pool.specs.declared.members.Offered.{Offered}
use Rattle.sp_pool.specs.declared.members.Rule.{Rule}
use Rattle.sp_pool.specs.declared.members.Rule.TheVariants.{Fifo, Worst}
use Rattle.sp_pool.specs.declared.events.PoolEvent.{PoolEvent}
use Rattle.sp_pool.specs.declared.events.PoolEvent.TheVariants.{Offer, Capacity, Rule as NewRule, Gap, Retain, Refresh}

-- the members in the pool's order, and what its steps go by
pub record PoolState : Type 0 where
  pub members : List Member
  pub scale : ℕ
  pub best : Option ℤ
  pub capacity : ℕ
  pub rule : Rule
  pub gaps : Gaps

-- what can happen to a pool
pub data Event : Type 0 where
  Offering : Offered → Event
  Sizing : ℕ → Event
  Ruling : Rule → Event
  Gapping : Gaps → Event
  Retaining : List ℕ → Event
  Refreshing : List Offered → Event

-- an event as it is handed in
abbrev pub event_of : PoolEvent → Event
event_of (Offer serial value passes) = Offering (record { serial = serial; value = value; passes = passes })
event_of (Capacity n) = Sizing n
event_of (NewRule rule) = Ruling rule
event_of (Gap gaps) = Gapping gaps
event_of (Retain serials) = Retaining serials.now
event_of (Refresh offers) = Refreshing offers.now

-- a new pool
abbrev pub empty_state : ℕ → PoolState
empty_state scale = record { members = []; scale = scale; best = None; capacity = 2100000000; rule = Fifo; gaps = record { abs = Unlimited; rel = Unlimited } }

-- the lesser of the best value so far and this one
abbrev pub best_with : Option ℤ → ℤ → ℤ
best_with None value = value
best_with (Some best) value = int_min best value

-- whether the member's value is above the cut
abbrev pub is_above : ℤ → Member → Bool
is_above cut m = not (int_le m.value cut)

-- the members whose value isn't above the cut
abbrev pub within : ℤ → List Member → List Member
within cut ms = filter (λ m. int_le m.value cut) ms

-- the members without the one of greatest value, the last one on a tie
abbrev pub without_worst : List Member → List Member
without_worst [] = []
without_worst (m ∷ ms) = cond (list_any (λ other. int_le m.value other.value) ms) (m ∷ without_worst ms) ms

-- the members without the one that the rule drops
abbrev pub without_one : Rule → List Member → List Member
without_one Fifo ms = drop 1 ms
without_one Worst ms = without_worst ms

-- whether the rule drops a member for one of this value
abbrev pub makes_way : Rule → List Member → ℤ → Bool
makes_way Fifo ms value = true
makes_way Worst ms value = list_any (is_above value) ms

-- the member is appended where there is room, or where the rule drops one for it
abbrev pub admitted : Rule → ℕ → List Member → Member → List Member
admitted rule zero ms m = ms
admitted rule (suc n) ms m = cond (nat_lt (length ms) (suc n)) (ms ++ m ∷ []) (cond (makes_way rule ms m.value) (without_one rule ms ++ m ∷ []) ms)

-- the members after the rule has dropped so many
abbrev pub without : Rule → ℕ → List Member → List Member
without rule zero ms = ms
without rule (suc n) ms = without rule n (without_one rule ms)

-- the member that an offer becomes
abbrev pub member_of : Offered → Member
member_of o = record { serial = o.serial; value = o.value }

-- the cut of a best value
abbrev pub cut_at : PoolState → ℤ → ℤ
cut_at s best = cut_of best s.gaps s.scale

-- the members after an offer: one that passes and isn't above the cut is admitted
abbrev pub taken : Rule → ℕ → ℤ → List Member → Offered → List Member
taken rule capacity cut ms o = cond (o.passes && int_le o.value cut) (admitted rule capacity ms (member_of o)) ms

-- an offer, where the best value becomes this one: members above the cut are dropped first
abbrev pub offered_at : PoolState → ℤ → Offered → PoolState
offered_at s best o = record s { members = taken s.rule s.capacity (cut_at s best) (within (cut_at s best) s.members) o; best = Some best }

-- an offer: the best value becomes the lesser of itself and the offered one
unfoldable pub after_offer : PoolState → Offered → PoolState
after_offer s o = offered_at s (best_with s.best o.value) o

-- a capacity: while there are more members, the rule drops one
unfoldable pub after_capacity : PoolState → ℕ → PoolState
after_capacity s n = record s { members = without s.rule (length s.members - n) s.members; capacity = n }

-- the members not above the cut of the best value, where there is one
abbrev pub within_best : Option ℤ → Gaps → ℕ → List Member → List Member
within_best None gaps scale ms = ms
within_best (Some best) gaps scale ms = within (cut_of best gaps scale) ms

-- gaps: members above the cut of the best value are dropped, where there is one
unfoldable pub after_gaps : PoolState → Gaps → PoolState
after_gaps s gaps = record s { members = within_best s.best gaps s.scale s.members; gaps = gaps }

-- whether the serial is a member's
abbrev pub holds : List Member → ℕ → Bool
holds ms serial = list_any (λ m. m.serial == serial) ms

-- whether the member's serial is listed
abbrev pub is_listed : List ℕ → Member → Bool
is_listed serials m = list_any (λ serial. serial == m.serial) serials

-- members stay where their serial is listed
unfoldable pub after_retain : PoolState → List ℕ → PoolState
after_retain s serials = record s { members = filter (is_listed serials) s.members }

-- an offer, unless its serial is a member's at that moment
abbrev pub after_fresh : PoolState → Offered → PoolState
after_fresh s o = cond (holds s.members o.serial) s (after_offer s o)

-- each element that isn't a member is offered, in order
unfoldable pub after_refresh : PoolState → List Offered → PoolState
after_refresh s [] = s
after_refresh s (o ∷ os) = after_refresh (after_fresh s o) os

-- one step of a pool
abbrev pub after : PoolState → Event → PoolState
after s (Offering o) = after_offer s o
after s (Sizing n) = after_capacity s n
after s (Ruling rule) = record s { rule = rule }
after s (Gapping gaps) = after_gaps s gaps
after s (Retaining serials) = after_retain s serials
after s (Refreshing offers) = after_refresh s offers

-- a pool after a list of events, in order
abbrev pub after_all : PoolState → List Event → PoolState
after_all s [] = s
after_all s (e ∷ es) = after_all (after s e) es

-- a value that a pool can be offered
abbrev pub IsNear : ℤ → Type 0
IsNear value = unsigned_abs value ≤ 10 ^ 36

-- the values of an event are near, and its gaps are lawful
abbrev pub IsEventLawful : Event → Type 0
IsEventLawful (Offering o) = IsNear o.value
IsEventLawful (Sizing n) = Unit {0}
IsEventLawful (Ruling rule) = Unit {0}
IsEventLawful (Gapping gaps) = IsGap gaps.abs × IsGap gaps.rel
IsEventLawful (Retaining serials) = Unit {0}
IsEventLawful (Refreshing offers) = All (λ o. IsNear o.value) offers

-- a pool as its calls show it: what it holds, and how many members fit with no more memory
pub record Stock : Type 0 where
  pub state : PoolState
  pub storage : ℕ

-- so many more offers need no memory: the members and the new ones fit, or as many as the pool may ever hold
abbrev pub HasRoomFor : Stock → ℕ → Type 0
HasRoomFor p more = min (length p.state.members + more) p.state.capacity ≤ p.storage

-- an offer with room for it, and all that only changes settings
abbrev pub NeedsNoMemory : Stock → Event → Type 0
NeedsNoMemory p (Offering o) = HasRoomFor p 1
NeedsNoMemory p (Sizing n) = Unit {0}
NeedsNoMemory p (Ruling rule) = Unit {0}
NeedsNoMemory p (Gapping gaps) = Unit {0}
NeedsNoMemory p (Retaining serials) = ⊥
NeedsNoMemory p (Refreshing offers) = HasRoomFor p (length offers)

-- ---- what a pool under Worst holds

-- a pool after a list of offers, in order
abbrev pub after_offers : PoolState → List Offered → PoolState
after_offers s [] = s
after_offers s (o ∷ os) = after_offers (after_offer s o) os

-- members, and an offer behind them where it passes and isn't above the cut; of these, those that aren't above it
abbrev pub lasting_one : ℤ → List Member → Offered → List Member
lasting_one cut ms o = cond (o.passes && int_le o.value cut) (within cut ms ++ member_of o ∷ []) (within cut ms)

-- what a pool with room for all would hold after offers: the members and the offers that pass, without each one that was above
-- the cut at its own time or later
abbrev pub lasting : PoolState → List Member → List Offered → List Member
lasting s ms [] = ms
lasting s ms (o ∷ os) = lasting (after_offer s o) (lasting_one (cut_at s (best_with s.best o.value)) ms o) os

-- the best so many: while there are more, the worst one is dropped
abbrev pub best_of : ℕ → List Member → List Member
best_of count ms = without Worst (length ms - count) ms

-- one member less: the one that is gone has a value as great as any before it, and greater than any behind it
pub record IsWithoutWorst (ms left : List Member) : Type 0 where
  pub before : List Member
  pub worst : Member
  pub behind : List Member
  pub is : ms ≡ before ++ worst ∷ behind
  pub left_is : left ≡ before ++ behind
  pub none_greater : All (λ m. m.value ≤ℤ worst.value) before
  pub less_behind : All (λ m. m.value <ℤ worst.value) behind
