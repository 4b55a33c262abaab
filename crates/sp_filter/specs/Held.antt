-- The filters that are held, and when one more can be added.
use Rattle.std.specs.Prelude.{◌≡◌, ◌≢◌, ℕ, ◌+◌, ◌<◌, ◌≤◌, ◌^◌, ◌-◌, Bool, not, ◌==◌, if◌then◌else◌, List, [], ◌∷◌, ◌++◌, length, filter, All, AllPairs, Option, None, Some, true, false, ℤ, IsTrue}
use Rattle.std.specs.List.{list_any}
use Rattle.std.specs.Str.{bytes_eq}
use Rattle.sp_model.specs.declared.parts.ModelParts.{ModelParts}
use Rattle.sp_model.specs.Boxes.{Bounds, IsWithin}
use Rattle.sp_model.specs.Models.{root_of}
use Rattle.sp_filter.specs.declared.drafting.FilterDraft.{FilterDraft}
use Rattle.sp_filter.specs.declared.holding.Held.{Held}
use Rattle.sp_filter.specs.declared.kinds.Filter.{Filter}
use Rattle.sp_filter.specs.declared.refusals.FilterRefusal.{FilterRefusal}
use Rattle.sp_filter.specs.declared.refusals.FilterRefusal.TheVariants.{NameTaken, TooMany, NegativeWeight, Wide, NoMemory}
use Rattle.sp_filter.specs.Filters.{is_passed, is_closed, filter_width, box_at}
use Rattle.sp_filter.specs.Lowering.{AreDraftWeightsLawful, written, lowered}

-- the most filters that are held at once
abbrev pub most_filters : ℕ
most_filters = 64

-- the id that no filter gets
abbrev pub last_id : ℕ
last_id = 2 ^ 32 - 1

-- the held filters in order of adding, and the id that the next one gets
pub record FilterList : Type 0 where
  pub held : List Held
  pub next : ℕ

-- no more than may be held, ids that rise and are all below the next one, and no two of one name
pub record IsOrderly (s : FilterList) : Type 0 where
  pub few : length s.held ≤ most_filters
  pub fresh : All (λ h. h.id < s.next) s.held
  pub rising : AllPairs (λ h k. h.id < k.id) s.held
  pub distinct : AllPairs (λ h k. h.name ≢ k.name) s.held

-- ---- what is held

-- the filter of this id, if it is held
abbrev pub filter_of : List Held → ℕ → Option Filter
filter_of [] id = None
filter_of (h ∷ hs) id = if h.id == id then Some h.filter else filter_of hs id

-- the id of the filter of this name, if it is held
abbrev pub id_of : List Held → List ℕ → Option ℕ
id_of [] name = None
id_of (h ∷ hs) name = if bytes_eq h.name name then Some h.id else id_of hs name

-- the point passes each of the filters
abbrev pub Passes : List Held → List ℤ → Type 0
Passes hs x = All (λ h. IsTrue (is_passed h.filter x)) hs

-- the answer whether a filter closes a box: it is exact; no point of a closed box passes; and it is exact at a single point
pub record Closes (f : Filter) (b : Bounds) (closed : Bool) : Type 0 where
  pub exact : closed ≡ is_closed f b
  pub sound : closed ≡ true → (x : List ℤ) → IsWithin b x → is_passed f x ≡ false
  pub point : (x : List ℤ) → b ≡ box_at x → closed ≡ not (is_passed f x)

-- ---- adding and removing

-- a held filter has this name
abbrev pub is_taken : List Held → List ℕ → Bool
is_taken hs name = list_any (λ h. bytes_eq h.name name) hs

-- one more may be held, and an id is left
pub record HasRoom (s : FilterList) : Type 0 where
  pub few : length s.held < most_filters
  pub ids : s.next < last_id

-- the width of the draft as written, over the bounds of the model
abbrev pub IsNarrowDraft : ModelParts → FilterDraft → Type 0
IsNarrowDraft m d = filter_width (written d) (root_of m) ≤ 10 ^ 36

-- the draft may be added under this name
pub record CanAdd (s : FilterList) (m : ModelParts) (name : List ℕ) (d : FilterDraft) : Type 0 where
  pub free : is_taken s.held name ≡ false
  pub room : HasRoom s
  pub weights : AreDraftWeightsLawful d
  pub narrow : IsNarrowDraft m d

-- the first thing, in this order, that forbids it; want of memory comes only where nothing does
abbrev pub IsFirstRefusal : FilterList → ModelParts → List ℕ → FilterDraft → FilterRefusal → Type 0
IsFirstRefusal s m name d NameTaken = is_taken s.held name ≡ true
IsFirstRefusal s m name d TooMany = (is_taken s.held name ≡ false) × ¬ HasRoom s
IsFirstRefusal s m name d NegativeWeight = (is_taken s.held name ≡ false) × HasRoom s × ¬ AreDraftWeightsLawful d
IsFirstRefusal s m name d Wide = (is_taken s.held name ≡ false) × HasRoom s × AreDraftWeightsLawful d × ¬ IsNarrowDraft m d
IsFirstRefusal s m name d NoMemory = CanAdd s m name d

-- the list with the draft's filter behind it
abbrev pub with_filter : FilterList → List ℕ → FilterDraft → FilterList
with_filter s name d = record { held = s.held ++ record { id = s.next; name = name; filter = lowered d } ∷ []; next = s.next + 1 }

-- the list without the filter of this name; the next id stays
abbrev pub without_filter : FilterList → List ℕ → FilterList
without_filter s name = record { held = filter (λ h. not (bytes_eq h.name name)) s.held; next = s.next }
