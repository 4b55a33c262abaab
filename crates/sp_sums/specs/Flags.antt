-- A list of truths, and how many of them are true.
use Rattle.std.specs.Prelude.{◌≡◌, ℕ, ◌<◌, Bool, true, false, List, length, count_by, slice_index_or}

-- how many are true
abbrev pub true_count : List Bool → ℕ
true_count bits = count_by (λ b. b) bits

-- the truth at a place, false past the last one
abbrev pub flag_at : List Bool → ℕ → Bool
flag_at bits k = slice_index_or bits k false

-- the truth at the place is true, and none before it is
pub record IsFirstTrue (bits : List Bool) (k : ℕ) : Type 0 where
  pub known : k < length bits
  pub here : flag_at bits k ≡ true
  pub before : (i : ℕ) → i < k → flag_at bits i ≡ false

-- none of them is true
pub record IsNoneTrue (bits : List Bool) : Type 0 where
  pub each : (k : ℕ) → flag_at bits k ≡ false
