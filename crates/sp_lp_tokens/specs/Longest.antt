-- The longest front of a text that passes a test.
use Rattle.std.specs.Prelude.{◌≡◌, ℕ, ◌<◌, ◌≤◌, Bool, true, false, List, length, take}

-- n bytes are the longest front that passes the test, or n is 0 and no front passes
pub record IsLongest (test : List ℕ → Bool) (bytes : List ℕ) (n : ℕ) : Type 0 where
  pub within : n ≤ length bytes
  pub passes : 0 < n → test (take n bytes) ≡ true
  pub longest : (k : ℕ) → n < k → k ≤ length bytes → test (take k bytes) ≡ false
