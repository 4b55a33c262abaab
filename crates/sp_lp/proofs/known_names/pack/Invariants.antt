use Rattle.std.proofs.Common.{◌≡◌, ◌≤◌, length, drop}
use Rattle.std.specs.Prelude.{All}
use Rattle.sp_lp.specs.InnerGuesses.{IsByte, key_of}
use Rattle.sp_lp.proofs.known_names.pack.Given as goal

abbrev pub invariant-loop-place : goal.invariant-loop-place
invariant-loop-place l = record {
  within : l.place ≤ length l.name;
  few : length l.name ≤ 12;
  key : l.key ≡ key_of (drop l.place l.name);
  bytes : All IsByte (drop l.place l.name);
}

abbrev pub decreases-loop-place : goal.decreases-loop-place
decreases-loop-place l = l.place
