use Rattle.std.proofs.Common.{◌≡◌, drop}
use Rattle.sp_lp_tokens.specs.Tokens.{colon_follows}
use Rattle.sp_lp_tokens.proofs.reading.colon_follows.Given as goal

abbrev pub invariant-loop-byte : goal.invariant-loop-byte
invariant-loop-byte l = colon_follows l.bytes ≡ colon_follows (drop l.byte-index l.bytes)
