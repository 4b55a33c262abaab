use Rattle.std.proofs.Common.{◌≡◌, ◌+◌, false, take, drop}
use Rattle.std.specs.Prelude.{count_by}
use Rattle.sp_lp_tokens.specs.Gaps.{is_feed, gap_length}
use Rattle.sp_lp_tokens.proofs.gaps.gap_before.Given as goal

abbrev pub invariant-loop-length : goal.invariant-loop-length
invariant-loop-length l = record {
  left : gap_length false l.bytes ≡ l.length + gap_length l.comment (drop l.length l.bytes);
  lines : l.feeds ≡ count_by is_feed (take l.length l.bytes);
}
