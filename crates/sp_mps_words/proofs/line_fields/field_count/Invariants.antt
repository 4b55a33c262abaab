use Rattle.std.proofs.Common.{◌≡◌, ◌+◌, ◌≤◌, length}
use Rattle.sp_base.specs.Fields.{fields}
use Rattle.sp_mps_words.proofs.line_fields.field_count.Given as goal

abbrev pub invariant-fields : goal.invariant-fields
invariant-fields l = record {
  counted : l.count + length (fields l.rest) ≡ length (fields l.line);
  short : l.count + length l.rest ≤ length l.line;
}

abbrev pub decreases-fields : goal.decreases-fields
decreases-fields l = length l.rest
