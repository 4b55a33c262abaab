use Rattle.std.proofs.Common.{length, sym, ap, ◌∙◌}
use Rattle.sp_model.proofs.RangeLemmas.{length_ranges}
use Rattle.sp_model.proofs.boxes.BoxOf.len.Goals as goal

pub returns : goal.returns
returns c = c.len.ensures ∙ sym (length_ranges c.self.inside.lower c.self.inside.upper c.self.invariant) ∙ ap length c.self.view_is
