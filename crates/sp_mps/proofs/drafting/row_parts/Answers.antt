use Rattle.sp_mps.proofs.DraftLemmas.{parts_made}
use Rattle.sp_mps.proofs.drafting.row_parts.Goals as goal

pub returns : goal.returns
returns c =
    let t = c.in_ok-tables.tables in
    parts_made c.args.reader.now t.terms.items t.sides.items t.ranges.items c.in_ok-parts.parts c.requires c.in_ok-tables.ensures.terms c.in_ok-tables.ensures.sides c.in_ok-tables.ensures.ranges c.in_ok-parts.ensures
