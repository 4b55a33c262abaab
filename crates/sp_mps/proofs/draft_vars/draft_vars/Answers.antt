use Rattle.std.proofs.Common.{◌≡◌, ◌∙◌, List, subst}
use Rattle.std.specs.Prelude.{IfOk}
use Rattle.sp_draft.specs.declared.drafts.DraftVar.{DraftVar}
use Rattle.sp_mps.proofs.DraftLemmas.{vars_made}
use Rattle.sp_mps.proofs.draft_vars.draft_vars.Goals as goal

pub returns : goal.returns
returns c =
    let P : List DraftVar → Type 0 = λ xs. IfOk c.var_table.result (λ vars. vars.items ≡ xs) in
    subst P (vars_made c.args.reader.now c.len-count.result c.as_slice.result.now c.as_slice-2.result.now c.as_slice-bounds.result.now c.len-count.ensures.count c.as_slice.ensures c.as_slice-bounds.ensures (c.as_slice-2.ensures.value ∙ c.in_ok-bounded.ensures)) c.var_table.ensures
