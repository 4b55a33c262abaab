use Rattle.sp_lp_tokens.specs.SeenTokens.{all_seen}
use Rattle.sp_lp.proofs.FormedLemmas.{lp_formed}
use Rattle.sp_lp.proofs.PlaceLemmas.{found_draft, only_draft, only_at, refused_at, only_end, refused_end, only_memory}
use Rattle.sp_lp.proofs.lp_files.read_list.Goals as goal

pub returns-in-Ok-clause-found : goal.returns-in-Ok-clause-found
returns-in-Ok-clause-found c = found_draft (record { accepted = c.readers_tell_files.ensures.accepted; unfinished = c.readers_tell_files.ensures.unfinished; begun = c.readers_tell_files.ensures.begun; refused = c.readers_tell_files.ensures.refused; front = c.fronts_begin_files.ensures.accepted; one = c.files_mean_one_draft.ensures }) (all_seen c.args.source.now c.args.list.now) c.in-Ok.draft c.in-Ok.ensures

pub returns-in-Ok-clause-known : goal.returns-in-Ok-clause-known
returns-in-Ok-clause-known c = lp_formed (all_seen c.args.source.now c.args.list.now) c.in-Ok.draft (found_draft (record { accepted = c.readers_tell_files.ensures.accepted; unfinished = c.readers_tell_files.ensures.unfinished; begun = c.readers_tell_files.ensures.begun; refused = c.readers_tell_files.ensures.refused; front = c.fronts_begin_files.ensures.accepted; one = c.files_mean_one_draft.ensures }) (all_seen c.args.source.now c.args.list.now) c.in-Ok.draft c.in-Ok.ensures)

pub returns-in-Ok-clause-only : goal.returns-in-Ok-clause-only
returns-in-Ok-clause-only c = only_draft (record { accepted = c.readers_tell_files.ensures.accepted; unfinished = c.readers_tell_files.ensures.unfinished; begun = c.readers_tell_files.ensures.begun; refused = c.readers_tell_files.ensures.refused; front = c.fronts_begin_files.ensures.accepted; one = c.files_mean_one_draft.ensures }) (all_seen c.args.source.now c.args.list.now) c.in-Ok.draft c.in-Ok.ensures

pub returns-in-Err-At-clause-only : goal.returns-in-Err-At-clause-only
returns-in-Err-At-clause-only c = only_at (record { accepted = c.readers_tell_files.ensures.accepted; unfinished = c.readers_tell_files.ensures.unfinished; begun = c.readers_tell_files.ensures.begun; refused = c.readers_tell_files.ensures.refused; front = c.fronts_begin_files.ensures.accepted; one = c.files_mean_one_draft.ensures }) (all_seen c.args.source.now c.args.list.now) c.in-Err-At.place c.refusal_at.result (rw c.in-Err-At.field-0-is at c.in-Err-At.ensures)

pub returns-in-Err-At-clause-refused : goal.returns-in-Err-At-clause-refused
returns-in-Err-At-clause-refused c = refused_at (record { accepted = c.readers_tell_files.ensures.accepted; unfinished = c.readers_tell_files.ensures.unfinished; begun = c.readers_tell_files.ensures.begun; refused = c.readers_tell_files.ensures.refused; front = c.fronts_begin_files.ensures.accepted; one = c.files_mean_one_draft.ensures }) c.args.source.now c.args.list.now c.in-Err-At.place c.refusal_at.result (rw c.in-Err-At.field-0-is at c.in-Err-At.ensures) c.refusal_at.ensures

pub returns-in-Err-AtEnd-clause-only : goal.returns-in-Err-AtEnd-clause-only
returns-in-Err-AtEnd-clause-only c = only_end (record { accepted = c.readers_tell_files.ensures.accepted; unfinished = c.readers_tell_files.ensures.unfinished; begun = c.readers_tell_files.ensures.begun; refused = c.readers_tell_files.ensures.refused; front = c.fronts_begin_files.ensures.accepted; one = c.files_mean_one_draft.ensures }) (all_seen c.args.source.now c.args.list.now) c.refusal_at-in-Err-AtEnd.result (rw c.in-Err-AtEnd.field-0-is at c.in-Err-AtEnd.ensures)

pub returns-in-Err-AtEnd-clause-refused : goal.returns-in-Err-AtEnd-clause-refused
returns-in-Err-AtEnd-clause-refused c = refused_end (record { accepted = c.readers_tell_files.ensures.accepted; unfinished = c.readers_tell_files.ensures.unfinished; begun = c.readers_tell_files.ensures.begun; refused = c.readers_tell_files.ensures.refused; front = c.fronts_begin_files.ensures.accepted; one = c.files_mean_one_draft.ensures }) c.args.source.now c.args.list.now c.refusal_at-in-Err-AtEnd.result (rw c.in-Err-AtEnd.field-0-is at c.in-Err-AtEnd.ensures) c.refusal_at-in-Err-AtEnd.ensures

pub returns-in-Err-Memory-clause-only : goal.returns-in-Err-Memory-clause-only
returns-in-Err-Memory-clause-only c = only_memory (all_seen c.args.source.now c.args.list.now)
