use Rattle.sp_lp_tokens.specs.SeenTokens.{all_seen}
use Rattle.sp_lp.proofs.FormedLemmas.{lp_formed}
use Rattle.sp_lp.proofs.PlaceLemmas.{found_draft, read_says, read_only}
use Rattle.sp_lp.proofs.lp_files.read_file.Goals as goal

pub returns-in-Some-clause-found : goal.returns-in-Some-clause-found
returns-in-Some-clause-found c = read_says (record { accepted = c.readers_tell_files.ensures.accepted; unfinished = c.readers_tell_files.ensures.unfinished; begun = c.readers_tell_files.ensures.begun; refused = c.readers_tell_files.ensures.refused; front = c.fronts_begin_files.ensures.accepted; one = c.files_mean_one_draft.ensures }) c.args.bytes.now c.in-Some.draft c.in-Some.ensures

pub returns-in-Some-clause-known : goal.returns-in-Some-clause-known
returns-in-Some-clause-known c =
    lp_formed (all_seen c.args.bytes.now c.in-Some.ensures.tokens) c.in-Some.draft
    (found_draft (record { accepted = c.readers_tell_files.ensures.accepted; unfinished = c.readers_tell_files.ensures.unfinished; begun = c.readers_tell_files.ensures.begun; refused = c.readers_tell_files.ensures.refused; front = c.fronts_begin_files.ensures.accepted; one = c.files_mean_one_draft.ensures }) (all_seen c.args.bytes.now c.in-Some.ensures.tokens) c.in-Some.draft c.in-Some.ensures.reading)

pub returns-in-Some-clause-only : goal.returns-in-Some-clause-only
returns-in-Some-clause-only c = read_only (record { accepted = c.readers_tell_files.ensures.accepted; unfinished = c.readers_tell_files.ensures.unfinished; begun = c.readers_tell_files.ensures.begun; refused = c.readers_tell_files.ensures.refused; front = c.fronts_begin_files.ensures.accepted; one = c.files_mean_one_draft.ensures }) c.tokens_are_unique.ensures c.args.bytes.now c.in-Some.draft c.in-Some.ensures
