use Rattle.std.proofs.Common.{sym, subst}
use Rattle.sp_lp_tokens.specs.Tokens.{AreTokens}
use Rattle.sp_lp.proofs.PlaceLemmas.{ok_of, only_of, refused_of}
use Rattle.sp_lp.proofs.lp_files.read_by_list.Goals as goal

pub returns-in-Ok-clause-found : goal.returns-in-Ok-clause-found
returns-in-Ok-clause-found c = ok_of c.args.bytes.now c.as_slice.result.now (subst (AreTokens c.args.bytes.now) (sym c.as_slice.ensures.value) c.in-Ok.ensures.found) c.read_list.result c.read_list.ensures.found

pub returns-in-Ok-clause-only : goal.returns-in-Ok-clause-only
returns-in-Ok-clause-only c = only_of c.tokens_are_unique.ensures c.args.bytes.now c.as_slice.result.now (subst (AreTokens c.args.bytes.now) (sym c.as_slice.ensures.value) c.in-Ok.ensures.found) c.read_list.result c.read_list.ensures.only

pub returns-in-Ok-clause-refused : goal.returns-in-Ok-clause-refused
returns-in-Ok-clause-refused c = refused_of c.args.bytes.now c.as_slice.result.now (subst (AreTokens c.args.bytes.now) (sym c.as_slice.ensures.value) c.in-Ok.ensures.found) c.read_list.result c.read_list.ensures.refused
