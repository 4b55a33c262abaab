use Rattle.std.proofs.Common.{vec_len}
use Rattle.sp_search.proofs.starting.+keep_all.Given as goal

abbrev pub decreases-keep_all : goal.decreases-keep_all
decreases-keep_all l = vec_len l.lists.now
