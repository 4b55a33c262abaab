-- Which replies are refusals, and which are lists.
use Rattle.std.specs.Prelude.{Bool, true, false}
use Rattle.sp_engine.specs.declared.replies.Reply.{Reply}
use Rattle.sp_engine.specs.declared.replies.Reply.TheVariants as reply

abbrev pub is_refused : Reply → Bool
is_refused (reply.Refused why) = true
is_refused r = false

abbrev pub is_listed : Reply → Bool
is_listed (reply.Listed optimum serials) = true
is_listed r = false
