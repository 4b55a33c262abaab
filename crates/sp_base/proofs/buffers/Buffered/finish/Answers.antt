use Rattle.sp_base.specs.Writing.{state_of}
use Rattle.sp_base.proofs.BufferLemmas.{ends_failed, ends_flushed}
use Rattle.sp_base.proofs.buffers.Buffered.finish.Goals as goal

pub returns-in-Err : goal.returns-in-Err
returns-in-Err g c = λ start text none w. ends_failed (state_of g.K.Sink start.inner) (state_of g.K.Sink c.args.self.now.inner) start.waiting.items _ text c.in-Err.is none w

pub returns-in-Ok : goal.returns-in-Ok
returns-in-Ok g c = λ start text none w.
    ends_flushed (state_of g.K.Sink start.inner) (state_of g.K.Sink c.args.self.now.inner) (state_of g.K.Sink c.flush.new.self.inner) start.waiting.items _ _ text c.in-Ok.is none w
    c.flush.ensures.writes c.flush.ensures.empty
