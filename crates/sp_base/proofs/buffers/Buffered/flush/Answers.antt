use Rattle.std.proofs.Common.{◌≡◌, take, ap, ◌∙◌}
use Rattle.sp_base.specs.Told.{append}
use Rattle.sp_base.proofs.BufferLemmas.{sent_and_kept, none_put}
use Rattle.sp_base.proofs.buffers.Buffered.flush.Goals as goal

pub returns-clause-writes : goal.returns-clause-writes
returns-clause-writes g c =
    let sent : g.K.Sink.held c.write_front-count.new.sink ≡ append (g.K.Sink.held c.args.self.now.inner) (take c.write_front-count.result.0 c.args.self.now.waiting.items) =
    c.write_front-count.ensures.told ∙ ap (λ bytes. append (g.K.Sink.held c.args.self.now.inner) (take c.write_front-count.result.0 bytes)) c.as_slice.ensures.value in
    record {
      put = none_put c.write_front-count.result.1 _ _ (sent_and_kept _ _ _ _ c.write_front-count.result.0 sent c.remove_front.ensures);
      grown = record { more = take c.write_front-count.result.0 c.args.self.now.waiting.items; told = sent };
      later = c.write_front-count.ensures.writes.later;
      same = c.write_front-count.ensures.writes.same;
      fault = c.write_front-count.ensures.writes.fault;
      no_memory = c.write_front-count.ensures.writes.no_memory;
    }
