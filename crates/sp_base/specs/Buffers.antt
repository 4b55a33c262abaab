-- A buffer in front of a sink.
use Rattle.std.specs.Prelude.{◌≡◌, ℕ, List}
use Rattle.sp_base.specs.declared.sinks.Put.{Put}
use Rattle.sp_base.specs.declared.sinks.Put.TheVariants as put
use Rattle.sp_base.specs.declared.sinks.SinkEnd.{SinkEnd}
use Rattle.sp_base.specs.declared.sinks.SinkEnd.TheVariants as sunk
use Rattle.sp_base.specs.declared.buffers.Buffered.{Buffered}

-- the sink behind the buffer
abbrev pub inner_of : {T : Type 0} → Buffered T → T
inner_of buffer = buffer.inner

-- the bytes that the buffer took and hasn't sent
abbrev pub waiting_of : {T : Type 0} → Buffered T → List ℕ
waiting_of buffer = buffer.waiting.items

-- what a write answers where nothing could be sent
abbrev pub refusal_of : SinkEnd → Put
refusal_of sunk.Fault = put.Failed
refusal_of sunk.NoMemory = put.NoMemory
