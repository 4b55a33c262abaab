-- What a call that writes a text to a sink says of the sink before and after it.
use Rattle.std.specs.Prelude.{◌≡◌, ℕ, ◌≤◌, List, ◌++◌, [], ◌∷◌, Option, Result, Ok, Err, Bool, IsTrue}
use Rattle.std.specs.Borrow.{Bor, GName}
use Rattle.sp_base.specs.Counts.{Rose}
use Rattle.sp_base.specs.Told.{append, AppendsPart, Grows}
use Rattle.sp_base.specs.declared.sinks.Sink.{Ghosts as SinkOf}
use Rattle.sp_base.specs.declared.sinks.SinkEnd.{SinkEnd}
use Rattle.sp_base.specs.declared.sinks.SinkEnd.TheVariants as sunk

-- Ok: all of the text came at the end. Err: some front part of it did.
abbrev pub Puts : Result (Unit {0}) SinkEnd → Option (List ℕ) → Option (List ℕ) → List ℕ → Type 0
Puts (Ok done) old new text = new ≡ append old text
Puts (Err end) old new text = AppendsPart old new text

-- all that contracts see of a sink
pub record SinkState : Type 0 where
  pub held : Option (List ℕ)
  pub sent : Option (List ℕ)
  pub faults : ℕ
  pub name : GName

abbrev pub state_of : {S : Type 0} → SinkOf S → S → SinkState
state_of K s = record { held = K.held s; sent = K.sent s; faults = K.faults s; name = K.name s }

-- The text was written, or a front part of it with the cause; and what was sent stays sent.
pub record Written (takes_memory : Bool) (result : Result (Unit {0}) SinkEnd) (old new : SinkState) (text : List ℕ) : Type 0 where
  pub put : Puts result old.held new.held text
  pub grown : Grows old.sent new.sent
  pub later : old.faults ≤ new.faults
  pub same : new.name ≡ old.name
  pub fault : result ≡ Err sunk.Fault → Rose old.faults new.faults
  pub no_memory : result ≡ Err sunk.NoMemory → IsTrue takes_memory

-- the text was written to a sink of K
abbrev pub Writes : {S : Type 0} → SinkOf S → Result (Unit {0}) SinkEnd → S → S → List ℕ → Type 0
Writes K result old new text = Written K.takes_memory result (state_of K old) (state_of K new) text

-- Of the text, all but what is left was written.
pub record WrittenSoFar (takes_memory : Bool) (old new : SinkState) (text left : List ℕ) : Type 0 where
  pub part : List ℕ
  pub whole : text ≡ part ++ left
  pub writes : Written takes_memory (Ok tt) old new part

-- of the text, all but what is left was written to a sink of K
abbrev pub WritesSoFar : {S : Type 0} → SinkOf S → S → S → List ℕ → List ℕ → Type 0
WritesSoFar K old new text left = WrittenSoFar K.takes_memory (state_of K old) (state_of K new) text left

-- the texts of a list of pieces, one behind the other
abbrev pub joined : List (Bor (List ℕ)) → List ℕ
joined [] = []
joined (p ∷ ps) = p.now ++ joined ps

-- The text went through a buffer to the sink behind it, or a front part of it with the cause.
pub record Sent (takes_memory : Bool) (result : Result (Unit {0}) SinkEnd) (old new : SinkState) (text : List ℕ) : Type 0 where
  pub put : Puts result old.held new.held text
  pub later : old.faults ≤ new.faults
  pub same : new.name ≡ old.name
  pub fault : result ≡ Err sunk.Fault → Rose old.faults new.faults
  pub no_memory : result ≡ Err sunk.NoMemory → IsTrue takes_memory

-- the text went to a sink of K
abbrev pub Sends : {S : Type 0} → SinkOf S → Result (Unit {0}) SinkEnd → S → S → List ℕ → Type 0
Sends K result old new text = Sent K.takes_memory result (state_of K old) (state_of K new) text
