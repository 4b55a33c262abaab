-- What a buffer in front of a sink owes at each of its answers.
use Rattle.std.specs.Prelude.{Result, Ok, Err, OnOk, OnErr, Bool}
use Rattle.std.proofs.Common.{◌≡◌, ℕ, ◌<◌, ◌≤◌, List, [], ◌∷◌, ◌++◌, length, take, drop, Option, None, Some, refl, sym, ap, ◌∙◌, subst}
use Rattle.std.proofs.Math.Seq.{take-length}
use Rattle.std.proofs.lemmas.List.{append_assoc, append_cancel_left, append-nil, take-append-drop}
use Rattle.sp_base.specs.Counts.{Rose}
use Rattle.sp_base.specs.Told.{append, AppendsPart, Grows}
use Rattle.sp_base.specs.Sink.{Takes}
use Rattle.sp_base.specs.Writing.{Puts, SinkState, Sent, Written}
use Rattle.sp_base.specs.Buffers.{refusal_of}
use Rattle.sp_base.specs.declared.sinks.Put.{Put}
use Rattle.sp_base.specs.declared.sinks.Put.TheVariants as put
use Rattle.sp_base.specs.declared.sinks.SinkEnd.{SinkEnd}
use Rattle.sp_base.specs.declared.sinks.SinkEnd.TheVariants as sunk
use Rattle.sp_base.proofs.ToldLemmas.{append-nothing, append-append}
use Rattle.sp_base.proofs.WritingLemmas.{writes_then}

-- bytes that are sent move from the buffer to the sink behind it, so that both together hold the same
pub sent_and_kept : (h0 h1 : Option (List ℕ)) (w0 w1 : List ℕ) (count : ℕ) → h1 ≡ append h0 (take count w0) → w1 ≡ drop count w0 → append h1 w1 ≡ append h0 w0
sent_and_kept h0 h1 w0 w1 count sent rest =
    ap (append h1) rest ∙ ap (λ told. append told (drop count w0)) sent ∙ append-append h0 (take count w0) (drop count w0)
    ∙ ap (append h0) (take-append-drop count w0)

nil_front : (xs ys : List ℕ) → [] ≡ xs ++ ys → xs ≡ []
nil_front [] ys e = refl
nil_front (x ∷ xs) ys e = cc

-- writing nothing leaves what is held
pub puts_none : (r : Result (Unit {0}) SinkEnd) (old new : Option (List ℕ)) → Puts r old new [] → new ≡ old
puts_none (Ok done) old new p = p ∙ append-nothing old
puts_none (Err end) old new p = p.told ∙ ap (append old) (nil_front p.part p.rest p.whole) ∙ append-nothing old

pub none_put : (r : Result (Unit {0}) SinkEnd) (old new : Option (List ℕ)) → new ≡ old → Puts r old new []
none_put (Ok done) old new same = same ∙ sym (append-nothing old)
none_put (Err end) old new same = record { part = []; rest = []; whole = refl; told = same ∙ sym (append-nothing old) }

-- a front of the piece waits behind what waited
pub gathered : (held h1 : Option (List ℕ)) (w1 now piece : List ℕ) (count : ℕ) → append h1 w1 ≡ held → now ≡ w1 ++ take count piece → append h1 now ≡ append held (take count piece)
gathered held h1 w1 now piece count same e =
    ap (append h1) e ∙ sym (append-append h1 w1 (take count piece)) ∙ ap (λ told. append told (take count piece)) same

-- the whole piece waits behind what waited
pub whole_gathered : (held : Option (List ℕ)) (waiting now piece : List ℕ) → now ≡ waiting ++ piece → append held now ≡ append (append held waiting) (take (length piece) piece)
whole_gathered held waiting now piece e =
    ap (append held) e ∙ sym (append-append held waiting piece) ∙ ap (append (append held waiting)) (sym (take-length piece))

-- nothing waited, and the sink behind took the piece itself
pub passed_on : (r : Put) (held h1 h2 : Option (List ℕ)) (w1 piece : List ℕ) → append h1 w1 ≡ held → w1 ≡ [] → Takes r h1 h2 piece → Takes r held (append h2 w1) piece
passed_on r held h1 h2 w1 piece same none t =
    subst (λ told. Takes r told (append h2 w1) piece) (sym (append-nothing h1) ∙ ap (append h1) (sym none) ∙ same)
    (subst (λ told. Takes r h1 told piece) (sym (ap (append h2) none ∙ append-nothing h2)) t)

-- nothing could be sent, so nothing of the piece is taken
pub refused : (end : SinkEnd) (r : Put) (old new : Option (List ℕ)) (piece : List ℕ) → r ≡ refusal_of end → new ≡ old → Takes r old new piece
refused end r old new piece is same = subst (λ p. Takes p old new piece) (sym is) (by end)
  where
    by : (e : SinkEnd) → Takes (refusal_of e) old new piece
    by sunk.Fault = same
    by sunk.NoMemory = same

pub refused_fault : (end : SinkEnd) → refusal_of end ≡ put.Failed → end ≡ sunk.Fault
refused_fault sunk.Fault e = refl
refused_fault sunk.NoMemory e = cc

pub refused_memory : (end : SinkEnd) → refusal_of end ≡ put.NoMemory → end ≡ sunk.NoMemory
refused_memory sunk.Fault e = cc
refused_memory sunk.NoMemory e = refl

-- a write loses nothing of what was held
pub takes_grows : (r : Put) (old new : Option (List ℕ)) (piece : List ℕ) → Takes r old new piece → Grows old new
takes_grows (put.Took count) old new piece t = record { more = take count piece; told = t.2 }
takes_grows put.Failed old new piece same = record { more = []; told = same ∙ sym (append-nothing old) }
takes_grows put.NoMemory old new piece same = record { more = []; told = same ∙ sym (append-nothing old) }

behind : (h0 h1 : List ℕ) (more waiting part rest text : List ℕ) → h1 ≡ h0 ++ more → h1 ++ waiting ≡ h0 ++ part → text ≡ part ++ rest → text ≡ more ++ (waiting ++ rest)
behind h0 h1 more waiting part rest text grown held whole =
    let same : more ++ waiting ≡ part = append_cancel_left h0 (more ++ waiting) part (sym (append_assoc h0 more waiting) ∙ ap (λ xs. xs ++ waiting) (sym grown) ∙ held) in
    whole ∙ ap (λ xs. xs ++ rest) (sym same) ∙ append_assoc more waiting rest

-- of a front part that was taken, what was sent is a front part too
front_sent : (s0 s1 : Option (List ℕ)) (waiting text : List ℕ) → Grows s0 s1 → AppendsPart s0 (append s1 waiting) text → AppendsPart s0 s1 text
unfolding append
front_sent None None waiting text g p = record { part = []; rest = text; whole = refl; told = refl }
front_sent None (Some h1) waiting text g p = absurd (let e : Some h1 ≡ None = g.told in cc)
front_sent (Some h0) None waiting text g p = absurd (let e : None ≡ Some (h0 ++ g.more) = g.told in cc)
front_sent (Some h0) (Some h1) waiting text g p =
    let grown : h1 ≡ h0 ++ g.more = (let e : Some h1 ≡ Some (h0 ++ g.more) = g.told in cc) in
    let held : h1 ++ waiting ≡ h0 ++ p.part = (let e : Some (h1 ++ waiting) ≡ Some (h0 ++ p.part) = p.told in cc) in
    record { part = g.more; rest = waiting ++ p.rest; whole = behind h0 h1 g.more waiting p.part p.rest text grown held p.whole; told = ap Some grown }

-- through an empty buffer a text was written, and in the end all that waited was sent
puts_sent : (r : Result (Unit {0}) SinkEnd) (s0 s1 : Option (List ℕ)) (w0 w1 text : List ℕ) → w0 ≡ [] → OnOk r (w1 ≡ []) → Grows s0 s1 → Puts r (append s0 w0) (append s1 w1) text → Puts r s0 s1 text
puts_sent (Ok done) s0 s1 w0 w1 text none sent g p =
    sym (ap (append s1) sent ∙ append-nothing s1) ∙ p ∙ ap (λ told. append told text) (ap (append s0) none ∙ append-nothing s0)
puts_sent (Err end) s0 s1 w0 w1 text none sent g p =
    front_sent s0 s1 w1 text g (subst (λ told. AppendsPart told (append s1 w1) text) (ap (append s0) none ∙ append-nothing s0) p)

-- a buffer shows this where the sink behind it shows that, and these bytes wait
abbrev pub buffer_state : SinkState → List ℕ → SinkState
buffer_state s waiting = record { held = append s.held waiting; sent = s.held; faults = s.faults; name = s.name }

-- a text was written through the buffer, and where all of it was, nothing waits in the end
sent_text : {k : Bool} (r : Result (Unit {0}) SinkEnd) (s0 s1 : SinkState) (w0 w1 text : List ℕ)
    → w0 ≡ [] → OnOk r (w1 ≡ []) → Written k r (buffer_state s0 w0) (buffer_state s1 w1) text → Sent k r s0 s1 text
sent_text r s0 s1 w0 w1 text none sent w = record {
  put = puts_sent r s0.held s1.held w0 w1 text none sent w.grown w.put;
  later = w.later;
  same = w.same;
  fault = w.fault;
  no_memory = w.no_memory;
}

-- the text wasn't written
pub ends_failed : {k : Bool} {written : Result (Unit {0}) SinkEnd} {end : SinkEnd} (s0 s1 : SinkState) (w0 w1 text : List ℕ)
    → written ≡ Err end → w0 ≡ [] → Written k written (buffer_state s0 w0) (buffer_state s1 w1) text → Sent k (Err end) s0 s1 text
ends_failed {k} {written} {end} s0 s1 w0 w1 text failed none w =
    sent_text (Err end) s0 s1 w0 w1 text none tt (subst (λ r. Written k r (buffer_state s0 w0) (buffer_state s1 w1) text) failed w)

-- the text was written, and what waits was sent or not
pub ends_flushed : {k : Bool} {written r : Result (Unit {0}) SinkEnd} {u : Unit {0}} (s0 s1 s2 : SinkState) (w0 w1 w2 text : List ℕ)
    → written ≡ Ok u → w0 ≡ [] → Written k written (buffer_state s0 w0) (buffer_state s1 w1) text
    → Written k r (buffer_state s1 w1) (buffer_state s2 w2) [] → OnOk r (w2 ≡ []) → Sent k r s0 s2 text
ends_flushed {k} {written} {r} {u} s0 s1 s2 w0 w1 w2 text done none w f sent =
    let all : Written k r (buffer_state s0 w0) (buffer_state s2 w2) (text ++ []) =
    writes_then (subst (λ q. Written k q (buffer_state s0 w0) (buffer_state s1 w1) text) done w) f in
    sent_text r s0 s2 w0 w2 text none sent (subst (λ t. Written k r (buffer_state s0 w0) (buffer_state s2 w2) t) (append-nil text) all)
