-- Texts that are written one behind the other are one text.
use Rattle.std.specs.Prelude.{Result, Ok, Err, OnOk, OnErr, IsTrue, Bool, true, false, if◌then◌else◌}
use Rattle.std.specs.Borrow.{Bor}
use Rattle.std.proofs.Common.{◌≡◌, ℕ, suc, ◌+◌, ◌<◌, ◌≤◌, List, [], ◌++◌, length, get_or, take, drop, Option, None, Some, refl, sym, ap, ◌∙◌, subst, arith, add-one}
use Rattle.std.proofs.Math.Seq.{drop-cons, take-add}
use Rattle.std.proofs.lemmas.List.{append_assoc, append-nil, take-append-drop}
use Rattle.sp_base.specs.Counts.{Rose}
use Rattle.sp_base.specs.Told.{append, AppendsPart, Grows}
use Rattle.sp_base.proofs.ToldLemmas.{append-some, append-nothing, append-append, part_of_front, part_behind}
use Rattle.sp_base.specs.declared.sinks.SinkEnd.{SinkEnd}
use Rattle.sp_base.specs.declared.sinks.SinkEnd.TheVariants as sunk
use Rattle.sp_base.specs.Writing.{Puts, SinkState, Written, WrittenSoFar, joined}

pub grows_none : (told : Option (List ℕ)) → Grows told told
grows_none told = record { more = []; told = sym (append-nothing told) }

pub grows_same : (old new : Option (List ℕ)) → new ≡ old → Grows old new
grows_same old new same = record { more = []; told = same ∙ sym (append-nothing old) }

pub grows_by : (old new : Option (List ℕ)) (more : List ℕ) → new ≡ append old more → Grows old new
grows_by old new more told = record { more = more; told = told }

pub grows_if : (old new more : List ℕ) (b : Bool) → new ≡ (if b then old ++ more else old) → Grows (Some old) (Some new)
grows_if old new more true e = record { more = more; told = ap Some e ∙ sym (append-some old more) }
grows_if old new more false e = record { more = []; told = ap Some e ∙ sym (append-nothing (Some old)) }

pub ruleset grows_rules = (grows_same, grows_by)

pub grows_then : {a b c : Option (List ℕ)} → Grows a b → Grows b c → Grows a c
grows_then {a} {b} {c} p q = record { more = p.more ++ q.more; told = q.told ∙ ap (λ told. append told q.more) p.told ∙ append-append a p.more q.more }

-- nothing is written
pub writes_nothing : (k : Bool) (s : SinkState) (text : List ℕ) → text ≡ [] → Written k (Ok tt) s s text
writes_nothing k s text e = record {
  put = sym (ap (append s.held) e ∙ append-nothing s.held);
  grown = grows_none s.sent;
  later = omega arith;
  same = refl;
  fault = λ h. cc;
  no_memory = λ h. cc;
}

puts_then : (r : Result (Unit {0}) SinkEnd) (a b c : Option (List ℕ)) (first second : List ℕ) → b ≡ append a first → Puts r b c second → Puts r a c (first ++ second)
puts_then (Ok done) a b c first second e h = h ∙ ap (λ told. append told second) e ∙ append-append a first second
puts_then (Err end) a b c first second e h = part_behind first e h

-- one text is written, and then another
pub writes_then : {k : Bool} {a b c : SinkState} {u : Unit {0}} {r : Result (Unit {0}) SinkEnd} {first second : List ℕ}
    → Written k (Ok u) a b first → Written k r b c second → Written k r a c (first ++ second)
writes_then {k} {a} {b} {c} {u} {r} {first} {second} p q = record {
  put = puts_then r a.held b.held c.held first second p.put q.put;
  grown = grows_then p.grown q.grown;
  later = omega (arith, p.later, q.later);
  same = q.same ∙ p.same;
  fault = λ h. omega (arith, p.later, q.fault h);
  no_memory = q.no_memory;
}

-- the first text fails
pub first_fails : {k : Bool} {a b : SinkState} {end : SinkEnd} {first : List ℕ} (second : List ℕ) → Written k (Err end) a b first → Written k (Err end) a b (first ++ second)
first_fails second p = record {
  put = part_of_front second p.put;
  grown = p.grown;
  later = p.later;
  same = p.same;
  fault = p.fault;
  no_memory = p.no_memory;
}

-- the same where the answer to the first text is known by an equation, and the text in another form
pub both_written : (k : Bool) (a b c : SinkState) (q r : Result (Unit {0}) SinkEnd) (first second text : List ℕ)
    → q ≡ Ok tt → Written k q a b first → Written k r b c second → text ≡ first ++ second → Written k r a c text
both_written k a b c q r first second text is p w e =
    subst (λ t. Written k r a c t) (sym e) (writes_then (subst (λ x. Written k x a b first) is p) w)

pub one_failed : (k : Bool) (a b : SinkState) (end : SinkEnd) (q : Result (Unit {0}) SinkEnd) (first second text : List ℕ)
    → q ≡ Err end → Written k q a b first → text ≡ first ++ second → Written k (Err end) a b text
one_failed k a b end q first second text is p e =
    subst (λ t. Written k (Err end) a b t) (sym e) (first_fails second (subst (λ x. Written k x a b first) is p))

-- nothing is written yet
pub written_none : (k : Bool) (s : SinkState) (text left : List ℕ) → text ≡ left → WrittenSoFar k s s text left
written_none k s text left e = record { part = []; whole = e; writes = writes_nothing k s [] refl }

-- a piece more of what is left
pub written_step : {k : Bool} {a b c : SinkState} {u : Unit {0}} {text rest : List ℕ} (piece left : List ℕ)
    → WrittenSoFar k a b text rest → rest ≡ piece ++ left → Written k (Ok u) b c piece → WrittenSoFar k a c text left
written_step {k} {a} {b} {c} {u} {text} {rest} piece left p e q = record {
  part = p.part ++ piece;
  whole = p.whole ∙ ap (λ xs. p.part ++ xs) e ∙ sym (append_assoc p.part piece left);
  writes = writes_then p.writes q;
}

-- the sink failed in the next piece
pub written_fails : {k : Bool} {a b c : SinkState} {end : SinkEnd} {text rest : List ℕ} (piece left : List ℕ)
    → WrittenSoFar k a b text rest → rest ≡ piece ++ left → Written k (Err end) b c piece → Written k (Err end) a c text
written_fails {k} {a} {b} {c} {end} {text} {rest} piece left p e q =
    subst (λ t. Written k (Err end) a c t) (sym (p.whole ∙ ap (λ xs. p.part ++ xs) e)) (writes_then p.writes (first_fails left q))

-- nothing is left
pub written_all : (k : Bool) (a b : SinkState) (text left : List ℕ) → WrittenSoFar k a b text left → left ≡ [] → Written k (Ok tt) a b text
written_all k a b text left p none =
    subst (λ t. Written k (Ok tt) a b t) (sym (p.whole ∙ ap (λ xs. p.part ++ xs) none ∙ append-nil p.part)) p.writes

-- the same where the answer to the next piece is known by an equation
pub piece_written : (k : Bool) (a b c : SinkState) (q : Result (Unit {0}) SinkEnd) (text rest piece left : List ℕ)
    → WrittenSoFar k a b text rest → rest ≡ piece ++ left → q ≡ Ok tt → Written k q b c piece → WrittenSoFar k a c text left
piece_written k a b c q text rest piece left p e is w = written_step piece left p e (subst (λ x. Written k x b c piece) is w)

pub piece_failed : (k : Bool) (a b c : SinkState) (end : SinkEnd) (q : Result (Unit {0}) SinkEnd) (text rest piece left : List ℕ)
    → WrittenSoFar k a b text rest → rest ≡ piece ++ left → q ≡ Err end → Written k q b c piece → Written k (Err end) a c text
piece_failed k a b c end q text rest piece left p e is w = written_fails piece left p e (subst (λ x. Written k x b c piece) is w)

pub ruleset step_rules = (written_none, written_step, written_fails, written_all)

-- one piece more of a list of pieces
pub joined_drop : (ps : List (Bor (List ℕ))) (i : ℕ) (d : Bor (List ℕ)) → i < length ps → joined (drop i ps) ≡ (get_or ps i d).now ++ joined (drop (i + 1) ps)
joined_drop ps i d h = rw (add-one, drop-cons ps i d h)

-- one write took a front part of what was left of a piece
pub write_took : {k : Bool} {a b c : SinkState} {back : List ℕ} (piece : List ℕ) (at count : ℕ) → Written k (Ok tt) a b (take at piece) → back ≡ drop at piece
    → c.held ≡ append b.held (take count back) → Grows b.sent c.sent → b.faults ≤ c.faults → c.name ≡ b.name → Written k (Ok tt) a c (take (at + count) piece)
write_took {k} {a} {b} {c} {back} piece at count p is took grown later same =
    let one : Written k (Ok tt) b c (take count back) = record { put = took; grown = grown; later = later; same = same; fault = λ h. cc; no_memory = λ h. cc } in
    subst (λ t. Written k (Ok tt) a c t) (ap (λ xs. take at piece ++ take count xs) is ∙ sym (take-add at count piece)) (writes_then p one)

-- one write failed, and some front part of the piece was written before
pub write_failed : {k : Bool} {a b c : SinkState} {end : SinkEnd} {piece : List ℕ} (at : ℕ) → Written k (Ok tt) a b (take at piece)
    → c.held ≡ b.held → Grows b.sent c.sent → b.faults ≤ c.faults → c.name ≡ b.name → (end ≡ sunk.Fault → Rose b.faults c.faults) → (end ≡ sunk.NoMemory → IsTrue k)
    → Written k (Err end) a c piece
write_failed {k} {a} {b} {c} {end} {piece} at p kept grown later same fault no_memory = record {
  put = record { part = take at piece; rest = drop at piece; whole = sym (take-append-drop at piece); told = kept ∙ p.put };
  grown = grows_then p.grown grown;
  later = omega (arith, p.later, later);
  same = same ∙ p.same;
  fault = λ h. let e : end ≡ sunk.Fault = cc in omega (arith, p.later, fault e);
  no_memory = λ h. let e : end ≡ sunk.NoMemory = cc in no_memory e;
}
