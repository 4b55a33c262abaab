-- How what is told behaves when bytes come at its end or stand in its front.
use Rattle.std.proofs.Common.{◌≡◌, ℕ, ◌+◌, List, [], ◌++◌, take, drop, Option, None, Some, refl, sym, ap, ◌∙◌}
use Rattle.std.proofs.lemmas.List.{append_assoc, append-nil}
use Rattle.std.proofs.Math.Seq.{take-add}
use Rattle.sp_base.specs.Told.{append, prepend, AppendsPart}

pub append-some : (held bytes : List ℕ) → append (Some held) bytes ≡ Some (held ++ bytes)
unfolding append
append-some held bytes = refl

pub append-none : (bytes : List ℕ) → append None bytes ≡ None
unfolding append
append-none bytes = refl

pub append-nothing : (told : Option (List ℕ)) → append told [] ≡ told
unfolding append
append-nothing None = refl
append-nothing (Some held) = ap Some (append-nil held)

pub append-append : (told : Option (List ℕ)) (first then : List ℕ) → append (append told first) then ≡ append told (first ++ then)
unfolding append
append-append None first then = refl
append-append (Some held) first then = ap Some (append_assoc held first then)

pub prepend-some : (bytes left : List ℕ) → prepend bytes (Some left) ≡ Some (bytes ++ left)
unfolding prepend
prepend-some bytes left = refl

pub prepend-none : (bytes : List ℕ) → prepend bytes None ≡ None
unfolding prepend
prepend-none bytes = refl

pub prepend-nothing : (told : Option (List ℕ)) → prepend [] told ≡ told
unfolding prepend
prepend-nothing None = refl
prepend-nothing (Some left) = refl

pub prepend-prepend : (first then : List ℕ) (told : Option (List ℕ)) → prepend first (prepend then told) ≡ prepend (first ++ then) told
unfolding prepend
prepend-prepend first then None = refl
prepend-prepend first then (Some left) = ap Some (sym (append_assoc first then left))

pub ruleset told_laws = (append-some, append-none, append-nothing, append-append, prepend-some, prepend-none, prepend-nothing, prepend-prepend)

-- nothing came
pub part_none : (old new : Option (List ℕ)) (bytes : List ℕ) → new ≡ old → AppendsPart old new bytes
part_none old new bytes same = record { part = []; rest = bytes; whole = refl; told = same ∙ sym (append-nothing old) }

-- all came
pub part_whole : (old new : Option (List ℕ)) (bytes : List ℕ) → new ≡ append old bytes → AppendsPart old new bytes
part_whole old new bytes all = record { part = bytes; rest = []; whole = sym (append-nil bytes); told = all }

-- a part of the front is a part of the whole
pub part_of_front : {old new : Option (List ℕ)} {front : List ℕ} (back : List ℕ) → AppendsPart old new front → AppendsPart old new (front ++ back)
part_of_front {front = front} back p =
    record { part = p.part; rest = p.rest ++ back; whole = ap (λ xs. xs ++ back) p.whole ∙ append_assoc p.part p.rest back; told = p.told }

-- the whole front came, and then a part of the back
pub part_behind : {old mid new : Option (List ℕ)} {back : List ℕ} (front : List ℕ) → mid ≡ append old front → AppendsPart mid new back → AppendsPart old new (front ++ back)
part_behind {old = old} front before p =
    record {
      part = front ++ p.part;
      rest = p.rest;
      whole = ap (λ xs. front ++ xs) p.whole ∙ sym (append_assoc front p.part p.rest);
      told = p.told ∙ ap (λ told. append told p.part) before ∙ append-append old front p.part;
    }

-- a front of the piece came, and then a front of what lies behind it
pub append_front : (old mid new : Option (List ℕ)) (piece back : List ℕ) (at count : ℕ)
    → mid ≡ append old (take at piece) → back ≡ drop at piece → new ≡ append mid (take count back)
    → new ≡ append old (take (at + count) piece)
append_front old mid new piece back at count before is after =
    after ∙ ap (λ told. append told (take count back)) before ∙ append-append old (take at piece) (take count back)
    ∙ ap (λ xs. append old (take at piece ++ take count xs)) is ∙ ap (append old) (sym (take-add at count piece))

-- for callers that write one piece after another
pub ruleset parts = (part_none, part_whole, part_of_front, part_behind)
