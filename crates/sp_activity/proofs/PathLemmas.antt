-- Branches: what they do to a box, and that they can be taken back.
use Rattle.std.proofs.Common.{◌≡◌, ℕ, ◌<◌, Bool, true, false, cond, List, [], ◌∷◌, ◌++◌, length, set, ℤ, pos, ◌+ℤ◌, ◌≤ℤ◌, ◌<ℤ◌, refl, sym, ap, ◌∙◌, subst, arith}
use Rattle.std.proofs.lemmas.List.{set-set, set-get_or, map-append}
use Rattle.std.proofs.lemmas.Int.{ints}
use Rattle.sp_model.specs.Boxes.{Bounds, range_at, below, above, CanSplit}
use Rattle.sp_sums.specs.Ranges.{IsChange, IsInside, IsPart}
use Rattle.sp_activity.specs.declared.trails.Branch.{Branch}
use Rattle.sp_activity.specs.declared.trails.Past.{Past}
use Rattle.sp_activity.specs.Paths.{IsTrail, IsTrailTo, branches, child, leads, left_of}
use Rattle.sp_activity.proofs.SideLemmas.{above-set, below-set, inside_set}

child_by : (c : Bool) (b : Bounds) (v : ℕ) (at : ℤ) → cond c (above b v at) (below b v at) ≡ set b v (cond c (at +ℤ pos 1, (range_at b v).1) ((range_at b v).0, at))
child_by true b v at = above-set b v at
child_by false b v at = below-set b v at

-- a branch changes one range
pub child-set : (b : Bounds) (c : Branch) → child b c ≡ set b c.var (left_of (range_at b c.var) c)
child-set b c = child_by c.above b c.var c.at

-- and the range before gives the box before
pub child_back : (b : Bounds) (c : Branch) (r : ℤ × ℤ) → range_at b c.var ≡ r → set (child b c) c.var r ≡ b
child_back b c r e =
    ap (λ x. set x c.var r) (child-set b c)
    ∙ set-set b c.var (left_of (range_at b c.var) c) r
    ∙ ap (set b c.var) (sym e)
    ∙ set-get_or b c.var (pos 0, pos 0)

left_by : (c : Bool) (q r : ℤ × ℤ) (at : ℤ) → IsPart q r → r.0 ≤ℤ at → at <ℤ r.1 → IsPart q (cond c (at +ℤ pos 1, r.1) (r.0, at))
left_by true q r at p l g = record { lower = omega (arith, ints, p.lower); filled = omega (arith, ints); upper = p.upper }
left_by false q r at p l g = record { lower = p.lower; filled = l; upper = omega (arith, ints, p.upper) }

-- within the root's range
left_inside : (q r : ℤ × ℤ) (c : Branch) → IsPart q r → r.0 ≤ℤ c.at → c.at <ℤ r.1 → IsPart q (left_of r c)
left_inside q r c p l g = left_by c.above q r c.at p l g

pub left_change : (root b : Bounds) (c : Branch) → IsInside root b → CanSplit b c.var c.at → IsChange root c.var (left_of (range_at b c.var) c)
left_change root b c i s =
    let known : c.var < length root = omega (arith, s.known, i.long) in
    record { known = known; part = left_inside (range_at root c.var) (range_at b c.var) c (i.each c.var known) s.least s.greatest }

leads-push : (b : Bounds) (cs : List Branch) (c : Branch) → leads b (cs ++ c ∷ []) ≡ child (leads b cs) c
leads-push b [] c = refl
leads-push b (d ∷ cs) c = leads-push (child b d) cs c

trail-push : (b : Bounds) (ps : List Past) (p : Past) → IsTrail b ps → CanSplit (leads b (branches ps)) p.branch.var p.branch.at → range_at (leads b (branches ps)) p.branch.var ≡ p.range → IsTrail b (ps ++ p ∷ [])
trail-push b [] p t s e = (s, e, tt)
trail-push b (q ∷ ps) p t s e = (t.0, t.1, trail-push (child b q.branch) ps p t.2 s e)

-- what the last one of a trail says
record IsLast (b : Bounds) (ps : List Past) (p : Past) : Type 0 where
  trail : IsTrail b ps
  split : CanSplit (leads b (branches ps)) p.branch.var p.branch.at
  range : range_at (leads b (branches ps)) p.branch.var ≡ p.range

trail-last : (b : Bounds) (ps : List Past) (p : Past) → IsTrail b (ps ++ p ∷ []) → IsLast b ps p
trail-last b [] p t = record { trail = tt; split = t.0; range = t.1 }
trail-last b (q ∷ ps) p t =
    let rest = trail-last (child b q.branch) ps p t.2 in
    record { trail = (t.0, t.1, rest.trail); split = rest.split; range = rest.range }

branches-push : (ps : List Past) (p : Past) → branches (ps ++ p ∷ []) ≡ branches ps ++ p.branch ∷ []
branches-push ps p = map-append (λ (q : Past). q.branch) ps (p ∷ [])

reached-push : (root : Bounds) (ps : List Past) (p : Past) → leads root (branches (ps ++ p ∷ [])) ≡ child (leads root (branches ps)) p.branch
reached-push root ps p = ap (leads root) (branches-push ps p) ∙ leads-push root (branches ps) p.branch

-- ---- a branch more, and one less

pub pushed : (root b : Bounds) (ps : List Past) (c : Branch) → CanSplit b c.var c.at → IsTrailTo root ps b → IsTrailTo root (ps ++ record { branch = c; range = range_at b c.var } ∷ []) (set b c.var (left_of (range_at b c.var) c))
pushed root b ps c s t =
    let p : Past = record { branch = c; range = range_at b c.var } in
    record {
      lawful = trail-push root ps p t.lawful (rw t.reached s) (rw t.reached refl);
      reached = reached-push root ps p ∙ ap (λ (x : Bounds). child x c) t.reached ∙ child-set b c;
    }

pub popped : (root b : Bounds) (ps : List Past) (p : Past) → IsTrailTo root (ps ++ p ∷ []) b → IsTrailTo root ps (set b p.branch.var p.range)
popped root b ps p t =
    let last : IsLast root ps p = trail-last root ps p t.lawful in
    record {
      lawful = last.trail;
      reached = sym (child_back (leads root (branches ps)) p.branch p.range last.range) ∙ ap (λ (x : Bounds). set x p.branch.var p.range) (sym (reached-push root ps p) ∙ t.reached);
    }

child_inside : (root b : Bounds) (c : Branch) → IsInside root b → CanSplit b c.var c.at → IsInside root (child b c)
child_inside root b c h s =
    let change : IsChange root c.var (left_of (range_at b c.var) c) = left_change root b c h s in
    rw (child-set b c) (inside_set root b c.var (left_of (range_at b c.var) c) s.known h change.part)

leads_inside : (root b : Bounds) (ps : List Past) → IsInside root b → IsTrail b ps → IsInside root (leads b (branches ps))
leads_inside root b [] h t = h
leads_inside root b (p ∷ ps) h t = leads_inside root (child b p.branch) ps (child_inside root b p.branch h t.0) t.2

-- where a box lies in the root's, the root's isn't empty
root_inside : (root b : Bounds) → IsInside root b → IsInside root root
root_inside root b h = record { long = refl; each = λ j l. (let p : IsPart (range_at root j) (range_at b j) = h.each j l in record { lower = omega (arith, ints); filled = omega (arith, ints, p.lower, p.filled, p.upper); upper = omega (arith, ints) }) }

pub back_change : (root b : Bounds) (ps : List Past) (p : Past) → IsInside root b → IsTrailTo root (ps ++ p ∷ []) b → IsChange root p.branch.var p.range
back_change root b ps p i t =
    let last : IsLast root ps p = trail-last root ps p t.lawful in
    let before : IsInside root (leads root (branches ps)) = leads_inside root root ps (root_inside root b i) last.trail in
    let known : p.branch.var < length root = omega (arith, before.long, last.split.known) in
    let part : IsPart (range_at root p.branch.var) (range_at (leads root (branches ps)) p.branch.var) = before.each p.branch.var known in
    record { known = known; part = subst (λ (r : ℤ × ℤ). IsPart (range_at root p.branch.var) r) last.range part }
