-- Paths from a box: each branch takes one part of a split, and can be taken back by the range that it changed.
use Rattle.std.specs.Prelude.{◌≡◌, cond, List, [], ◌∷◌, map, ℤ, pos, ◌+ℤ◌}
use Rattle.sp_model.specs.Boxes.{Bounds, range_at, below, above, CanSplit}
use Rattle.sp_activity.specs.declared.trails.Branch.{Branch}
use Rattle.sp_activity.specs.declared.trails.Past.{Past}

-- the part of the box that the branch takes
abbrev pub child : Bounds → Branch → Bounds
child b c = cond c.above (above b c.var c.at) (below b c.var c.at)

-- what it leaves of the range of its variable
abbrev pub left_of : ℤ × ℤ → Branch → ℤ × ℤ
left_of r c = cond c.above (c.at +ℤ pos 1, r.1) (r.0, c.at)

-- the box at the end of a path
abbrev pub leads : Bounds → List Branch → Bounds
leads b [] = b
leads b (c ∷ cs) = leads (child b c) cs

-- each branch is a part of a lawful split
abbrev pub IsPath : Bounds → List Branch → Type 0
IsPath b [] = Unit {0}
IsPath b (c ∷ cs) = CanSplit b c.var c.at × IsPath (child b c) cs

abbrev pub branches : List Past → List Branch
branches trail = map (λ p. p.branch) trail

-- each branch of the trail is lawful, and the range beside it is the one that its variable had before
abbrev pub IsTrail : Bounds → List Past → Type 0
IsTrail b [] = Unit {0}
IsTrail b (p ∷ ps) = CanSplit b p.branch.var p.branch.at × (range_at b p.branch.var ≡ p.range) × IsTrail (child b p.branch) ps

-- the trail leads from one box to another
pub record IsTrailTo (root : Bounds) (trail : List Past) (b : Bounds) : Type 0 where
  pub lawful : IsTrail root trail
  pub reached : leads root (branches trail) ≡ b
