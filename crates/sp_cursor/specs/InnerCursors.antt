-- What private functions of a cursor say: parts of a split, and the way down to another node.
use Rattle.std.specs.Prelude.{◌≡◌, ℕ, Bool, cond, Option, Some, List, [], ◌∷◌, ℤ, pos, ◌+ℤ◌}
use Rattle.sp_tree.specs.Splits.{IsChild, Parts, parts_at}
use Rattle.sp_tree.specs.Trees.{TreeOf, splits}
use Rattle.sp_cursor.specs.declared.cursors.Cut.{Cut}

-- what a part of a split leaves of the range of its variable
abbrev pub part_of : ℤ × ℤ → ℤ → Bool → ℤ × ℤ
part_of r at lower = cond lower (r.0, at) (at +ℤ pos 1, r.1)

-- how a node is split, without its upper part
pub record IsCutOf (parts : Option Parts) (c : Cut) : Type 0 where
  pub right : ℕ
  pub parts_are : parts ≡ Some (record { var = c.var; at = c.at; left = c.left; right = right })

-- the first of these nodes, node n where there is none
abbrev pub first_node : List ℕ → ℕ → ℕ
first_node [] n = n
first_node (k ∷ ks) n = k

-- each node is a part of the next one, and the last of node n
abbrev pub IsLine : List (Option Parts) → List ℕ → ℕ → Type 0
IsLine parts [] n = Unit {0}
IsLine parts (k ∷ ks) n = IsChild (parts_at parts (first_node ks n)) k × IsLine parts ks n

-- the way down from node n to another one, whose last node stands first
pub record IsWayDown (t : TreeOf) (path : List ℕ) (n to : ℕ) : Type 0 where
  pub line : IsLine (splits t.nodes) path n
  pub end : first_node path n ≡ to
