-- How members are linked in the pool's order. No public clause cites this module.
use Rattle.std.specs.Prelude.{◌≡◌, ℕ, zero, suc, Bool, false, not, ◌==◌, cond, List, [], ◌∷◌, length, map, filter, Option, None, Some}
use Rattle.std.specs.List.{list_any}
use Rattle.std.specs.Option.{option_map_or}
use Rattle.slab.specs.Slab.{Slab, get, slab_len}
use Rattle.sp_pool.specs.declared.members.Member.{Member}
use Rattle.sp_pool.specs.declared.nodes.Node.{Node}

-- a member under its key
abbrev pub Keyed : Type 0
Keyed = ℕ × Member

-- a line as its calls show it: the members in order, each under its key, and how many fit with no more memory
pub record Row : Type 0 where
  pub items : List Keyed
  pub capacity : ℕ

abbrev pub keys : List Keyed → List ℕ
keys ps = map (λ p. p.0) ps

abbrev pub members_in : List Keyed → List Member
members_in ps = map (λ p. p.1) ps

-- whether the key is a member's
abbrev pub has_key : ℕ → List Keyed → Bool
has_key key ps = list_any (λ p. p.0 == key) ps

-- no key stands twice
abbrev pub AreApart : List Keyed → Type 0
AreApart [] = Unit {0}
AreApart (p ∷ ps) = (has_key p.0 ps ≡ false) × AreApart ps

-- the members without the one under this key
abbrev pub without_key : ℕ → List Keyed → List Keyed
without_key key ps = filter (λ p. not (p.0 == key)) ps

-- the member under this key
abbrev pub member_at : ℕ → List Keyed → Option Member
member_at key [] = None
member_at key (p ∷ ps) = cond (p.0 == key) (Some p.1) (member_at key ps)

-- the first key, or the one behind the members
abbrev pub first_key : List Keyed → Option ℕ → Option ℕ
first_key [] after = after
first_key (p ∷ ps) after = Some p.0

-- the last key, or the one before the members
abbrev pub last_key : Option ℕ → List Keyed → Option ℕ
last_key before [] = before
last_key before (p ∷ ps) = last_key (Some p.0) ps

abbrev pub node_of : Member → Option ℕ → Option ℕ → Node
node_of m before after = record { member = m; before = before; after = after }

-- each member stands under its key, and names the keys beside it
abbrev pub Links : Slab Node → Option ℕ → List Keyed → Option ℕ → Type 0
Links s before [] after = Unit {0}
Links s before (p ∷ ps) after = (get s p.0 ≡ Some (node_of p.1 before (first_key ps after))) × Links s (Some p.0) ps after

-- so many members from this key on
abbrev pub walk : Slab Node → ℕ → Option ℕ → List Keyed
walk s zero key = []
walk s (suc n) None = []
walk s (suc n) (Some key) = option_map_or (λ node. (key, node.member) ∷ walk s n node.after) (get s key) []

-- the node's key becomes the next one
abbrev pub with_after : Option ℕ → Node → Node
with_after after node = record node { after = after }

abbrev pub with_before : Option ℕ → Node → Node
with_before before node = record node { before = before }

-- a slot with its node changed
abbrev pub changed : (Node → Node) → Option Node → Option Node
changed f None = None
changed f (Some node) = Some (f node)

-- what stands under a key where the node of one key, if one is given, is changed
abbrev pub relinked : Option ℕ → (Node → Node) → ℕ → Option Node → Option Node
relinked None f key slot = slot
relinked (Some changes) f key slot = cond (changes == key) (changed f slot) slot

-- the slab after the node of one key, if one is given, has changed
pub record Relinks (old new : Slab Node) (at : Option ℕ) (f : Node → Node) : Type 0 where
  pub each : (key : ℕ) → get new key ≡ relinked at f key (get old key)
  pub len : slab_len new ≡ slab_len old
  pub capacity : new.capacity ≡ old.capacity

-- an end of the line: the key given, where no node stands there
abbrev pub end_with : Option ℕ → Option ℕ → Option ℕ → Option ℕ
end_with None key old = key
end_with (Some node) key old = old

-- the slots are the members, linked in their order, and no key stands twice
pub record IsLinked (s : Slab Node) (first last : Option ℕ) (ps : List Keyed) : Type 0 where
  pub links : Links s None ps None
  pub first_is : first ≡ first_key ps None
  pub last_is : last ≡ last_key None ps
  pub apart : AreApart ps
  pub count : slab_len s ≡ length ps
  pub only : (key : ℕ) → has_key key ps ≡ false → get s key ≡ None
