use Rattle.std.proofs.Common.{◌≡◌, ◌+◌, ◌++◌, ◌∷◌, [], length, Contains, ap, ◌∙◌, arith}
use Rattle.std.proofs.lemmas.List.{length-map}
use Rattle.sp_tree.specs.InnerTables.{print_of, IsKeptTable}
use Rattle.sp_tree.proofs.TableLemmas.{few-lists, kept-more}
use Rattle.sp_tree.proofs.tables.Table.add.Goals as goal

pub overflow_cast-place : goal.overflow_cast-place
overflow_cast-place c =
    let few = few-lists c.self.inside.lists.items in
    let weighed = c.self.invariant.weighed in
    let light = c.self.invariant.table.light in
    omega (arith, few, weighed, light)

pub add-requires : goal.add-requires
add-requires c =
    let few = few-lists c.self.inside.lists.items in
    let weighed = c.self.invariant.weighed in
    let light = c.self.invariant.table.light in
    let long : length c.self.inside.index ≡ length c.self.inside.lists.items = ap length c.self.invariant.printed ∙ length-map c.self.inside.lists.items print_of in
    omega (arith, few, weighed, light, long)

kept : (c : goal.After-self-1) → IsKeptTable c.push_reserved.new.self.items (c.self.inside.weight + (length c.entries.result.now + 1)) c.add.new.self
kept c =
    let new : ¬ Contains c.self.inside.lists.items c.args.list = rw (← c.self.view_is) at c.requires.new in
    let lists : c.push_reserved.new.self.items ≡ c.self.inside.lists.items ++ (c.args.list ∷ []) = c.push_reserved.ensures.items ∙ ap (λ l. l ++ (c.args.list ∷ [])) c.reserve.ensures.items in
    let prints : c.add.new.self ≡ c.self.inside.index ++ (print_of c.args.list ∷ []) = c.in_ok-add.ensures.ok ∙ ap (λ p. c.self.inside.index ++ (p ∷ [])) c.requires.print in
    rw (lists, prints, c.entries.ensures.same)
    (kept-more c.self.inside.lists.items c.self.inside.weight c.self.inside.index c.args.list c.self.invariant new (let e = ap length c.entries.ensures.same in omega (arith, e)))

pub invariant_of-self-2 : goal.invariant_of-self-2
invariant_of-self-2 c = kept c

pub returns-clause-table : goal.returns-clause-table
returns-clause-table c = (kept c).table
