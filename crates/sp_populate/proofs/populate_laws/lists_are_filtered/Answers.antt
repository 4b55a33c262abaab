use Rattle.std.proofs.Common.{refl}
use Rattle.sp_list.specs.Lists.{list_of}
use Rattle.sp_populate.proofs.FilteredLemmas.{filtered}
use Rattle.sp_populate.proofs.populate_laws.lists_are_filtered.Goals as goal

pub returns : goal.returns
returns c m gaps fs best xs lawful h = filtered m gaps fs best xs (λ cut. (c.list_is_list_of.ensures m cut (list_of m cut) lawful).1 refl) h
