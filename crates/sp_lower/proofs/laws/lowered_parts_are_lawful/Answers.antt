use Rattle.sp_lower.proofs.LawfulLemmas.{lawful_model}
use Rattle.sp_lower.proofs.laws.lowered_parts_are_lawful.Goals as goal

pub returns : goal.returns
returns c =
    lawful_model
    (record {
      lawful = c.collected_terms_are_lawful.ensures.lawful;
      narrow = c.collected_terms_are_lawful.ensures.narrow;
      turned_lawful = c.turned_terms_are_lawful.ensures.lawful;
      turned_wide = c.turned_terms_are_lawful.ensures.wide;
    })
