use Rattle.std.proofs.Common.{◌≡◌, List, [], Option, None, Some, ℤ, ◌∷◌, arith}
use Rattle.sp_model.specs.declared.gaps.Gaps.{Gaps}
use Rattle.sp_model.specs.declared.parts.ModelParts.{ModelParts}
use Rattle.sp_list.specs.Lists.{IsListAt}
use Rattle.sp_filter.specs.declared.holding.Held.{Held}
use Rattle.sp_filter.specs.Held.{FilterList, Passes}
use Rattle.sp_populate.specs.Listings.{IsPassedListAt}
use Rattle.sp_populate.proofs.populate_laws.lists_without_filters.Goals as goal

none-held : (hs : List Held) (x : List ℤ) → hs ≡ [] → Passes hs x
none-held [] x e = λ k d h. absurd (omega (arith, h))
none-held (g ∷ hs) x e = cc

unfiltered : (m : ModelParts) (gaps : Gaps) (fs : FilterList) (best : Option ℤ) (xs : List (List ℤ)) → fs.held ≡ [] → IsPassedListAt m gaps fs best xs → IsListAt m gaps best xs
unfiltered m gaps fs None xs none h = h
unfiltered m gaps fs (Some best) xs none h = record {
  ascending = h.ascending;
  exact = λ x. (
    λ k. let l = (h.exact x).0 k in record { feasible = l.feasible; near = l.near },
    λ k. (h.exact x).1 (record { feasible = k.feasible; passes = none-held fs.held x none; near = k.near }),
  );
}

pub returns : goal.returns
returns c = unfiltered
