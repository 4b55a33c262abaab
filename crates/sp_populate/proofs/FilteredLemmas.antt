-- The list is that of the model without the points that don't pass.
use Rattle.std.proofs.Common.{◌≡◌, List, [], filter, Option, None, Some, ℤ, refl}
use Rattle.std.proofs.lemmas.List.Kept.{IsStrictlySortedBy-filter}
use Rattle.sp_model.specs.declared.gaps.Gaps.{Gaps}
use Rattle.sp_model.specs.declared.parts.ModelParts.{ModelParts}
use Rattle.sp_model.specs.Cuts.{cut_of}
use Rattle.sp_list.specs.Lists.{IsList, list_of, point_cmp}
use Rattle.sp_filter.specs.Held.{FilterList}
use Rattle.sp_populate.specs.Listings.{IsFiltered, IsPassedList, IsPassedListAt, passes}
use Rattle.sp_populate.proofs.ListLemmas.{points_total}
use Rattle.sp_populate.proofs.MemberLemmas.{before_filter, contains_filter, passes_filter}
use Rattle.sp_populate.proofs.OrderLemmas.{same_sorted}
use Rattle.sp_populate.proofs.TestLemmas.{passes-from, passes-to}

-- the points of a list that pass are the list with the filters
pub filtered_passes : (m : ModelParts) (cut : ℤ) (fs : FilterList) (whole : List (List ℤ)) → IsList m cut whole → IsPassedList m cut fs (filter (passes fs) whole)
filtered_passes m cut fs whole h = record {
  ascending = IsStrictlySortedBy-filter (point_cmp m) (passes fs) whole h.ascending;
  exact = λ x. (
    λ k.
        let was = (h.exact x).0 (before_filter (passes fs) whole x k) in
        record { feasible = was.feasible; passes = passes-to fs.held x (passes_filter (passes fs) whole x k); near = was.near },
    λ k. contains_filter (passes fs) whole x (passes-from fs.held x k.passes) ((h.exact x).1 (record { feasible = k.feasible; near = k.near })),
  );
}

-- one list at most
pub one_list : (m : ModelParts) (cut : ℤ) (fs : FilterList) (xs ys : List (List ℤ)) → IsPassedList m cut fs xs → IsPassedList m cut fs ys → xs ≡ ys
one_list m cut fs xs ys h k = same_sorted (points_total m) xs ys h.ascending k.ascending (λ z. (λ i. (k.exact z).1 ((h.exact z).0 i), λ i. (h.exact z).1 ((k.exact z).0 i)))

abbrev pub HasList : ModelParts → Type 0
HasList m = (cut : ℤ) → IsList m cut (list_of m cut)

pub filtered : (m : ModelParts) (gaps : Gaps) (fs : FilterList) (best : Option ℤ) (xs : List (List ℤ)) → HasList m → IsPassedListAt m gaps fs best xs → IsFiltered m gaps fs best xs
filtered m gaps fs None xs there h = record { whole = []; listed = refl; filtered = h }
filtered m gaps fs (Some best) xs there h =
    let cut = cut_of best gaps m.scale in
    record {
      whole = list_of m cut;
      listed = there cut;
      filtered = one_list m cut fs xs (filter (passes fs) (list_of m cut)) h (filtered_passes m cut fs (list_of m cut) (there cut));
    }
