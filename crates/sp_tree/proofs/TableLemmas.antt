-- A table with one more list.
use Rattle.std.proofs.Common.{◌≡◌, ◌≢◌, ℕ, ◌+◌, ◌<◌, ◌≤◌, inl, inr, List, [], ◌∷◌, ◌++◌, length, Contains, refl, sym, ap, ◌∙◌, arith, length-append}
use Rattle.std.proofs.lemmas.List.{get_or_append_left, map-append}
use Rattle.std.proofs.lemmas.Bool.{cases_lt}
use Rattle.sp_dual.specs.Lists.{MultiplierList, zero_list}
use Rattle.sp_tree.specs.Tables.{list_at, table_weight, IsTable, IsPlaceOf}
use Rattle.sp_tree.specs.InnerTables.{print_of, IsKeptTable}
use Rattle.sp_tree.proofs.ListLemmas.{default-any, item-last}

weight-append : (ms : List MultiplierList) (m : MultiplierList) → table_weight (ms ++ (m ∷ [])) ≡ table_weight ms + (length m.y + 1)
weight-append [] m = omega arith
weight-append (n ∷ ms) m = let rest = weight-append ms m in omega (arith, rest)

-- each list weighs at least 1
pub few-lists : (ms : List MultiplierList) → length ms ≤ table_weight ms
few-lists [] = omega arith
few-lists (m ∷ ms) = let rest = few-lists ms in omega (arith, rest)

pub list-there : (ms : List MultiplierList) (m : MultiplierList) (k : ℕ) → k < length ms → list_at ms k ≡ m → Contains ms m
list-there ms m k l e = (k, l, default-any ms k m zero_list l ∙ e)

pub list-nowhere : (ms : List MultiplierList) (m : MultiplierList) → ((k : ℕ) → k < length ms → list_at ms k ≢ m) → ¬ Contains ms m
list-nowhere ms m h c = h c.0 c.1 (default-any ms c.0 zero_list m c.1 ∙ c.2)

pub table-more : (ms : List MultiplierList) (m : MultiplierList) → IsTable ms → ¬ Contains ms m → table_weight ms + (length m.y + 1) ≤ 8000000 → IsTable (ms ++ (m ∷ []))
table-more ms m t new light =
    let long : length (ms ++ (m ∷ [])) ≡ length ms + 1 = length-append ms (m ∷ []) in
    let filled = t.filled in
    let weighs = weight-append ms m in
    record {
      filled = omega (arith, long);
      first = get_or_append_left ms (m ∷ []) zero_list 0 filled ∙ t.first;
      distinct = λ j k j-lt-k k-in e.
          let left : list_at (ms ++ (m ∷ [])) j ≡ list_at ms j = get_or_append_left ms (m ∷ []) zero_list j (omega (arith, long, j-lt-k, k-in)) in
          elim (cases_lt k (length ms)) [
            | inl l ↦ t.distinct j k j-lt-k l (sym left ∙ e ∙ get_or_append_left ms (m ∷ []) zero_list k l)
            | inr l ↦
                let at : k ≡ length ms = omega (arith, long, k-in, l) in
                let last : list_at (ms ++ (m ∷ [])) k ≡ m = rw at (item-last ms m zero_list) in
                new (list-there ms m j (omega (arith, j-lt-k, at)) (sym left ∙ e ∙ last))
          ];
      light = omega (arith, weighs, light);
    }

pub kept-more : (ms : List MultiplierList) (weight : ℕ) (prints : List ℕ) (m : MultiplierList) → IsKeptTable ms weight prints → ¬ Contains ms m → weight + (length m.y + 1) ≤ 8000000
    → IsKeptTable (ms ++ (m ∷ [])) (weight + (length m.y + 1)) (prints ++ (print_of m ∷ []))
kept-more ms weight prints m k new light =
    let weighed = k.weighed in
    let weighs = weight-append ms m in
    record {
      table = table-more ms m k.table new (omega (arith, weighed, light));
      weighed = omega (arith, weighed, weighs);
      printed = ap (λ l. l ++ (print_of m ∷ [])) k.printed ∙ sym (map-append print_of ms (m ∷ []));
    }

pub placed : (ms : List MultiplierList) (m : MultiplierList) → ¬ Contains ms m → IsPlaceOf m ms (ms ++ (m ∷ [])) (length ms)
placed ms m new =
    let long : length (ms ++ (m ∷ [])) ≡ length ms + 1 = length-append ms (m ∷ []) in
    record { known = omega (arith, long); equal = item-last ms m zero_list; there = λ c. absurd (new c); added = λ n. (refl, refl) }

pub found : (ms : List MultiplierList) (m : MultiplierList) (k : ℕ) → k < length ms → list_at ms k ≡ m → IsPlaceOf m ms ms k
found ms m k l e = record { known = l; equal = e; there = λ c. refl; added = λ n. absurd (n (list-there ms m k l e)) }
