-- A bound that is computed number by number, each time ending where one passes 128 bits, is the bound of the definition.
use Rattle.std.proofs.Common.{◌≡◌, ℕ, suc, Bool, true, false, ◌&&◌, cond, List, [], ◌∷◌, ◌++◌, map, Option, Some, None, ℤ, pos, ◌+ℤ◌, ◌-ℤ◌, refl, sym, ap, ◌∙◌, arith}
use Rattle.std.specs.List.{list_all}
use Rattle.std.proofs.lemmas.Int.{ints}
use Rattle.std.proofs.lemmas.List.Folds.{list_all-append}
use Rattle.sp_model.specs.declared.parts.Row.{Row}
use Rattle.sp_model.specs.declared.parts.ModelParts.{ModelParts}
use Rattle.sp_model.specs.Boxes.{Bounds}
use Rattle.sp_model.specs.Rounds.{ceiling_of}
use Rattle.sp_sums.specs.Extremes.{term_least}
use Rattle.sp_dual.specs.Lists.{MultiplierList}
use Rattle.sp_bound.specs.Bounds.{Weight, addends, all_variable_numbers, bound_number, bound_of, fits, least_values, left_of, named_numbers, reduced_cost, scaled_cost, share_numbers, share_of, side_product, sums_from, total, variable_numbers}
use Rattle.sp_bound.specs.Inner.{ended, is_reduced, least_value, minus, minus_shares, plus, plus_sides, plus_values, reduced}

-- the number, where all that was looked at fits
abbrev pub held : Bool → ℤ → Option ℤ
held p z = cond p (Some z) None

plus-held : (p q : Bool) (s v : ℤ) → plus (held p s) (held q v) ≡ held ((p && q) && fits (s +ℤ v)) (s +ℤ v)
plus-held true true s v = refl
plus-held true false s v = refl
plus-held false q s v = refl

minus-held : (p q : Bool) (s v : ℤ) → minus (held p s) (held q v) ≡ held ((p && q) && fits (s -ℤ v)) (s -ℤ v)
minus-held true true s v = refl
minus-held true false s v = refl
minus-held false q s v = refl

and-true : (p : Bool) → (p && true) ≡ p
and-true true = refl
and-true false = refl

and-assoc : (p q r : Bool) → ((p && q) && r) ≡ (p && (q && r))
and-assoc true q r = refl
and-assoc false q r = refl

-- one test more, and what is looked at after it
regroup : (p a b r : Bool) → (((p && a) && b) && r) ≡ (p && (a && (b && r)))
regroup true true b r = refl
regroup true false b r = refl
regroup false a b r = refl

-- the same for two lists of tests
part_ways : (p a b r s : Bool) → (((p && a) && b) && (r && s)) ≡ (p && ((a && r) && (b && s)))
part_ways true true true r s = refl
part_ways true true false true s = refl
part_ways true true false false s = refl
part_ways true false b r s = refl
part_ways false a b r s = refl

move-sum : (s a t : ℤ) → (s +ℤ a) +ℤ t ≡ s +ℤ (a +ℤ t)
move-sum s a t = omega (arith, ints)

add-none : (s : ℤ) → s +ℤ pos 0 ≡ s
add-none s = omega (arith, ints)

-- ---- reduced costs

pub shares-held : (rows : List Row) (j : ℕ) (p : Bool) (r : ℤ) (ws : List Weight) → minus_shares rows j (held p r) ws ≡ held (p && list_all fits (share_numbers rows j r ws)) (left_of rows j r ws)
shares-held rows j p r [] = ap (λ q. held q r) (sym (and-true p))
shares-held rows j p r (w ∷ ws) =
    ap (λ s. minus_shares rows j s ws) (minus-held p (fits (share_of rows j w)) r (share_of rows j w))
    ∙ shares-held rows j ((p && fits (share_of rows j w)) && fits (r -ℤ share_of rows j w)) (r -ℤ share_of rows j w) ws
    ∙ ap (λ q. held q (left_of rows j (r -ℤ share_of rows j w) ws)) (regroup p (fits (share_of rows j w)) (fits (r -ℤ share_of rows j w)) (list_all fits (share_numbers rows j (r -ℤ share_of rows j w) ws)))

pub reduced-held : (m : ModelParts) (l : MultiplierList) (j : ℕ) → reduced m l j ≡ held (is_reduced m l j) (reduced_cost m l j)
reduced-held m l j = shares-held m.rows j (fits (scaled_cost m l j)) (scaled_cost m l j) l.y

-- ---- the sides

sides-held : (b : Bounds) (rows : List Row) (p : Bool) (s : ℤ) (ws : List Weight) → plus_sides b rows (held p s) ws ≡ held (p && (list_all fits (map (side_product b rows) ws) && list_all fits (sums_from s (map (side_product b rows) ws)))) (s +ℤ total (map (side_product b rows) ws))
sides-held b rows true s [] = ap (λ v. held true v) (sym (add-none s))
sides-held b rows false s [] = refl
sides-held b rows p s (w ∷ ws) =
    ap (λ v. plus_sides b rows v ws) (plus-held p (fits (side_product b rows w)) s (side_product b rows w))
    ∙ sides-held b rows ((p && fits (side_product b rows w)) && fits (s +ℤ side_product b rows w)) (s +ℤ side_product b rows w) ws
    ∙ ap (λ q. held q ((s +ℤ side_product b rows w) +ℤ total (map (side_product b rows) ws))) (part_ways p (fits (side_product b rows w)) (fits (s +ℤ side_product b rows w)) (list_all fits (map (side_product b rows) ws)) (list_all fits (sums_from (s +ℤ side_product b rows w) (map (side_product b rows) ws))))
    ∙ ap (λ v. held (p && ((fits (side_product b rows w) && list_all fits (map (side_product b rows) ws)) && (fits (s +ℤ side_product b rows w) && list_all fits (sums_from (s +ℤ side_product b rows w) (map (side_product b rows) ws))))) v) (move-sum s (side_product b rows w) (total (map (side_product b rows) ws)))

-- ---- the variables

least-held : (q : Bool) (c : ℤ) (r : ℤ × ℤ) → least_value (held q c) r ≡ held (q && fits (term_least c r)) (term_least c r)
least-held true c r = refl
least-held false c r = refl

-- the numbers of a variable fit where those of its reduced cost and its least value do
pub variable-fits : (m : ModelParts) (l : MultiplierList) (j : ℕ) (r : ℤ × ℤ) → list_all fits (variable_numbers m l j r) ≡ (is_reduced m l j && fits (term_least (reduced_cost m l j) r))
variable-fits m l j r =
    ap (λ q. fits (scaled_cost m l j) && q) (list_all-append fits (share_numbers m.rows j (scaled_cost m l j) l.y) (term_least (reduced_cost m l j) r ∷ []) ∙ ap (λ q. list_all fits (share_numbers m.rows j (scaled_cost m l j) l.y) && q) (and-true (fits (term_least (reduced_cost m l j) r))))
    ∙ sym (and-assoc (fits (scaled_cost m l j)) (list_all fits (share_numbers m.rows j (scaled_cost m l j) l.y)) (fits (term_least (reduced_cost m l j) r)))

value-held : (m : ModelParts) (l : MultiplierList) (j : ℕ) (r : ℤ × ℤ) → least_value (reduced m l j) r ≡ held (list_all fits (variable_numbers m l j r)) (term_least (reduced_cost m l j) r)
value-held m l j r =
    ap (λ c. least_value c r) (reduced-held m l j)
    ∙ least-held (is_reduced m l j) (reduced_cost m l j) r
    ∙ ap (λ q. held q (term_least (reduced_cost m l j) r)) (sym (variable-fits m l j r))

values-held : (m : ModelParts) (l : MultiplierList) (j : ℕ) (p : Bool) (s : ℤ) (rs : Bounds) → plus_values (reduced m l) j (held p s) rs ≡ held (p && (list_all fits (all_variable_numbers m l j rs) && list_all fits (sums_from s (least_values m l j rs)))) (s +ℤ total (least_values m l j rs))
values-held m l j true s [] = ap (λ v. held true v) (sym (add-none s))
values-held m l j false s [] = refl
values-held m l j p s (r ∷ rs) =
    let v = term_least (reduced_cost m l j) r in
    let a = list_all fits (variable_numbers m l j r) in
    let more = list_all fits (sums_from (s +ℤ v) (least_values m l (suc j) rs)) in
    ap (λ (z : Option ℤ). plus_values (reduced m l) (suc j) z rs) (ap (λ (z : Option ℤ). plus (held p s) z) (value-held m l j r) ∙ plus-held p a s v)
    ∙ values-held m l (suc j) ((p && a) && fits (s +ℤ v)) (s +ℤ v) rs
    ∙ ap (λ (q : Bool). held q ((s +ℤ v) +ℤ total (least_values m l (suc j) rs))) (part_ways p a (fits (s +ℤ v)) (list_all fits (all_variable_numbers m l (suc j) rs)) more ∙ ap (λ (q : Bool). p && (q && (fits (s +ℤ v) && more))) (sym (list_all-append fits (variable_numbers m l j r) (all_variable_numbers m l (suc j) rs))))
    ∙ ap (λ (z : ℤ). held (p && (list_all fits (variable_numbers m l j r ++ all_variable_numbers m l (suc j) rs) && (fits (s +ℤ v) && more))) z) (move-sum s v (total (least_values m l (suc j) rs)))

-- ---- the whole

sums_from-append : (s : ℤ) (xs ys : List ℤ) → sums_from s (xs ++ ys) ≡ sums_from s xs ++ sums_from (s +ℤ total xs) ys
sums_from-append s [] ys = ap (λ v. sums_from v ys) (sym (add-none s))
sums_from-append s (x ∷ xs) ys =
    ap (λ vs. (s +ℤ x) ∷ vs) (sums_from-append (s +ℤ x) xs ys ∙ ap (λ v. sums_from (s +ℤ x) xs ++ sums_from v ys) (move-sum s x (total xs)))

pub total-append : (xs ys : List ℤ) → total (xs ++ ys) ≡ total xs +ℤ total ys
total-append [] ys = omega (arith, ints)
total-append (x ∷ xs) ys = omega (arith, ints, total-append xs ys)

mix : (a b c d e : Bool) → (((a && b) && (c && d)) && e) ≡ (a && (c && ((b && d) && (e && true))))
mix false b c d e = refl
mix true false true d e = refl
mix true false false d e = refl
mix true true false d e = refl
mix true true true false e = refl
mix true true true true true = refl
mix true true true true false = refl

ended-held : (m : ModelParts) (l : MultiplierList) (p : Bool) (s : ℤ) → ended m l (held p s) ≡ held (p && fits (ceiling_of s l.d +ℤ m.constant)) (ceiling_of s l.d +ℤ m.constant)
ended-held m l true s = refl
ended-held m l false s = refl

-- the tests of all numbers, in the order of the definition
all-fit : (m : ModelParts) (b : Bounds) (l : MultiplierList) → list_all fits (named_numbers m b l) ≡ (list_all fits (map (side_product b m.rows) l.y) && (list_all fits (all_variable_numbers m l 0 b) && ((list_all fits (sums_from (pos 0) (map (side_product b m.rows) l.y)) && list_all fits (sums_from (pos 0 +ℤ total (map (side_product b m.rows) l.y)) (least_values m l 0 b))) && (fits (bound_number m b l) && true))))
all-fit m b l =
    let sides = map (side_product b m.rows) l.y in
    let values = least_values m l 0 b in
    let vars = all_variable_numbers m l 0 b in
    let sums = sums_from (pos 0) (addends m b l) in
    let last = bound_number m b l ∷ [] in
    list_all-append fits sides (vars ++ (sums ++ last))
    ∙ ap (λ (q : Bool). list_all fits sides && q) (
    list_all-append fits vars (sums ++ last)
    ∙ ap (λ (q : Bool). list_all fits vars && q) (
    list_all-append fits sums last
    ∙ ap (λ (q : Bool). q && list_all fits last) (
    ap (list_all fits) (sums_from-append (pos 0) sides values)
    ∙ list_all-append fits (sums_from (pos 0) sides) (sums_from (pos 0 +ℤ total sides) values))))

same-total : (xs ys : List ℤ) → (pos 0 +ℤ total xs) +ℤ total ys ≡ total (xs ++ ys)
same-total xs ys = omega (arith, ints, total-append xs ys)

pub bound-held : (m : ModelParts) (b : Bounds) (l : MultiplierList) → ended m l (plus_values (reduced m l) 0 (plus_sides b m.rows (Some (pos 0)) l.y) b) ≡ bound_of m b l
unfolding bound_of
bound-held m b l =
    let sides = map (side_product b m.rows) l.y in
    let values = least_values m l 0 b in
    let p = list_all fits sides in
    let q = list_all fits (sums_from (pos 0) sides) in
    let v = list_all fits (all_variable_numbers m l 0 b) in
    let w = list_all fits (sums_from (pos 0 +ℤ total sides) values) in
    ap (λ (s : Option ℤ). ended m l (plus_values (reduced m l) 0 s b)) (sides-held b m.rows true (pos 0) l.y)
    ∙ ap (ended m l) (values-held m l 0 (p && q) (pos 0 +ℤ total sides) b)
    ∙ ended-held m l ((p && q) && (v && w)) ((pos 0 +ℤ total sides) +ℤ total values)
    ∙ ap (λ (z : ℤ). held (((p && q) && (v && w)) && fits (ceiling_of z l.d +ℤ m.constant)) (ceiling_of z l.d +ℤ m.constant)) (same-total sides values)
    ∙ ap (λ (t : Bool). held t (bound_number m b l)) (mix p q v w (fits (bound_number m b l)) ∙ sym (all-fit m b l))

-- the same in three steps
pub bound_told : (m n : ModelParts) (b : Bounds) (l : MultiplierList) (sides sum result : Option ℤ) → n ≡ m → sides ≡ plus_sides b n.rows (Some (pos 0)) l.y → sum ≡ plus_values (reduced n l) 0 sides b → result ≡ ended n l sum → result ≡ bound_of m b l
bound_told m n b l sides sum result same first second third =
    third
    ∙ ap (ended n l) (second ∙ ap (λ (s : Option ℤ). plus_values (reduced n l) 0 s b) first)
    ∙ bound-held n b l
    ∙ ap (λ (p : ModelParts). bound_of p b l) same
