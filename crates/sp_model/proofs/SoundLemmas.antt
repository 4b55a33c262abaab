-- The rules of the rounds keep every point that is feasible.
use Rattle.std.proofs.Common.{◌≡◌, ◌≢◌, ℕ, zero, suc, ◌<◌, ◌≤◌, Bool, true, false, ◌&&◌, cond, List, [], ◌∷◌, ◌++◌, length, get_or, set, fold, All, Option, None, Some, option_map, unwrap_or, IsSome, is_some, ℤ, pos, negsuc, ◌+ℤ◌, ◌-ℤ◌, ◌*ℤ◌, ◌≤ℤ◌, ◌<ℤ◌, int_lt, int_le, leb, refl, sym, ap, ◌∙◌, subst, inl, inr, ◌⊎◌, arith}
use Rattle.std.specs.Int.RustNames.{unsigned_abs}
use Rattle.std.proofs.Math.IntN.{zero-*ℤ, suc_ℤ-*ℤ, pred_ℤ-*ℤ}
use Rattle.std.proofs.lemmas.Bool.{and_parts, cases_eq, cases_lt}
use Rattle.std.proofs.lemmas.Int.{ints}
use Rattle.std.proofs.lemmas.List.{get_or-set_other, get_or-set_same, get_or_past, set_past, append_assoc}
use Rattle.std.proofs.lemmas.List.Elements.{All-head, All-tail}
use Rattle.sp_model.specs.declared.parts.ModelParts.{ModelParts}
use Rattle.sp_model.specs.declared.parts.Row.{Row}
use Rattle.sp_model.specs.Boxes.{coordinate, IsBetween, IsWithin}
use Rattle.sp_model.specs.Limits.{greatest_bound, greatest_width, most_rounds}
use Rattle.sp_model.specs.Models.{Feasible, root_of, row_holds}
use Rattle.sp_model.specs.Rounds.{takes_part, least_end, greatest_end, if_small, times, plus, minus, at_ends, sum_at_ends, floor_of, ceiling_of, hi_upper, hi_lower, lo_lower, lo_upper, closed_by, after_rules, close_variable, close_along, close_row, round, rounds, rounded, closed}
use Rattle.sp_model.specs.Rules.{HasClosedBox}
use Rattle.sp_model.specs.Stated.{OpenRange, OpenBounds, IsClosedRange, KeepsRange, KeepsBounds, is_at_least, is_at_most, is_semi, open_at, stated_of}
use Rattle.sp_model.specs.Sums.{Term, sum_at}
use Rattle.sp_model.proofs.ClosedLemmas.{range_of_root}
use Rattle.sp_model.proofs.QuotientLemmas.{floor_exact, floor_exact_below, ceiling_exact, ceiling_exact_below}
use Rattle.sp_model.proofs.RoundLemmas.{length_root, length_rounded}
use Rattle.sp_model.proofs.StatedLemmas.{length_stated}
use Rattle.sp_model.proofs.TailLemmas.{none_stays}

-- ---- bounds as facts

test_le : (a b : ℤ) → int_le a b ≡ true → a ≤ℤ b
test_le a b h = grind (arith, ints)

le_test : (a b : ℤ) → a ≤ℤ b → int_le a b ≡ true
le_test a b h = grind (arith, ints)

test_lt : (a b : ℤ) → int_lt a b ≡ true → a <ℤ b
test_lt a b h = grind (arith, ints)

test_not_lt : (a b : ℤ) → int_lt a b ≡ false → b ≤ℤ a
test_not_lt a b h = grind (arith, ints)

lower_keeps : (o : Option ℤ) (l v : ℤ) → is_at_least o v ≡ true → o ≡ Some l → l ≤ℤ v
lower_keeps o l v h e = test_le l v (rw e at h)

upper_keeps : (o : Option ℤ) (u v : ℤ) → is_at_most o v ≡ true → o ≡ Some u → v ≤ℤ u
upper_keeps o u v h e = test_le v u (rw e at h)

-- the point keeps the bounds of every variable
pub record KeepsAll (b : OpenBounds) (x : List ℤ) : Type 0 where
  pub each : (j : ℕ) → KeepsRange (open_at b j) (coordinate x j)

keeps_all : (b : OpenBounds) (x : List ℤ) → KeepsBounds b x → KeepsAll b x
keeps_all b x h = record {
  each = λ j. elim (cases_lt j (length b)) [
    | inl known ↦ h.each j known
    | inr past ↦ rw (get_or_past b j (None, None) past) (record { least = refl; greatest = refl })
  ];
}

-- ---- products and order

mul-le : (n : ℕ) (u v : ℤ) → u ≤ℤ v → (pos n *ℤ u) ≤ℤ (pos n *ℤ v)
mul-le zero u v h = omega (arith, ints, zero-*ℤ u, zero-*ℤ v)
mul-le (suc n) u v h = omega (arith, ints, mul-le n u v h, suc_ℤ-*ℤ (pos n) u, suc_ℤ-*ℤ (pos n) v)

mul-ge : (n : ℕ) (u v : ℤ) → u ≤ℤ v → (negsuc n *ℤ v) ≤ℤ (negsuc n *ℤ u)
mul-ge zero u v h = omega (arith, ints, zero-*ℤ u, zero-*ℤ v, pred_ℤ-*ℤ (pos 0) u, pred_ℤ-*ℤ (pos 0) v)
mul-ge (suc n) u v h = omega (arith, ints, mul-ge n u v h, pred_ℤ-*ℤ (negsuc n) u, pred_ℤ-*ℤ (negsuc n) v)

times_le : (a u v : ℤ) → pos 0 <ℤ a → u ≤ℤ v → (a *ℤ u) ≤ℤ (a *ℤ v)
times_le (pos n) u v h l = mul-le n u v l
times_le (negsuc n) u v h l = absurd (omega (arith, ints, h))

times_ge : (a u v : ℤ) → a ≤ℤ pos 0 → u ≤ℤ v → (a *ℤ v) ≤ℤ (a *ℤ u)
times_ge (pos zero) u v h l = omega (arith, ints, zero-*ℤ u, zero-*ℤ v)
times_ge (pos (suc n)) u v h l = absurd (omega (arith, ints, h))
times_ge (negsuc n) u v h l = mul-ge n u v l

-- a term at its least end isn't above its value
least_term : (a : ℤ) (r : OpenRange) (v e : ℤ) → KeepsRange r v → least_end a r ≡ Some e → (a *ℤ e) ≤ℤ (a *ℤ v)
least_term a r v e k h = sign_case (int_lt (pos 0) a) refl h
  where
    sign_case : (s : Bool) → int_lt (pos 0) a ≡ s → cond s r.0 r.1 ≡ Some e → (a *ℤ e) ≤ℤ (a *ℤ v)
    sign_case true p q = times_le a e v (test_lt (pos 0) a p) (lower_keeps r.0 e v k.least q)
    sign_case false p q = times_ge a v e (test_not_lt (pos 0) a p) (upper_keeps r.1 e v k.greatest q)

-- at its greatest end it isn't below
greatest_term : (a : ℤ) (r : OpenRange) (v e : ℤ) → KeepsRange r v → greatest_end a r ≡ Some e → (a *ℤ v) ≤ℤ (a *ℤ e)
greatest_term a r v e k h = sign_case (int_lt (pos 0) a) refl h
  where
    sign_case : (s : Bool) → int_lt (pos 0) a ≡ s → cond s r.1 r.0 ≡ Some e → (a *ℤ v) ≤ℤ (a *ℤ e)
    sign_case true p q = times_le a v e (test_lt (pos 0) a p) (upper_keeps r.1 e v k.greatest q)
    sign_case false p q = times_ge a e v (test_not_lt (pos 0) a p) (lower_keeps r.0 e v k.least q)

-- ---- what a number that is there was made of

small_back : (z r : ℤ) → if_small z ≡ Some r → r ≡ z
small_back z r h = small_case (leb (unsigned_abs z) greatest_width) h
  where
    small_case : (c : Bool) → cond c (Some z) None ≡ Some r → r ≡ z
    small_case true e = cc
    small_case false e = cc

times_back : (a : ℤ) (o : Option ℤ) (r : ℤ) → times a o ≡ Some r → (e : ℤ) × (o ≡ Some e) × (r ≡ a *ℤ e)
times_back a None r h = cc
times_back a (Some e) r h = (e, refl, small_back (a *ℤ e) r h)

plus_back : (s : ℤ) (o : Option ℤ) (r : ℤ) → plus (Some s) o ≡ Some r → (v : ℤ) × (o ≡ Some v) × (r ≡ s +ℤ v)
plus_back s None r h = cc
plus_back s (Some v) r h = (v, refl, small_back (s +ℤ v) r h)

minus_back : (side sum : Option ℤ) (d : ℤ) → minus side sum ≡ Some d → (h : ℤ) × (r : ℤ) × (side ≡ Some h) × (sum ≡ Some r) × (d ≡ h -ℤ r)
minus_back None sum d e = cc
minus_back (Some h) None d e = cc
minus_back (Some h) (Some r) d e = (h, r, refl, refl, small_back (h -ℤ r) d e)

sum_back : (o : Option ℤ) (vs : List (Option ℤ)) (r : ℤ) → fold plus o vs ≡ Some r → (s : ℤ) × (o ≡ Some s)
sum_back None vs r h = let n = none_stays vs in cc
sum_back (Some s) vs r h = (s, refl)

-- ---- a sum at ends and the sum at a point

least_sum : (b : OpenBounds) (x : List ℤ) (ts : List Term) (s r : ℤ) → KeepsAll b x → fold plus (Some s) (at_ends least_end b ts) ≡ Some r → r ≤ℤ (s +ℤ sum_at ts x)
least_sum b x [] s r k h = let e : s ≡ r = cc in omega (arith, ints, e)
least_sum b x (t ∷ ts) s r k h =
    let f = sum_back (plus (Some s) (times t.1 (least_end t.1 (open_at b t.0)))) (at_ends least_end b ts) r h in
    let p = plus_back s (times t.1 (least_end t.1 (open_at b t.0))) f.0 f.1 in
    let q = times_back t.1 (least_end t.1 (open_at b t.0)) p.0 p.1 in
    let term = least_term t.1 (open_at b t.0) (coordinate x t.0) q.0 (k.each t.0) q.1 in
    let rest = least_sum b x ts f.0 r k (sym (ap (λ o. fold plus o (at_ends least_end b ts)) f.1) ∙ h) in
    omega (arith, ints, rest, term, p.2, q.2)

greatest_sum : (b : OpenBounds) (x : List ℤ) (ts : List Term) (s r : ℤ) → KeepsAll b x → fold plus (Some s) (at_ends greatest_end b ts) ≡ Some r → (s +ℤ sum_at ts x) ≤ℤ r
greatest_sum b x [] s r k h = let e : s ≡ r = cc in omega (arith, ints, e)
greatest_sum b x (t ∷ ts) s r k h =
    let f = sum_back (plus (Some s) (times t.1 (greatest_end t.1 (open_at b t.0)))) (at_ends greatest_end b ts) r h in
    let p = plus_back s (times t.1 (greatest_end t.1 (open_at b t.0))) f.0 f.1 in
    let q = times_back t.1 (greatest_end t.1 (open_at b t.0)) p.0 p.1 in
    let term = greatest_term t.1 (open_at b t.0) (coordinate x t.0) q.0 (k.each t.0) q.1 in
    let rest = greatest_sum b x ts f.0 r k (sym (ap (λ o. fold plus o (at_ends greatest_end b ts)) f.1) ∙ h) in
    omega (arith, ints, rest, term, p.2, q.2)

sum_split : (before after : List Term) (t : Term) (x : List ℤ) → sum_at (before ++ t ∷ after) x ≡ (t.1 *ℤ coordinate x t.0) +ℤ sum_at (before ++ after) x
sum_split [] after t x = refl
sum_split (u ∷ before) after t x = omega (arith, ints, sum_split before after t x)

-- ---- the rules

picked : (c : Bool) (f : ℤ → ℤ) (o : Option ℤ) (n : ℤ) → cond c (option_map f o) None ≡ Some n → (d : ℤ) × (c ≡ true) × (o ≡ Some d) × (n ≡ f d)
picked true f None n e = cc
picked true f (Some d) n e = (d, refl, refl, cc)
picked false f o n e = cc

-- the other terms' sum lies between the two that the row takes
pub record IsRest (least greatest : Option ℤ) (rest : ℤ) : Type 0 where
  pub low : (r : ℤ) → least ≡ Some r → r ≤ℤ rest
  pub high : (r : ℤ) → greatest ≡ Some r → rest ≤ℤ r

hi_upper_sound : (hi least greatest : Option ℤ) (a v rest n : ℤ) → is_at_most hi ((a *ℤ v) +ℤ rest) ≡ true → IsRest least greatest rest → hi_upper hi a least ≡ Some n → v ≤ℤ n
hi_upper_sound hi least greatest a v rest n h w e =
    let p = picked (int_lt (pos 0) a) (λ d. floor_of d a) (minus hi least) n e in
    let m = minus_back hi least p.0 p.2 in
    let top = upper_keeps hi m.0 ((a *ℤ v) +ℤ rest) h m.2 in
    let f = (floor_exact p.0 a v (test_lt (pos 0) a p.1)).0 (omega (arith, ints, top, w.low m.1 m.3, m.4)) in
    omega (arith, ints, f, p.3)

hi_lower_sound : (hi least greatest : Option ℤ) (a v rest n : ℤ) → is_at_most hi ((a *ℤ v) +ℤ rest) ≡ true → IsRest least greatest rest → hi_lower hi a least ≡ Some n → n ≤ℤ v
hi_lower_sound hi least greatest a v rest n h w e =
    let p = picked (int_lt a (pos 0)) (λ d. ceiling_of d a) (minus hi least) n e in
    let m = minus_back hi least p.0 p.2 in
    let top = upper_keeps hi m.0 ((a *ℤ v) +ℤ rest) h m.2 in
    let f = (ceiling_exact_below p.0 a v (test_lt a (pos 0) p.1)).0 (omega (arith, ints, top, w.low m.1 m.3, m.4)) in
    omega (arith, ints, f, p.3)

lo_lower_sound : (lo least greatest : Option ℤ) (a v rest n : ℤ) → is_at_least lo ((a *ℤ v) +ℤ rest) ≡ true → IsRest least greatest rest → lo_lower lo a greatest ≡ Some n → n ≤ℤ v
lo_lower_sound lo least greatest a v rest n h w e =
    let p = picked (int_lt (pos 0) a) (λ d. ceiling_of d a) (minus lo greatest) n e in
    let m = minus_back lo greatest p.0 p.2 in
    let top = lower_keeps lo m.0 ((a *ℤ v) +ℤ rest) h m.2 in
    let f = (ceiling_exact p.0 a v (test_lt (pos 0) a p.1)).0 (omega (arith, ints, top, w.high m.1 m.3, m.4)) in
    omega (arith, ints, f, p.3)

lo_upper_sound : (lo least greatest : Option ℤ) (a v rest n : ℤ) → is_at_least lo ((a *ℤ v) +ℤ rest) ≡ true → IsRest least greatest rest → lo_upper lo a greatest ≡ Some n → v ≤ℤ n
lo_upper_sound lo least greatest a v rest n h w e =
    let p = picked (int_lt a (pos 0)) (λ d. floor_of d a) (minus lo greatest) n e in
    let m = minus_back lo greatest p.0 p.2 in
    let top = lower_keeps lo m.0 ((a *ℤ v) +ℤ rest) h m.2 in
    let f = (floor_exact_below p.0 a v (test_lt a (pos 0) p.1)).0 (omega (arith, ints, top, w.high m.1 m.3, m.4)) in
    omega (arith, ints, f, p.3)

closed_upper : (o number : Option ℤ) (v : ℤ) → is_at_most o v ≡ true → ((n : ℤ) → number ≡ Some n → v ≤ℤ n) → is_at_most (closed_by o number) v ≡ true
closed_upper (Some u) number v h k = h
closed_upper None None v h k = refl
closed_upper None (Some n) v h k = bound_case (leb (unsigned_abs n) greatest_bound)
  where
    bound_case : (c : Bool) → is_at_most (cond c (Some n) None) v ≡ true
    bound_case true = le_test v n (k n refl)
    bound_case false = refl

closed_lower : (o number : Option ℤ) (v : ℤ) → is_at_least o v ≡ true → ((n : ℤ) → number ≡ Some n → n ≤ℤ v) → is_at_least (closed_by o number) v ≡ true
closed_lower (Some u) number v h k = h
closed_lower None None v h k = refl
closed_lower None (Some n) v h k = bound_case (leb (unsigned_abs n) greatest_bound)
  where
    bound_case : (c : Bool) → is_at_least (cond c (Some n) None) v ≡ true
    bound_case true = le_test n v (k n refl)
    bound_case false = refl

rules_keep : (row : Row) (a : ℤ) (r : OpenRange) (least greatest : Option ℤ) (v rest : ℤ) → KeepsRange r v → is_at_least row.lo ((a *ℤ v) +ℤ rest) ≡ true → is_at_most row.hi ((a *ℤ v) +ℤ rest) ≡ true → IsRest least greatest rest → KeepsRange (after_rules row a r least greatest) v
rules_keep row a r least greatest v rest k lo hi w = record {
  least = closed_lower (closed_by r.0 (hi_lower row.hi a least)) (lo_lower row.lo a greatest) v
      (closed_lower r.0 (hi_lower row.hi a least) v k.least (λ n e. hi_lower_sound row.hi least greatest a v rest n hi w e))
      (λ n e. lo_lower_sound row.lo least greatest a v rest n lo w e);
  greatest = closed_upper (closed_by r.1 (hi_upper row.hi a least)) (lo_upper row.lo a greatest) v
      (closed_upper r.1 (hi_upper row.hi a least) v k.greatest (λ n e. hi_upper_sound row.hi least greatest a v rest n hi w e))
      (λ n e. lo_upper_sound row.lo least greatest a v rest n lo w e);
}

-- ---- rows and rounds

write_keeps : (b : OpenBounds) (x : List ℤ) (v : ℕ) (r : OpenRange) → KeepsAll b x → KeepsRange r (coordinate x v) → KeepsAll (set b v r) x
write_keeps b x v r h k = record {
  each = λ j. elim (cases_eq j v) [
    | inl same ↦ elim (cases_lt v (length b)) [
      | inl known ↦ subst (λ i. KeepsRange (open_at (set b v r) i) (coordinate x i)) (sym same)
          (subst (λ s. KeepsRange s (coordinate x v)) (sym (get_or-set_same b v r (None, None) known)) k)
      | inr past ↦ subst (λ c. KeepsRange (open_at c j) (coordinate x j)) (sym (set_past b v r past)) (h.each j)
    ]
    | inr other ↦ subst (λ s. KeepsRange s (coordinate x j)) (sym (get_or-set_other b v j r (None, None) other)) (h.each j)
  ];
}

rest_between : (b : OpenBounds) (x : List ℤ) (others : List Term) → KeepsAll b x → IsRest (sum_at_ends least_end b others) (sum_at_ends greatest_end b others) (sum_at others x)
rest_between b x others h = record {
  low = λ r e. let l = least_sum b x others (pos 0) r h e in omega (arith, ints, l);
  high = λ r e. let l = greatest_sum b x others (pos 0) r h e in omega (arith, ints, l);
}

variable_keeps : (semi : ℕ → Bool) (row : Row) (b : OpenBounds) (x : List ℤ) (before after : List Term) (t : Term) → KeepsAll b x → row_holds row x ≡ true → row.terms ≡ before ++ t ∷ after → KeepsAll (close_variable semi row b t (before ++ after)) x
variable_keeps semi row b x before after t h holds e =
    let s : sum_at row.terms x ≡ (t.1 *ℤ coordinate x t.0) +ℤ sum_at (before ++ after) x = ap (λ ts. sum_at ts x) e ∙ sum_split before after t x in
    let p = and_parts (is_at_least row.lo (sum_at row.terms x)) (is_at_most row.hi (sum_at row.terms x)) holds in
    let made = rules_keep row t.1 (open_at b t.0) (sum_at_ends least_end b (before ++ after)) (sum_at_ends greatest_end b (before ++ after)) (coordinate x t.0) (sum_at (before ++ after) x) (h.each t.0)
    (subst (λ v. is_at_least row.lo v ≡ true) s p.0) (subst (λ v. is_at_most row.hi v ≡ true) s p.1) (rest_between b x (before ++ after) h) in
    write_case (semi t.0) made
  where
    write_case : (c : Bool) → KeepsRange (after_rules row t.1 (open_at b t.0) (sum_at_ends least_end b (before ++ after)) (sum_at_ends greatest_end b (before ++ after))) (coordinate x t.0) → KeepsAll (cond c b (set b t.0 (after_rules row t.1 (open_at b t.0) (sum_at_ends least_end b (before ++ after)) (sum_at_ends greatest_end b (before ++ after))))) x
    write_case true k = h
    write_case false k = write_keeps b x t.0 _ h k

along_keeps : (semi : ℕ → Bool) (row : Row) (b : OpenBounds) (x : List ℤ) (before after : List Term) → KeepsAll b x → row_holds row x ≡ true → row.terms ≡ before ++ after → KeepsAll (close_along semi row b before after) x
along_keeps semi row b x before [] h holds e = h
along_keeps semi row b x before (t ∷ ts) h holds e =
    along_keeps semi row (close_variable semi row b t (before ++ ts)) x (before ++ t ∷ []) ts (variable_keeps semi row b x before ts t h holds e) holds (e ∙ sym (append_assoc before (t ∷ []) ts))

row_keeps : (semi : ℕ → Bool) (b : OpenBounds) (x : List ℤ) (row : Row) → KeepsAll b x → row_holds row x ≡ true → KeepsAll (close_row semi b row) x
row_keeps semi b x row h holds = part_case (takes_part (length b) row)
  where
    part_case : (c : Bool) → KeepsAll (cond c (close_along semi row b [] row.terms) b) x
    part_case true = along_keeps semi row b x [] row.terms h holds refl
    part_case false = h

round_keeps : (semi : ℕ → Bool) (rows : List Row) (b : OpenBounds) (x : List ℤ) → KeepsAll b x → All (λ row. row_holds row x ≡ true) rows → KeepsAll (round semi rows b) x
round_keeps semi [] b x h all = h
round_keeps semi (row ∷ rows) b x h all =
    round_keeps semi rows (close_row semi b row) x (row_keeps semi b x row h (All-head (λ (r : Row). row_holds r x ≡ true) row rows all)) (All-tail (λ (r : Row). row_holds r x ≡ true) row rows all)

rounds_keep : (semi : ℕ → Bool) (rows : List Row) (n : ℕ) (b : OpenBounds) (x : List ℤ) → KeepsAll b x → All (λ row. row_holds row x ≡ true) rows → KeepsAll (rounds semi rows n b) x
unfolding rounds
rounds_keep semi rows zero b x h all = h
rounds_keep semi rows (suc n) b x h all = rounds_keep semi rows n (round semi rows b) x (round_keeps semi rows b x h all) all

rounded_keeps : (m : ModelParts) (x : List ℤ) → Feasible m x → KeepsAll (rounded m) x
unfolding rounded
rounded_keeps m x f = rounds_keep (is_semi m.semi) m.rows most_rounds (stated_of m) x (keeps_all (stated_of m) x f.within) f.rows

-- ---- within the closed box

closed_least : (o : Option ℤ) (v : ℤ) → is_some o ≡ true → is_at_least o v ≡ true → unwrap_or o (pos 0) ≤ℤ v
closed_least None v s h = cc
closed_least (Some l) v s h = test_le l v h

closed_greatest : (o : Option ℤ) (v : ℤ) → is_some o ≡ true → is_at_most o v ≡ true → v ≤ℤ unwrap_or o (pos 0)
closed_greatest None v s h = cc
closed_greatest (Some u) v s h = test_le v u h

between_closed : (r : OpenRange) (v : ℤ) → IsClosedRange r → KeepsRange r v → IsBetween (closed r) v
between_closed r v c k = record { least = closed_least r.0 v c.lower k.least; greatest = closed_greatest r.1 v c.upper k.greatest }

-- every point that is feasible lies within the closed box
pub feasible_within : (m : ModelParts) (x : List ℤ) → HasClosedBox m → Feasible m x → IsWithin (root_of m) x
feasible_within m x h f =
    let paired = h.bounds.variables.paired in
    let long : length (root_of m) ≡ length (stated_of m) = length_root m paired ∙ sym (length_stated m paired) in
    let keeps = rounded_keeps m x f in
    record {
      long = f.within.long ∙ sym long;
      each = λ j l.
          let known : j < length (rounded m) = omega (arith, long, length_rounded m) in
          subst (λ r. IsBetween r (coordinate x j)) (sym (range_of_root m j)) (between_closed (open_at (rounded m) j) (coordinate x j) (h.closed j (None, None) known) (keeps.each j));
    }
