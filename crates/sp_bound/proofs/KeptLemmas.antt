-- Kept rows tell what bounds tell, and no list closes a box where none that is looked at does.
use Rattle.std.proofs.Common.{◌≡◌, ◌⊎◌, ℕ, ◌*◌, ◌^◌, ◌<◌, ◌≤◌, Bool, true, false, not, ◌||◌, cond, List, [], ◌∷◌, length, map, get_or, All, Contains, MatchOption, Vec, Global, Option, None, Some, ℤ, pos, ◌+ℤ◌, ◌≤ℤ◌, inl, inr, refl, sym, ap, subst, ◌∙◌, arith}
use Rattle.std.specs.Int.RustNames.{unsigned_abs}
use Rattle.std.proofs.lemmas.Int.{ints}
use Rattle.std.proofs.lemmas.List.Elements.{All-contains}
use Rattle.sp_model.specs.declared.parts.Row.{Row}
use Rattle.sp_model.specs.declared.parts.ModelParts.{ModelParts}
use Rattle.sp_model.specs.Boxes.{Bounds}
use Rattle.sp_model.specs.Models.{root_of}
use Rattle.sp_model.specs.Rounds.{ceiling_of}
use Rattle.sp_model.specs.Rules.{IsLawful}
use Rattle.sp_model.specs.Stated.{is_at_least, is_at_most}
use Rattle.sp_sums.specs.declared.spans.Span.{Span}
use Rattle.sp_sums.specs.Extremes.{is_broken_over, least_over, most_over, span_of}
use Rattle.sp_sums.specs.Ranges.{IsFilled, IsInside}
use Rattle.sp_sums.specs.Rows.{AreUnbroken, IsBrokenAt, IsFirstBroken, RowsOver, row_at}
use Rattle.sp_dual.specs.Lists.{MultiplierList, zero_list}
use Rattle.sp_bound.specs.declared.keeping.Draft.{Draft}
use Rattle.sp_bound.specs.declared.keeping.Owner.{Owner}
use Rattle.sp_bound.specs.declared.kept.KeptBounds.{KeptBounds}
use Rattle.sp_bound.specs.Bounds.{AreRowsKnown, addends, bound_of, fits, least_values, reduced_cost, side_product, total}
use Rattle.sp_bound.specs.Closing.{HasBound, IsClosing, IsIdle, IsLeftOpen, closes, is_above, list_at}
use Rattle.sp_bound.specs.Inner.{IsRising, ended, if_fits}
use Rattle.sp_bound.specs.KeptBounds.{AreCovered, AreOwned, AreRaised, HasRow, IsKeptOf, IsOwned, IsRaised, bounds_of, lists_of, owner_at, threshold_of}
use Rattle.sp_bound.specs.Keeping.{IsDraftOf, StandsOn}
use Rattle.sp_bound.specs.Raising.{IsRaising}
use Rattle.sp_bound.specs.StatedLists.{IsStated, stated_lists}
use Rattle.sp_bound.proofs.HeldLemmas.{total-append}
use Rattle.sp_bound.proofs.IdleLemmas.{idle_closes, least_values_along}
use Rattle.sp_bound.proofs.ReadyLemmas.{all_rising}
use Rattle.sp_bound.proofs.SafeLemmas.{addends-size, bound-safe, ceiling-size, small_fits, total-size, values-size}
use Rattle.sp_bound.proofs.SoundLemmas.{IsCeiling}
use Rattle.sp_bound.proofs.StatedLemmas.{stated_are, stated_first}
use Rattle.sp_bound.proofs.TermLemmas.{terms-least}
use Rattle.sp_bound.proofs.ThresholdLemmas.{side_without}

-- ---- one row

low_none : (lo : Option ℤ) (v : ℤ) → lo ≡ None → not (is_at_least lo v) ≡ false
low_none None v e = refl
low_none (Some u) v e = absurd (cc)

not_not : (p : Bool) → not (not p) ≡ p
not_not true = refl
not_not false = refl

row_values : (m : ModelParts) (b : Bounds) (ls : List MultiplierList) (o : Owner) (row : Row) → IsInside (root_of m) b → IsOwned m ls o row → least_over b row.terms ≡ total (least_values m (list_at ls o.place) 0 b)
row_values m b ls o row inside owned =
    let l = list_at ls o.place in
    ap (least_over b) owned.terms ∙ terms-least (reduced_cost m l) (root_of m) b inside.long ∙ sym (least_values_along m l 0 b)

-- what is added up is the sides and the row's sum
row_sum : (m : ModelParts) (b : Bounds) (ls : List MultiplierList) (o : Owner) (row : Row) → IsInside (root_of m) b → IsOwned m ls o row → total (addends m b (list_at ls o.place)) ≡ o.sides +ℤ least_over b row.terms
row_sum m b ls o row inside owned =
    let l = list_at ls o.place in
    let sides : total (map (side_product b m.rows) l.y) ≡ o.sides = ap total (owned.safe.sided b) ∙ sym owned.sides in
    omega (arith, ints, total-append (map (side_product b m.rows) l.y) (least_values m l 0 b), sides, row_values m b ls o row inside owned)

held_sum : (m : ModelParts) (l : MultiplierList) (s : ℤ) → fits s ≡ true → fits (ceiling_of s l.d +ℤ m.constant) ≡ true → ended m l (if_fits s) ≡ Some (ceiling_of s l.d +ℤ m.constant)
held_sum m l s e f =
    ap (λ (p : Bool). ended m l (cond p (Some s) None)) e
    ∙ ap (λ (p : Bool). cond p (Some (ceiling_of s l.d +ℤ m.constant)) None) f

-- the bound that ends from them is the list's
row_bound : IsCeiling → (m : ModelParts) (b : Bounds) (ls : List MultiplierList) (o : Owner) (row : Row) → IsLawful m → IsInside (root_of m) b → pos 1 ≤ℤ (list_at ls o.place).d → IsOwned m ls o row → ended m (list_at ls o.place) (if_fits (o.sides +ℤ least_over b row.terms)) ≡ bound_of m b (list_at ls o.place)
row_bound c m b ls o row lawful inside one owned =
    let l = list_at ls o.place in
    let s = o.sides +ℤ least_over b row.terms in
    let sum : total (addends m b l) ≡ s = row_sum m b ls o row inside owned in
    let size : unsigned_abs s ≤ 10 ^ 36 = omega (arith, ap unsigned_abs sum, total-size (addends m b l), addends-size m b l inside owned.safe) in
    let quotient : unsigned_abs (ceiling_of s l.d) ≤ 10 ^ 36 = omega (arith, ceiling-size c s l.d one, size) in
    let constant : unsigned_abs m.constant ≤ 10 ^ 36 = omega (arith, lawful.objective.narrow) in
    let number : unsigned_abs (ceiling_of s l.d +ℤ m.constant) ≤ 2 * 10 ^ 36 = omega (arith, ints, quotient, constant) in
    held_sum m l s (small_fits s (omega (arith, size))) (small_fits (ceiling_of s l.d +ℤ m.constant) (omega (arith, number)))
    ∙ sym (bound-safe c m b l one constant inside owned.safe ∙ ap (λ (z : ℤ). Some (ceiling_of z l.d +ℤ m.constant)) sum)

pub row_closes : IsCeiling → (m : ModelParts) (b : Bounds) (t : Option ℤ) (ls : List MultiplierList) (o : Owner) (row : Row) → IsLawful m → IsInside (root_of m) b → pos 1 ≤ℤ (list_at ls o.place).d → IsOwned m ls o row → IsRaised m t ls o row.hi → is_broken_over b row ≡ closes m b t (list_at ls o.place)
row_closes c m b t ls o row lawful inside one owned raised =
    let l = list_at ls o.place in
    let v = least_over b row.terms in
    let values : v ≡ total (least_values m l 0 b) = row_values m b ls o row inside owned in
    let size : unsigned_abs v ≤ 10 ^ 36 = omega (arith, ap unsigned_abs values, total-size (least_values m l 0 b), values-size m l 0 (root_of m) b inside.long inside.each, owned.safe.small) in
    let sum : total (addends m b l) ≡ o.sides +ℤ v = row_sum m b ls o row inside owned in
    let bound : bound_of m b l ≡ Some (ceiling_of (o.sides +ℤ v) l.d +ℤ m.constant) = bound-safe c m b l one (omega (arith, lawful.objective.narrow)) inside owned.safe ∙ ap (λ (z : ℤ). Some (ceiling_of z l.d +ℤ m.constant)) sum in
    ap (λ (p : Bool). p || not (is_at_most row.hi v)) (low_none row.lo (most_over b row.terms) owned.low)
    ∙ ap not (raised.tells v size)
    ∙ not_not (is_above t (Some (ceiling_of (o.sides +ℤ v) l.d +ℤ m.constant)))
    ∙ ap (is_above t) (sym bound)

-- ---- all of them

-- what is known of the kept parts
pub record IsReady (m : ModelParts) (b : Bounds) (t : Option ℤ) (ls : List MultiplierList) (os : List Owner) (rows : List Row) (asked : List ℕ) : Type 0 where
  pub lawful : IsLawful m
  pub inside : IsInside (root_of m) b
  pub stated : ls ≡ stated_lists m
  pub owned : AreOwned m ls os rows
  pub raised : AreRaised m t ls os rows (length rows)
  pub covered : AreCovered m ls os asked (length ls)

each_stated : (m : ModelParts) (ls : List MultiplierList) → IsLawful m → ls ≡ stated_lists m → (k : ℕ) → k < length ls → IsStated m (list_at ls k)
each_stated m ls lawful e k l =
    subst (λ (xs : List MultiplierList). IsStated m (list_at xs k)) (sym e) (stated_are m lawful k zero_list (omega (arith, l, ap length e)))

ready_row : IsCeiling → (m : ModelParts) (b : Bounds) (t : Option ℤ) (ls : List MultiplierList) (os : List Owner) (rows : List Row) (asked : List ℕ) → IsReady m b t ls os rows asked → (k : ℕ) → k < length rows → is_broken_over b (row_at rows k) ≡ closes m b t (list_at ls (owner_at os k).place)
ready_row c m b t ls os rows asked r k l =
    let owned = r.owned.each k l in
    row_closes c m b t ls (owner_at os k) (row_at rows k) r.lawful r.inside (each_stated m ls r.lawful r.stated (owner_at os k).place owned.known).formed.positive owned (r.raised.each k l)

pub closing_row : IsCeiling → (m : ModelParts) (b : Bounds) (t : Option ℤ) (ls : List MultiplierList) (os : List Owner) (rows : List Row) (asked : List ℕ) → IsReady m b t ls os rows asked → (k : ℕ) → IsBrokenAt b rows k → IsClosing m b t ls (owner_at os k).place
closing_row c m b t ls os rows asked r k h = record {
  known = (r.owned.each k h.known).known;
  closes = sym (ready_row c m b t ls os rows asked r k h.known) ∙ h.broken;
}

-- the bound of a row's list, as it ends from the sides and the row's sum
row_bounds : IsCeiling → (m : ModelParts) (k : KeptBounds) (row : ℕ) → IsLawful m → IsInside k.sums.root (bounds_of k) → IsKeptOf m k → row < length k.sums.rows
    → HasBound m (bounds_of k) (lists_of k) (owner_at k.owners row).place (ended m (list_at (lists_of k) (owner_at k.owners row).place) (if_fits ((owner_at k.owners row).sides +ℤ least_over (bounds_of k) (row_at k.sums.rows row).terms)))
row_bounds c m k row lawful inside h known =
    let owned = h.owned.each row known in
    let within : IsInside (root_of m) (bounds_of k) = subst (λ (r : Bounds). IsInside r (bounds_of k)) h.rooted inside in
    let one = (each_stated m (lists_of k) lawful h.stated (owner_at k.owners row).place owned.known).formed.positive in
    record { known = owned.known; exact = row_bound c m (bounds_of k) (lists_of k) (owner_at k.owners row) (row_at k.sums.rows row) lawful within one owned }

-- the same where all of it was read
pub place_read : (m : ModelParts) (k : KeptBounds) (ls : List MultiplierList) (os : List Owner) (row i : ℕ) → IsKeptOf m k → row < length k.sums.rows → ls ≡ lists_of k → os ≡ k.owners → i ≡ row → (owner_at os i).place < length ls
place_read m k ls os row i h known ls-is os-is i-is = rw (ls-is, os-is, i-is) (h.owned.each row known).known

pub row_read : IsCeiling → (m n : ModelParts) (k : KeptBounds) (ls : List MultiplierList) (os : List Owner) (row i : ℕ) (l : MultiplierList) (s : Span) (sum result : Option ℤ)
    → IsLawful m → IsInside k.sums.root (bounds_of k) → IsKeptOf m k → row < length k.sums.rows
    → n ≡ m → ls ≡ lists_of k → os ≡ k.owners → i ≡ row → l ≡ list_at ls (owner_at os i).place → s ≡ span_of (bounds_of k) (row_at k.sums.rows row)
    → sum ≡ if_fits ((owner_at os i).sides +ℤ s.least) → result ≡ ended n l sum
    → HasBound m (bounds_of k) (lists_of k) (owner_at os i).place result
row_read c m n k ls os row i l s sum result lawful inside h known n-is ls-is os-is i-is l-is s-is sum-is result-is =
    rw (result-is, sum-is, s-is, l-is, n-is, ls-is, os-is, i-is) (row_bounds c m k row lawful inside h known)

-- no place that is asked closes
abbrev pub AskedOpen : ModelParts → Bounds → Option ℤ → List MultiplierList → List ℕ → Type 0
AskedOpen m b t ls asked = All (λ p. closes m b t (list_at ls p) ≡ false) asked

not_idle : (m : ModelParts) (ls : List MultiplierList) → ls ≡ stated_lists m → IsIdle m (list_at ls 0) → ⊥
not_idle m ls e h =
    let empty : [] ≡ h.weight ∷ [] = ap (λ (l : MultiplierList). l.y) (sym (stated_first m zero_list)) ∙ ap (λ (xs : List MultiplierList). (list_at xs 0).y) (sym e) ∙ h.alone in
    absurd (cc)

asked_at : (m : ModelParts) (b : Bounds) (t : Option ℤ) (ls : List MultiplierList) (asked : List ℕ) (p : ℕ) → AskedOpen m b t ls asked → Contains asked p → closes m b t (list_at ls p) ≡ false
asked_at m b t ls asked p h c = All-contains (λ (q : ℕ). closes m b t (list_at ls q) ≡ false) asked p h c

row_at_place : IsCeiling → (m : ModelParts) (b : Bounds) (t : Option ℤ) (ls : List MultiplierList) (os : List Owner) (rows : List Row) (asked : List ℕ) → IsReady m b t ls os rows asked → AreUnbroken b rows → (p : ℕ) → HasRow os p → closes m b t (list_at ls p) ≡ false
row_at_place c m b t ls os rows asked r u p h =
    let known : h.row < length rows = omega (arith, h.known, r.owned.paired) in
    ap (λ (q : ℕ). closes m b t (list_at ls q)) (sym h.here) ∙ sym (ready_row c m b t ls os rows asked r h.row known) ∙ u.each h.row known

seen_at : IsCeiling → (m : ModelParts) (b : Bounds) (t : Option ℤ) (ls : List MultiplierList) (os : List Owner) (rows : List Row) (asked : List ℕ) → IsReady m b t ls os rows asked → AreUnbroken b rows → AskedOpen m b t ls asked → (p : ℕ) → (HasRow os p ⊎ Contains asked p) → closes m b t (list_at ls p) ≡ false
seen_at c m b t ls os rows asked r u a p (inl h) = row_at_place c m b t ls os rows asked r u p h
seen_at c m b t ls os rows asked r u a p (inr h) = asked_at m b t ls asked p a h

zero_case : IsCeiling → (m : ModelParts) (b : Bounds) (t : Option ℤ) (ls : List MultiplierList) (os : List Owner) (rows : List Row) (asked : List ℕ) → IsReady m b t ls os rows asked → AreUnbroken b rows → AskedOpen m b t ls asked → ((HasRow os 0 ⊎ Contains asked 0) ⊎ IsIdle m (list_at ls 0)) → closes m b t (list_at ls 0) ≡ false
zero_case c m b t ls os rows asked r u a (inl h) = seen_at c m b t ls os rows asked r u a 0 h
zero_case c m b t ls os rows asked r u a (inr h) = absurd (not_idle m ls r.stated h)

false_unless : (p q : Bool) → (p ≡ true → q ≡ true) → q ≡ false → p ≡ false
false_unless true q h e = absurd (let t : q ≡ true = h refl in cc)
false_unless false q h e = refl

place_case : IsCeiling → (m : ModelParts) (b : Bounds) (t : Option ℤ) (ls : List MultiplierList) (os : List Owner) (rows : List Row) (asked : List ℕ) → IsReady m b t ls os rows asked → ((k : ℕ) → IsRising (length b) (row_at m.rows k).terms) → AreUnbroken b rows → AskedOpen m b t ls asked → (p : ℕ) → p < length ls → ((HasRow os p ⊎ Contains asked p) ⊎ IsIdle m (list_at ls p)) → closes m b t (list_at ls p) ≡ false
place_case c m b t ls os rows asked r rising u a p l (inl h) = seen_at c m b t ls os rows asked r u a p h
place_case c m b t ls os rows asked r rising u a p l (inr h) =
    let some : 0 < length ls = omega (arith, l) in
    let first : list_at ls 0 ≡ zero_list = ap (λ (xs : List MultiplierList). list_at xs 0) r.stated ∙ stated_first m zero_list in
    let open_zero : closes m b t zero_list ≡ false = ap (closes m b t) (sym first) ∙ zero_case c m b t ls os rows asked r u a (r.covered.each 0 some) in
    false_unless (closes m b t (list_at ls p)) (closes m b t zero_list) (idle_closes c m b t (list_at ls p) r.lawful r.inside (each_stated m ls r.lawful r.stated p l).formed.positive rising h) open_zero

pub left_open : IsCeiling → (m : ModelParts) (b : Bounds) (t : Option ℤ) (ls : List MultiplierList) (os : List Owner) (rows : List Row) (asked : List ℕ) → IsReady m b t ls os rows asked → ((k : ℕ) → IsRising (length b) (row_at m.rows k).terms) → AreUnbroken b rows → AskedOpen m b t ls asked → IsLeftOpen m b t ls
left_open c m b t ls os rows asked r rising u a = record {
  each = λ p l. place_case c m b t ls os rows asked r rising u a p l (r.covered.each p l);
}

-- ---- from the kept parts

pub ready_of : (m : ModelParts) (k : KeptBounds) → IsLawful m → IsInside k.sums.root (bounds_of k) → IsKeptOf m k → IsReady m (bounds_of k) (threshold_of k) (lists_of k) k.owners k.sums.rows k.asked
ready_of m k lawful inside h = record {
  lawful = lawful;
  inside = subst (λ (r : Bounds). IsInside r (bounds_of k)) h.rooted inside;
  stated = h.stated;
  owned = h.owned;
  raised = h.raised;
  covered = h.covered;
}

pub lists_known : (m : ModelParts) (ls : List MultiplierList) → IsLawful m → ls ≡ stated_lists m → All (AreRowsKnown m) ls
lists_known m ls lawful e = λ k d l. (subst (λ (xs : List MultiplierList). AreRowsKnown m (get_or xs k d)) (sym e) ((stated_are m lawful k d (omega (arith, l, ap length e))).known))

match_more : (r : Option ℕ) (P Q : Type 0) (R : ℕ → Type 0) → MatchOption r P R → (P → Q) → MatchOption r Q R
match_more None P Q R h f = f h
match_more (Some k) P Q R h f = h

pub asked_told : IsCeiling → (m : ModelParts) (k : KeptBounds) (r : Option ℕ) → IsLawful m → IsInside k.sums.root (bounds_of k) → IsKeptOf m k → AreUnbroken (bounds_of k) k.sums.rows → MatchOption r (AskedOpen m (bounds_of k) (threshold_of k) (lists_of k) k.asked) (IsClosing m (bounds_of k) (threshold_of k) (lists_of k)) → MatchOption r (IsLeftOpen m (bounds_of k) (threshold_of k) (lists_of k)) (IsClosing m (bounds_of k) (threshold_of k) (lists_of k))
asked_told c m k r lawful inside h u a =
    let ready = ready_of m k lawful inside h in
    match_more r (AskedOpen m (bounds_of k) (threshold_of k) (lists_of k) k.asked) (IsLeftOpen m (bounds_of k) (threshold_of k) (lists_of k)) (IsClosing m (bounds_of k) (threshold_of k) (lists_of k)) a
    (left_open c m (bounds_of k) (threshold_of k) (lists_of k) k.owners k.sums.rows k.asked ready (all_rising m (bounds_of k) lawful ready.inside) u)

pub row_told : IsCeiling → (m : ModelParts) (k : KeptBounds) (row : ℕ) → IsLawful m → IsInside k.sums.root (bounds_of k) → IsKeptOf m k → IsFirstBroken (bounds_of k) k.sums.rows row → IsClosing m (bounds_of k) (threshold_of k) (lists_of k) (owner_at k.owners row).place
row_told c m k row lawful inside h b = closing_row c m (bounds_of k) (threshold_of k) (lists_of k) k.owners k.sums.rows k.asked (ready_of m k lawful inside h) row b.here

-- the same where box, lists and places were read
pub asked_read : IsCeiling → (m : ModelParts) (k : KeptBounds) (b : Bounds) (ls : List MultiplierList) (ps : List ℕ) (r : Option ℕ) → IsLawful m → IsInside k.sums.root (bounds_of k) → IsKeptOf m k → AreUnbroken (bounds_of k) k.sums.rows → b ≡ bounds_of k → ls ≡ lists_of k → ps ≡ k.asked → MatchOption r (AskedOpen m b (threshold_of k) ls ps) (IsClosing m b (threshold_of k) ls) → MatchOption r (IsLeftOpen m (bounds_of k) (threshold_of k) (lists_of k)) (IsClosing m (bounds_of k) (threshold_of k) (lists_of k))
asked_read c m k b ls ps r lawful inside h u e f g a =
    asked_told c m k r lawful inside h u
    (subst (λ (xs : List ℕ). MatchOption r (AskedOpen m (bounds_of k) (threshold_of k) (lists_of k) xs) (IsClosing m (bounds_of k) (threshold_of k) (lists_of k))) g
    (subst (λ (xs : List MultiplierList). MatchOption r (AskedOpen m (bounds_of k) (threshold_of k) xs ps) (IsClosing m (bounds_of k) (threshold_of k) xs)) f
    (subst (λ (x : Bounds). MatchOption r (AskedOpen m x (threshold_of k) ls ps) (IsClosing m x (threshold_of k) ls)) e a)))

-- ---- a change of the threshold

pub raised_told : (m n : ModelParts) (old : KeptBounds) (ls : List MultiplierList) (os : List Owner) (t : Option ℤ) (now : RowsOver) → n ≡ m → ls ≡ lists_of old → os ≡ old.owners → IsKeptOf m old → IsRaising n t ls os (length os) old.sums now → IsKeptOf m (record old { sums = now; threshold = t })
raised_told m n old ls os t now same e f h a =
    let r : IsRaising m t (lists_of old) old.owners (length old.owners) old.sums now =
    subst (λ (xs : List Owner). IsRaising m t (lists_of old) xs (length xs) old.sums now) f
    (subst (λ (xs : List MultiplierList). IsRaising m t xs os (length os) old.sums now) e
    (subst (λ (p : ModelParts). IsRaising p t ls os (length os) old.sums now) same a)) in
    record {
      stated = h.stated;
      rooted = r.root ∙ h.rooted;
      owned = r.owned;
      raised = record { each = λ k l. r.raised.each k (omega (arith, l, r.owned.paired)) };
      covered = h.covered;
    }

-- ---- the start

pub root_inside : (r : Bounds) → IsFilled r → IsInside r r
root_inside r h = record { long = refl; each = λ j l. record { lower = omega (arith, ints); filled = h.each j l; upper = omega (arith, ints) } }

pub start_told : (m : ModelParts) (ls : Vec MultiplierList Global) (d : Draft) (s : RowsOver) (os : List Owner) (ps : List ℕ) → ls.items ≡ stated_lists m → IsDraftOf m ls.items (length ls.items) d → StandsOn m d s os ps → IsKeptOf m (record { lists = ls; threshold = None; sums = s; owners = os; asked = ps })
start_told m ls d s os ps e h p =
    subst (λ (x : RowsOver). IsKeptOf m (record { lists = ls; threshold = None; sums = x; owners = os; asked = ps })) (sym p.sums)
    (subst (λ (x : List Owner). IsKeptOf m (record { lists = ls; threshold = None; sums = record { root = root_of m; bounds = root_of m; rows = d.rows }; owners = x; asked = ps })) (sym p.owners)
    (subst (λ (x : List ℕ). IsKeptOf m (record { lists = ls; threshold = None; sums = record { root = root_of m; bounds = root_of m; rows = d.rows }; owners = d.owners; asked = x })) (sym p.asked) (record {
      stated = e;
      rooted = refl;
      owned = h.owned;
      raised = record { each = λ k l. subst (IsRaised m None ls.items (owner_at d.owners k)) (sym (h.bare k l)) (side_without None m.constant (list_at ls.items (owner_at d.owners k).place).d (owner_at d.owners k).sides refl) };
      covered = h.covered;
    })))

-- the same where the lists were read
pub start_read : (m : ModelParts) (ls : Vec MultiplierList Global) (first second : List MultiplierList) (d : Draft) (parts : RowsOver × List Owner × List ℕ) (k : KeptBounds) → ls.items ≡ stated_lists m → first ≡ ls.items → IsDraftOf m first (length first) d → StandsOn m d parts.0 parts.1 parts.2 → k ≡ record { lists = ls; threshold = None; sums = parts.0; owners = parts.1; asked = parts.2 } → IsKeptOf m k
start_read m ls first second d parts k e f h p g =
    subst (IsKeptOf m) (sym g) (start_told m ls d parts.0 parts.1 parts.2 e (subst (λ (xs : List MultiplierList). IsDraftOf m xs (length xs) d) f h) p)
