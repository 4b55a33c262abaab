-- Lists that come into the draft one after another: each gets a row, is asked, or lacks its side.
use Rattle.std.proofs.Common.{◌≡◌, ◌⊎◌, ℕ, zero, suc, ◌+◌, ◌-◌, ◌*◌, ◌^◌, ◌<◌, ◌≤◌, Bool, true, false, cond, List, [], ◌∷◌, ◌++◌, length, drop, get_or, All, Contains, IsSome, Option, None, unwrap_or, ℤ, pos, inl, inr, refl, sym, ap, subst, ◌∙◌, arith, append_assoc, length-append}
use Rattle.std.specs.Ordering.{int_eq}
use Rattle.std.specs.Int.RustNames.{unsigned_abs}
use Rattle.std.proofs.lemmas.Bool.{cases_lt}
use Rattle.std.proofs.lemmas.List.Elements.{All-contains_itself, Contains-append_left, Contains-append_right}
use Rattle.sp_model.specs.declared.parts.Row.{Row}
use Rattle.sp_model.specs.declared.parts.ModelParts.{ModelParts}
use Rattle.sp_model.specs.Boxes.{Bounds, range_at}
use Rattle.sp_model.specs.Models.{root_of}
use Rattle.sp_model.specs.Sums.{Term, reach}
use Rattle.sp_sums.specs.Rows.{IsRowFit, bare_row, row_at}
use Rattle.sp_dual.specs.Lists.{MultiplierList}
use Rattle.sp_bound.specs.declared.keeping.Draft.{Draft}
use Rattle.sp_bound.specs.declared.keeping.Owner.{Owner}
use Rattle.sp_bound.specs.Bounds.{Weight, reduced_cost}
use Rattle.sp_bound.specs.Closing.{IsIdle, list_at}
use Rattle.sp_bound.specs.Inner.{AreReduced, IsSafe, cost_at, is_reduced, reduced, spread}
use Rattle.sp_bound.specs.Keeping.{AddsCost, AddsList, AsksOrKeeps, asks, keeps, HasSides, IsDraftOf, LacksSide, is_asked, is_idle, is_kept, TellsTerms, asking, cost_value, keeping}
use Rattle.sp_bound.specs.KeptBounds.{AreOwned, HasRow, IsOwned, cost_terms, no_owner, owner_at}
use Rattle.sp_bound.proofs.HeldLemmas.{held, reduced-held}
use Rattle.sp_bound.proofs.TermLemmas.{bare, spread-same, terms-fit, terms-same}
use Rattle.sp_bound.proofs.TurnLemmas.{next_range}

-- ---- the terms of costs

pub record IsListing (root : Bounds) (costs : List (Option ℤ)) (whole at left : ℕ) (ts : List Term) : Type 0 where
  pub there : (j : ℕ) → j < at → IsSome (cost_at costs j)
  pub listed : ts ++ cost_terms (cost_value costs) at (drop at root) ≡ cost_terms (cost_value costs) 0 root
  pub room : left + spread (cost_value costs) 0 root ≡ whole + spread (cost_value costs) at (drop at root)
  pub fits : left < 2 ^ 128

pub listing_start : (root : Bounds) (costs : List (Option ℤ)) (room : ℕ) → room < 2 ^ 128 → IsListing root costs room 0 room []
listing_start root costs room h = record { there = λ j l. absurd (omega (arith, l)); listed = refl; room = refl; fits = h }

split_case : (p : Bool) (t : Term) (rest : List Term) → cond p rest (t ∷ rest) ≡ cond p [] (t ∷ []) ++ rest
split_case true t rest = refl
split_case false t rest = refl

abbrev first_of : (ℕ → ℤ) → ℕ → List Term
first_of c j = cond (int_eq (c j) (pos 0)) [] ((j, c j) ∷ [])

listed_turn : (c : ℕ → ℤ) (at next : ℕ) (r : ℤ × ℤ) (rs : Bounds) (ts new whole : List Term) → next ≡ suc at → ts ++ cost_terms c at (r ∷ rs) ≡ whole → new ≡ ts ++ first_of c at → new ++ cost_terms c next rs ≡ whole
listed_turn c at next r rs ts new whole e h n =
    ap (λ (k : ℕ). new ++ cost_terms c k rs) e
    ∙ ap (λ (xs : List Term). xs ++ cost_terms c (suc at) rs) n
    ∙ append_assoc ts (first_of c at) (cost_terms c (suc at) rs)
    ∙ ap (λ (xs : List Term). ts ++ xs) (sym (split_case (int_eq (c at) (pos 0)) (at, c at) (cost_terms c (suc at) rs)))
    ∙ h

pub listing_turn : (root : Bounds) (costs : List (Option ℤ)) (room at next left rest : ℕ) (ts new : List Term) → next ≡ at + 1 → at < length root → IsListing root costs room at left ts → AddsCost ts new at (cost_value costs at) left (cost_at costs at) (range_at root at) rest → IsListing root costs room next rest new
listing_turn root costs room at next left rest ts new e l p a =
    let step : next ≡ suc at = omega (arith, e) in
    let d : drop at root ≡ range_at root at ∷ drop (suc at) root = next_range root at l in
    let same : drop next root ≡ drop (suc at) root = ap (λ (k : ℕ). drop k root) step in
    let listed : ts ++ cost_terms (cost_value costs) at (range_at root at ∷ drop (suc at) root) ≡ cost_terms (cost_value costs) 0 root = ap (λ (xs : Bounds). ts ++ cost_terms (cost_value costs) at xs) (sym d) ∙ p.listed in
    let spreads : spread (cost_value costs) at (drop at root) ≡ unsigned_abs (cost_value costs at) * reach (range_at root at) + spread (cost_value costs) (suc at) (drop (suc at) root) = ap (spread (cost_value costs) at) d in
    let after : spread (cost_value costs) next (drop next root) ≡ spread (cost_value costs) (suc at) (drop (suc at) root) = ap (λ (xs : Bounds). spread (cost_value costs) next xs) same ∙ ap (λ (k : ℕ). spread (cost_value costs) k (drop (suc at) root)) step in
    record {
      there = λ j g. (elim (cases_lt j at) [
        | inl h ↦ p.there j h
        | inr h ↦ (let here : at ≡ j = omega (arith, g, h, e) in subst (λ (k : ℕ). IsSome (cost_at costs k)) here a.room.there)
      ]);
      listed = ap (λ (xs : Bounds). new ++ cost_terms (cost_value costs) next xs) same ∙ listed_turn (cost_value costs) at next (range_at root at) (drop (suc at) root) ts new (cost_terms (cost_value costs) 0 root) step listed a.terms;
      room = omega (arith, p.room, spreads, after, a.room.left);
      fits = omega (arith, p.fits, a.room.left);
    }

append_none : (xs : List Term) → xs ++ [] ≡ xs
append_none [] = refl
append_none (x ∷ xs) = ap (λ (ys : List Term). x ∷ ys) (append_none xs)

pub listing_stop : (root : Bounds) (costs : List (Option ℤ)) (room at left : ℕ) (ts : List Term) → length root ≤ at → drop at root ≡ [] → IsListing root costs room at left ts → TellsTerms root costs room ts
listing_stop root costs room at left ts l d p =
    let none : spread (cost_value costs) at (drop at root) ≡ 0 = ap (spread (cost_value costs) at) d in
    record {
      there = λ j g. p.there j (omega (arith, g, l));
      terms = sym (append_none ts) ∙ ap (λ (xs : Bounds). ts ++ cost_terms (cost_value costs) at xs) (sym d) ∙ p.listed;
      narrow = omega (arith, p.room, none);
    }

-- ---- one list more

at_push_old : {X : Type 0} (xs : List X) (y d : X) (k : ℕ) → k < length xs → get_or (xs ++ y ∷ []) k d ≡ get_or xs k d
at_push_old [] y d k l = absurd (omega (arith, l))
at_push_old (x ∷ xs) y d zero l = refl
at_push_old (x ∷ xs) y d (suc k) l = at_push_old xs y d k (omega (arith, l))

at_push_new : {X : Type 0} (xs : List X) (y d : X) → get_or (xs ++ y ∷ []) (length xs) d ≡ y
at_push_new [] y d = refl
at_push_new (x ∷ xs) y d = at_push_new xs y d

-- what a cost that is there says
some_held : (p : Bool) (z : ℤ) → IsSome (held p z) → (p ≡ true) × (unwrap_or (held p z) (pos 0) ≡ z)
some_held true z h = (refl, refl)
some_held false z h = absurd (cc)

reduced_there : (m : ModelParts) (l : MultiplierList) (costs : List (Option ℤ)) (j : ℕ) → cost_at costs j ≡ reduced m l j → IsSome (cost_at costs j) → (is_reduced m l j ≡ true) × (cost_value costs j ≡ reduced_cost m l j)
reduced_there m l costs j e h =
    let whole : cost_at costs j ≡ held (is_reduced m l j) (reduced_cost m l j) = e ∙ reduced-held m l j in
    let parts = some_held (is_reduced m l j) (reduced_cost m l j) (subst IsSome whole h) in
    (parts.0, ap (λ (o : Option ℤ). unwrap_or o (pos 0)) whole ∙ parts.1)

safe_told : (m : ModelParts) (l : MultiplierList) (costs : List (Option ℤ)) (s : ℤ) (ts : List Term) → AreReduced m l (length (root_of m)) costs → HasSides m.rows l.y s → TellsTerms (root_of m) costs (10 ^ 36 - unsigned_abs s) ts → IsSafe m l
safe_told m l costs s ts r h t =
    let same : spread (cost_value costs) 0 (root_of m) ≡ spread (reduced_cost m l) 0 (root_of m) = spread-same (cost_value costs) (reduced_cost m l) 0 (root_of m) (λ k g b. (reduced_there m l costs k (r.each k (omega (arith, b))) (t.there k (omega (arith, b)))).1) in
    record {
      reduced = λ j g. (reduced_there m l costs j (r.each j g) (t.there j g)).0;
      sided = λ b. h.same b (root_of m);
      small = omega (arith, same, t.narrow, h.small, h.size_is (root_of m));
    }

terms_told : (m : ModelParts) (l : MultiplierList) (costs : List (Option ℤ)) (room : ℕ) (ts : List Term) → AreReduced m l (length (root_of m)) costs → TellsTerms (root_of m) costs room ts → ts ≡ cost_terms (reduced_cost m l) 0 (root_of m)
terms_told m l costs room ts r t =
    t.terms ∙ terms-same (cost_value costs) (reduced_cost m l) 0 (root_of m) (λ k g b. (reduced_there m l costs k (r.each k (omega (arith, b))) (t.there k (omega (arith, b)))).1)

owned_new : (m : ModelParts) (ls : List MultiplierList) (p : ℕ) (costs : List (Option ℤ)) (s : ℤ) (ts : List Term) → p < length ls → AreReduced m (list_at ls p) (length (root_of m)) costs → HasSides m.rows (list_at ls p).y s → TellsTerms (root_of m) costs (10 ^ 36 - unsigned_abs s) ts → IsOwned m ls (record { place = p; sides = s }) (bare ts)
owned_new m ls p costs s ts l r h t = record {
  known = l;
  sides = sym (h.total_is (root_of m));
  safe = safe_told m (list_at ls p) costs s ts r h t;
  terms = terms_told m (list_at ls p) costs (10 ^ 36 - unsigned_abs s) ts r t;
  low = refl;
}

fit_new : (m : ModelParts) (costs : List (Option ℤ)) (room : ℕ) (ts : List Term) → room ≤ 10 ^ 36 → TellsTerms (root_of m) costs room ts → IsRowFit (root_of m) (bare ts)
fit_new m costs room ts h t = subst (λ (xs : List Term). IsRowFit (root_of m) (bare xs)) (sym t.terms) (terms-fit (cost_value costs) (root_of m) (omega (arith, t.narrow, h)))

-- ---- what each kind of list leaves

-- a list that lacks its side
idle_turn : (m : ModelParts) (ls : List MultiplierList) (at : ℕ) (d : Draft) → LacksSide m.rows (list_at ls at).y → IsDraftOf m ls at d → IsDraftOf m ls (suc at) d
idle_turn m ls at d h p = record {
  owned = p.owned;
  bare = p.bare;
  fit = p.fit;
  covered = record {
    each = λ q l. (elim (cases_lt q at) [
      | inl g ↦ p.covered.each q g
      | inr g ↦ (let here : at ≡ q = omega (arith, l, g) in subst (λ (k : ℕ). (HasRow d.owners k ⊎ Contains d.asked k) ⊎ IsIdle m (list_at ls k)) here (inr (record { weight = h.weight; alone = h.alone; missing = h.missing })))
    ]);
    asked = p.covered.asked;
  };
  few = omega (arith, p.few);
}

wider : (os more : List Owner) (q : ℕ) → ((k : ℕ) → k < length os → owner_at more k ≡ owner_at os k) → length os ≤ length more → HasRow os q → HasRow more q
wider os more q same long h = record { row = h.row; known = omega (arith, h.known, long); here = ap (λ (o : Owner). o.place) (same h.row h.known) ∙ h.here }

all_push : (P : ℕ → Type 0) (xs : List ℕ) (y : ℕ) → All P xs → P y → All P (xs ++ y ∷ [])
all_push P [] y h g zero d l = g
all_push P [] y h g (suc k) d l = absurd (omega (arith, l))
all_push P (x ∷ xs) y h g zero d l = h 0 d (omega arith)
all_push P (x ∷ xs) y h g (suc k) d l = all_push P xs y (λ i e b. h (suc i) e (omega (arith, b))) g k d (omega (arith, l))

all_push_rows : (P : Row → Type 0) (xs : List Row) (y : Row) → All P xs → P y → All P (xs ++ y ∷ [])
all_push_rows P [] y h g zero d l = g
all_push_rows P [] y h g (suc k) d l = absurd (omega (arith, l))
all_push_rows P (x ∷ xs) y h g zero d l = h 0 d (omega arith)
all_push_rows P (x ∷ xs) y h g (suc k) d l = all_push_rows P xs y (λ i e b. h (suc i) e (omega (arith, b))) g k d (omega (arith, l))

seen_more : (d : Draft) (at q : ℕ) (m : ModelParts) (ls : List MultiplierList) → ((HasRow d.owners q ⊎ Contains d.asked q) ⊎ IsIdle m (list_at ls q)) → ((HasRow d.owners q ⊎ Contains (d.asked ++ at ∷ []) q) ⊎ IsIdle m (list_at ls q))
seen_more d at q m ls (inl (inl h)) = inl (inl h)
seen_more d at q m ls (inl (inr h)) = inl (inr (Contains-append_left d.asked (at ∷ []) q h))
seen_more d at q m ls (inr h) = inr h

asked_turn : (m : ModelParts) (ls : List MultiplierList) (at : ℕ) (d : Draft) → at < length ls → IsDraftOf m ls at d → IsDraftOf m ls (suc at) (asking d at)
asked_turn m ls at d b p = record {
  owned = p.owned;
  bare = p.bare;
  fit = p.fit;
  covered = record {
    each = λ q l. (elim (cases_lt q at) [
      | inl g ↦ seen_more d at q m ls (p.covered.each q g)
      | inr g ↦ (let here : at ≡ q = omega (arith, l, g) in subst (λ (k : ℕ). (HasRow d.owners k ⊎ Contains (d.asked ++ at ∷ []) k) ⊎ IsIdle m (list_at ls k)) here (inl (inr (Contains-append_right d.asked (at ∷ []) at (All-contains_itself (at ∷ []) 0 at (omega arith))))))
    ]);
    asked = all_push (λ (q : ℕ). q < length ls) d.asked at p.covered.asked b;
  };
  few = omega (arith, p.few);
}

kept_owned : (m : ModelParts) (ls : List MultiplierList) (os : List Owner) (rows : List Row) (o : Owner) (row : Row) → AreOwned m ls os rows → IsOwned m ls o row → AreOwned m ls (os ++ o ∷ []) (rows ++ row ∷ [])
kept_owned m ls os rows o row p h = record {
  paired = omega (arith, length-append os (o ∷ []), length-append rows (row ∷ []), p.paired);
  each = λ k l. (elim (cases_lt k (length rows)) [
    | inl g ↦ (
        let first : owner_at (os ++ o ∷ []) k ≡ owner_at os k = at_push_old os o no_owner k (omega (arith, g, p.paired)) in
        let second : row_at (rows ++ row ∷ []) k ≡ row_at rows k = at_push_old rows row bare_row k g in
        subst (λ (x : Owner). IsOwned m ls x (row_at (rows ++ row ∷ []) k)) (sym first) (subst (IsOwned m ls (owner_at os k)) (sym second) (p.each k g))
        )
    | inr g ↦ (
        let here : length rows ≡ k = omega (arith, l, g, length-append rows (row ∷ [])) in
        let first : owner_at (os ++ o ∷ []) k ≡ o = ap (owner_at (os ++ o ∷ [])) (sym here ∙ sym p.paired) ∙ at_push_new os o no_owner in
        let second : row_at (rows ++ row ∷ []) k ≡ row = ap (row_at (rows ++ row ∷ [])) (sym here) ∙ at_push_new rows row bare_row in
        subst (λ (x : Owner). IsOwned m ls x (row_at (rows ++ row ∷ []) k)) (sym first) (subst (IsOwned m ls o) (sym second) h)
        )
  ]);
}

kept_bare : (rows : List Row) (row : Row) → ((k : ℕ) → k < length rows → (row_at rows k).hi ≡ None) → row.hi ≡ None → (k : ℕ) → k < length (rows ++ row ∷ []) → (row_at (rows ++ row ∷ []) k).hi ≡ None
kept_bare rows row h e k l = elim (cases_lt k (length rows)) [
  | inl g ↦ (ap (λ (r : Row). r.hi) (at_push_old rows row bare_row k g) ∙ h k g)
  | inr g ↦ (let here : length rows ≡ k = omega (arith, l, g, length-append rows (row ∷ [])) in ap (λ (j : ℕ). (row_at (rows ++ row ∷ []) j).hi) (sym here) ∙ ap (λ (r : Row). r.hi) (at_push_new rows row bare_row) ∙ e)
]

seen_wider : (os : List Owner) (o : Owner) (asked : List ℕ) (q : ℕ) (m : ModelParts) (ls : List MultiplierList) → ((HasRow os q ⊎ Contains asked q) ⊎ IsIdle m (list_at ls q)) → ((HasRow (os ++ o ∷ []) q ⊎ Contains asked q) ⊎ IsIdle m (list_at ls q))
seen_wider os o asked q m ls (inl (inl h)) = inl (inl (wider os (os ++ o ∷ []) q (λ k l. at_push_old os o no_owner k l) (omega (arith, length-append os (o ∷ []))) h))
seen_wider os o asked q m ls (inl (inr h)) = inl (inr h)
seen_wider os o asked q m ls (inr h) = inr h

kept_turn : (m : ModelParts) (ls : List MultiplierList) (at : ℕ) (d : Draft) (costs : List (Option ℤ)) (s : ℤ) (ts : List Term) → at < length ls → AreReduced m (list_at ls at) (length (root_of m)) costs → HasSides m.rows (list_at ls at).y s → TellsTerms (root_of m) costs (10 ^ 36 - unsigned_abs s) ts → IsDraftOf m ls at d → IsDraftOf m ls (suc at) (keeping d at s ts)
kept_turn m ls at d costs s ts b r h t p =
    let o : Owner = record { place = at; sides = s } in
    record {
      owned = kept_owned m ls d.owners d.rows o (bare ts) p.owned (owned_new m ls at costs s ts b r h t);
      bare = kept_bare d.rows (bare ts) p.bare refl;
      fit = all_push_rows (IsRowFit (root_of m)) d.rows (bare ts) p.fit (fit_new m costs (10 ^ 36 - unsigned_abs s) ts (omega arith) t);
      covered = record {
        each = λ q l. (elim (cases_lt q at) [
          | inl g ↦ seen_wider d.owners o d.asked q m ls (p.covered.each q g)
          | inr g ↦ (let here : at ≡ q = omega (arith, l, g) in subst (λ (k : ℕ). (HasRow (d.owners ++ o ∷ []) k ⊎ Contains d.asked k) ⊎ IsIdle m (list_at ls k)) here (inl (inl (record { row = length d.owners; known = omega (arith, length-append d.owners (o ∷ [])); here = ap (λ (x : Owner). x.place) (at_push_new d.owners o no_owner) }))))
        ]);
        asked = p.covered.asked;
      };
      few = omega (arith, p.few, length-append d.rows (bare ts ∷ []));
    }

turn_case : (m : ModelParts) (ls : List MultiplierList) (at : ℕ) (old new : Draft) → at < length ls → IsDraftOf m ls at old → AddsList m (list_at ls at) at old new → IsDraftOf m ls (suc at) new
turn_case m ls at old new b p (is_idle h e) = subst (IsDraftOf m ls (suc at)) (sym e) (idle_turn m ls at old h p)
turn_case m ls at old new b p (is_asked e) = subst (IsDraftOf m ls (suc at)) (sym e) (asked_turn m ls at old b p)
turn_case m ls at old new b p (is_kept costs s ts r h t e) = subst (IsDraftOf m ls (suc at)) (sym e) (kept_turn m ls at old costs s ts b r h t p)

pub draft_start : (m : ModelParts) (ls : List MultiplierList) (d : Draft) → d ≡ record { rows = []; owners = []; asked = [] } → IsDraftOf m ls 0 d
draft_start m ls d e = subst (IsDraftOf m ls 0) (sym e) (record {
  owned = record { paired = refl; each = λ k l. absurd (omega (arith, l)) };
  bare = λ k l. absurd (omega (arith, l));
  fit = λ k x l. absurd (omega (arith, l));
  covered = record { each = λ q l. absurd (omega (arith, l)); asked = λ k x l. absurd (omega (arith, l)) };
  few = omega arith;
})

pub draft_turn : (m : ModelParts) (ls : List MultiplierList) (at next place : ℕ) (l : MultiplierList) (old new : Draft) → next ≡ at + 1 → place ≡ at → l ≡ list_at ls at → at < length ls → IsDraftOf m ls at old → AddsList m l place old new → IsDraftOf m ls next new
draft_turn m ls at next place l old new e f g b p a =
    let step : suc at ≡ next = omega (arith, e) in
    subst (λ (k : ℕ). IsDraftOf m ls k new) step (turn_case m ls at old new b p (subst (λ (x : MultiplierList). AddsList m x at old new) g (subst (λ (k : ℕ). AddsList m l k old new) f a)))

-- ---- from the calls

added_case : (m : ModelParts) (l : MultiplierList) (root : Bounds) (costs : List (Option ℤ)) (p : ℕ) (s : ℤ) (old new : Draft) → root ≡ root_of m → AreReduced m l (length (root_of m)) costs → HasSides m.rows l.y s → AsksOrKeeps root costs p s old new → AddsList m l p old new
added_case m l root costs p s old new e r h (asks f) = is_asked f
added_case m l root costs p s old new e r h (keeps ts t f) = is_kept costs s ts r h (subst (λ (b : Bounds). TellsTerms b costs (10 ^ 36 - unsigned_abs s) ts) e t) f

pub added_told : (m : ModelParts) (l : MultiplierList) (root : Bounds) (rows : List Row) (ws : List Weight) (costs read : List (Option ℤ)) (n p : ℕ) (s : ℤ) (old new : Draft) → root ≡ root_of m → rows ≡ m.rows → ws ≡ l.y → read ≡ costs → n ≡ length (root_of m) → AreReduced m l n costs → HasSides rows ws s → AsksOrKeeps root read p s old new → AddsList m l p old new
added_told m l root rows ws costs read n p s old new e f g h k r t a =
    added_case m l root costs p s old new e
    (subst (λ (i : ℕ). AreReduced m l i costs) k r)
    (subst (λ (xs : List Weight). HasSides m.rows xs s) g (subst (λ (xs : List Row). HasSides xs ws s) f t))
    (subst (λ (xs : List (Option ℤ)). AsksOrKeeps root xs p s old new) h a)
