-- What the first run of a model promises, from what its search found.
use Rattle.std.specs.Prelude.{ℤ, ◌≤ℤ◌, ◌<ℤ◌, ◌^◌, ◌%◌, ◌-◌, filter, map, unsigned_abs, IfSome, All, AllPairs, slice_index_or, Bool, true, false, if◌then◌else◌, nat_lt}
use Rattle.std.specs.List.{AllByRecursion}
use Rattle.std.specs.Ordering.{int_eq}
use Rattle.std.proofs.Common.{◌≡◌, ◌≢◌, ◌⊎◌, inl, inr, ℕ, zero, suc, cond, refl, ◌+◌, ◌<◌, ◌≤◌, List, [], ◌∷◌, ◌++◌, length, get_or, take, drop, Option, None, Some, sym, ap, ap₂, ◌∙◌, subst, arith, true≢false}
use Rattle.std.proofs.Math.Seq.{drop-length, take-length}
use Rattle.std.proofs.lemmas.List.{length-map, get_or-drop, get_or-map, take-append-drop}
use Rattle.std.proofs.lemmas.Bool.Decides.{Decides-int_eq, nat_tests}
use Rattle.std.proofs.lemmas.List.Elements.{recursion_from_All}
use Rattle.sp_model.specs.declared.gaps.Gaps.{Gaps}
use Rattle.sp_model.specs.declared.parts.ModelParts.{ModelParts}
use Rattle.sp_model.specs.Boxes.{IsWithin}
use Rattle.sp_model.specs.Cuts.{cut_of}
use Rattle.sp_model.specs.Models.{Feasible, IsLeast, IsOptimum, objective, root_of}
use Rattle.sp_model.specs.Rules.{IsLawful}
use Rattle.sp_list.specs.declared.found.Found.{Found}
use Rattle.sp_list.specs.Lists.{IsListAt, points_of}
use Rattle.sp_cover.specs.Cover.{IsBest, IsLeastFound, IsSearch, SearchOf, found_of, no_found}
use Rattle.sp_cover.specs.Listing.{AreFound}
use Rattle.sp_filter.specs.Held.{FilterList}
use Rattle.sp_filter.specs.Filters.{Fits}
use Rattle.sp_search.specs.States.{AreFit, IsState, StateOf}
use Rattle.sp_populate.specs.Complete.{cut_at, cut_under}
use Rattle.sp_populate.specs.Ends.{IsPopulated, PopEnds, first_of, found_before, improved}
use Rattle.sp_populate.specs.Listings.{IsPassedListAt, points_at}
use Rattle.sp_populate.specs.declared.populating.PopEnd.{PopEnd}
use Rattle.sp_populate.specs.declared.populating.PopEnd.TheVariants as pop
use Rattle.sp_engine.specs.declared.journals.Entry.{Entry}
use Rattle.sp_engine.specs.declared.journals.RunEnd.{RunEnd}
use Rattle.sp_engine.specs.declared.journals.RunEnd.TheVariants as end
use Rattle.sp_meaning.specs.declared.models.NamedModel.{NamedModel}
use Rattle.sp_engine.specs.declared.replies.Reply.{Reply}
use Rattle.sp_engine.specs.declared.runs.Listing.{Listing}
use Rattle.sp_engine.specs.InnerRuns.{IsFirstRun, IsFresh, IsListedBy, IsReplyOf, ListsOf, RepliesTo, first_run, run_end}
use Rattle.sp_engine.specs.Notes.{run_notes}
use Rattle.sp_engine.specs.Runs.{IsListing, IsSmall}
use Rattle.sp_engine.specs.LegalRuns.{ArePhases, Asked, asked_of, HasOptimal, IsLegalRun, IsTreeFull, IsWanted, room_of}
use Rattle.sp_engine.specs.Listing.{IsSerial, RepliesAfter, after_run}
use Rattle.sp_engine.specs.SolutionLists.{Lists}
use Rattle.sp_engine.specs.Views.{Settings, View, passes, point_of}

-- what the laws of models say: one number is the optimum, and no point has a large objective
abbrev pub OneOptimum : Type 0
OneOptimum = (m : ModelParts) (best other : Option ℤ) → IsOptimum m best → IsOptimum m other → best ≡ other

abbrev pub SmallObjectives : Type 0
SmallObjectives = (m : ModelParts) (x : List ℤ) → IsLawful m → IsWithin (root_of m) x → unsigned_abs (objective m x) ≤ 10 ^ 36

abbrev pub FeasibleWithin : Type 0
FeasibleWithin = (m : ModelParts) (x : List ℤ) → IsLawful m → Feasible m x → IsWithin (root_of m) x

-- ---- found points

-- the k-th found point
abbrev at : List Found → ℕ → Found
at found k = slice_index_or found k no_found

point_at : (found : List Found) (k : ℕ) (d : List ℤ) → k < length found → get_or (points_of found) k d ≡ (at found k).point
point_at found k d h = get_or-map (λ (f : Found). f.point) found k no_found d h

-- any default gives the same element
any_default : {X : Type 0} (xs : List X) (k : ℕ) (d e : X) → k < length xs → get_or xs k d ≡ get_or xs k e
any_default [] k d e h = absurd (omega arith)
any_default (x ∷ xs) zero d e h = refl
any_default (x ∷ xs) (suc k) d e h = any_default xs k d e (omega arith)

points_long : (found : List Found) → length (points_of found) ≡ length found
points_long found = length-map found (λ f. f.point)

all_points : (P : List ℤ → Type 0) (found : List Found) → ((k : ℕ) → k < length found → P (at found k).point) → All P (points_of found)
all_points P found h k d lt =
    let in_found : k < length found = (let e = points_long found in omega (arith, e, lt)) in
    subst P (sym (point_at found k d in_found)) (h k in_found)

all_pairs : (P : List ℤ → List ℤ → Type 0) (found : List Found) → ((k l : ℕ) → k < l → l < length found → P (at found k).point (at found l).point) → AllPairs P (points_of found)
all_pairs P found h k l d order lt =
    let in_found : l < length found = (let e = points_long found in omega (arith, e, lt)) in
    let before : k < length found = omega (arith, order, in_found) in
    subst (λ x. P x (get_or (points_of found) l d)) (sym (point_at found k d before)) (subst (P (at found k).point) (sym (point_at found l d in_found)) (h k l order in_found))

points_append : (xs ys : List Found) → points_of (xs ++ ys) ≡ points_of xs ++ points_of ys
points_append [] ys = refl
points_append (x ∷ xs) ys = ap (λ (l : List (List ℤ)). x.point ∷ l) (points_append xs ys)

at_take : {X : Type 0} (n k : ℕ) (xs : List X) (d : X) → k < length (take n xs) → get_or (take n xs) k d ≡ get_or xs k d
at_take zero k xs d h = absurd (omega arith)
at_take (suc n) k [] d h = absurd (omega arith)
at_take (suc n) zero (x ∷ xs) d h = refl
at_take (suc n) (suc k) (x ∷ xs) d h = at_take n k xs d (omega arith)

take_short : {X : Type 0} (n : ℕ) (xs : List X) → length (take n xs) ≤ length xs
take_short zero xs = omega arith
take_short (suc n) [] = omega arith
take_short (suc n) (x ∷ xs) = let h = take_short n xs in omega (arith, h)

drop_inside : {X : Type 0} (n k : ℕ) (xs : List X) → k < length (drop n xs) → n + k < length xs
drop_inside zero k xs h = omega (arith, h)
drop_inside (suc n) k [] h = absurd (omega arith)
drop_inside (suc n) k (x ∷ xs) h = let i = drop_inside n k xs h in omega (arith, i)

-- nothing was found: there is no best
pub none_best : (found : List Found) (best : Option ℤ) → IsBest found best → found ≡ [] → best ≡ None
none_best found None h e = refl
none_best found (Some v) h e = let none = ap length e in let there = h.reached.1 in absurd (omega (arith, none, there))

-- ---- the phases

module _ (m : ModelParts) (settings : Settings) (s : SearchOf) (search : IsSearch m s) (are : AreFound m s.found) where
  abbrev run : Asked
  run = first_run m settings

  feasible_points : All (Feasible m) (points_of s.found)
  feasible_points = all_points (Feasible m) s.found are.feasible

  distinct_points : AllPairs (λ x y. x ≢ y) (points_of s.found)
  distinct_points = all_pairs (λ x y. x ≢ y) s.found are.once

  -- the first n points fall
  falling_points : (n : ℕ) → AllPairs (λ (f g : Found). g.value <ℤ f.value) (take n s.found) → AllPairs (λ x y. objective m y <ℤ objective m x) (points_of (take n s.found))
  falling_points n h = all_pairs (λ x y. objective m y <ℤ objective m x) (take n s.found) step
    where
      value : (k : ℕ) → k < length (take n s.found) → (at (take n s.found) k).value ≡ objective m (at (take n s.found) k).point
      value k lt =
          let same = at_take n k s.found no_found lt in
          let inside : k < length s.found = (let e = take_short n s.found in omega (arith, e, lt)) in
          ap (λ (f : Found). f.value) same ∙ sym (are.value k inside) ∙ ap (λ (f : Found). objective m f.point) (sym same)

      step : (k l : ℕ) → k < l → l < length (take n s.found) → objective m (at (take n s.found) l).point <ℤ objective m (at (take n s.found) k).point
      step k l order lt =
          subst (λ z. objective m (at (take n s.found) l).point <ℤ z) (value k (omega (arith, order, lt)))
          (subst (λ z. z <ℤ (at (take n s.found) k).value) (value l lt) (h k l no_found order lt))

  none_before : (xs : List (List ℤ)) → All (λ y. All (λ x. objective m y <ℤ objective m x) []) xs
  none_before xs k d lt j e below = absurd (omega (arith, below))

  -- the phases are these first points and those behind them
  phases_at : (n : ℕ) → AllPairs (λ (f g : Found). g.value <ℤ f.value) (take n s.found)
      → (points_of (drop n s.found) ≡ []) ⊎ HasOptimal m (points_of (take n s.found))
      → All (IsWanted run) (points_of (drop n s.found)) → ArePhases run (points_of s.found)
  phases_at n falls proved wanted = record {
    improved = points_of (take n s.found);
    collected = points_of (drop n s.found);
    order = ap points_of (sym (take-append-drop n s.found)) ∙ points_append (take n s.found) (drop n s.found);
    better = record { falls = falling_points n falls; below = none_before (points_of (take n s.found)) };
    proved = proved;
    wanted = wanted;
  }

  -- while phase one goes on
  early_phases : s.proved ≡ false → ArePhases run (points_of s.found)
  early_phases e =
      let all = take-length s.found in
      let none : points_of (drop (length s.found) s.found) ≡ [] = ap points_of (drop-length s.found) in
      phases_at (length s.found) (subst (AllPairs (λ f g. g.value <ℤ f.value)) (sym all) (search.falling e)) (inl none)
      (subst (All (IsWanted run)) (sym none) (λ k d lt. absurd (omega (arith, lt))))

  -- after it: n points were there when the optimum was found
  late_phases : (n : ℕ) (cut : ℤ) → OneOptimum → s.proved ≡ true → AllPairs (λ (f g : Found). g.value <ℤ f.value) (take n s.found)
      → ((best : ℤ) → s.best ≡ Some best → cut ≡ cut_of best settings.gaps m.scale)
      → (s.best ≡ None → s.found ≡ [])
      → ((best : ℤ) → s.best ≡ Some best → (k : ℕ) × (k < n) × (k < length s.found) × ((at s.found k).value ≡ best))
      → All (λ (f : Found). f.value ≤ℤ cut) (drop n s.found) → ArePhases run (points_of s.found)
  late_phases n cut one proved falls cut_is empty reached near = phases_at n falls (optimal s.best refl) (all_points (IsWanted run) (drop n s.found) wanted)
    where
      optimum : IsOptimum m s.best
      optimum = search.optimal proved

      inside_take : {X : Type 0} (n k : ℕ) (xs : List X) → k < n → k < length xs → k < length (take n xs)
      inside_take zero k xs a b = absurd (omega (arith, a))
      inside_take (suc n) k [] a b = absurd (omega (arith, b))
      inside_take (suc n) zero (x ∷ xs) a b = omega arith
      inside_take (suc n) (suc k) (x ∷ xs) a b = let h = inside_take n k xs (omega (arith, a)) (omega (arith, b)) in omega (arith, h)

      drop_nil : (n : ℕ) → points_of (drop n []) ≡ []
      drop_nil zero = refl
      drop_nil (suc n) = refl

      optimal : (o : Option ℤ) → s.best ≡ o → (points_of (drop n s.found) ≡ []) ⊎ HasOptimal m (points_of (take n s.found))
      optimal None e = inl (ap (λ (l : List Found). points_of (drop n l)) (empty e) ∙ drop_nil n)
      optimal (Some best) e =
          let r = reached best e in
          let k = r.0 in
          let lt : k < length (take n s.found) = inside_take n k s.found r.1 r.2 in
          let long : k < length (points_of (take n s.found)) = (let e = points_long (take n s.found) in omega (arith, e, lt)) in
          let x_is : get_or (points_of (take n s.found)) k [] ≡ (at s.found k).point = point_at (take n s.found) k [] lt ∙ ap (λ (f : Found). f.point) (at_take n k s.found no_found lt) in
          let value_is : objective m (at s.found k).point ≡ best = are.value k r.2 ∙ r.3 in
          let least : IsLeast m best = subst (IsOptimum m) e optimum in
          inr (k, (at s.found k).point, long, any_default (points_of (take n s.found)) k (at s.found k).point [] long ∙ x_is, subst (IsLeast m) (sym value_is) least)

      wanted : (k : ℕ) → k < length (drop n s.found) → IsWanted run (at (drop n s.found) k).point
      wanted k lt =
          let here = get_or-drop n s.found k no_found in
          let value_is : (at (drop n s.found) k).value ≡ objective m (at (drop n s.found) k).point =
          ap (λ (f : Found). f.value) here ∙ sym (are.value (n + k) (drop_inside n k s.found lt)) ∙ ap (λ (f : Found). objective m f.point) (sym here) in
          record {
            passing = refl;
            near = λ best least. (let same : s.best ≡ Some best = one m s.best (Some best) optimum least in
                subst (λ z. z ≤ℤ cut_of best settings.gaps m.scale) value_is (subst (λ c. (at (drop n s.found) k).value ≤ℤ c) (cut_is best same) (near k no_found lt)));
          }

  -- ---- the run

  legal : (ended : RunEnd) → ArePhases run (points_of s.found) → (ended ≡ end.NodeLimit → IsTreeFull run (length s.tree.nodes)) → length s.tree.nodes % 2 ≡ 1
      → length s.tree.nodes ≤ room_of m → (length s.tree.nodes ≤ settings.node_limit) ⊎ (length s.tree.nodes ≤ 1)
      → IsLegalRun run (points_of s.found) ended (length s.tree.nodes)
  legal ended phases stopped odd most limited = record {
    feasible = feasible_points;
    once = distinct_points;
    phases = phases;
    stopped = stopped;
    odd = odd;
    bounded = (some (length s.tree.nodes) odd, most);
    limited = limited;
  }
    where
      some : (n : ℕ) → n % 2 ≡ 1 → 1 ≤ n
      some zero e = absurd (omega (arith, e))
      some (suc n) e = omega arith

-- ---- the list

-- without filters all points pass
pub all_pass : (xs : List (List ℤ)) → filter (passes []) xs ≡ xs
all_pass [] = refl
all_pass (x ∷ xs) = ap (λ ys. x ∷ ys) (all_pass xs)

-- the points of serials, among points and among found ones
same_points : (found : List Found) (serials : List ℕ) → AllByRecursion (IsSerial (length found)) serials → map (point_of (points_of found)) serials ≡ map (λ serial. (found_of found serial).point) serials
same_points found [] all = refl
same_points found (zero ∷ ns) all = absurd (let low : 1 ≤ 0 = all.0.first in omega (arith, low))
same_points found (suc k ∷ ns) all =
    let inside : k < length found = (let high : suc k ≤ length found = all.0.last in omega (arith, high)) in
    let place : k ≡ suc k - 1 = omega arith in
    ap₂ (λ (x : List ℤ) (l : List (List ℤ)). x ∷ l) (point_at found k [] inside ∙ ap (λ (i : ℕ). (at found i).point) place) (same_points found ns all.1)

pub lists_are : (m : ModelParts) (gaps : Gaps) (best : Option ℤ) (xs : List (List ℤ)) → IsOptimum m best → IsListAt m gaps best xs → Lists m gaps [] best xs
lists_are m gaps best xs optimum listed = record { optimum = optimum; whole = xs; listed = listed; filtered = sym (all_pass xs) }

-- the optimum is small
pub small_best : (m : ModelParts) (best : Option ℤ) → SmallObjectives → FeasibleWithin → IsLawful m → IsOptimum m best → IfSome best (λ v. unsigned_abs v ≤ 10 ^ 36)
small_best m None small within lawful least = tt
small_best m (Some best) small within lawful least =
    subst (λ v. unsigned_abs v ≤ 10 ^ 36) least.reached.2 (small m least.reached.0 lawful (within m least.reached.0 lawful least.reached.1))

-- the first point of a value that was found
first_at : (v : ℤ) (found : List Found) (k : ℕ) → k < length found → (at found k).value ≡ v
    → (j : ℕ) × (j < first_of v found) × (j < length found) × ((at found j).value ≡ v)
first_at v [] k lt e = absurd (omega (arith, lt))
first_at v (f ∷ fs) k lt e = go (int_eq f.value v) refl k lt e (first_at v fs)
  where
    go : (b : Bool) → int_eq f.value v ≡ b → (k : ℕ) → k < length (f ∷ fs) → (at (f ∷ fs) k).value ≡ v
        → ((k : ℕ) → k < length fs → (at fs k).value ≡ v → (j : ℕ) × (j < first_of v fs) × (j < length fs) × ((at fs j).value ≡ v))
        → (j : ℕ) × (j < cond b 1 (suc (first_of v fs))) × (j < length (f ∷ fs)) × ((at (f ∷ fs) j).value ≡ v)
    go true s k lt e later = (0, omega arith, omega arith, (Decides-int_eq f.value v).0 s)
    go false s zero lt e later = absurd (true≢false (sym ((Decides-int_eq f.value v).1 e) ∙ s))
    go false s (suc k) lt e later =
        let h = later k (omega (arith, lt)) e in
        (suc h.0, (let a = h.1 in omega (arith, a)), (let b = h.2 in omega (arith, b)), h.3)

module _ (old s : StateOf) (settings : Settings) (fs : FilterList) (fresh : IsFresh old) (state : IsState s) (are : AreFound s.model s.search.found) (one : OneOptimum)
    (run : IsPopulated old s settings.gaps fs settings.node_limit) where
  cut_is : (best : ℤ) → s.search.best ≡ Some best → cut_under settings.gaps s ≡ cut_of best settings.gaps s.model.scale
  cut_is best e = ap (cut_at settings.gaps s.model.scale) e

  empty : s.search.best ≡ None → s.search.found ≡ []
  empty e = subst (IsBest s.search.found) e state.search.best

  found_first : (o : Option ℤ) → s.search.best ≡ o → found_before old s ≡ improved o s.search.found
  found_first o e = ap (λ (b : Bool). if b then length old.search.found else improved s.search.best s.search.found) fresh.early ∙ ap (λ (p : Option ℤ). improved p s.search.found) e

  reached : (best : ℤ) → s.search.best ≡ Some best → (k : ℕ) × (k < found_before old s) × (k < length s.search.found) × ((at s.search.found k).value ≡ best)
  reached best e =
      let least : IsLeastFound s.search.found best = subst (IsBest s.search.found) e state.search.best in
      let h = first_at best s.search.found least.reached.0 least.reached.1 least.reached.2 in
      (h.0, subst (λ (n : ℕ). h.0 < n) (sym (found_first (Some best) e)) h.1, h.2, h.3)

  phases : (b : Bool) → s.search.proved ≡ b → ArePhases (first_run s.model settings) (points_of s.search.found)
  phases false e = early_phases s.model settings s.search state.search are e
  phases true e =
      late_phases s.model settings s.search state.search are (found_before old s) (cut_under settings.gaps s) one e (run.found.falls fresh.early) cut_is empty reached
      (λ k d lt. (run.found.wanted e k d lt).near)

  first_legal : (ended : RunEnd) → (ended ≡ end.NodeLimit → IsTreeFull (first_run s.model settings) (length s.search.tree.nodes)) → length s.search.tree.nodes ≤ room_of s.model
      → IsLegalRun (first_run s.model settings) (points_of s.search.found) ended (length s.search.tree.nodes)
  first_legal ended stopped most =
      legal s.model settings s.search state.search are ended (phases s.search.proved refl) stopped odd most limited
    where
      odd : length s.search.tree.nodes % 2 ≡ 1
      odd = ap (λ (n : ℕ). n % 2) (sym (length-map s.search.tree.nodes _) ∙ state.search.grown.tree.sized) ∙ state.search.grown.tree.odd

      limited : (length s.search.tree.nodes ≤ settings.node_limit) ⊎ (length s.search.tree.nodes ≤ 1)
      limited = elim run.size [
        | inl h ↦ inl h
        | inr h ↦ inr (let e = fresh.single in omega (arith, h, e))
      ]

-- the listed points of a state are the list
listed_points : (s : StateOf) (gaps : Gaps) (fs : FilterList) (r : Reply) → IsListedBy s gaps fs r
    → ((best : Option ℤ) (xs : List (List ℤ)) → IsPassedListAt s.model gaps fs best xs → IsListAt s.model gaps best xs)
    → ListsOf s.model gaps (points_of s.search.found) r
listed_points s gaps fs r h plain = record {
  optimum = s.search.best;
  serials = h.serials;
  reply_is = h.reply_is;
  known = subst (λ n. All (IsSerial n) h.serials) (sym (points_long s.search.found)) known;
  lists = subst (Lists s.model gaps [] s.search.best) (sym same) (lists_are s.model gaps s.search.best (points_at s.search.found h.serials) h.listing.optimum (plain s.search.best (points_at s.search.found h.serials) h.listing.listed));
}
  where
    known : All (IsSerial (length s.search.found)) h.serials
    known k d lt = record { first = (h.listing.known k d lt).first; last = (h.listing.known k d lt).last }

    same : map (point_of (points_of s.search.found)) h.serials ≡ points_at s.search.found h.serials
    same = same_points s.search.found h.serials (recursion_from_All (IsSerial (length s.search.found)) h.serials known)

abbrev pub PlainLists : Type 0
PlainLists = (m : ModelParts) (gaps : Gaps) (fs : FilterList) (best : Option ℤ) (xs : List (List ℤ)) → fs.held ≡ [] → IsPassedListAt m gaps fs best xs → IsListAt m gaps best xs

-- the run that ended so, with its notes and its reply
pub is_first_run : (old s : StateOf) (settings : Settings) (fs : FilterList) (e : PopEnd) (notes : List Entry) (r : Reply) → IsFresh old → fs.held ≡ [] → IsState s → AreFound s.model s.search.found
    → OneOptimum → SmallObjectives → FeasibleWithin → PlainLists
    → PopEnds old s settings.gaps fs settings.node_limit 4294967295 e → e ≢ pop.PopulateLimit → (room_of s.model ≤ settings.node_limit → e ≢ pop.NodeLimit)
    → IsPopulated old s settings.gaps fs settings.node_limit → length s.search.tree.nodes ≤ room_of s.model → IsReplyOf s settings.gaps fs e r
    → notes ≡ run_notes (points_of s.search.found) (run_end e) (length s.search.tree.nodes) → IsFirstRun s.model settings notes r
is_first_run old s settings fs pop.Done notes r fresh none state are one small within plain ends endless roomy run most reply noted = record {
  found = points_of s.search.found;
  ended = end.Done;
  nodes = length s.search.tree.nodes;
  noted = noted;
  legal = first_legal old s settings fs fresh state are one run end.Done (λ h. absurd (let bad : end.Done ≡ end.NodeLimit = h in cc)) most;
  small = subst IsSmall (sym reply.reply_is) (small_best s.model s.search.best small within state.lawful reply.listing.optimum);
  reply_is = listed_points s settings.gaps fs r reply (λ best xs. plain s.model settings.gaps fs best xs none);
}
is_first_run old s settings fs pop.NodeLimit notes r fresh none state are one small within plain ends endless roomy run most reply noted = record {
  found = points_of s.search.found;
  ended = end.NodeLimit;
  nodes = length s.search.tree.nodes;
  noted = noted;
  legal = first_legal old s settings fs fresh state are one run end.NodeLimit (λ h. record { full = ends.full.no_room; needed = needed (nat_lt settings.node_limit (room_of s.model)) refl }) most;
  small = subst IsSmall (sym reply) tt;
  reply_is = reply;
}
  where
    needed : (b : Bool) → nat_lt settings.node_limit (room_of s.model) ≡ b → settings.node_limit < room_of s.model
    needed true e = grind (arith, nat_tests)
    needed false e = absurd (roomy (grind (arith, nat_tests)) refl)
is_first_run old s settings fs pop.PopulateLimit notes r fresh none state are one small within plain ends endless roomy run most reply noted = absurd (endless refl)

-- a session that found nothing yet asks for the first run
asks_first : (view : View) (m : ModelParts) (settings : Settings) → view.settings ≡ settings → view.filters ≡ [] → view.found ≡ [] → view.nodes ≡ 1 → asked_of view m ≡ first_run m settings
asks_first view m settings s f x n = λ i. record { parts = m; settings = s i; filters = f i; found = x i; nodes = n i }

replies_after : (e : RunEnd) (named : NamedModel) (settings : Settings) (found : List (List ℤ)) (nodes : ℕ) (after : View) (r : Reply) → after.settings ≡ settings → after.filters ≡ [] → after.found ≡ found
    → RepliesTo e named.model settings.gaps found nodes r → RepliesAfter e named nodes after r
replies_after end.Done named settings found nodes after r s f x h = record {
  optimum = h.optimum;
  serials = h.serials;
  reply_is = h.reply_is;
  known = subst (λ xs. All (IsSerial (length xs)) h.serials) (sym x) h.known;
  lists = subst (λ gaps. Lists named.model gaps after.filters h.optimum (map (point_of after.found) h.serials)) (sym (ap (λ (t : Settings). t.gaps) s))
      (subst (λ filters. Lists named.model settings.gaps filters h.optimum (map (point_of after.found) h.serials)) (sym f)
      (subst (λ xs. Lists named.model settings.gaps [] h.optimum (map (point_of xs) h.serials)) (sym x) h.lists));
}
replies_after end.NodeLimit named settings found nodes after r s f x h = h
replies_after end.Optimal named settings found nodes after r s f x h = absurd h
replies_after end.Infeasible named settings found nodes after r s f x h = absurd h
replies_after end.PopulateLimit named settings found nodes after r s f x h = absurd h

pub is_listing : (named : NamedModel) (settings : Settings) (l : Listing) → l.names ≡ named.names → l.state.model ≡ named.model → IsFirstRun named.model settings l.notes.items l.reply → IsListing named settings l
is_listing named settings l names model run = record {
  names = names;
  model = model;
  small = run.small;
  found = run.found;
  nodes = run.nodes;
  says = λ view s f x n. record {
    found = run.found;
    ended = run.ended;
    nodes = run.nodes;
    noted = run.noted;
    legal = subst (λ a. IsLegalRun a run.found run.ended run.nodes) (sym (asks_first view named.model settings s f x n)) run.legal;
    after_is = refl;
    reply_is = replies_after run.ended named settings run.found run.nodes (after_run view run.found run.nodes) l.reply s f (ap (λ xs. xs ++ run.found) x) run.reply_is;
  };
}

-- no filter is held
pub no_filter_fits : (m : ModelParts) (fs : FilterList) → fs.held ≡ [] → AreFit m fs
no_filter_fits m fs none = record { each = subst (All (λ h. Fits m h.filter)) (sym none) (λ k d lt. absurd (omega arith)) }
