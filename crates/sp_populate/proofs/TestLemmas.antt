-- Whether a found point is listed, as a test.
use Rattle.std.proofs.Common.{◌≡◌, zero, suc, Bool, true, false, ◌&&◌, ◌↔◌, List, [], ◌∷◌, IsTrue, ℤ, ◌≤ℤ◌, int_le, int_lt, Result, Ok, Err, IfOk, refl, sym, ◌∙◌, arith}
use Rattle.std.specs.List.{list_all}
use Rattle.std.proofs.lemmas.Int.{ints}
use Rattle.std.proofs.lemmas.List.Elements.{All-head, All-tail}
use Rattle.sp_list.specs.declared.found.Found.{Found}
use Rattle.sp_filter.specs.declared.holding.Held.{Held}
use Rattle.sp_filter.specs.Filters.{is_passed}
use Rattle.sp_filter.specs.Held.{FilterList, Passes}
use Rattle.sp_populate.specs.Listings.{passes}
use Rattle.sp_populate.specs.InnerLists.{is_listed}

and-true : (a b : Bool) → a ≡ true → b ≡ true → (a && b) ≡ true
and-true true true e k = refl
and-true true false e k = cc
and-true false b e k = cc

true-and : (a b : Bool) → (a && b) ≡ true → (a ≡ true) × (b ≡ true)
true-and true true e = (refl, refl)
true-and true false e = cc
true-and false b e = cc

pub passes-from : (hs : List Held) (x : List ℤ) → Passes hs x → list_all (λ h. is_passed h.filter x) hs ≡ true
passes-from [] x all = refl
passes-from (h ∷ hs) x all =
    let P : Held → Type 0 = λ h. IsTrue (is_passed h.filter x) in
    and-true (is_passed h.filter x) (list_all (λ h. is_passed h.filter x) hs) (All-head P h hs all) (passes-from hs x (All-tail P h hs all))

pub passes-to : (hs : List Held) (x : List ℤ) → list_all (λ h. is_passed h.filter x) hs ≡ true → Passes hs x
passes-to [] x e k d h = absurd (omega (arith, h))
passes-to (g ∷ hs) x e zero d h = (true-and (is_passed g.filter x) (list_all (λ h. is_passed h.filter x) hs) e).0
passes-to (g ∷ hs) x e (suc k) d h = passes-to hs x (true-and (is_passed g.filter x) (list_all (λ h. is_passed h.filter x) hs) e).1 k d (omega (arith, h))

pub le-test : (a b : ℤ) → a ≤ℤ b → int_le a b ≡ true
le-test a b h = grind (arith, ints)

pub test-le : (a b : ℤ) → int_le a b ≡ true → a ≤ℤ b
test-le a b h = grind (arith, ints)

pub listed-from : (cut : ℤ) (fs : FilterList) (f : Found) → f.value ≤ℤ cut → Passes fs.held f.point → is_listed cut fs f ≡ true
listed-from cut fs f near passed = and-true (int_le f.value cut) (passes fs f.point) (le-test f.value cut near) (passes-from fs.held f.point passed)

pub listed-parts : (cut : ℤ) (fs : FilterList) (f : Found) → is_listed cut fs f ≡ true → (f.value ≤ℤ cut) × Passes fs.held f.point
listed-parts cut fs f e =
    let parts = true-and (int_le f.value cut) (passes fs f.point) e in
    (test-le f.value cut parts.0, passes-to fs.held f.point parts.1)

same-bool : (a b : Bool) → (a ≡ true → b ≡ true) → (b ≡ true → a ≡ true) → a ≡ b
same-bool true b h k = sym (h refl)
same-bool false true h k = k refl
same-bool false false h k = refl

-- the answer of a call that tests each filter
pub passes-is : (fs : FilterList) (x : List ℤ) (r : Bool) → (IsTrue r ↔ Passes fs.held x) → r ≡ passes fs x
passes-is fs x r h = same-bool r (passes fs x) (λ e. passes-from fs.held x (h.0 e)) (λ e. h.1 (passes-to fs.held x e))

and-left : (a b : Bool) → a ≡ true → b ≡ (a && b)
and-left true b e = refl
and-left false b e = cc

-- the answer of a call that tests each filter, for a point that isn't above the cut
pub tested : (cut : ℤ) (fs : FilterList) (f : Found) (r : Bool) → f.value ≤ℤ cut → (IsTrue r ↔ Passes fs.held f.point) → r ≡ is_listed cut fs f
tested cut fs f r near h = passes-is fs f.point r h ∙ and-left (int_le f.value cut) (passes fs f.point) (le-test f.value cut near)

pub not-less : (a b : ℤ) → int_lt a b ≡ false → b ≤ℤ a
not-less a b h = grind (arith, ints)

-- a fact of an answer that may be an error
pub map-okay : {X E : Type 0} (P Q : X → Type 0) (r : Result X E) → ((x : X) → P x → Q x) → IfOk r P → IfOk r Q
map-okay P Q (Ok x) f h = f x h
map-okay P Q (Err e) f h = h
