-- What a reopening does to a leaf, by its licence.
use Rattle.std.proofs.Common.{◌≡◌, ℕ, ◌⊎◌, inl, inr, Bool, true, false, not, cond, IsTrue, Some, None, ℤ, int_le, ◌<ℤ◌, refl, sym, ap, ◌∙◌, arith}
use Rattle.std.proofs.lemmas.Int.{ints}
use Rattle.std.proofs.lemmas.Bool.{false≢true}
use Rattle.sp_tree.specs.declared.nodes.Bound.{Bound}
use Rattle.sp_tree.specs.declared.nodes.Node.{Node}
use Rattle.sp_tree.specs.declared.nodes.Kind.{Kind}
use Rattle.sp_tree.specs.declared.nodes.Kind.TheVariants.{Split, Open, Dead, Bounded, Screened, Point}
use Rattle.sp_tree.specs.Trees.{split_of, IsLicensed, is_reopened, is_reopened_kind, opened, reopened}

test-above : (a b : ℤ) → int_le a b ≡ false → b <ℤ a
test-above a b h = grind (arith, ints)

above-test : (a b : ℤ) → b <ℤ a → int_le a b ≡ false
above-test a b h = grind (arith, ints)

true-or-false : (b : Bool) → (b ≡ true) ⊎ (b ≡ false)
true-or-false true = inl refl
true-or-false false = inr refl

-- the bound is at most the cut, or it is above the cut
above-cut : (least cut : ℤ) → (int_le least cut ≡ true) ⊎ (cut <ℤ least)
above-cut least cut = elim (true-or-false (int_le least cut)) [ inl h ↦ inl h | inr h ↦ inr (test-above least cut h) ]

licensed-stays : (cut : ℤ) (held : ℕ → Bool) (kind : Kind) → IsLicensed cut held kind → is_reopened_kind cut held kind ≡ false
licensed-stays cut held (Split var at left right) h = refl
licensed-stays cut held Open h = refl
licensed-stays cut held (Dead reason) h = refl
licensed-stays cut held (Bounded bound) h = above-test bound.least cut h
licensed-stays cut held (Screened filter) h = ap not h
licensed-stays cut held (Point serial) h = refl

not-held : (b : Bool) → not b ≡ false → IsTrue b
not-held true h = refl
not-held false h = absurd (false≢true (sym h))

stays-licensed : (cut : ℤ) (held : ℕ → Bool) (kind : Kind) → is_reopened_kind cut held kind ≡ false → split_of kind ≡ None → (kind ≡ Open) ⊎ IsLicensed cut held kind
stays-licensed cut held (Split var at left right) h e = absurd cc
stays-licensed cut held Open h e = inl refl
stays-licensed cut held (Dead reason) h e = inr tt
stays-licensed cut held (Bounded bound) h e = inr (test-above bound.least cut h)
stays-licensed cut held (Screened filter) h e = inr (not-held (held filter) h)
stays-licensed cut held (Point serial) h e = inr tt

pub chosen-no : (n : Node) (c : Bool) → c ≡ false → cond {A = Node} c (opened n) n ≡ n
chosen-no n c h = rw h refl

chosen-yes : (n : Node) (c : Bool) → c ≡ true → cond {A = Node} c (opened n) n ≡ opened n
chosen-yes n c h = rw h refl

pub spared : (cut : ℤ) (held : ℕ → Bool) (n : Node) → IsLicensed cut held n.kind → reopened cut held n ≡ n
spared cut held n h = chosen-no n (is_reopened cut held n) (licensed-stays cut held n.kind h)

split-opened : (n : Node) (c : Bool) (held : ℕ → Bool) (cut : ℤ) → c ≡ is_reopened_kind cut held n.kind → split_of n.kind ≡ None → ((cond {A = Node} c (opened n) n).kind ≡ Open) ⊎ IsLicensed cut held (cond {A = Node} c (opened n) n).kind
split-opened n true held cut is e = inl refl
split-opened n false held cut is e = stays-licensed cut held n.kind (sym is) e

pub settled : (cut : ℤ) (held : ℕ → Bool) (n : Node) → split_of n.kind ≡ None → ((reopened cut held n).kind ≡ Open) ⊎ IsLicensed cut held (reopened cut held n).kind
settled cut held n e = split-opened n (is_reopened cut held n) held cut refl e

bounded-opened : (cut : ℤ) (held : ℕ → Bool) (bound : Bound) → ¬ IsLicensed cut held (Bounded bound) → int_le bound.least cut ≡ true
bounded-opened cut held bound not-licensed = elim (above-cut bound.least cut) [ inl h ↦ h | inr h ↦ absurd (not-licensed h) ]

pub marked : (cut : ℤ) (held : ℕ → Bool) (n : Node) (bound : Bound) → n.kind ≡ Bounded bound → ¬ IsLicensed cut held n.kind → reopened cut held n ≡ record { mark = Some bound; kind = Open }
marked cut held n bound is not-licensed =
    let still : ¬ IsLicensed cut held (Bounded bound) = λ l. not-licensed (rw is l) in
    let yes : is_reopened cut held n ≡ true = ap (is_reopened_kind cut held) is ∙ bounded-opened cut held bound still in
    chosen-yes n (is_reopened cut held n) yes ∙ rw is refl
