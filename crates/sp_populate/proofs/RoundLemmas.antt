-- Rounds of collecting whose cut falls.
use Rattle.std.proofs.Common.{◌≡◌, ℕ, ◌≤◌, ◌⊎◌, inl, inr, Bool, Option, None, Some, IfSome, List, ◌++◌, filter, length, ℤ, ◌≤ℤ◌, ◌<ℤ◌, refl, ap, ◌∙◌, arith, append_assoc}
use Rattle.std.proofs.lemmas.Int.{ints}
use Rattle.std.proofs.lemmas.Option.{same_Some}
use Rattle.std.proofs.lemmas.List.Elements.{All-append}
use Rattle.sp_list.specs.declared.found.Found.{Found}
use Rattle.sp_filter.specs.Held.{FilterList}
use Rattle.sp_tree.specs.declared.nodes.Node.{Node}
use Rattle.sp_tree.specs.declared.nodes.Kind.{Kind}
use Rattle.sp_tree.specs.declared.nodes.Kind.TheVariants.{Split, Open, Dead, Bounded, Screened, Point}
use Rattle.sp_tree.specs.Trees.{IsLicensed, is_held, node_at}
use Rattle.sp_search.specs.States.{AreFit, IsCovered, StateOf, with_search}
use Rattle.sp_search.specs.Runs.{IsStuck, KeepsShut}
use Rattle.sp_tree.specs.Laws.{Extends}
use Rattle.sp_populate.specs.Ends.{IsWithinBoth, KeepsLicensed, SparesLicensed, collecting}
use Rattle.sp_populate.specs.InnerBest.{IsCutFor, IsGathered, IsLowered}
use Rattle.sp_populate.specs.InnerEnds.{AreSettled, IsLater, IsSettledKind}
use Rattle.sp_populate.specs.InnerLists.{is_listed}
use Rattle.sp_populate.proofs.BestLemmas.{count-more}
use Rattle.sp_populate.proofs.CollectLemmas.{Joined, size-joined}
use Rattle.sp_populate.proofs.KeepLemmas.{Marks, Spares, kept-all}
use Rattle.sp_populate.proofs.ReopenLemmas.{IsReopened, later-from}

-- ---- cuts

pub up : (a b c : ℤ) → a ≤ℤ b → b ≤ℤ c → a ≤ℤ c
up a b c h k = omega (arith, ints, h, k)

pub same-cut : (cut : ℤ) → cut ≤ℤ cut
same-cut cut = omega (arith, ints)

many-lower : (found : List Found) (fs : FilterList) (k : ℕ) (cut new most : ℤ) → (cut ≡ most) ⊎ (k ≤ length (filter (is_listed cut fs) found))
    → (new ≡ cut) ⊎ (k ≤ length (filter (is_listed new fs) found)) → (new ≡ most) ⊎ (k ≤ length (filter (is_listed new fs) found))
many-lower found fs k cut new most (inl e) (inl f) = inl (f ∙ e)
many-lower found fs k cut new most (inr h) (inl f) = inr (rw f h)
many-lower found fs k cut new most h (inr m) = inr m

pub cut-lower : (found : List Found) (best : Option ℤ) (fs : FilterList) (k : ℕ) (cut new most : ℤ) → IsCutFor found cut most fs k → IsLowered found best fs k cut new
    → IsCutFor found new most fs k
cut-lower found best fs k cut new most h l = record { lower = up new cut most l.lower h.lower; many = many-lower found fs k cut new most h.many l.many }

pub cut-first : (found : List Found) (best : Option ℤ) (fs : FilterList) (k : ℕ) (cut new : ℤ) → IsLowered found best fs k cut new → IsCutFor found new cut fs k
cut-first found best fs k cut new l = record { lower = l.lower; many = l.many }

many-more : (found more : List Found) (fs : FilterList) (k : ℕ) (cut most : ℤ) → (cut ≡ most) ⊎ (k ≤ length (filter (is_listed cut fs) found))
    → (cut ≡ most) ⊎ (k ≤ length (filter (is_listed cut fs) (found ++ more)))
many-more found more fs k cut most (inl e) = inl e
many-more found more fs k cut most (inr m) = inr (count-more (is_listed cut fs) found more k m)

-- more was found
pub cut-more : (old new : List Found) (more : List Found) (fs : FilterList) (k : ℕ) (cut most : ℤ) → new ≡ old ++ more → IsCutFor old cut most fs k → IsCutFor new cut most fs k
cut-more old new more fs k cut most grows h = rw grows (record { lower = h.lower; many = many-more old more fs k cut most h.many })

-- ---- leaves at a lower cut

kind-lower : (cut new : ℤ) (held : ℕ → Bool) (k : Kind) → new ≤ℤ cut → IsSettledKind cut held k → IsSettledKind new held k
kind-lower cut new held (Split var at left right) lower h = tt
kind-lower cut new held Open lower h = tt
kind-lower cut new held (Dead reason) lower h = tt
kind-lower cut new held (Bounded bound) lower h = omega (arith, ints, lower, h)
kind-lower cut new held (Screened f) lower h = h
kind-lower cut new held (Point serial) lower h = tt

pub settled-lower : (cut new : ℤ) (held : ℕ → Bool) (nodes : List Node) → new ≤ℤ cut → AreSettled cut held nodes → AreSettled new held nodes
settled-lower cut new held nodes lower all = λ k d h. kind-lower cut new held _ lower (all k d h)

licensed-lower : (cut new : ℤ) (held : ℕ → Bool) (k : Kind) → new ≤ℤ cut → IsLicensed cut held k → IsLicensed new held k
licensed-lower cut new held (Split var at left right) lower h = h
licensed-lower cut new held Open lower h = h
licensed-lower cut new held (Dead reason) lower h = tt
licensed-lower cut new held (Bounded bound) lower h = omega (arith, ints, lower, h)
licensed-lower cut new held (Screened f) lower h = h
licensed-lower cut new held (Point serial) lower h = tt

-- ---- runs

pub later-most : (old new : StateOf) (cut most : ℤ) (fs : FilterList) (limit : ℕ) → cut ≤ℤ most → IsLater old new cut fs limit → IsLater old new most fs limit
later-most old new cut most fs limit lower h = record {
  rest = h.rest;
  extends = h.extends;
  size = h.size;
  best = h.best;
  proved = h.proved;
  more = h.more;
  grows = h.grows;
  wanted = λ k d i. let w = h.wanted k d i in record { near = up _ cut most w.near lower; passes = w.passes };
}

pub later-join : Joined → (a b c : StateOf) (cut : ℤ) (fs : FilterList) (limit : ℕ) → IsLater a b cut fs limit → IsLater b c cut fs limit → IsLater a c cut fs limit
later-join join a b c cut fs limit h k = record {
  rest = k.rest ∙ ap (λ s. with_search s c.search) h.rest;
  extends = join a.search.tree b.search.tree c.search.tree h.extends k.extends;
  size = size-joined (length a.search.tree.nodes) (length b.search.tree.nodes) (length c.search.tree.nodes) limit h.size k.size;
  best = k.best ∙ h.best;
  proved = k.proved ∙ h.proved;
  more = h.more ++ k.more;
  grows = k.grows ∙ ap (λ g. g ++ k.more) h.grows ∙ append_assoc a.search.found h.more k.more;
  wanted = All-append (IsWithinBoth cut fs) h.more k.more h.wanted k.wanted;
}

-- ---- ends

not-past : (cut most v : ℤ) → cut ≤ℤ most → (cut <ℤ v → ⊥) → most <ℤ v → ⊥
not-past cut most v lower not h = not (omega (arith, ints, lower, h))

-- what nothing closes at a cut, nothing closes at a higher one
pub stuck-most : (s : StateOf) (cut most : ℤ) (fs : FilterList) (limit : ℕ) → cut ≤ℤ most → IsStuck s (collecting cut fs) limit → IsStuck s (collecting most fs) limit
stuck-most s cut most fs limit lower h = record {
  node = h.node;
  leaf = h.leaf;
  full = record {
    no_room = h.full.no_room;
    many = h.full.many;
    unclosed = record {
      unreasoned = h.full.unclosed.unreasoned;
      unlisted = record { none = λ k d i v is. not-past cut most v lower (h.full.unclosed.unlisted.none k d i v is) };
      unscreened = h.full.unclosed.unscreened;
    };
  };
}

pub best-above : (best : Option ℤ) (b new : ℤ) → best ≡ Some b → b ≤ℤ new → IfSome best (λ v. v ≤ℤ new)
best-above None b new e h = tt
best-above (Some v) b new e h = let same : v ≡ b = same_Some v b e in rw same h

pub lowered-to : (found : List Found) (best : Option ℤ) (fs : FilterList) (k count : ℕ) (cut b new : ℤ) → new ≤ℤ cut → best ≡ Some b → b ≤ℤ new
    → count ≡ length (filter (is_listed new fs) found) → k ≤ count → IsLowered found best fs k cut new
lowered-to found best fs k count cut b new lower is above counted many = record {
  lower = lower;
  above = λ h. best-above best b new is above;
  many = inr (rw counted at many);
}

pub lowered-same : (found : List Found) (best : Option ℤ) (fs : FilterList) (k : ℕ) (cut : ℤ) → IsLowered found best fs k cut cut
lowered-same found best fs k cut = record { lower = same-cut cut; above = λ h. h; many = inl refl }

pub fits-reopened : (mid r : StateOf) (cut most : ℤ) (fs : FilterList) (k : ℕ) → IsReopened mid r cut fs → IsLowered mid.search.found mid.search.best fs k most cut
    → IsCutFor r.search.found cut most fs k
fits-reopened mid r cut most fs k e l =
    let same : r.search.found ≡ mid.search.found = ap (λ s. s.search.found) e in
    rw same (cut-first mid.search.found mid.search.best fs k most cut l)

-- ---- licensed leaves

pub spared-most : (cut most : ℤ) (held : ℕ → Bool) (old new : List Node) → cut ≤ℤ most → KeepsLicensed cut held old new → SparesLicensed most held old new
spared-most cut most held old new lower h = record {
  each = λ i i-in l. (h.each i i-in).licensed (licensed-lower most cut held (node_at old i).kind lower l);
}

pub spared-same : (cut : ℤ) (held : ℕ → Bool) (nodes : List Node) → SparesLicensed cut held nodes nodes
spared-same cut held nodes = record { each = λ i i-in l. refl }

pub spared-join : (cut : ℤ) (held : ℕ → Bool) (a b c : List Node) → length a ≤ length b → SparesLicensed cut held a b → SparesLicensed cut held b c → SparesLicensed cut held a c
spared-join cut held a b c long h k = record {
  each = λ i i-in l.
      let one : node_at b i ≡ node_at a i = h.each i i-in l in
      k.each i (omega (arith, i-in, long)) (rw one l) ∙ one;
}

-- ---- gathering

pub gathered-one : Joined → Spares → Marks → (old r new : StateOf) (cut most : ℤ) (fs : FilterList) (limit : ℕ) → IsReopened old r cut fs → Extends old.search.tree r.search.tree
    → (IsCovered fs old → IsCovered fs r) → cut ≤ℤ most → IsLater r new cut fs limit → KeepsShut r.search.tree.nodes new.search.tree.nodes → (IsCovered fs r → IsCovered fs new)
    → IsGathered old new most fs limit
gathered-one join spares marks old r new cut most fs limit e extends opened lower run touched covered = record {
  run = later-most old new cut most fs limit lower (later-from join old r new cut fs limit e extends run);
  kept = spared-most cut most (is_held fs) old.search.tree.nodes new.search.tree.nodes lower
      (kept-all spares marks cut (is_held fs) old.search.tree.nodes r.search.tree.nodes new.search.tree.nodes (ap (λ s. s.search.tree.nodes) e) touched);
  covered = λ h. covered (opened h);
}

pub gathered-join : Joined → (a b c : StateOf) (most : ℤ) (fs : FilterList) (limit : ℕ) → IsGathered a b most fs limit → IsGathered b c most fs limit → IsGathered a c most fs limit
gathered-join join a b c most fs limit h k = record {
  run = later-join join a b c most fs limit h.run k.run;
  kept = spared-join most (is_held fs) a.search.tree.nodes b.search.tree.nodes c.search.tree.nodes h.run.extends.known h.kept k.kept;
  covered = λ i. k.covered (h.covered i);
}

best-up : (best : Option ℤ) (low new : ℤ) → low ≤ℤ new → IfSome best (λ v. v ≤ℤ low) → IfSome best (λ v. v ≤ℤ new)
best-up None low new lower h = tt
best-up (Some v) low new lower h = up v low new h lower

pub above-next : (old new : StateOf) (cut next most : ℤ) (fs : FilterList) (limit : ℕ) → IsGathered old new most fs limit → IfSome old.search.best (λ v. v ≤ℤ cut) → cut ≤ℤ next
    → IfSome new.search.best (λ v. v ≤ℤ next)
above-next old new cut next most fs limit g h lower = rw g.run.best (best-up old.search.best cut next lower h)

pub fit-next : (old new : StateOf) (most : ℤ) (fs : FilterList) (limit : ℕ) → IsGathered old new most fs limit → AreFit old.model fs → AreFit new.model fs
fit-next old new most fs limit g h = rw (ap (λ s. s.model) g.run.rest) h

pub some-lower : (best : Option ℤ) (b most : ℤ) → Some b ≡ best → IfSome best (λ v. v ≤ℤ most) → b ≤ℤ most
some-lower None b most e h = cc
some-lower (Some v) b most e h = let same : b ≡ v = same_Some b v e in rw same h
