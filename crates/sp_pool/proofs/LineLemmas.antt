-- What a new member and a removed one leave of the links.
use Rattle.std.proofs.Common.{◌≡◌, ◌≢◌, ℕ, zero, suc, ◌+◌, ◌-◌, ◌<◌, Bool, true, false, not, ◌||◌, eqb, List, [], ◌∷◌, ◌++◌, length, Option, Some, None, refl, sym, ap, ◌∙◌, subst, inl, inr, arith, append_assoc, length-append}
use Rattle.std.proofs.lemmas.Bool.{cases_Bool, cond-true, cond-false}
use Rattle.std.proofs.lemmas.Bool.Decides.{nat_tests}
use Rattle.std.proofs.lemmas.List.Folds.{list_any-append}
use Rattle.std.specs.Option.{option_map_or, option_and_then}
use Rattle.slab.specs.Slab.{Slab, get, slab_len, Updates}
use Rattle.sp_pool.specs.declared.members.Member.{Member}
use Rattle.sp_pool.specs.declared.nodes.Node.{Node}
use Rattle.sp_pool.specs.InnerLines.{Keyed, has_key, AreApart, without_key, member_at, members_in, first_key, last_key, node_of, Links, walk, with_after, with_before, changed, relinked, Relinks, end_with, IsLinked}

-- ---- keys

eqb_refl : (k : ℕ) → eqb k k ≡ true
eqb_refl k = grind (arith, nat_tests)

pub differ : (j k : ℕ) → eqb j k ≡ false → k ≢ j
differ j k h e = grind (arith, nat_tests)

pub differ_test : (j k : ℕ) → k ≢ j → eqb j k ≡ false
differ_test j k h = grind (arith, nat_tests)

eqb_other : (j k : ℕ) → eqb j k ≡ false → eqb k j ≡ false
eqb_other j k h = grind (arith, nat_tests)

or_false : (a b : Bool) → (a || b) ≡ false → (a ≡ false) × (b ≡ false)
or_false false b h = (refl, h)
or_false true b h = absurd (cc)

both_false : (a b : Bool) → a ≡ false → b ≡ false → (a || b) ≡ false
both_false a b h k = elim (cases_Bool a) [ inl t ↦ absurd (cc) | inr f ↦ let e : (a || b) ≡ (false || b) = ap (λ x. x || b) f in e ∙ k ]

pub has_none : (k : ℕ) (ps qs : List Keyed) → has_key k (ps ++ qs) ≡ false → (has_key k ps ≡ false) × (has_key k qs ≡ false)
has_none k ps qs h = or_false _ _ (sym (list_any-append (λ (p : Keyed). eqb p.0 k) ps qs) ∙ h)

pub has_no : (k : ℕ) (ps qs : List Keyed) → has_key k ps ≡ false → has_key k qs ≡ false → has_key k (ps ++ qs) ≡ false
has_no k ps qs h i = list_any-append (λ (p : Keyed). eqb p.0 k) ps qs ∙ both_false _ _ h i

-- where the members of a key stand, if it has one
pub record IsSplit (key : ℕ) (ps : List Keyed) : Type 0 where
  pub before : List Keyed
  pub here : Member
  pub behind : List Keyed
  pub is : ps ≡ before ++ (key, here) ∷ behind
  pub not_before : has_key key before ≡ false

pub split_at : (key : ℕ) (ps : List Keyed) → has_key key ps ≡ true → IsSplit key ps
split_at key [] h = absurd (cc)
split_at key (p ∷ ps) h =
    elim (cases_Bool (eqb p.0 key)) [
      | inl same ↦
          let e : p.0 ≡ key = grind (arith, nat_tests) in
          record { before = []; here = p.1; behind = ps; is = ap (λ k. (let q : Keyed = (k, p.1) in q) ∷ ps) e; not_before = refl }
      | inr other ↦
          let later : IsSplit key ps = split_at key ps (sym (ap (λ b. b || has_key key ps) other) ∙ h) in
          record {
            before = p ∷ later.before;
            here = later.here;
            behind = later.behind;
            is = ap (λ qs. p ∷ qs) later.is;
            not_before = both_false _ _ other later.not_before;
          }
    ]

pub apart_front : (ps qs : List Keyed) → AreApart (ps ++ qs) → AreApart ps
apart_front [] qs h = tt
apart_front (p ∷ ps) qs h = ((has_none p.0 ps qs h.0).0, apart_front ps qs h.1)

pub apart_back : (ps qs : List Keyed) → AreApart (ps ++ qs) → AreApart qs
apart_back [] qs h = h
apart_back (p ∷ ps) qs h = apart_back ps qs h.1

-- the members without one in the middle
pub apart_middle : (ps : List Keyed) (q : Keyed) (qs : List Keyed) → AreApart (ps ++ q ∷ qs) → AreApart (ps ++ qs)
apart_middle [] q qs h = h.1
apart_middle (p ∷ ps) q qs h =
    let none = has_none p.0 ps (q ∷ qs) h.0 in
    (has_no p.0 ps qs none.0 (or_false _ _ none.1).1, apart_middle ps q qs h.1)

-- the front has none of the keys behind it
pub apart_from : (ps : List Keyed) (q : Keyed) (qs : List Keyed) → AreApart (ps ++ q ∷ qs) → has_key q.0 ps ≡ false
apart_from [] q qs h = refl
apart_from (p ∷ ps) q qs h =
    let none = has_none p.0 ps (q ∷ qs) h.0 in
    let back = or_false (eqb q.0 p.0) (has_key p.0 qs) none.1 in
    let other : eqb p.0 q.0 ≡ false = eqb_other q.0 p.0 back.0 in
    both_false _ _ other (apart_from ps q qs h.1)

pub apart_push : (ps : List Keyed) (q : Keyed) → AreApart ps → has_key q.0 ps ≡ false → AreApart (ps ++ q ∷ [])
apart_push [] q h k = (refl, tt)
apart_push (p ∷ ps) q h k =
    let parts = or_false (eqb p.0 q.0) (has_key q.0 ps) k in
    let other : eqb q.0 p.0 ≡ false = eqb_other p.0 q.0 parts.0 in
    (has_no p.0 ps (q ∷ []) h.0 (both_false _ _ other refl), apart_push ps q h.1 parts.1)

pub without_none : (key : ℕ) (ps : List Keyed) → has_key key ps ≡ false → without_key key ps ≡ ps
without_none key [] h = refl
without_none key (p ∷ ps) h =
    let parts = or_false _ _ h in
    cond-true (not (eqb p.0 key)) _ _ (ap not parts.0) ∙ ap (λ qs. p ∷ qs) (without_none key ps parts.1)

pub without_middle : (key : ℕ) (ps : List Keyed) (m : Member) (qs : List Keyed) → has_key key ps ≡ false → has_key key qs ≡ false → without_key key (ps ++ (key, m) ∷ qs) ≡ ps ++ qs
without_middle key [] m qs h k = cond-false (not (eqb key key)) _ _ (ap not (eqb_refl key)) ∙ without_none key qs k
without_middle key (p ∷ ps) m qs h k =
    let parts = or_false _ _ h in
    cond-true (not (eqb p.0 key)) _ _ (ap not parts.0) ∙ ap (λ rs. p ∷ rs) (without_middle key ps m qs parts.1 k)

-- ---- links

pub links_split : (s : Slab Node) (b : Option ℕ) (ps qs : List Keyed) (a : Option ℕ) → Links s b (ps ++ qs) a → Links s b ps (first_key qs a) × Links s (last_key b ps) qs a
links_split s b [] qs a h = (tt, h)
links_split s b (p ∷ []) qs a h = ((h.0, tt), h.1)
links_split s b (p ∷ r ∷ ps) qs a h = let rest = links_split s (Some p.0) (r ∷ ps) qs a h.1 in ((h.0, rest.0), rest.1)

pub links_join : (s : Slab Node) (b : Option ℕ) (ps qs : List Keyed) (a : Option ℕ) → Links s b ps (first_key qs a) → Links s (last_key b ps) qs a → Links s b (ps ++ qs) a
links_join s b [] qs a h k = k
links_join s b (p ∷ []) qs a h k = (h.0, k)
links_join s b (p ∷ r ∷ ps) qs a h k = (h.0, links_join s (Some p.0) (r ∷ ps) qs a h.1 k)

-- the slots of these members stay
pub links_kept : (old new : Slab Node) (b : Option ℕ) (ps : List Keyed) (a : Option ℕ) → ((k : ℕ) → has_key k ps ≡ true → get new k ≡ get old k) → Links old b ps a → Links new b ps a
links_kept old new b [] a same h = tt
links_kept old new b (p ∷ ps) a same h = (
  same p.0 (ap (λ x. x || has_key p.0 ps) (eqb_refl p.0)) ∙ h.0,
  links_kept old new (Some p.0) ps a (λ k there. same k (either (eqb p.0 k) _ there)) h.1,
)
  where
    either : (x y : Bool) → y ≡ true → (x || y) ≡ true
    either true y h = refl
    either false y h = h

pub links_some : (s : Slab Node) (b : Option ℕ) (ps : List Keyed) (a : Option ℕ) (key : ℕ) → Links s b ps a → get s key ≡ None → has_key key ps ≡ false
links_some s b [] a key h none = refl
links_some s b (p ∷ ps) a key h none = both_false _ _ (differ_test p.0 key (λ e. let here = h.0 in let at : get s key ≡ get s p.0 = ap (get s) e in absurd (cc))) (links_some s (Some p.0) ps a key h.1 none)

-- ---- changes of one node

relinked_none : (at : Option ℕ) (f : Node → Node) (key : ℕ) (slot : Option Node) → slot ≡ None → relinked at f key slot ≡ None
relinked_none None f key slot h = h
relinked_none (Some n) f key slot h =
    elim (cases_Bool (eqb n key)) [
      | inl t ↦ cond-true (eqb n key) _ _ t ∙ ap (changed f) h
      | inr o ↦ cond-false (eqb n key) _ _ o ∙ h
    ]

relinked_first : (qs : List Keyed) (f : Node → Node) (key : ℕ) (slot : Option Node) → has_key key qs ≡ false → relinked (first_key qs None) f key slot ≡ slot
relinked_first [] f key slot h = refl
relinked_first (q ∷ qs) f key slot h = cond-false (eqb q.0 key) _ _ (or_false _ _ h).0

relinked_last_from : (n : ℕ) (ps : List Keyed) (f : Node → Node) (key : ℕ) (slot : Option Node) → eqb n key ≡ false → has_key key ps ≡ false → relinked (last_key (Some n) ps) f key slot ≡ slot
relinked_last_from n [] f key slot h k = cond-false (eqb n key) _ _ h
relinked_last_from n (p ∷ ps) f key slot h k = let parts = or_false _ _ k in relinked_last_from p.0 ps f key slot parts.0 parts.1

relinked_last : (ps : List Keyed) (f : Node → Node) (key : ℕ) (slot : Option Node) → has_key key ps ≡ false → relinked (last_key None ps) f key slot ≡ slot
relinked_last [] f key slot h = refl
relinked_last (p ∷ ps) f key slot h = let parts = or_false _ _ h in relinked_last_from p.0 ps f key slot parts.0 parts.1

relinked_here : (n : ℕ) (f : Node → Node) (slot : Option Node) (node : Node) → slot ≡ Some node → relinked (Some n) f n slot ≡ Some (f node)
relinked_here n f slot node h = cond-true (eqb n n) _ _ (eqb_refl n) ∙ ap (changed f) h

-- the last of these members names another next key
links_end_from : (old new : Slab Node) (b : Option ℕ) (p : Keyed) (ps : List Keyed) (a a' : Option ℕ) → Relinks old new (last_key (Some p.0) ps) (with_after a') → AreApart (p ∷ ps) → Links old b (p ∷ ps) a → Links new b (p ∷ ps) a'
links_end_from old new b p [] a a' r apart h = (r.each p.0 ∙ relinked_here p.0 (with_after a') _ _ h.0, tt)
links_end_from old new b p (q ∷ ps) a a' r apart h =
    let parts = or_false _ _ apart.0 in (
      r.each p.0 ∙ relinked_last_from q.0 ps (with_after a') p.0 _ parts.0 parts.1 ∙ h.0,
      links_end_from old new (Some p.0) q ps a a' r apart.1 h.1,
    )

pub links_end : (old new : Slab Node) (ps : List Keyed) (a a' : Option ℕ) → Relinks old new (last_key None ps) (with_after a') → AreApart ps → Links old None ps a → Links new None ps a'
links_end old new [] a a' r apart h = tt
links_end old new (p ∷ ps) a a' r apart h = links_end_from old new None p ps a a' r apart h

-- the first of these members names another key before it
pub links_start : (old new : Slab Node) (b b' : Option ℕ) (qs : List Keyed) → Relinks old new (first_key qs None) (with_before b') → AreApart qs → Links old b qs None → Links new b' qs None
links_start old new b b' [] r apart h = tt
links_start old new b b' (q ∷ qs) r apart h = (
  r.each q.0 ∙ relinked_here q.0 (with_before b') _ _ h.0,
  links_kept old new (Some q.0) qs None (λ k there. r.each k ∙ cond-false (eqb q.0 k) _ _ (differ_test q.0 k (λ e. let x : has_key q.0 qs ≡ true = subst (λ i. has_key i qs ≡ true) e there in let y = apart.0 in absurd (cc)))) h.1,
)

-- ---- the walk

pub walk_is : (s : Slab Node) (b : Option ℕ) (ps : List Keyed) (n : ℕ) → Links s b ps None → n ≡ length ps → walk s n (first_key ps None) ≡ ps
walk_is s b [] zero h e = refl
walk_is s b [] (suc n) h e = refl
walk_is s b (p ∷ ps) zero h e = absurd (omega (arith, e))
walk_is s b (p ∷ ps) (suc n) h e =
    let step : (Node → List Keyed) = λ (node : Node). (p.0, node.member) ∷ walk s n node.after in
    ap (λ slot. option_map_or step slot []) h.0 ∙ ap (λ qs. p ∷ qs) (walk_is s (Some p.0) ps n h.1 (omega (arith, e)))

pub walked : (s : Slab Node) (first last : Option ℕ) (ps : List Keyed) → IsLinked s first last ps → walk s (slab_len s) first ≡ ps
walked s first last ps h = ap (walk s (slab_len s)) h.first_is ∙ walk_is s None ps (slab_len s) h.links h.count

-- the line shows the members that are linked
pub linked_walk : (s : Slab Node) (first last : Option ℕ) (ps : List Keyed) → IsLinked s first last ps → IsLinked s first last (walk s (slab_len s) first)
linked_walk s first last ps h = subst (λ qs. IsLinked s first last qs) (sym (walked s first last ps h)) h

-- ---- a new member

last_key_push : (b : Option ℕ) (ps : List Keyed) (q : Keyed) → last_key b (ps ++ q ∷ []) ≡ Some q.0
last_key_push b [] q = refl
last_key_push b (p ∷ ps) q = last_key_push (Some p.0) ps q

first_key_push : (ps : List Keyed) (key : ℕ) (m : Member) → end_with (last_key None ps) (Some key) (first_key ps None) ≡ first_key (ps ++ (key, m) ∷ []) None
first_key_push [] key m = refl
first_key_push (p ∷ ps) key m = from p.0 ps
  where
    from : (n : ℕ) (qs : List Keyed) → end_with (last_key (Some n) qs) (Some key) (Some p.0) ≡ Some p.0
    from n [] = refl
    from n (q ∷ qs) = from q.0 qs

pub pushed : (old mid new : Slab Node) (first last : Option ℕ) (ps : List Keyed) (key : ℕ) (m : Member) → IsLinked old first last ps → get old key ≡ None → Updates old mid key (Some (node_of m last None)) → slab_len mid ≡ slab_len old + 1 → Relinks mid new last (with_after (Some key)) → IsLinked new (end_with last (Some key) first) (Some key) (ps ++ (key, m) ∷ [])
pushed old mid new first last ps key m h vacant up len r =
    let fresh : has_key key ps ≡ false = links_some old None ps None key h.links vacant in
    let r' : Relinks mid new (last_key None ps) (with_after (Some key)) = subst (λ l. Relinks mid new l (with_after (Some key))) h.last_is r in
    let kept : Links mid None ps None = links_kept old mid None ps None (λ k there. up.others k (λ e. let x : has_key key ps ≡ true = subst (λ i. has_key i ps ≡ true) e there in absurd (cc))) h.links in
    let front : Links new None ps (Some key) = links_end mid new ps None (Some key) r' h.apart kept in
    let here : get new key ≡ Some (node_of m (last_key None ps) None) = r'.each key ∙ relinked_last ps (with_after (Some key)) key (get mid key) fresh ∙ up.changed ∙ ap (λ l. Some (node_of m l None)) h.last_is in
    record {
      links = links_join new None ps ((key, m) ∷ []) None front (here, tt);
      first_is = ap (λ l. end_with l (Some key) first) h.last_is ∙ ap (end_with (last_key None ps) (Some key)) h.first_is ∙ first_key_push ps key m;
      last_is = sym (last_key_push None ps (key, m));
      apart = apart_push ps (key, m) h.apart fresh;
      count = r.len ∙ len ∙ ap (λ n. n + 1) h.count ∙ sym (length-append ps ((key, m) ∷ []));
      only = λ k none.
          let parts = has_none k ps ((key, m) ∷ []) none in
          let other = differ key k (or_false _ _ parts.1).0 in
          r'.each k ∙ relinked_none (last_key None ps) (with_after (Some key)) k (get mid k) (up.others k other ∙ h.only k parts.0);
    }

-- ---- a member that is taken out

first_key_join : (ps qs : List Keyed) (key : ℕ) (m : Member) → end_with (last_key None ps) (first_key qs None) (first_key (ps ++ (key, m) ∷ qs) None) ≡ first_key (ps ++ qs) None
first_key_join [] qs key m = refl
first_key_join (p ∷ ps) qs key m = from p.0 ps
  where
    from : (n : ℕ) (rs : List Keyed) → end_with (last_key (Some n) rs) (first_key qs None) (Some p.0) ≡ Some p.0
    from n [] = refl
    from n (r ∷ rs) = from r.0 rs

last_key_append : (b : Option ℕ) (ps qs : List Keyed) → last_key b (ps ++ qs) ≡ last_key (last_key b ps) qs
last_key_append b [] qs = refl
last_key_append b (p ∷ ps) qs = last_key_append (Some p.0) ps qs

last_key_join : (ps qs : List Keyed) (key : ℕ) (m : Member) → end_with (first_key qs None) (last_key None ps) (last_key None (ps ++ (key, m) ∷ qs)) ≡ last_key None (ps ++ qs)
last_key_join ps [] key m = sym (last_key_append None ps [])
last_key_join ps (q ∷ qs) key m = last_key_append None ps ((key, m) ∷ q ∷ qs) ∙ sym (last_key_append None ps (q ∷ qs))

length_middle : (ps : List Keyed) (q : Keyed) (qs : List Keyed) → length (ps ++ q ∷ qs) ≡ length (ps ++ qs) + 1
length_middle [] q qs = omega arith
length_middle (p ∷ ps) q qs = omega (arith, length_middle ps q qs)

some_is : (x y : Node) → Some x ≡ Some y → x ≡ y
some_is x y e = cc

joined : (old s1 s2 new : Slab Node) (first last : Option ℕ) (fs bs : List Keyed) (key : ℕ) (m : Member) → IsLinked old first last (fs ++ (key, m) ∷ bs) → Updates old s1 key None → slab_len s1 + 1 ≡ slab_len old → Relinks s1 s2 (last_key None fs) (with_after (first_key bs None)) → Relinks s2 new (first_key bs None) (with_before (last_key None fs)) → IsLinked new (end_with (last_key None fs) (first_key bs None) first) (end_with (first_key bs None) (last_key None fs) last) (fs ++ bs)
joined old s1 s2 new first last fs bs key m h up len r r2 =
    let parts = links_split old None fs ((key, m) ∷ bs) None h.links in
    let tail = apart_back fs ((key, m) ∷ bs) h.apart in
    let not_fs : has_key key fs ≡ false = apart_from fs (key, m) bs h.apart in
    let not_bs : has_key key bs ≡ false = tail.0 in
    let apart_fs : AreApart fs = apart_front fs ((key, m) ∷ bs) h.apart in
    let whole : AreApart (fs ++ bs) = apart_middle fs (key, m) bs h.apart in
    let fs1 : Links s1 None fs (Some key) = links_kept old s1 None fs (Some key) (λ k there. up.others k (λ e. let x : has_key key fs ≡ true = subst (λ i. has_key i fs ≡ true) e there in absurd (cc))) parts.0 in
    let bs1 : Links s1 (Some key) bs None = links_kept old s1 (Some key) bs None (λ k there. up.others k (λ e. let x : has_key key bs ≡ true = subst (λ i. has_key i bs ≡ true) e there in absurd (cc))) parts.1.1 in
    let fs2 : Links s2 None fs (first_key bs None) = links_end s1 s2 fs (Some key) (first_key bs None) r apart_fs fs1 in
    let bs2 : Links s2 (Some key) bs None = links_kept s1 s2 (Some key) bs None (λ k there. r.each k ∙ relinked_last fs (with_after (first_key bs None)) k (get s1 k) (across fs bs whole k there)) bs1 in
    let fs3 : Links new None fs (first_key bs None) = links_kept s2 new None fs (first_key bs None) (λ k there. r2.each k ∙ relinked_first bs (with_before (last_key None fs)) k (get s2 k) (across_back fs bs whole k there)) fs2 in
    let bs3 : Links new (last_key None fs) bs None = links_start s2 new (Some key) (last_key None fs) bs r2 tail.1 bs2 in
    record {
      links = links_join new None fs bs None fs3 bs3;
      first_is = ap (end_with (last_key None fs) (first_key bs None)) h.first_is ∙ first_key_join fs bs key m;
      last_is = ap (end_with (first_key bs None) (last_key None fs)) h.last_is ∙ last_key_join fs bs key m;
      apart = whole;
      count = let e1 = r.len in let e2 = r2.len in let e3 = h.count in omega (arith, length_middle fs (key, m) bs);
      only = λ k none.
          let gone = relinked_none (last_key None fs) (with_after (first_key bs None)) k (get s1 k) (absent k none) in
          r2.each k ∙ relinked_none (first_key bs None) (with_before (last_key None fs)) k (get s2 k) (r.each k ∙ gone);
    }
  where
    across : (fs bs : List Keyed) → AreApart (fs ++ bs) → (k : ℕ) → has_key k bs ≡ true → has_key k fs ≡ false
    across [] bs h k there = refl
    across (a ∷ fs) bs h k there =
        both_false _ _ (differ_test a.0 k (λ e. let x : has_key a.0 bs ≡ true = subst (λ i. has_key i bs ≡ true) e there in let y = (has_none a.0 fs bs h.0).1 in absurd (cc))) (across fs bs h.1 k there)

    across_back : (fs bs : List Keyed) → AreApart (fs ++ bs) → (k : ℕ) → has_key k fs ≡ true → has_key k bs ≡ false
    across_back fs bs h k there =
        elim (cases_Bool (has_key k bs)) [
          | inl t ↦ let x = across fs bs h k t in absurd (cc)
          | inr f ↦ f
        ]

    absent : (k : ℕ) → has_key k (fs ++ bs) ≡ false → get s1 k ≡ None
    absent k none =
        elim (cases_Bool (eqb key k)) [
          | inl t ↦ let e : k ≡ key = grind (arith, nat_tests) in ap (get s1) e ∙ up.changed
          | inr f ↦
              let parts = has_none k fs bs none in
              up.others k (differ key k f) ∙ h.only k (has_no k fs ((key, m) ∷ bs) parts.0 (both_false _ _ f parts.1))
        ]

pub removed : (old s1 s2 new : Slab Node) (first last : Option ℕ) (ps : List Keyed) (key : ℕ) (node : Node) → IsLinked old first last ps → get old key ≡ Some node → Updates old s1 key None → slab_len s1 + 1 ≡ slab_len old → Relinks s1 s2 node.before (with_after node.after) → Relinks s2 new node.after (with_before node.before) → IsLinked new (end_with node.before node.after first) (end_with node.after node.before last) (without_key key ps)
removed old s1 s2 new first last ps key node h found up len r r2 =
    let there : has_key key ps ≡ true = elim (cases_Bool (has_key key ps)) [
      | inl t ↦ t
      | inr f ↦ let none = h.only key f in absurd (cc)
    ] in
    let split : IsSplit key ps = split_at key ps there in
    let h' : IsLinked old first last (split.before ++ (key, split.here) ∷ split.behind) = subst (λ qs. IsLinked old first last qs) split.is h in
    let links = links_split old None split.before ((key, split.here) ∷ split.behind) None h'.links in
    let node_is : node ≡ node_of split.here (last_key None split.before) (first_key split.behind None) = some_is node (node_of split.here (last_key None split.before) (first_key split.behind None)) (sym found ∙ links.1.0) in
    let b : node.before ≡ last_key None split.before = ap (λ (n : Node). n.before) node_is in
    let a : node.after ≡ first_key split.behind None = ap (λ (n : Node). n.after) node_is in
    let r' : Relinks s1 s2 (last_key None split.before) (with_after (first_key split.behind None)) = subst (λ x. Relinks s1 s2 x (with_after (first_key split.behind None))) b (subst (λ x. Relinks s1 s2 node.before (with_after x)) a r) in
    let r2' : Relinks s2 new (first_key split.behind None) (with_before (last_key None split.before)) = subst (λ x. Relinks s2 new x (with_before (last_key None split.before))) a (subst (λ x. Relinks s2 new node.after (with_before x)) b r2) in
    let tail = apart_back split.before ((key, split.here) ∷ split.behind) h'.apart in
    let rest : without_key key ps ≡ split.before ++ split.behind = ap (without_key key) split.is ∙ without_middle key split.before split.here split.behind split.not_before tail.0 in
    let all : IsLinked new (end_with (last_key None split.before) (first_key split.behind None) first) (end_with (first_key split.behind None) (last_key None split.before) last) (split.before ++ split.behind) = joined old s1 s2 new first last split.before split.behind key split.here h' up len r' r2' in
    let all1 : IsLinked new (end_with node.before node.after first) (end_with node.after node.before last) (split.before ++ split.behind) =
    subst (λ x. IsLinked new (end_with x node.after first) (end_with node.after x last) (split.before ++ split.behind)) (sym b) (subst (λ x. IsLinked new (end_with (last_key None split.before) x first) (end_with x (last_key None split.before) last) (split.before ++ split.behind)) (sym a) all) in
    subst (λ qs. IsLinked new (end_with node.before node.after first) (end_with node.after node.before last) qs) (sym rest) all1

-- ---- a member that is looked up

pub at_links : (s : Slab Node) (b : Option ℕ) (ps : List Keyed) (a : Option ℕ) (key : ℕ) (node : Node) → Links s b ps a → has_key key ps ≡ true → get s key ≡ Some node → member_at key ps ≡ Some node.member
at_links s b [] a key node h there found = absurd (cc)
at_links s b (p ∷ ps) a key node h there found =
    elim (cases_Bool (eqb p.0 key)) [
      | inl t ↦
          let e : p.0 ≡ key = grind (arith, nat_tests) in
          let same : node_of p.1 b (first_key ps a) ≡ node = some_is (node_of p.1 b (first_key ps a)) node (sym h.0 ∙ ap (get s) e ∙ found) in
          cond-true (eqb p.0 key) _ _ t ∙ ap (λ (n : Node). Some n.member) same
      | inr f ↦ cond-false (eqb p.0 key) _ _ f ∙ at_links s (Some p.0) ps a key node h.1 (sym (ap (λ x. x || has_key key ps) f) ∙ there) found
    ]

member_none : (key : ℕ) (ps : List Keyed) → has_key key ps ≡ false → member_at key ps ≡ None
member_none key [] h = refl
member_none key (p ∷ ps) h = let parts = or_false _ _ h in cond-false (eqb p.0 key) _ _ parts.0 ∙ member_none key ps parts.1

pub looked_up : (s : Slab Node) (first last : Option ℕ) (ps : List Keyed) (key : ℕ) (node : Node) → IsLinked s first last ps → get s key ≡ Some node → Some node.member ≡ member_at key ps
looked_up s first last ps key node h found =
    elim (cases_Bool (has_key key ps)) [
      | inl t ↦ sym (at_links s None ps None key node h.links t found)
      | inr f ↦ let none = h.only key f in absurd (cc)
    ]

pub not_found : (s : Slab Node) (first last : Option ℕ) (ps : List Keyed) (key : ℕ) → IsLinked s first last ps → get s key ≡ None → None ≡ member_at key ps
not_found s first last ps key h none = sym (member_none key ps (links_some s None ps None key h.links none))

-- ---- as the calls need it

pub pushed_first : (old mid new : Slab Node) (first last first' : Option ℕ) (ps : List Keyed) (key : ℕ) (m : Member) → IsLinked old first last ps → get old key ≡ None → Updates old mid key (Some (node_of m last None)) → slab_len mid ≡ slab_len old + 1 → Relinks mid new last (with_after (Some key)) → first' ≡ end_with last (Some key) first → IsLinked new first' (Some key) (ps ++ (key, m) ∷ [])
pushed_first old mid new first last first' ps key m h vacant up len r e = subst (λ f. IsLinked new f (Some key) (ps ++ (key, m) ∷ [])) (sym e) (pushed old mid new first last ps key m h vacant up len r)

pub removed_ends : (old s1 s2 new : Slab Node) (first last first' last' : Option ℕ) (ps : List Keyed) (key : ℕ) (node : Node) → IsLinked old first last ps → get old key ≡ Some node → Updates old s1 key None → slab_len s1 + 1 ≡ slab_len old → Relinks s1 s2 node.before (with_after node.after) → Relinks s2 new node.after (with_before node.before) → first' ≡ end_with node.before node.after first → last' ≡ end_with node.after node.before last → IsLinked new first' last' (without_key key ps)
removed_ends old s1 s2 new first last first' last' ps key node h found up len r r2 e e2 =
    subst (λ f. IsLinked new f last' (without_key key ps)) (sym e) (subst (λ l. IsLinked new (end_with node.before node.after first) l (without_key key ps)) (sym e2) (removed old s1 s2 new first last ps key node h found up len r r2))

pub not_removed : (s : Slab Node) (first last : Option ℕ) (ps : List Keyed) (key : ℕ) → IsLinked s first last ps → get s key ≡ None → without_key key ps ≡ ps
not_removed s first last ps key h none = without_none key ps (links_some s None ps None key h.links none)

-- more capacity
pub same_linked : (old new : Slab Node) (first last : Option ℕ) (ps : List Keyed) → new ≡ record old { capacity = new.capacity } → IsLinked old first last ps → IsLinked new first last ps
same_linked old new first last ps e h = subst (λ s. IsLinked s first last ps) (sym e) (record { links = relink old None ps h.links; first_is = h.first_is; last_is = h.last_is; apart = h.apart; count = h.count; only = h.only })
  where
    relink : (s : Slab Node) (b : Option ℕ) (qs : List Keyed) → Links s b qs None → Links (record s { capacity = new.capacity }) b qs None
    relink s b [] h = tt
    relink s b (q ∷ qs) h = (h.0, relink s (Some q.0) qs h.1)

-- ---- the walk, a step at a time

walk_nowhere : (s : Slab Node) (n : ℕ) → walk s n None ≡ []
walk_nowhere s zero = refl
walk_nowhere s (suc n) = refl

pub walk_on : (s : Slab Node) (n : ℕ) (key : Option ℕ) (node : Node) → option_and_then (get s) key ≡ Some node → members_in (walk s (suc n) key) ≡ node.member ∷ members_in (walk s n node.after)
walk_on s n None node e = absurd (cc)
walk_on s n (Some key) node e =
    let step : (Node → List Keyed) = λ (other : Node). (key, other.member) ∷ walk s n other.after in
    ap (λ slot. members_in (option_map_or step slot [])) e

pub walk_ends : (s : Slab Node) (n : ℕ) (key : Option ℕ) → option_and_then (get s) key ≡ None → walk s n key ≡ []
walk_ends s zero key e = refl
walk_ends s (suc n) None e = refl
walk_ends s (suc n) (Some key) e =
    let step : (Node → List Keyed) = λ (other : Node). (key, other.member) ∷ walk s n other.after in
    ap (λ slot. option_map_or step slot []) e

pub walked_pushed : (s : Slab Node) (n i : ℕ) (key key' : Option ℕ) (node : Node) (found found' all : List Member) → i < n → option_and_then (get s) key ≡ Some node → key' ≡ node.after → found' ≡ found ++ node.member ∷ [] → found ++ members_in (walk s (n - i) key) ≡ all → found' ++ members_in (walk s (n - (i + 1)) key') ≡ all
walked_pushed s n i key key' node found found' all lt at next is h =
    let left : n - i ≡ suc (n - (i + 1)) = omega arith in
    ap (λ xs. xs ++ members_in (walk s (n - (i + 1)) key')) is ∙ ap (λ k. (found ++ node.member ∷ []) ++ members_in (walk s (n - (i + 1)) k)) next
    ∙ append_assoc found (node.member ∷ []) (members_in (walk s (n - (i + 1)) node.after))
    ∙ ap (λ xs. found ++ xs) (sym (ap (λ m. members_in (walk s m key)) left ∙ walk_on s (n - (i + 1)) key node at)) ∙ h

pub walked_ended : (s : Slab Node) (n i : ℕ) (key key' : Option ℕ) (found found' all : List Member) → option_and_then (get s) key ≡ None → key' ≡ key → found' ≡ found → found ++ members_in (walk s (n - i) key) ≡ all → found' ++ members_in (walk s (n - (i + 1)) key') ≡ all
walked_ended s n i key key' found found' all none next is h =
    ap (λ xs. xs ++ members_in (walk s (n - (i + 1)) key')) is ∙ ap (λ k. found ++ members_in (walk s (n - (i + 1)) k)) next
    ∙ ap (λ ps. found ++ members_in ps) (walk_ends s (n - (i + 1)) key none ∙ sym (walk_ends s (n - i) key none)) ∙ h
