-- The kind of a refusal, by what the reader goes on with.
use Rattle.std.proofs.Common.{◌≡◌, ℕ, ◌+◌, ◌-◌, Bool, true, false, not, ◌||◌, ◌&&◌, List, [], ◌∷◌, ◌++◌, take, Option, Some, None, refl, ap, sym, ◌∙◌, ◌⊎◌, inl, inr}
use Rattle.std.specs.Prelude.{is_some}
use Rattle.sp_draft.specs.declared.read_refusals.ReadRefusal.{ReadRefusal}
use Rattle.sp_draft.specs.declared.read_refusals.ReadRefusal.TheVariants as refusals
use Rattle.sp_lp_tokens.specs.declared.token_types.Token.{Token}
use Rattle.sp_lp_tokens.specs.SeenTokens.{SeenToken, all_seen}
use Rattle.sp_lp_words.specs.declared.classes.Class.{Class}
use Rattle.sp_lp_words.specs.declared.classes.Class.TheVariants as classes
use Rattle.sp_lp_grammar.specs.Lexemes.{Mark, heading_at}
use Rattle.sp_lp_grammar.specs.Reads.{Begins}
use Rattle.sp_lp_grammar.specs.InnerCursor.{Cursor, origin, walk}
use Rattle.sp_lp.specs.declared.other_tokens.Other.{Other}
use Rattle.sp_lp.specs.declared.other_tokens.Other.TheVariants.{Name, SetKind, Number, Plus, Colon}
use Rattle.sp_lp.specs.Standins.{line_of, CanStand}
use Rattle.sp_lp.specs.Refusals.{marks_from, is_name_class, is_huge_class, name_stands, huge_stands, is_unsupported, IsWideHere, IsWideBefore, IsWide, IsKnownSet, IsKnownLabel, IsKnownOpening, IsDuplicate, IsRefusalAt}
use Rattle.sp_lp.specs.InnerKinds.{fault_line, other_tokens, goes, goes_with, is_wide_here, is_wide_before, is_known_set, is_known_label, is_known_opening, is_duplicate, kind_by, fault_kind}
use Rattle.sp_lp.specs.InnerAnswers.{refusal_by}
use Rattle.sp_lp.proofs.OtherLemmas.{seen_line}

-- the test tells whether it holds
record Decided (b : Bool) (P : Type 0) : Type 0 where
  yes : b ≡ true → P
  no : b ≡ false → P → ⊥

either : (b c : Bool) (P Q : Type 0) → Decided b P → Decided c Q → Decided (b || c) (P ⊎ Q)
either true c P Q d e = record { yes = λ h. inl (d.yes refl); no = λ h. absurd (cc) }
either false c P Q d e = record { yes = λ h. inr (e.yes h); no = λ h s. elim s [ inl p ↦ d.no refl p | inr q ↦ e.no h q ] }

both : (b c : Bool) (Q : Type 0) → Decided c Q → Decided (b && c) ((b ≡ true) × Q)
both true c Q e = record { yes = λ h. (refl, e.yes h); no = λ h p. e.no h p.1 }
both false c Q e = record { yes = λ h. absurd (cc); no = λ h p. let g : false ≡ true = p.0 in cc }

same : (b : Bool) (P Q : Type 0) → Decided b P → (P → Q) → (Q → P) → Decided b Q
same b P Q d to from = record { yes = λ h. to (d.yes h); no = λ h q. d.no h (from q) }

-- what the laws on readers say
pub record Readers : Type 0 where
  pub begun : (ts : List SeenToken) (c : Cursor) → walk true 0 origin ts ≡ Some c → Begins ts
  pub refused : (ts : List SeenToken) → walk true 0 origin ts ≡ None → Begins ts → ⊥

goes_by : Readers → (ts : List SeenToken) (o : Option Cursor) → walk true 0 origin ts ≡ o → Decided (is_some o) (Begins ts)
goes_by readers ts None e = record { yes = λ h. absurd (cc); no = λ h b. readers.refused ts e b }
goes_by readers ts (Some c) e = record { yes = λ h. readers.begun ts c e; no = λ h. absurd (cc) }

goes_begins : Readers → (ts : List SeenToken) → Decided (goes ts) (Begins ts)
unfolding goes
goes_begins readers ts = goes_by readers ts (walk true 0 origin ts) refl

can_stand : Readers → (ts : List SeenToken) (place : ℕ) (others : List Other) → Decided (goes_with ts place others) (CanStand ts place (other_tokens (line_of ts place) others))
can_stand readers ts place others = goes_begins readers (take place ts ++ other_tokens (line_of ts place) others)

wide_here : Readers → (ts : List SeenToken) (place : ℕ) → Decided (is_wide_here ts place) (IsWideHere ts place)
wide_here readers ts place = same _ _ _
    (both (huge_stands (marks_from ts place)) _ _ (either _ _ _ _ (can_stand readers ts place (Number ∷ Plus ∷ []))
    (either _ _ _ _ (can_stand readers ts place (Number ∷ Name ∷ Colon ∷ [])) (both (name_stands (marks_from ts (place + 1))) _ _ (can_stand readers ts place (Number ∷ Name ∷ []))))))
    (λ h. record { huge = h.0; part = h.1 }) (λ r. (r.huge, r.part))

wide_before : Readers → (ts : List SeenToken) (place : ℕ) → Decided (is_wide_before ts place) (IsWideBefore ts place)
wide_before readers ts place = same _ _ _
    (both (name_stands (marks_from ts place)) _ _ (both (huge_stands (marks_from ts (place - 1))) _ _ (can_stand readers ts (place - 1) (Number ∷ Name ∷ []))))
    (λ h. record { name = h.0; huge = h.1.0; part = h.1.1 }) (λ r. (r.name, (r.huge, r.part)))

known_set : Readers → (ts : List SeenToken) (place : ℕ) → Decided (is_known_set ts place) (IsKnownSet ts place)
known_set readers ts place = same _ _ _ (both _ _ _ (can_stand readers ts place (Name ∷ Colon ∷ []))) (λ h. record { name = h.0; other = h.1 }) (λ r. (r.name, r.other))

known_label : Readers → (ts : List SeenToken) (place : ℕ) → Decided (is_known_label ts place) (IsKnownLabel ts place)
known_label readers ts place = same _ _ _ (both _ _ _ (both _ _ _ (can_stand readers ts (place - 1) (Name ∷ Colon ∷ []))))
    (λ h. record { colon = h.0; name = h.1.0; other = h.1.1 }) (λ r. (r.colon, (r.name, r.other)))

known_opening : Readers → (ts : List SeenToken) (place : ℕ) → Decided (is_known_opening ts place) (IsKnownOpening ts place)
known_opening readers ts place = same _ _ _ (both _ _ _ (both _ _ _ (both _ _ _ (can_stand readers ts (place - 2) (Name ∷ Colon ∷ SetKind ∷ [])))))
    (λ h. record { kind = h.0; colon = h.1.0; name = h.1.1.0; other = h.1.1.1 }) (λ r. (r.kind, (r.colon, (r.name, r.other))))

duplicate : Readers → (ts : List SeenToken) (place : ℕ) → Decided (is_duplicate ts place) (IsDuplicate ts place)
duplicate readers ts place = either _ _ _ _ (known_set readers ts place) (either _ _ _ _ (known_label readers ts place) (known_opening readers ts place))

-- the line of the refusal
line_is : (source : List ℕ) (list : List Token) (place : ℕ) → fault_line list place ≡ line_of (all_seen source list) place
line_is source list place = sym (seen_line source list place)

not_wide : (ts : List SeenToken) (place : ℕ) → (IsWideHere ts place → ⊥) → (IsWideBefore ts place → ⊥) → (number : ℕ) → IsWide ts place number → ⊥
not_wide ts place a b number (inl h) = a h.0
not_wide ts place a b number (inr h) = b h.0

refused_by : (source : List ℕ) (list : List Token) (place : ℕ) (u w b d : Bool) → is_unsupported (all_seen source list) place ≡ u → Decided w (IsWideHere (all_seen source list) place)
    → Decided b (IsWideBefore (all_seen source list) place) → Decided d (IsDuplicate (all_seen source list) place) → IsRefusalAt (all_seen source list) place (refusal_by (kind_by u w b d) list place)
refused_by source list place true w b d e here before known = (e, line_is source list place)
refused_by source list place false true b d e here before known = (place, e, inl (here.yes refl, refl), line_is source list place)
refused_by source list place false false true d e here before known = (place - 1, e, inr (before.yes refl, refl), line_is source list (place - 1))
refused_by source list place false false false true e here before known =
    (e, not_wide (all_seen source list) place (here.no refl) (before.no refl), known.yes refl, line_is source list place)
refused_by source list place false false false false e here before known =
    (e, not_wide (all_seen source list) place (here.no refl) (before.no refl), known.no refl, line_is source list place)

-- the refusal by the kind that was decided is that of the tokens
pub refusal_is : Readers → (source : List ℕ) (list : List Token) (place : ℕ) → IsRefusalAt (all_seen source list) place (refusal_by (fault_kind (all_seen source list) place) list place)
unfolding fault_kind
refusal_is readers source list place =
    let ts : List SeenToken = all_seen source list in
    refused_by source list place (is_unsupported ts place) (is_wide_here ts place) (is_wide_before ts place) (is_duplicate ts place) refl (wide_here readers ts place) (wide_before readers ts place) (duplicate readers ts place)

-- no token is a huge number and a name
huge_name : (class : Class) → is_huge_class class ≡ true → is_name_class class ≡ true → ⊥
huge_name (classes.Name part) e f = let g : false ≡ true = e in cc
huge_name class e f = let g : false ≡ true = f in cc

left_of : (a b : Bool) → (a && b) ≡ true → a ≡ true
left_of true b e = refl
left_of false b e = cc

apart : (ms : List Mark) → huge_stands ms ≡ true → name_stands ms ≡ true → ⊥
apart [] e f = let g : false ≡ true = e in cc
apart (m ∷ ms) e f = huge_name m.class e (left_of (is_name_class m.class) (not (is_some (heading_at m ms))) f)

one_number : (ts : List SeenToken) (place n k : ℕ) → IsWide ts place n → IsWide ts place k → n ≡ k
one_number ts place n k (inl a) (inl b) = a.1 ∙ sym b.1
one_number ts place n k (inl a) (inr b) = absurd (apart (marks_from ts place) a.0.huge b.0.name)
one_number ts place n k (inr a) (inl b) = absurd (apart (marks_from ts place) b.0.huge a.0.name)
one_number ts place n k (inr a) (inr b) = a.1 ∙ sym b.1

no_yes : (b : Bool) → b ≡ true → b ≡ false → ⊥
no_yes b e f = let g : true ≡ false = sym e ∙ f in cc

-- a place has at most one refusal
pub one_refusal : (ts : List SeenToken) (place : ℕ) (q r : ReadRefusal) → IsRefusalAt ts place q → IsRefusalAt ts place r → q ≡ r
one_refusal ts place (refusals.Syntax i) (refusals.Syntax k) a b = ap refusals.Syntax (a.3 ∙ sym b.3)
one_refusal ts place (refusals.Syntax i) (refusals.WideNumeral k) a b = absurd (a.1 b.0 b.2)
one_refusal ts place (refusals.Syntax i) (refusals.DuplicateName k) a b = absurd (a.2 b.2)
one_refusal ts place (refusals.Syntax i) (refusals.Unsupported k) a b = absurd (no_yes _ b.0 a.0)
one_refusal ts place (refusals.WideNumeral i) (refusals.Syntax k) a b = absurd (b.1 a.0 a.2)
one_refusal ts place (refusals.WideNumeral i) (refusals.WideNumeral k) a b = ap refusals.WideNumeral (a.3 ∙ (ap (line_of ts) (one_number ts place a.0 b.0 a.2 b.2) ∙ sym b.3))
one_refusal ts place (refusals.WideNumeral i) (refusals.DuplicateName k) a b = absurd (b.1 a.0 a.2)
one_refusal ts place (refusals.WideNumeral i) (refusals.Unsupported k) a b = absurd (no_yes _ b.0 a.1)
one_refusal ts place (refusals.DuplicateName i) (refusals.Syntax k) a b = absurd (b.2 a.2)
one_refusal ts place (refusals.DuplicateName i) (refusals.WideNumeral k) a b = absurd (a.1 b.0 b.2)
one_refusal ts place (refusals.DuplicateName i) (refusals.DuplicateName k) a b = ap refusals.DuplicateName (a.3 ∙ sym b.3)
one_refusal ts place (refusals.DuplicateName i) (refusals.Unsupported k) a b = absurd (no_yes _ b.0 a.0)
one_refusal ts place (refusals.Unsupported i) (refusals.Syntax k) a b = absurd (no_yes _ a.0 b.0)
one_refusal ts place (refusals.Unsupported i) (refusals.WideNumeral k) a b = absurd (no_yes _ a.0 b.1)
one_refusal ts place (refusals.Unsupported i) (refusals.DuplicateName k) a b = absurd (no_yes _ a.0 b.0)
one_refusal ts place (refusals.Unsupported i) (refusals.Unsupported k) a b = ap refusals.Unsupported (a.1 ∙ sym b.1)
one_refusal ts place (refusals.Syntax i) r a b = absurd b
one_refusal ts place (refusals.WideNumeral i) r a b = absurd b
one_refusal ts place (refusals.DuplicateName i) r a b = absurd b
one_refusal ts place (refusals.Unsupported i) r a b = absurd b
one_refusal ts place q r a b = absurd a
