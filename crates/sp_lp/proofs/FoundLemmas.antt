-- A name that is found is among the names.
use Rattle.std.proofs.Common.{Option, ◌≡◌, ℕ, suc, ◌+◌, ◌≤◌, Bool, true, false, not, ◌||◌, cond, List, [], ◌∷◌, ◌++◌, length, refl, ap, ◌∙◌, sym, None, Some, arith}
use Rattle.std.specs.Prelude.{nat_lt, is_some}
use Rattle.std.specs.List.{list_any, position_or_len}
use Rattle.std.proofs.lemmas.Bool.Decides.{nat_tests}
use Rattle.std.proofs.lemmas.List.Sums.{prefix_len-le-length}
use Rattle.sp_draft.specs.Names.{Name, is_among, find_name, place_of, with_name}
use Rattle.sp_draft.specs.declared.drafts.DraftVar.{DraftVar}
use Rattle.sp_draft.specs.declared.drafts.Draft.{Draft}
use Rattle.sp_model.specs.declared.parts.SosKind.{SosKind}
use Rattle.sp_lp_grammar.specs.Meaning.{Said, plain_var, declared, set_closed, closed, draft_of}
use Rattle.std.specs.Str.{bytes_eq}

lt-suc : (a b : ℕ) → nat_lt (1 + a) (suc b) ≡ nat_lt a b
lt-suc a b = grind (arith, nat_tests)

any_of : (p : Name → Bool) (x : Name) (xs : List Name) (b : Bool) → p x ≡ b → nat_lt (position_or_len p xs) (length xs) ≡ list_any p xs → nat_lt (cond (not b) (1 + position_or_len p xs) 0) (suc (length xs)) ≡ (b || list_any p xs)
any_of p x xs true e h = grind (arith, nat_tests)
any_of p x xs false e h = lt-suc (position_or_len p xs) (length xs) ∙ h

pub any_found : (p : Name → Bool) (xs : List Name) → nat_lt (position_or_len p xs) (length xs) ≡ list_any p xs
any_found p [] = refl
any_found p (x ∷ xs) = any_of p x xs (p x) refl (any_found p xs)

some_cond : (b : Bool) (n : ℕ) → is_some (cond b (Some n) None) ≡ b
some_cond true n = refl
some_cond false n = refl

-- for any name, whatever the answer of the search
pub is_some_found : (names : List Name) (name : Name) → is_some (find_name names name) ≡ is_among names name
is_some_found names name = some_cond (nat_lt (place_of names name) (length names)) (place_of names name) ∙ any_found (bytes_eq name) names

pub not_among : (names : List Name) (name : Name) → find_name names name ≡ None → is_among names name ≡ false
not_among names name e = sym (is_some_found names name) ∙ ap is_some e

none_cond : (b : Bool) (n : ℕ) → cond b (Some n) None ≡ None → b ≡ false
none_cond true n e = cc
none_cond false n e = refl

pub place_past : (names : List Name) (name : Name) → find_name names name ≡ None → place_of names name ≡ length names
place_past names name e =
    let past : nat_lt (place_of names name) (length names) ≡ false = none_cond (nat_lt (place_of names name) (length names)) (place_of names name) e in
    let within : place_of names name ≤ length names = prefix_len-le-length (λ x. not (bytes_eq name x)) names in
    grind (arith, nat_tests)

-- a name that is there is declared already
pub declared_known : (said : Said) (name : Name) (id : ℕ) → Some id ≡ find_name said.names name → said ≡ declared name said
declared_known said name id e =
    let known : is_among said.names name ≡ true = sym (is_some_found said.names name) ∙ sym (ap is_some e) in
    rw known refl

-- one that isn't there is put at the end, with a variable of which nothing is stated
pub declared_new : (said : Said) (name : Name) → None ≡ find_name said.names name → record said { names = with_name said.names name; vars = said.vars ++ plain_var ∷ [] } ≡ declared name said
declared_new said name e =
    let new : is_among said.names name ≡ false = sym (is_some_found said.names name) ∙ sym (ap is_some e) in
    rw new refl

pub declared_put : (said : Said) (name : Name) (names : List Name) (vars : List DraftVar) (var : DraftVar) → None ≡ find_name said.names name → names ≡ with_name said.names name → vars ≡ said.vars ++ var ∷ [] → var ≡ plain_var → record said { names = names; vars = vars } ≡ declared name said
declared_put said name names vars var e f g h = rw (f, g, h) (declared_new said name e)

abbrev plain_draft : Said → Draft
plain_draft m = record { maximize = m.maximize; names = m.names; vars = m.vars; cost = m.cost; constants = m.constants; rows = m.rows; indicators = m.indicators; sos = m.sets }

closed_plain : (m : Said) (k : Option SosKind) → m.set_kind ≡ k → plain_draft (set_closed k m) ≡ draft_of m
closed_plain m None e = rw e refl
closed_plain m (Some kind) e = rw e refl

-- the draft is read off once the last set is complete
pub closed_draft : (m n : Said) → n ≡ closed m → plain_draft n ≡ draft_of m
closed_draft m n e = rw e (closed_plain m m.set_kind refl)
