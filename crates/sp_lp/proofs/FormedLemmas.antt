-- The draft of a file speaks of its variables alone.
use Rattle.std.proofs.Common.{◌≡◌, ℕ, zero, suc, ◌+◌, ◌<◌, ◌≤◌, Bool, true, false, not, ◌||◌, cond, List, [], ◌∷◌, ◌++◌, length, fold, refl, ap, ◌∙◌, sym, subst, Option, None, Some, arith}
use Rattle.std.specs.Prelude.{nat_lt, if◌then◌else◌, All, slice_index_or}
use Rattle.std.specs.List.{list_any, position_or_len}
use Rattle.std.specs.Str.{bytes_eq}
use Rattle.std.proofs.lemmas.Bool.Decides.{nat_tests}
use Rattle.std.proofs.lemmas.Slice.Eq.{bytes_eq-Decides}
use Rattle.std.proofs.lemmas.List.{length-append, length-set}
use Rattle.std.proofs.lemmas.List.Elements.{All-append}
use Rattle.std.proofs.lemmas.List.Sums.{prefix_len-le-length}
use Rattle.sp_decimal.specs.DecimalFraction.{DecimalFraction}
use Rattle.sp_draft.specs.declared.drafts.Draft.{Draft}
use Rattle.sp_draft.specs.declared.drafts.DraftVar.{DraftVar}
use Rattle.sp_draft.specs.declared.drafts.DraftRow.{DraftRow}
use Rattle.sp_draft.specs.declared.drafts.DraftIndicator.{DraftIndicator}
use Rattle.sp_draft.specs.declared.drafts.DraftSos.{DraftSos}
use Rattle.sp_draft.specs.declared.drafts.Sides.{Sides}
use Rattle.sp_draft.specs.Drafts.{WrittenTerm, AreKnown, IsKnownIndicator, IsWellFormed}
use Rattle.sp_draft.specs.Names.{Name, is_among, place_of, with_name}
use Rattle.sp_model.specs.declared.parts.SosKind.{SosKind}
use Rattle.sp_lp_tokens.specs.SeenTokens.{SeenToken}
use Rattle.sp_lp_grammar.specs.Trees.{Item, Variable, Constant, Body, Compared, Mirrored, Between, Conditional, BoundLine, Stated, Turned, Enclosed, Unbounded, Entry, Turn, Row, Bound, Listed, Opening, Member}
use Rattle.sp_lp_grammar.specs.Meaning.{Said, nothing, plain_var, declared, with_term, with_item, with_items, with_cost, with_row, with_indicator, with_row_name, with_body, bounded, unbounded, mirrored, listed, with_var, with_bound, set_closed, with_set_name, with_set, with_entry, is_maximal, objective_said, draft_of}
use Rattle.sp_lp_grammar.specs.Reads.{Lp}

-- names and their places
lt-suc : (a b : ℕ) → nat_lt (1 + a) (suc b) ≡ nat_lt a b
lt-suc a b = grind (arith, nat_tests)

any_of : (p : Name → Bool) (x : Name) (xs : List Name) (b : Bool) → nat_lt (position_or_len p xs) (length xs) ≡ list_any p xs → nat_lt (cond (not b) (1 + position_or_len p xs) 0) (suc (length xs)) ≡ (b || list_any p xs)
any_of p x xs true h = grind (arith, nat_tests)
any_of p x xs false h = lt-suc (position_or_len p xs) (length xs) ∙ h

any_found : (p : Name → Bool) (xs : List Name) → nat_lt (position_or_len p xs) (length xs) ≡ list_any p xs
any_found p [] = refl
any_found p (x ∷ xs) = any_of p x xs (p x) (any_found p xs)

place_known : (names : List Name) (name : Name) → is_among names name ≡ true → place_of names name < length names
place_known names name e = let t : nat_lt (place_of names name) (length names) ≡ true = any_found (bytes_eq name) names ∙ e in grind (arith, nat_tests)

place_within : (names : List Name) (name : Name) → place_of names name ≤ length names
place_within names name = prefix_len-le-length (λ x. not (bytes_eq name x)) names

place_by : (names : List Name) (name : Name) (b : Bool) → is_among names name ≡ b → place_of names name < length (if b then names else names ++ name ∷ [])
place_by names name true e = place_known names name e
place_by names name false e = let w = place_within names name in let g : length (names ++ name ∷ []) ≡ length names + 1 = length-append names (name ∷ []) in omega arith

place_added : (names : List Name) (name : Name) → place_of names name < length (with_name names name)
place_added names name = place_by names name (is_among names name) refl

longer_by : (names : List Name) (name : Name) (b : Bool) → length names ≤ length (if b then names else names ++ name ∷ [])
longer_by names name true = omega arith
longer_by names name false = let g : length (names ++ name ∷ []) ≡ length names + 1 = length-append names (name ∷ []) in omega arith

longer : (names : List Name) (name : Name) → length names ≤ length (with_name names name)
longer names name = longer_by names name (is_among names name)

paired_by : (names : List Name) (vars : List DraftVar) (name : Name) (b : Bool) → length vars ≡ length names → length (if b then vars else vars ++ plain_var ∷ []) ≡ length (if b then names else names ++ name ∷ [])
paired_by names vars name true e = e
paired_by names vars name false e = length-append vars (plain_var ∷ []) ∙ (ap (λ n. n + 1) e ∙ sym (length-append names (name ∷ [])))

-- what is said speaks of so many variables
record Parts (n : ℕ) (m : Said) : Type 0 where
  terms : AreKnown n m.terms
  cost : AreKnown n m.cost
  rows : All (λ (row : DraftRow). AreKnown n row.terms) m.rows
  indicators : All (IsKnownIndicator n) m.indicators
  sets : All (λ (set : DraftSos). AreKnown n set.members) m.sets

record Known (m : Said) : Type 0 where
  paired : length m.vars ≡ length m.names
  parts : Parts (length m.names) m

wider_terms : (n k : ℕ) → n ≤ k → (ts : List WrittenTerm) → AreKnown n ts → AreKnown k ts
wider_terms n k e ts h = λ i d lt. let g : (slice_index_or ts i d).0 < n = h i d lt in omega arith

wider_indicator : (n k : ℕ) → n ≤ k → (i : DraftIndicator) → IsKnownIndicator n i → IsKnownIndicator k i
wider_indicator n k e i h = record { var = let v : i.var < n = h.var in omega arith; terms = wider_terms n k e i.row.terms h.terms }

wider : (n k : ℕ) (m : Said) → n ≤ k → Parts n m → Parts k m
wider n k m e h = record {
  terms = wider_terms n k e m.terms h.terms;
  cost = wider_terms n k e m.cost h.cost;
  rows = λ i d lt. wider_terms n k e (slice_index_or m.rows i d).terms (h.rows i d lt);
  indicators = λ i d lt. wider_indicator n k e (slice_index_or m.indicators i d) (h.indicators i d lt);
  sets = λ i d lt. wider_terms n k e (slice_index_or m.sets i d).members (h.sets i d lt);
}

known_declared : (name : Name) (m : Said) → Known m → Known (declared name m)
known_declared name m h = record {
  paired = paired_by m.names m.vars name (is_among m.names name) h.paired;
  parts = let p = wider (length m.names) (length (with_name m.names name)) m (longer m.names name) h.parts in record { terms = p.terms; cost = p.cost; rows = p.rows; indicators = p.indicators; sets = p.sets };
}

one_at : {X : Type 0} (P : X → Type 0) (x : X) → P x → (k : ℕ) (d : X) → k < 1 → P (slice_index_or (x ∷ []) k d)
one_at P x h zero d lt = h
one_at P x h (suc k) d lt = absurd (omega arith)

one_of : {X : Type 0} (P : X → Type 0) (x : X) → P x → All P (x ∷ [])
one_of P x h = one_at P x h

known_term : (name : Name) (d : DecimalFraction) (m : Said) → Known m → Known (with_term name d m)
known_term name d m h =
    let k = known_declared name m h in
    record {
      paired = k.paired;
      parts = record {
        terms = All-append (λ (t : WrittenTerm). t.0 < length (with_name m.names name)) m.terms ((place_of m.names name, d) ∷ []) k.parts.terms (one_of (λ (t : WrittenTerm). t.0 < length (with_name m.names name)) (place_of m.names name, d) (place_added m.names name));
        cost = k.parts.cost;
        rows = k.parts.rows;
        indicators = k.parts.indicators;
        sets = k.parts.sets;
      };
    }

known_item : (item : Item) (m : Said) → Known m → Known (with_item m item)
known_item (Variable signs number name) m h = known_term name _ m h
known_item (Constant signs d) m h = record { paired = h.paired; parts = record { terms = h.parts.terms; cost = h.parts.cost; rows = h.parts.rows; indicators = h.parts.indicators; sets = h.parts.sets } }

known_items : (items : List Item) (m : Said) → Known m → Known (with_items m items)
known_items [] m h = h
known_items (item ∷ items) m h = known_items items (with_item m item) (known_item item m h)

no_terms : (n : ℕ) → AreKnown n []
no_terms n = λ i d lt. absurd (omega arith)

known_cost : (m : Said) → Known m → Known (with_cost m)
known_cost m h = record { paired = h.paired; parts = record { terms = no_terms (length m.names); cost = h.parts.terms; rows = h.parts.rows; indicators = h.parts.indicators; sets = h.parts.sets } }

known_row : (sides : Sides) (m : Said) → Known m → Known (with_row sides m)
known_row sides m h = record {
  paired = h.paired;
  parts = record {
    terms = no_terms (length m.names);
    cost = h.parts.cost;
    rows = All-append (λ (row : DraftRow). AreKnown (length m.names) row.terms) m.rows (record { terms = m.terms; sides = sides } ∷ []) h.parts.rows (one_of (λ (row : DraftRow). AreKnown (length m.names) row.terms) (record { terms = m.terms; sides = sides }) h.parts.terms);
    indicators = h.parts.indicators;
    sets = h.parts.sets;
  };
}

known_indicator : (name : Name) (on : Bool) (sides : Sides) (m : Said) → is_among m.names name ≡ true → Known m → Known (with_indicator name on sides m)
known_indicator name on sides m e h =
    let i : DraftIndicator = record { var = place_of m.names name; on = on; row = record { terms = m.terms; sides = sides } } in
    record {
      paired = h.paired;
      parts = record {
        terms = no_terms (length m.names);
        cost = h.parts.cost;
        rows = h.parts.rows;
        indicators = All-append (IsKnownIndicator (length m.names)) m.indicators (i ∷ []) h.parts.indicators (one_of (IsKnownIndicator (length m.names)) i (record { var = place_known m.names name e; terms = h.parts.terms }));
        sets = h.parts.sets;
      };
    }

-- a name that is there stays there
false_is_true : false ≡ true → ⊥
false_is_true e = cc

or_mono : (a b c : Bool) → (a || b) ≡ true → (b ≡ true → c ≡ true) → (a || c) ≡ true
or_mono true b c e h = refl
or_mono false b c e h = h e

or_right : (a b : Bool) → b ≡ true → (a || b) ≡ true
or_right true b e = refl
or_right false b e = e

same_bytes : (name : Name) → bytes_eq name name ≡ true
same_bytes name = (bytes_eq-Decides name name).1 refl

any_append : (p : Name → Bool) (xs ys : List Name) → list_any p xs ≡ true → list_any p (xs ++ ys) ≡ true
any_append p [] ys e = absurd (false_is_true e)
any_append p (x ∷ xs) ys e = or_mono (p x) (list_any p xs) (list_any p (xs ++ ys)) e (any_append p xs ys)

any_last : (p : Name → Bool) (xs : List Name) (y : Name) → p y ≡ true → list_any p (xs ++ y ∷ []) ≡ true
any_last p [] y e = rw e refl
any_last p (x ∷ xs) y e = or_right (p x) (list_any p (xs ++ y ∷ [])) (any_last p xs y e)

among_by : (names : List Name) (name other : Name) (b : Bool) → is_among names name ≡ true → is_among (if b then names else names ++ other ∷ []) name ≡ true
among_by names name other true e = e
among_by names name other false e = any_append (bytes_eq name) names (other ∷ []) e

among_added : (names : List Name) (name other : Name) → is_among names name ≡ true → is_among (with_name names other) name ≡ true
among_added names name other e = among_by names name other (is_among names other) e

self_by : (names : List Name) (name : Name) (b : Bool) → is_among names name ≡ b → is_among (if b then names else names ++ name ∷ []) name ≡ true
self_by names name true e = e
self_by names name false e = any_last (bytes_eq name) names name (same_bytes name)

among_self : (names : List Name) (name : Name) → is_among (with_name names name) name ≡ true
among_self names name = self_by names name (is_among names name) refl

among_items : (items : List Item) (m : Said) (name : Name) → is_among m.names name ≡ true → is_among (with_items m items).names name ≡ true
among_items [] m name e = e
among_items (Variable signs number other ∷ items) m name e = among_items items (with_item m (Variable signs number other)) name (among_added m.names name other e)
among_items (Constant signs d ∷ items) m name e = among_items items (with_item m (Constant signs d)) name e

known_body : (body : Body) (m : Said) → Known m → Known (with_body m body)
known_body (Compared items sense value) m h = known_row _ (with_items m items) (known_items items m h)
known_body (Mirrored value sense items) m h = known_row _ (with_items m items) (known_items items m h)
known_body (Between left sense items right) m h = known_row _ (with_items m items) (known_items items m h)
known_body (Conditional name on items sense value) m h =
    known_indicator name on _ (with_items (declared name m) items) (among_items items (declared name m) name (among_self m.names name)) (known_items items (declared name m) (known_declared name m h))

known_var : (change : DraftVar → DraftVar) (name : Name) (m : Said) → Known m → Known (with_var change name m)
known_var change name m h =
    let k = known_declared name m h in
    record {
      paired = length-set (declared name m).vars (place_of m.names name) _ ∙ k.paired;
      parts = record { terms = k.parts.terms; cost = k.parts.cost; rows = k.parts.rows; indicators = k.parts.indicators; sets = k.parts.sets };
    }

known_bound : (line : BoundLine) (m : Said) → Known m → Known (with_bound m line)
known_bound (Stated name sense value) m h = known_var (bounded sense value) name m h
known_bound (Turned value sense name) m h = known_var (bounded (mirrored sense) value) name m h
known_bound (Enclosed left sense name right) m h = known_var (bounded sense right) name (with_var (bounded (mirrored sense) left) name m) (known_var (bounded (mirrored sense) left) name m h)
known_bound (Unbounded name) m h = known_var unbounded name m h

known_set : (k : Option SosKind) (m : Said) → Known m → Known (set_closed k m)
known_set None m h = h
known_set (Some kind) m h = record {
  paired = h.paired;
  parts = record {
    terms = no_terms (length m.names);
    cost = h.parts.cost;
    rows = h.parts.rows;
    indicators = h.parts.indicators;
    sets = All-append (λ (set : DraftSos). AreKnown (length m.names) set.members) m.sets (record { kind = kind; members = m.terms } ∷ []) h.parts.sets (one_of (λ (set : DraftSos). AreKnown (length m.names) set.members) (record { kind = kind; members = m.terms }) h.parts.terms);
  };
}

known_row_name : (label : Option Name) (m : Said) → Known m → Known (with_row_name label m)
known_row_name None m h = h
known_row_name (Some name) m h = record { paired = h.paired; parts = record { terms = h.parts.terms; cost = h.parts.cost; rows = h.parts.rows; indicators = h.parts.indicators; sets = h.parts.sets } }

known_set_name : (label : Option Name) (m : Said) → Known m → Known (with_set_name label m)
known_set_name None m h = h
known_set_name (Some name) m h = record { paired = h.paired; parts = record { terms = h.parts.terms; cost = h.parts.cost; rows = h.parts.rows; indicators = h.parts.indicators; sets = h.parts.sets } }

known_opened : (kind : SosKind) (m : Said) → Known m → Known (with_set kind m)
known_opened kind m h = let k = known_set m.set_kind m h in record { paired = k.paired; parts = record { terms = k.parts.terms; cost = k.parts.cost; rows = k.parts.rows; indicators = k.parts.indicators; sets = k.parts.sets } }

known_entry : (e : Entry) (m : Said) → Known m → Known (with_entry m e)
known_entry (Turn section) m h = known_set m.set_kind m h
known_entry (Row label body) m h = known_body body (with_row_name label m) (known_row_name label m h)
known_entry (Bound line) m h = known_bound line m h
known_entry (Listed section name) m h = known_var (listed section) name m h
known_entry (Opening label kind) m h = known_opened kind (with_set_name label m) (known_set_name label m h)
known_entry (Member name weight) m h = known_term name weight m h

known_entries : (es : List Entry) (m : Said) → Known m → Known (fold with_entry m es)
known_entries [] m h = h
known_entries (e ∷ es) m h = known_entries es (with_entry m e) (known_entry e m h)

known_nothing : (b : Bool) → Known (nothing b)
known_nothing b = record { paired = refl; parts = record { terms = no_terms 0; cost = no_terms 0; rows = λ i d lt. absurd (omega arith); indicators = λ i d lt. absurd (omega arith); sets = λ i d lt. absurd (omega arith) } }

sets_closed : (k : Option SosKind) (m : Said) → Known m → All (λ (set : DraftSos). AreKnown (length m.names) set.members) (set_closed k m).sets
sets_closed None m h = h.parts.sets
sets_closed (Some kind) m h = let c = known_set (Some kind) m h in c.parts.sets

formed_from : (m : Said) → Known m → IsWellFormed (draft_of m)
formed_from m h =
    record { paired = h.paired; cost = h.parts.cost; rows = h.parts.rows; indicators = h.parts.indicators; sos = sets_closed m.set_kind m h }

pub lp_formed : (ts : List SeenToken) (d : Draft) → Lp ts d → IsWellFormed d
lp_formed ts d h =
    subst IsWellFormed h.means (formed_from (fold with_entry (objective_said h.file) h.file.entries)
    (known_entries h.file.entries (objective_said h.file) (known_cost (with_items (nothing (is_maximal h.file.direction)) h.file.cost) (known_items h.file.cost (nothing (is_maximal h.file.direction)) (known_nothing (is_maximal h.file.direction))))))
