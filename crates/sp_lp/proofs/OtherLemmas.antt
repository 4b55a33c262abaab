-- The tokens that are read one after another, and others behind them.
use Rattle.std.proofs.Common.{get_or, zero, ◌≡◌, ℕ, suc, ◌+◌, ◌-◌, ◌==◌, ◌<◌, ◌≤◌, Bool, true, false, List, [], ◌∷◌, ◌++◌, length, take, drop, Option, Some, None, refl, ap, sym, ◌∙◌, arith, add-one, drop-cons, Err}
use Rattle.std.specs.Prelude.{option_and_then, is_some}
use Rattle.std.specs.List.{take-map}
use Rattle.std.proofs.lemmas.List.{length-map}
use Rattle.std.proofs.Math.ListN.{drop_of_length-le}
use Rattle.std.proofs.lemmas.Bool.Decides.{nat_tests}
use Rattle.sp_lp_tokens.specs.declared.token_types.Token.{Token}
use Rattle.sp_lp_tokens.specs.SeenTokens.{SeenToken, seen, all_seen}
use Rattle.sp_lp_grammar.specs.Lexemes.{mark_of}
use Rattle.sp_lp_grammar.specs.InnerCursor.{Cursor, origin, take_mark, walk, first_behind, line_behind}
use Rattle.sp_lp.specs.declared.other_tokens.Other.{Other}
use Rattle.sp_lp.specs.declared.other_tokens.Other.TheVariants.{Name, SetKind, Number, Plus, Colon}
use Rattle.sp_lp.specs.declared.stops.Stop.{Stop}
use Rattle.sp_lp.specs.declared.stops.Stop.TheVariants.{Fault, Memory}
use Rattle.sp_lp.specs.Standins.{no_token, line_of}
use Rattle.sp_lp.specs.Stops.{Gives}
use Rattle.sp_lp.specs.InnerKinds.{no_list_token, fault_line, other_token, other_tokens, goes}

-- one more of the tokens that are left
pub turn : (first : Bool) (before : ℕ) (c n : Cursor) (t : SeenToken) (ts : List SeenToken) → take_mark c (mark_of first before t) ≡ Some n → walk first before c (t ∷ ts) ≡ walk false t.line n ts
unfolding walk
turn first before c n t ts e = ap (option_and_then (λ next. walk false t.line next ts)) e

pub stopped : (first : Bool) (before : ℕ) (c : Cursor) (t : SeenToken) (ts : List SeenToken) → take_mark c (mark_of first before t) ≡ None → walk first before c (t ∷ ts) ≡ None
unfolding walk
stopped first before c t ts e = ap (option_and_then (λ next. walk false t.line next ts)) e

pub nothing_left : (first : Bool) (before : ℕ) (c : Cursor) → walk first before c [] ≡ Some c
unfolding walk
nothing_left first before c = refl

dropped : {X : Type 0} (xs : List X) (i : ℕ) (x : X) → i < length xs → x ≡ get_or xs i x → drop i xs ≡ x ∷ drop (i + 1) xs
dropped xs i x lt e = rw (add-one) (drop-cons xs i x lt ∙ ap (λ y. y ∷ drop (suc i) xs) (sym e))

dropped_at : {X : Type 0} (xs : List X) (i : ℕ) (d : X) → i < length xs → drop i xs ≡ get_or xs i d ∷ drop (i + 1) xs
dropped_at xs i d lt = rw (add-one) (drop-cons xs i d lt)

other_line : (line : ℕ) (o : Other) → (other_token line o).line ≡ line
other_line line Name = refl
other_line line SetKind = refl
other_line line Number = refl
other_line line Plus = refl
other_line line Colon = refl

pub token_read : (source : List ℕ) (ts : List Token) (i : ℕ) (t : Token) (first : Bool) (before : ℕ) (c n : Cursor) (whole : Option Cursor) → i < length ts → t ≡ get_or ts i t
    → walk first before c (all_seen source (drop i ts)) ≡ whole → take_mark c (mark_of first before (seen source t)) ≡ Some n → walk false t.line n (all_seen source (drop (i + 1) ts)) ≡ whole
token_read source ts i t first before c n whole lt at e f =
    sym (turn first before c n (seen source t) (all_seen source (drop (i + 1) ts)) f) ∙ (sym (ap (λ xs. walk first before c (all_seen source xs)) (dropped ts i t lt at)) ∙ e)

pub token_refused : (source : List ℕ) (ts : List Token) (i : ℕ) (t : Token) (first : Bool) (before : ℕ) (c : Cursor) (whole : Option Cursor) → i < length ts → t ≡ get_or ts i t
    → walk first before c (all_seen source (drop i ts)) ≡ whole → take_mark c (mark_of first before (seen source t)) ≡ None → whole ≡ None
token_refused source ts i t first before c whole lt at e f =
    sym e ∙ (ap (λ xs. walk first before c (all_seen source xs)) (dropped ts i t lt at) ∙ stopped first before c (seen source t) (all_seen source (drop (i + 1) ts)) f)

pub other_read : (line : ℕ) (os : List Other) (i : ℕ) (d : Other) (first : Bool) (before : ℕ) (c n : Cursor) (whole : Option Cursor) → i < length os
    → walk first before c (other_tokens line (drop i os)) ≡ whole → take_mark c (mark_of first before (other_token line (get_or os i d))) ≡ Some n → walk false line n (other_tokens line (drop (i + 1) os)) ≡ whole
other_read line os i d first before c n whole lt e f =
    ap (λ l. walk false l n (other_tokens line (drop (i + 1) os))) (sym (other_line line (get_or os i d)))
    ∙ (sym (turn first before c n (other_token line (get_or os i d)) (other_tokens line (drop (i + 1) os)) f) ∙ (sym (ap (λ xs. walk first before c (other_tokens line xs)) (dropped_at os i d lt)) ∙ e))

pub other_refused : (line : ℕ) (os : List Other) (i : ℕ) (d : Other) (first : Bool) (before : ℕ) (c : Cursor) (whole : Option Cursor) → i < length os
    → walk first before c (other_tokens line (drop i os)) ≡ whole → take_mark c (mark_of first before (other_token line (get_or os i d))) ≡ None → whole ≡ None
other_refused line os i d first before c whole lt e f =
    sym e ∙ (ap (λ xs. walk first before c (other_tokens line xs)) (dropped_at os i d lt) ∙ stopped first before c (other_token line (get_or os i d)) (other_tokens line (drop (i + 1) os)) f)

-- nothing is left
pub tokens_done : (source : List ℕ) (ts : List Token) (i : ℕ) (first : Bool) (before : ℕ) (c : Cursor) (whole : Option Cursor) → length ts ≤ i → walk first before c (all_seen source (drop i ts)) ≡ whole → whole ≡ Some c
tokens_done source ts i first before c whole h e = sym e ∙ (ap (λ xs. walk first before c (all_seen source xs)) (drop_of_length-le ts h) ∙ nothing_left first before c)

pub others_done : (line : ℕ) (os : List Other) (i : ℕ) (first : Bool) (before : ℕ) (c : Cursor) (whole : Option Cursor) → length os ≤ i → walk first before c (other_tokens line (drop i os)) ≡ whole → whole ≡ Some c
others_done line os i first before c whole h e = sym e ∙ (ap (λ xs. walk first before c (other_tokens line xs)) (drop_of_length-le os h) ∙ nothing_left first before c)

-- why a part stops, the whole stops
pub refuses : (T : Type 0) (stop : Stop) (n m : Cursor) (want whole : Option Cursor) → (want ≡ None → whole ≡ None) → Gives {T = T} (Err stop) n want → Gives {T = T} (Err stop) m whole
refuses T Fault n m want whole f h = f h
refuses T Memory n m want whole f h = tt

-- what is refused is refused with whatever follows
none_step : (a b : List SeenToken) (line : ℕ) (o : Option Cursor) → ((c : Cursor) → walk false line c a ≡ None → walk false line c (a ++ b) ≡ None)
    → option_and_then (λ n. walk false line n a) o ≡ None → option_and_then (λ n. walk false line n (a ++ b)) o ≡ None
none_step a b line None h e = refl
none_step a b line (Some c) h e = h c e

later_none : (a b : List SeenToken) (before : ℕ) (c : Cursor) → walk false before c a ≡ None → walk false before c (a ++ b) ≡ None
unfolding walk
later_none [] b before c e = cc
later_none (t ∷ ts) b before c e = none_step ts b t.line (take_mark c (mark_of false before t)) (λ n f. later_none ts b t.line n f) e

pub walk_none : (a b : List SeenToken) (c : Cursor) → walk true 0 c a ≡ None → walk true 0 c (a ++ b) ≡ None
unfolding walk
walk_none [] b c e = cc
walk_none (t ∷ ts) b c e = none_step ts b t.line (take_mark c (mark_of true 0 t)) (λ n f. later_none ts b t.line n f) e

-- the lines of tokens, seen or not
seen_index : (source : List ℕ) (ts : List Token) (i : ℕ) (d : Token) (e : SeenToken) → e.line ≡ d.line → (get_or (all_seen source ts) i e).line ≡ (get_or ts i d).line
seen_index source [] i d e h = h
seen_index source (t ∷ ts) zero d e h = refl
seen_index source (t ∷ ts) (suc i) d e h = seen_index source ts i d e h

pub seen_line : (source : List ℕ) (list : List Token) (place : ℕ) → line_of (all_seen source list) place ≡ fault_line list place
seen_line source list place =
    let n : length (all_seen source list) ≡ length list = length-map list (seen source) in
    ap (λ k. (get_or (all_seen source list) place (get_or (all_seen source list) (k - 1) no_token)).line) n
    ∙ seen_index source list place (get_or list (length list - 1) no_list_token) (get_or (all_seen source list) (length list - 1) no_token)
    (seen_index source list (length list - 1) no_list_token no_token refl)

later_behind : (ts : List SeenToken) (i : ℕ) (before : ℕ) (d : SeenToken) → i < length ts → line_behind before (take (suc i) ts) ≡ (get_or ts i d).line
later_behind [] i before d lt = absurd (omega arith)
later_behind (t ∷ ts) zero before d lt = refl
later_behind (t ∷ ts) (suc i) before d lt = later_behind ts i t.line d (omega arith)

pub behind_is : (source : List ℕ) (list : List Token) (place : ℕ) (d : Token) → place ≤ length list → 0 < place → (get_or list (place - 1) d).line ≡ line_behind 0 (take place (all_seen source list))
behind_is source list place d le positive =
    let n : length (all_seen source list) ≡ length list = length-map list (seen source) in
    let lt : place - 1 < length (all_seen source list) = omega arith in
    let e : suc (place - 1) ≡ place = omega arith in
    sym (seen_index source list (place - 1) d (seen source d) refl)
    ∙ (sym (later_behind (all_seen source list) (place - 1) 0 (seen source d) lt) ∙ ap (λ k. line_behind 0 (take k (all_seen source list))) e)

suc_zero : (i : ℕ) → false ≡ (suc i == 0)
suc_zero i = grind (arith, nat_tests)

first_is : (ts : List SeenToken) (i : ℕ) → i ≤ length ts → first_behind true (take i ts) ≡ (i == 0)
first_is ts zero le = refl
first_is [] (suc i) le = absurd (omega arith)
first_is (t ∷ ts) (suc i) le = suc_zero i

pub first_place : (source : List ℕ) (list : List Token) (place : ℕ) → place ≤ length list → first_behind true (take place (all_seen source list)) ≡ (place == 0)
first_place source list place le = let n : length (all_seen source list) ≡ length list = length-map list (seen source) in first_is (all_seen source list) place (omega arith)

-- what the law on joined lists says
abbrev pub Joins : Type 0
Joins = (a b : List SeenToken) (c : Cursor) → walk true 0 origin a ≡ Some c → walk true 0 origin (a ++ b) ≡ walk (first_behind true a) (line_behind 0 a) c b

-- the others behind the front
pub both_read : Joins → (source : List ℕ) (list : List Token) (place before : ℕ) (others : List SeenToken) (c : Cursor) → place ≤ length list → before ≡ line_behind 0 (take place (all_seen source list))
    → walk true 0 origin (all_seen source (take place list)) ≡ Some c → walk true 0 origin (take place (all_seen source list) ++ others) ≡ walk (place == 0) before c others
both_read joins source list place before others c le e f =
    let t : take place (all_seen source list) ≡ all_seen source (take place list) = take-map (seen source) place list in
    joins (take place (all_seen source list)) others c (ap (walk true 0 origin) t ∙ f) ∙ rw (first_place source list place le, e) refl

pub front_refused : (source : List ℕ) (list : List Token) (place : ℕ) (others : List SeenToken) → walk true 0 origin (all_seen source (take place list)) ≡ None → walk true 0 origin (take place (all_seen source list) ++ others) ≡ None
front_refused source list place others f =
    walk_none (take place (all_seen source list)) others origin (ap (walk true 0 origin) (take-map (seen source) place list) ∙ f)

goes_some : (ts : List SeenToken) (c : Cursor) → walk true 0 origin ts ≡ Some c → goes ts ≡ true
unfolding goes
goes_some ts c e = ap is_some e

goes_none : (ts : List SeenToken) → walk true 0 origin ts ≡ None → goes ts ≡ false
unfolding goes
goes_none ts e = ap is_some e

-- the answer by what was read
pub read_goes : (source : List ℕ) (list : List Token) (place : ℕ) (others : List Other) (c : Cursor)
    → walk true 0 origin (take place (all_seen source list) ++ other_tokens (fault_line list place) others) ≡ Some c
    → true ≡ goes (take place (all_seen source list) ++ other_tokens (line_of (all_seen source list) place) others)
read_goes source list place others c e = rw (seen_line source list place) (sym (goes_some _ c e))

pub refused_goes : (source : List ℕ) (list : List Token) (place : ℕ) (others : List Other)
    → walk true 0 origin (take place (all_seen source list) ++ other_tokens (fault_line list place) others) ≡ None
    → false ≡ goes (take place (all_seen source list) ++ other_tokens (line_of (all_seen source list) place) others)
refused_goes source list place others e = rw (seen_line source list place) (sym (goes_none _ e))
