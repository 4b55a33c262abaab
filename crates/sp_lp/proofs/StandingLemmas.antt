-- What stands first among the tokens from a place on.
use Rattle.std.proofs.Common.{◌≡◌, ℕ, zero, suc, ◌+◌, ◌==◌, ◌≤◌, Bool, true, false, not, ◌&&◌, List, [], ◌∷◌, length, take, drop, Option, Some, None, refl, ap, sym, ◌∙◌, arith}
use Rattle.std.specs.Prelude.{if◌then◌else◌, is_some}
use Rattle.std.specs.List.{drop-map}
use Rattle.std.proofs.Math.ListN.{drop_of_length-le}
use Rattle.std.proofs.lemmas.Bool.Decides.{nat_tests}
use Rattle.std.proofs.lemmas.List.{length-map}
use Rattle.sp_lp_tokens.specs.declared.token_types.Token.{Token}
use Rattle.sp_lp_tokens.specs.SeenTokens.{SeenToken, seen, all_seen}
use Rattle.sp_lp_words.specs.declared.sections.Section.{Section}
use Rattle.sp_lp_words.specs.declared.sections.Section.TheVariants.{Semi, Cuts}
use Rattle.sp_lp_words.specs.declared.sections.Pair.{Pair}
use Rattle.sp_lp_words.specs.declared.sections.Part.TheVariants as parts
use Rattle.sp_lp_words.specs.declared.classes.Class.{Class}
use Rattle.sp_lp_words.specs.declared.classes.Class.TheVariants as classes
use Rattle.sp_lp_words.specs.Sections.{pair_section}
use Rattle.sp_lp_grammar.specs.Lexemes.{Mark, marks, is_colon, colon_first, is_second, is_minus, HeadingOf, counted, pair_heading, semi_third, semi_heading, class_heading, heading_at}
use Rattle.sp_lp_grammar.specs.InnerCursor.{line_behind}
use Rattle.sp_lp.specs.Refusals.{marks_from, is_cuts, is_name_class, name_stands, cuts_stand}
use Rattle.sp_lp.specs.InnerKinds.{pair_counts, word_counts, class_counts, section_stands, is_cuts_section}

abbrev section_in : Option HeadingOf → Option Section
section_in None = None
section_in (Some heading) = Some heading.0

word_by : (b : Bool) (section : Section) (more : ℕ) → section_in (if b then None else Some (section, more)) ≡ (if b then None else Some section)
word_by true section more = refl
word_by false section more = refl

word_is : (section : Section) (more : ℕ) (ms : List Mark) → section_in (counted section more ms) ≡ word_counts section ms
word_is section more ms = word_by (colon_first ms) section more

no_colon : (class : Class) → is_minus class ≡ true → is_colon class ≡ false
no_colon classes.Colon e = cc
no_colon classes.DoubleColon e = cc
no_colon class e = refl

right_of : (a b : Bool) → (a && b) ≡ true → b ≡ true
right_of true b e = e
right_of false b e = cc

third_by : (b : Bool) → section_in (if b then Some (Semi, 2) else Some (Semi, 0)) ≡ Some Semi
third_by true = refl
third_by false = refl

third_is : (ms : List Mark) → section_in (semi_third ms (Some (Semi, 0))) ≡ Some Semi
third_is [] = refl
third_is (m ∷ ms) = third_by _

semi_by : (b : Bool) (m : Mark) (ms : List Mark) → (not m.first && is_minus m.class) ≡ b
    → section_in (if b then semi_third ms (Some (Semi, 0)) else counted Semi 0 (m ∷ ms)) ≡ word_counts Semi (m ∷ ms)
semi_by true m ms e = third_is ms ∙ rw (no_colon m.class (right_of (not m.first) (is_minus m.class) e)) refl
semi_by false m ms e = word_is Semi 0 (m ∷ ms)

semi_is : (ms : List Mark) → section_in (semi_heading ms) ≡ word_counts Semi ms
semi_is [] = refl
semi_is (m ∷ ms) = semi_by (not m.first && is_minus m.class) m ms refl

pair_by : (a b : Bool) (section : Section) → section_in (if a then (if b then None else Some (section, 1)) else None) ≡ (if a && not b then Some section else None)
pair_by true true section = refl
pair_by true false section = refl
pair_by false b section = refl

pair_is : (pair : Pair) (ms : List Mark) → section_in (pair_heading pair ms) ≡ pair_counts pair ms
pair_is pair [] = refl
pair_is pair (m ∷ ms) = pair_by (not m.first && is_second pair m.class) (colon_first ms) (pair_section pair)

class_is : (class : Class) (ms : List Mark) → section_in (class_heading class ms) ≡ class_counts class ms
class_is (classes.Name (Some (parts.Whole section))) ms = word_is section 0 ms
class_is (classes.Name (Some parts.Semi)) ms = semi_is ms
class_is (classes.Name (Some (parts.Opens pair))) ms = pair_is pair ms
class_is class ms = refl

first_by : (b : Bool) (h : Option HeadingOf) (section : Option Section) → section_in h ≡ section → section_in (if b then h else None) ≡ (if b then section else None)
first_by true h section e = e
first_by false h section e = refl

heading_is : (m : Mark) (ms : List Mark) → section_in (heading_at m ms) ≡ section_stands (m ∷ ms)
unfolding heading_at
heading_is m ms = first_by m.first (class_heading m.class ms) (class_counts m.class ms) (class_is m.class ms)

some_in : (h : Option HeadingOf) → is_some (section_in h) ≡ is_some h
some_in None = refl
some_in (Some h) = refl

cuts_in : (h : Option HeadingOf) → is_cuts_section (section_in h) ≡ is_cuts h
cuts_in None = refl
cuts_in (Some (Cuts, more)) = refl
cuts_in (Some h) = refl

-- a name that is no word of a section, and the word of `user cuts`, by the section whose word counts
pub name_by_section : (m : Mark) (ms : List Mark) → name_stands (m ∷ ms) ≡ (is_name_class m.class && not (is_some (section_stands (m ∷ ms))))
name_by_section m ms = ap (λ b. is_name_class m.class && not b) (sym (some_in (heading_at m ms)) ∙ ap is_some (heading_is m ms))

pub cuts_by_section : (ms : List Mark) → cuts_stand ms ≡ is_cuts_section (section_stands ms)
cuts_by_section [] = refl
cuts_by_section (m ∷ ms) = sym (cuts_in (heading_at m ms)) ∙ ap is_cuts_section (heading_is m ms)

-- the tokens from a place on, by the tokens before it
later_drop : (ts : List SeenToken) (before i : ℕ) → drop i (marks false before ts) ≡ marks false (line_behind before (take i ts)) (drop i ts)
later_drop [] before zero = refl
later_drop [] before (suc i) = refl
later_drop (t ∷ ts) before zero = refl
later_drop (t ∷ ts) before (suc i) = later_drop ts t.line i

suc_zero : (i : ℕ) → (suc i == 0) ≡ false
suc_zero i = grind (arith, nat_tests)

all_drop : (ts : List SeenToken) (i : ℕ) → drop i (marks true 0 ts) ≡ marks (i == 0) (line_behind 0 (take i ts)) (drop i ts)
all_drop [] zero = refl
all_drop [] (suc i) = refl
all_drop (t ∷ ts) zero = refl
all_drop (t ∷ ts) (suc i) = later_drop ts t.line i ∙ ap (λ b. marks b (line_behind t.line (take i ts)) (drop i ts)) (sym (suc_zero i))

-- the same for a list of tokens of a source
pub from_place : (source : List ℕ) (list : List Token) (place before : ℕ) → before ≡ line_behind 0 (take place (all_seen source list))
    → marks_from (all_seen source list) place ≡ marks (place == 0) before (all_seen source (drop place list))
from_place source list place before e = all_drop (all_seen source list) place ∙ rw (e, drop-map (seen source) place list) refl

pub from_past : (source : List ℕ) (list : List Token) (place : ℕ) → length list ≤ place → drop place (all_seen source list) ≡ []
from_past source list place h = let n : length (all_seen source list) ≡ length list = length-map list (seen source) in drop_of_length-le (all_seen source list) (omega arith)

map_past : (ts : List SeenToken) (first : Bool) (before : ℕ) → length (marks first before ts) ≡ length ts
map_past [] first before = refl
map_past (t ∷ ts) first before = ap suc (map_past ts false t.line)

pub none_past : (source : List ℕ) (list : List Token) (place : ℕ) → length list ≤ place → false ≡ name_stands (marks_from (all_seen source list) (place + 1))
none_past source list place h =
    let n : length (all_seen source list) ≡ length list = length-map list (seen source) in
    let m : length (marks true 0 (all_seen source list)) ≡ length (all_seen source list) = map_past (all_seen source list) true 0 in
    let e : drop (place + 1) (marks true 0 (all_seen source list)) ≡ [] = drop_of_length-le (marks true 0 (all_seen source list)) (omega arith) in
    sym (ap name_stands e)
