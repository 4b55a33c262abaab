-- The lexemes of an LP file: section words that count, and the other tokens one by one.
use Rattle.std.specs.Prelude.{ℕ, zero, suc, nat_lt, Bool, true, false, not, ◌||◌, ◌&&◌, if◌then◌else◌, List, [], ◌∷◌, Option, Some, None}
use Rattle.sp_decimal.specs.declared.numerals.Numeral.{Numeral}
use Rattle.sp_draft.specs.declared.drafts.Sense.{Sense}
use Rattle.sp_draft.specs.Names.{Name}
use Rattle.sp_lp_tokens.specs.SeenTokens.{SeenToken}
use Rattle.sp_lp_words.specs.declared.sections.Section.{Section}
use Rattle.sp_lp_words.specs.declared.sections.Section.TheVariants.{Semi}
use Rattle.sp_lp_words.specs.declared.sections.Pair.{Pair}
use Rattle.sp_lp_words.specs.declared.sections.Pair.TheVariants.{SubjectTo, SuchThat, LazyConstraints, UserCuts}
use Rattle.sp_lp_words.specs.declared.sections.Part.TheVariants as parts
use Rattle.sp_lp_words.specs.declared.classes.Class.{Class}
use Rattle.sp_lp_words.specs.declared.classes.Class.TheVariants as classes
use Rattle.sp_lp_words.specs.Sections.{pair_section}
use Rattle.sp_lp_words.specs.Classes.{class_of}

-- a token as the grammar sees it: whether it is the first of its line, what it is, and its text
pub record Mark : Type 0 where
  pub first : Bool
  pub class : Class
  pub text : Name

-- a token that is the first of its file, or whose token before stands in that line
abbrev pub mark_of : Bool → ℕ → SeenToken → Mark
mark_of initial before t = record { first = initial || nat_lt before t.line; class = class_of initial t; text = t.text }

abbrev pub marks : Bool → ℕ → List SeenToken → List Mark
marks initial before [] = []
marks initial before (t ∷ ts) = mark_of initial before t ∷ marks false t.line ts

-- what stands at a place of a file
pub data Kind : Type 0 where
  Heading : Section → Kind
  Named : Name → Kind
  Number : Numeral → Kind
  Sign : Bool → Kind
  Relation : Sense → Kind
  Colon : Kind
  DoubleColon : Kind
  Arrow : Kind
  Other : Kind

-- it, and whether it is the first of its line
abbrev pub Lexeme : Type 0
Lexeme = Bool × Kind

-- a token by itself
abbrev pub kind_of : Class → Name → Kind
kind_of (classes.Name part) text = Named text
kind_of (classes.Number n) text = Number n
kind_of (classes.Sign minus) text = Sign minus
kind_of (classes.Relation sense) text = Relation sense
kind_of classes.Colon text = Colon
kind_of classes.DoubleColon text = DoubleColon
kind_of classes.Arrow text = Arrow
kind_of classes.Other text = Other

abbrev pub is_colon : Class → Bool
is_colon classes.Colon = true
is_colon classes.DoubleColon = true
is_colon class = false

-- a colon or a double colon stands first, on whatever line
abbrev pub colon_first : List Mark → Bool
colon_first [] = false
colon_first (m ∷ ms) = is_colon m.class

-- the second part of that section word
abbrev pub is_second : Pair → Class → Bool
is_second SubjectTo (classes.Name (Some (parts.Closes SubjectTo))) = true
is_second SuchThat (classes.Name (Some (parts.Closes SuchThat))) = true
is_second LazyConstraints (classes.Name (Some (parts.Closes LazyConstraints))) = true
is_second UserCuts (classes.Name (Some (parts.Closes UserCuts))) = true
is_second pair class = false

abbrev pub is_minus : Class → Bool
is_minus (classes.Sign true) = true
is_minus class = false

abbrev pub is_continuous : Class → Bool
is_continuous (classes.Name (Some parts.Continuous)) = true
is_continuous class = false

-- a section word, and how many more tokens it has behind its first
abbrev pub HeadingOf : Type 0
HeadingOf = Section × ℕ

-- the word counts unless a colon or a double colon follows it
abbrev pub counted : Section → ℕ → List Mark → Option HeadingOf
counted section more ms = if colon_first ms then None else Some (section, more)

-- behind the first part of a word of two parts
abbrev pub pair_heading : Pair → List Mark → Option HeadingOf
pair_heading pair [] = None
pair_heading pair (m ∷ ms) = if not m.first && is_second pair m.class then counted (pair_section pair) 1 ms else None

-- behind `semi`, and behind `semi -`: either the rest of `semi-continuous`, or `semi` by itself
abbrev pub semi_third : List Mark → Option HeadingOf → Option HeadingOf
semi_third [] other = other
semi_third (m ∷ ms) other = if (not m.first && is_continuous m.class) && not (colon_first ms) then Some (Semi, 2) else other

abbrev pub semi_heading : List Mark → Option HeadingOf
semi_heading [] = Some (Semi, 0)
semi_heading (m ∷ ms) = if not m.first && is_minus m.class then semi_third ms (Some (Semi, 0)) else counted Semi 0 (m ∷ ms)

-- the section word that counts behind a first token of this class
abbrev pub class_heading : Class → List Mark → Option HeadingOf
class_heading (classes.Name (Some (parts.Whole section))) ms = counted section 0 ms
class_heading (classes.Name (Some parts.Semi)) ms = semi_heading ms
class_heading (classes.Name (Some (parts.Opens pair))) ms = pair_heading pair ms
class_heading class ms = None

-- the section word that counts where the token stands with those behind it: only a first token of its line begins one, and all
-- its parts stand on that line
unfoldable pub heading_at : Mark → List Mark → Option HeadingOf
heading_at m ms = if m.first then class_heading m.class ms else None

abbrev pub lexed : Option HeadingOf → Mark → List Mark → (ℕ → List Lexeme) → List Lexeme
lexed None m ms rest = (m.first, kind_of m.class m.text) ∷ rest 0
lexed (Some heading) m ms rest = (true, Heading heading.0) ∷ rest heading.1

-- with so many tokens left out, which belong to a section word before them
unfoldable pub lexemes_behind : ℕ → List Mark → List Lexeme
lexemes_behind more [] = []
lexemes_behind zero (m ∷ ms) = lexed (heading_at m ms) m ms (λ more. lexemes_behind more ms)
lexemes_behind (suc more) (m ∷ ms) = lexemes_behind more ms

abbrev pub lexemes : List SeenToken → List Lexeme
lexemes ts = lexemes_behind 0 (marks true 0 ts)
