-- How a file is read token by token: a token that may be a part of a section word waits for those behind it. A token is refused
-- where neither of what it may be goes on.
use Rattle.std.specs.Prelude.{ℕ, Bool, true, false, not, ◌||◌, ◌&&◌, if◌then◌else◌, List, [], ◌∷◌, Option, Some, None, option_and_then, is_some}
use Rattle.sp_draft.specs.declared.drafts.Draft.{Draft}
use Rattle.sp_draft.specs.Names.{Name}
use Rattle.sp_lp_tokens.specs.SeenTokens.{SeenToken}
use Rattle.sp_lp_words.specs.declared.sections.Section.{Section}
use Rattle.sp_lp_words.specs.declared.sections.Section.TheVariants as sections
use Rattle.sp_lp_words.specs.declared.sections.Part.TheVariants as parts
use Rattle.sp_lp_words.specs.declared.classes.Class.{Class}
use Rattle.sp_lp_words.specs.declared.classes.Class.TheVariants as classes
use Rattle.sp_lp_words.specs.Sections.{pair_section}
use Rattle.sp_lp_grammar.specs.declared.places.Pending.{Pending}
use Rattle.sp_lp_grammar.specs.declared.places.Pending.TheVariants.{Nothing, Whole, Semi, Opened, SemiMinus, Complete}
use Rattle.sp_lp_grammar.specs.Lexemes.{Mark, mark_of, kind_of, is_colon, is_second, is_minus, is_continuous}
use Rattle.sp_lp_grammar.specs.InnerMachine.{State, start, name_step, colon_step, double_colon_step, heading_step, kind_step, finished}

-- the tokens that wait, of which the first one has this text, and the state before them
pub record Cursor : Type 0 where
  pub pending : Pending
  pub word : Name
  pub state : State

abbrev pub origin : Cursor
origin = record { pending = Nothing; word = []; state = start }

-- the section's word may stand here
abbrev pub can_head : Section → State → Bool
can_head section s = is_some (heading_step s.place section s)

-- the name may stand here
abbrev pub can_name : Name → State → Bool
can_name name s = is_some (name_step s.place true name s)

abbrev pub colon_behind : Option State → Option State
colon_behind None = None
colon_behind (Some s) = colon_step s.place s

abbrev pub double_colon_behind : Option State → Option State
double_colon_behind None = None
double_colon_behind (Some s) = double_colon_step s.place s

-- the name and a colon, or a double colon, may stand here
abbrev pub can_label : Name → State → Bool
can_label name s = is_some (colon_behind (name_step s.place true name s)) || is_some (double_colon_behind (name_step s.place true name s))

abbrev pub waiting : Bool → Pending → Name → State → Option Cursor
waiting true pending word s = Some (record { pending = pending; word = word; state = s })
waiting false pending word s = None

-- nothing waits
abbrev pub settled : Name → Option State → Option Cursor
settled word None = None
settled word (Some s) = Some (record { pending = Nothing; word = word; state = s })

-- a token by itself
abbrev pub alone : Mark → Name → State → Option Cursor
alone m word s = settled word (kind_step (kind_of m.class m.text) m.first s)

-- the first token of a line
abbrev pub line_begun : Class → Mark → Name → State → Option Cursor
line_begun (classes.Name (Some (parts.Whole section))) m word s = waiting (can_head section s || can_label m.text s) (Whole section) m.text s
line_begun (classes.Name (Some parts.Semi)) m word s = waiting (can_head sections.Semi s || can_label m.text s) Semi m.text s
line_begun (classes.Name (Some (parts.Opens pair))) m word s = waiting (can_head (pair_section pair) s || can_name m.text s) (Opened pair) m.text s
line_begun class m word s = alone m word s

-- a token where nothing waits
abbrev pub arrived : Mark → Name → State → Option Cursor
arrived m word s = if m.first then line_begun m.class m word s else alone m word s

abbrev pub arrived_at : Mark → Name → Option State → Option Cursor
arrived_at m word None = None
arrived_at m word (Some s) = arrived m word s

-- a token behind the word of a section
abbrev pub behind_heading : Section → Mark → Name → State → Option Cursor
behind_heading section m word s = arrived_at m word (heading_step s.place section s)

-- a token behind a name, and behind a name of which it is the colon
abbrev pub behind_name : Mark → Name → State → Option Cursor
behind_name m word s = arrived_at m word (name_step s.place true word s)

abbrev pub alone_at : Mark → Name → Option State → Option Cursor
alone_at m word None = None
alone_at m word (Some s) = alone m word s

abbrev pub whole_taken : Section → Mark → Name → State → Option Cursor
whole_taken section m word s = if is_colon m.class then alone_at m word (name_step s.place true word s) else behind_heading section m word s

abbrev pub taken : Pending → Mark → Name → State → Option Cursor
taken Nothing m word s = arrived m word s
taken (Whole section) m word s = whole_taken section m word s
taken Semi m word s =
    if not m.first && is_minus m.class then waiting (can_head sections.Semi s) SemiMinus word s else whole_taken sections.Semi m word s
taken (Opened pair) m word s =
    if not m.first && is_second pair m.class then waiting (can_head (pair_section pair) s) (Complete (pair_section pair)) word s else behind_name m word s
taken SemiMinus m word s = waiting (not m.first && is_continuous m.class) (Complete sections.Semi) word s
taken (Complete section) m word s = if is_colon m.class then None else behind_heading section m word s

unfoldable pub take_mark : Cursor → Mark → Option Cursor
take_mark c m = taken c.pending m c.word c.state

-- the tokens from one on, which is the first of the file, or of which the one before stands in this line
unfoldable pub walk : Bool → ℕ → Cursor → List SeenToken → Option Cursor
walk initial before c [] = Some c
walk initial before c (t ∷ ts) = option_and_then (λ next. walk false t.line next ts) (take_mark c (mark_of initial before t))

abbrev pub draft_at : Option State → Option Draft
draft_at None = None
draft_at (Some s) = finished s.place s.said

-- the draft at the end of the tokens
abbrev pub ending : Pending → State → Option Draft
ending Nothing s = finished s.place s.said
ending (Whole section) s = draft_at (heading_step s.place section s)
ending Semi s = draft_at (heading_step s.place sections.Semi s)
ending (Opened pair) s = None
ending SemiMinus s = None
ending (Complete section) s = draft_at (heading_step s.place section s)

abbrev pub ended_at : Cursor → Option Draft
ended_at c = ending c.pending c.state

-- whether the first token of the file comes next, and the line of the token before
abbrev pub first_behind : Bool → List SeenToken → Bool
first_behind first [] = first
first_behind first (t ∷ ts) = false

abbrev pub line_behind : ℕ → List SeenToken → ℕ
line_behind before [] = before
line_behind before (t ∷ ts) = line_behind t.line ts
