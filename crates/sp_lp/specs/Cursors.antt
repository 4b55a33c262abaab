-- The reader of tokens as the machine's cursor.
use Rattle.std.specs.Prelude.{Bool}
use Rattle.sp_draft.specs.Names.{Name}
use Rattle.sp_lp_words.specs.declared.classes.Class.{Class}
use Rattle.sp_lp_grammar.specs.Lexemes.{Mark}
use Rattle.sp_lp_grammar.specs.InnerCursor.{Cursor}
use Rattle.sp_lp.specs.declared.cursor.TokenReader.{TokenReader}
use Rattle.sp_lp.specs.States.{state_of}

abbrev pub mark_at : Bool → Class → Name → Mark
mark_at first class text = record { first = first; class = class; text = text }

abbrev pub cursor_of : TokenReader → Cursor
cursor_of t = record { pending = t.pending; word = t.word.now; state = state_of t.reader }
