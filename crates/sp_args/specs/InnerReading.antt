-- What words give, told from the left, and what is then asked for.
use Rattle.std.specs.Prelude.{ℕ, Bool, true, false, not, ◌==◌, if◌then◌else◌}
use Rattle.std.specs.Prelude.{List, [], ◌∷◌, ◌++◌, Option, Some, None, option_map, option_and_then}
use Rattle.std.specs.List.{list_any, before_first, after_first}
use Rattle.sp_model.specs.declared.gaps.Gap.{Gap}
use Rattle.sp_model.specs.declared.gaps.Gap.TheVariants.{Of, Unlimited}
use Rattle.sp_args.specs.declared.options.Given.{Given}
use Rattle.sp_args.specs.declared.requests.Request.{Request}
use Rattle.sp_args.specs.Words.{Word, Key, absgap, relgap, nodes, file, key_of, has_dash, Uses, has_use, text_at, gap_or, nodes_or}

-- behind these uses, where nothing is given twice
abbrev pub with_use : Key → Word → Uses → Option Uses
with_use k v seen = if has_use k seen then None else Some (seen ++ (k, v) ∷ [])

abbrev pub and_then : Option Uses → (Uses → Option Uses) → Option Uses
and_then None next = None
and_then (Some seen) next = next seen

-- ---- what a word looks like

pub data Form : Type 0 where
  -- `--`
  dashes : Form
  -- `--nodes`, or `--nodes=V`
  option : Key → Option Word → Form
  -- `-`, or what does not begin with a dash
  plain : Form
  -- any other word that begins with a dash
  other : Form

abbrev pub option_form : Option Key → Option Word → Form
option_form None value = other
option_form (Some k) value = option k value

-- what follows the two dashes, cut at its first `=` (61)
abbrev pub long_form : Word → Form
long_form [] = dashes
long_form (x ∷ xs) = option_form (key_of (before_first (λ y. y == 61) (x ∷ xs)))
    (if list_any (λ y. y == 61) (x ∷ xs) then Some (after_first (λ y. y == 61) (x ∷ xs)) else None)

abbrev pub dash_form : Word → Form
dash_form [] = plain
dash_form (x ∷ xs) = if x == 45 then long_form xs else other

abbrev pub form_of : Word → Form
form_of [] = plain
form_of (x ∷ xs) = if x == 45 then dash_form xs else plain

-- ---- what words give

-- after `--`
abbrev pub files_from : Uses → List Word → Option Uses
files_from seen [] = Some seen
files_from seen (w ∷ ws) = and_then (with_use file w seen) (λ s. files_from s ws)

abbrev pub word_form : Form → Word → Uses → Option Uses → (Option Key → Uses → Option Uses)
    → Option Uses
word_form dashes w seen files next = files
word_form (option k None) w seen files next = next (Some k) seen
word_form (option k (Some v)) w seen files next = and_then (with_use k v seen) (next None)
word_form plain w seen files next = and_then (with_use file w seen) (next None)
word_form other w seen files next = None

-- the words from here on, where `wants` is an option whose value the next word has to be, and `takes` tells which word
-- may be one
unfoldable pub uses_from : (Word → Bool) → List Word → Option Key → Uses → Option Uses
uses_from takes [] None seen = Some seen
uses_from takes [] (Some k) seen = None
uses_from takes (w ∷ ws) None seen =
    word_form (form_of w) w seen (files_from seen ws) (uses_from takes ws)
uses_from takes (w ∷ ws) (Some k) seen =
    and_then (if takes w then with_use k w seen else None) (uses_from takes ws None)

-- ---- the texts, and what they ask for

pub record Texts : Type 0 where
  pub absgap : Option Word
  pub relgap : Option Word
  pub nodes : Option Word
  pub file : Option Word

abbrev pub texts_at : Uses → Texts
texts_at seen =
    record { absgap = text_at absgap seen; relgap = text_at relgap seen; nodes = text_at nodes seen; file = text_at file seen }

abbrev pub texts_of : Given → Texts
texts_of g = record {
  absgap = option_map (λ s. s.now) g.absgap;
  relgap = option_map (λ s. s.now) g.relgap;
  nodes = option_map (λ s. s.now) g.nodes;
  file = option_map (λ s. s.now) g.file;
}

abbrev pub request_for : Option Gap → Option Gap → Option ℕ → Option Word → Option Request
request_for (Some abs) (Some rel) (Some limit) (Some name) =
    Some (record { gaps = record { abs = abs; rel = rel }; nodes = limit; file = name })
request_for (Some abs) (Some rel) (Some limit) None = None
request_for (Some abs) (Some rel) None name = None
request_for (Some abs) None limit name = None
request_for None rel limit name = None

-- what texts ask for, where each value is one and there is a file
unfoldable pub request_at : Texts → Option Request
request_at t = request_for (gap_or (Of 0 0) t.absgap) (gap_or Unlimited t.relgap) (nodes_or t.nodes) t.file

abbrev pub texts_by : (Word → Bool) → List Word → Option Texts
texts_by takes words = option_map texts_at (uses_from takes words None [])

-- what words ask for
abbrev pub request_of : List Word → Option Request
request_of words = option_and_then request_at (texts_by (λ w. not (has_dash w)) words)

-- the value of an option may be `-` too, as `clap` has it
abbrev pub is_plain : Form → Bool
is_plain plain = true
is_plain _ = false

abbrev pub wide_texts : List Word → Option Texts
wide_texts = texts_by (λ w. is_plain (form_of w))
