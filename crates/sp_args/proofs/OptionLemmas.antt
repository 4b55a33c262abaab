-- What the built command's arguments are, by the key that each serves.
use Rattle.std.proofs.Common.{◌≡◌, ◌∙◌, ◌||◌, ℕ, Bool, cond, codes, true, false, zero, suc, refl, sym, ap, ap₂, List, [], ◌∷◌, ◌++◌, map, Option, Some, None, true≢false, append-nil}
use Rattle.std.specs.Prelude.{option_and_then, option_map, slice_get, find, nat_lt, unwrap_or}
use Rattle.std.specs.List.{AllByRecursion, fold}
use Rattle.std.specs.Str.{bytes_eq}
use Rattle.clap.specs.Walk.{Held, default_rows, reading_by, is_empty, Row, Rule, Text, arg_by_id, arg_by_index, arg_by_long, arg_by_short, at_row, finished, first_of, has_row, is_multiple, more_values, most_values, next_position, pending_count, settled, takes_several, takes_values, used, with_default, without}
use Rattle.clap.specs.Simple.{Shape, built, is_simple, new_rule}
use Rattle.clap.specs.Kinds.{Kinds, or_else}
use Rattle.clap.specs.Faults.{check_fault, stray_fault, default_fault, defaults_fault, given_default_fault, is_simple_and_free, repeat_fault, use_fault}
use Rattle.clap.specs.declared.builder.value_parser.Reading.TheVariants as reading
use Rattle.clap.specs.declared.parser.matches.ValueSource.TheVariants.{CommandLine}
use Rattle.clap.specs.declared.error.kind.ErrorKind.TheVariants as kind
use Rattle.sp_args.specs.InnerCommand.{solpool}
use Rattle.sp_args.specs.Words.{Key, absgap, relgap, nodes, file, Uses, has_use, same_key, key_of, text_at}

pub or_false : (b : Bool) → (b || false) ≡ b
or_false true = refl
or_false false = refl

pub or_true : (b : Bool) → (b || true) ≡ true
or_true true = refl
or_true false = refl

pub or_assoc : (a b c : Bool) → (a || (b || c)) ≡ ((a || b) || c)
or_assoc true b c = refl
or_assoc false b c = refl

-- ---- the command

pub shape : Shape
shape = (built solpool).top

abbrev pub table : List Rule
table = shape.rules

abbrev pub again : Bool
again = shape.args_override_self

pub built_is : built solpool ≡ record { top = shape; subs = [] }
unfolding shape
built_is = refl

pub solpool_free : is_simple_and_free solpool ≡ true
solpool_free = refl

pub solpool_simple : is_simple solpool ≡ true
solpool_simple = refl

abbrev pub id_of : Key → Text
id_of absgap = codes "absgap"
id_of relgap = codes "relgap"
id_of nodes = codes "nodes"
id_of file = codes "file"

at : ℕ → List Rule → Rule
at zero [] = new_rule []
at (suc n) [] = new_rule []
at zero (r ∷ rs) = r
at (suc n) (r ∷ rs) = at n rs

pub rule_for : Key → Rule
rule_for absgap = at 0 table
rule_for relgap = at 1 table
rule_for nodes = at 2 table
rule_for file = at 3 table

-- ---- the look-ups

pub long_is : (name : Text) → arg_by_long table name ≡ option_map rule_for (key_of name)
unfolding shape rule_for at
long_is name = go (bytes_eq (codes "absgap") name) (bytes_eq (codes "relgap") name) (bytes_eq (codes "nodes") name) refl refl refl
  where
    go : (a r n : Bool) → bytes_eq (codes "absgap") name ≡ a → bytes_eq (codes "relgap") name ≡ r → bytes_eq (codes "nodes") name ≡ n
        → arg_by_long table name ≡ option_map rule_for (key_of name)
    go true r n ea er en = rw ea refl
    go false true n ea er en = rw (ea, er) refl
    go false false true ea er en = rw (ea, er, en) refl
    go false false false ea er en = rw (ea, er, en) refl

pub no_short : (x : ℕ) → arg_by_short table x ≡ None
unfolding shape
no_short x = refl

pub first_is : arg_by_index table 1 ≡ Some (rule_for file)
unfolding shape rule_for at
first_is = refl

pub second_is : arg_by_index table 2 ≡ None
unfolding shape
second_is = refl

pub id_is : (k : Key) → arg_by_id table (id_of k) ≡ Some (rule_for k)
unfolding shape rule_for at
id_is absgap = refl
id_is relgap = refl
id_is nodes = refl
id_is file = refl

-- ---- one use

abbrev pub row : Key × Text → Row
row u = record { id = id_of u.0; values = u.1 ∷ []; count = None; source = Some CommandLine; reading = reading.AsWritten }

abbrev pub rows : Uses → List Row
rows = map row

pub rule_id : (k : Key) → (rule_for k).id ≡ id_of k
unfolding shape rule_for at
rule_id absgap = refl
rule_id relgap = refl
rule_id nodes = refl
rule_id file = refl

pub rule_takes : (k : Key) → takes_values (rule_for k) ≡ true
unfolding shape rule_for at
rule_takes absgap = refl
rule_takes relgap = refl
rule_takes nodes = refl
rule_takes file = refl

pub rule_one : (k : Key) → takes_several (rule_for k) ≡ false
unfolding shape rule_for at
rule_one absgap = refl
rule_one relgap = refl
rule_one nodes = refl
rule_one file = refl

pub rule_single : (k : Key) → is_multiple (rule_for k) ≡ false
unfolding shape rule_for at
rule_single absgap = refl
rule_single relgap = refl
rule_single nodes = refl
rule_single file = refl

pub rule_next : (k : Key) → next_position (rule_for k) 1 ≡ 2
unfolding shape rule_for at
rule_next absgap = refl
rule_next relgap = refl
rule_next nodes = refl
rule_next file = refl

pub rule_trails : (k : Key) → (rule_for k).trailing_var_arg ≡ false
unfolding shape rule_for at
rule_trails absgap = refl
rule_trails relgap = refl
rule_trails nodes = refl
rule_trails file = refl

-- one value is all that an option waits for
pub rule_full : (k : Key) (w : Text) → nat_lt (pending_count (rule_for k) (Some (id_of k, w ∷ []))) (most_values (rule_for k)) ≡ false
unfolding shape rule_for at
rule_full absgap w = refl
rule_full relgap w = refl
rule_full nodes w = refl
rule_full file w = refl

pub stray_is : stray_fault shape ≡ kind.UnknownArgument ∷ []
unfolding shape
stray_is = refl

-- an option is no FILE
pub option_key : (name : Text) (k : Key) → key_of name ≡ Some k → same_key k file ≡ false
option_key name k e = go (bytes_eq (codes "absgap") name) (bytes_eq (codes "relgap") name) (bytes_eq (codes "nodes") name) e
  where
    no_file : (j : Key) → Some j ≡ Some k → same_key j file ≡ false → same_key k file ≡ false
    no_file j e f = ap (λ (o : Option Key). same_key (unwrap_or o j) file) (sym e) ∙ f

    go : (a r n : Bool) → cond a (Some absgap) (cond r (Some relgap) (cond n (Some nodes) None)) ≡ Some k → same_key k file ≡ false
    go true r n e = no_file absgap e refl
    go false true n e = no_file relgap e refl
    go false false true e = no_file nodes e refl
    go false false false e = cc

-- a use with no value fails
pub none_fault : (k : Key) (before : List Row) → use_fault again (rule_for k) [] before ≡ kind.InvalidValue ∷ []
unfolding shape rule_for at
none_fault absgap before = refl
none_fault relgap before = refl
none_fault nodes before = refl
none_fault file before = refl

or_else-nil : (ks : Kinds) → or_else ks [] ≡ ks
or_else-nil [] = refl
or_else-nil (k ∷ ks) = refl

-- a use with one value fails where there was one before
pub one_fault : (k : Key) (v : Text) (before : List Row) → use_fault again (rule_for k) (v ∷ []) before ≡ repeat_fault false (id_of k) before
unfolding shape rule_for at
one_fault absgap v before = or_else-nil _
one_fault relgap v before = or_else-nil _
one_fault nodes v before = or_else-nil _
one_fault file v before = or_else-nil _

at_missing : (id : Text) (change : Row → List Row) (missing before : List Row) → has_row id before ≡ false → at_row id change missing before ≡ before ++ missing
at_missing id change missing [] none = refl
at_missing id change missing (r ∷ rs) none = go (bytes_eq r.id id) none (at_missing id change missing rs)
  where
    go : (b : Bool) → (b || has_row id rs) ≡ false → (has_row id rs ≡ false → at_row id change missing rs ≡ rs ++ missing)
        → cond b (change r ++ rs) (r ∷ at_row id change missing rs) ≡ r ∷ (rs ++ missing)
    go true e h = absurd (true≢false e)
    go false e h = ap (λ (xs : List Row). r ∷ xs) (h e)

pub missing_kept : (id : Text) (before : List Row) → has_row id before ≡ false → without id before ≡ before
missing_kept id before none = at_missing id (λ _. []) [] before none ∙ append-nil before

used_is : (k : Key) (v : Text) (before : List Row) → has_row (id_of k) before ≡ false → used (rule_for k) (v ∷ []) before ≡ before ++ row (k, v) ∷ []
unfolding shape rule_for at
used_is absgap v before none = rw (missing_kept (codes "absgap") before none) (at_missing (codes "absgap") (more_values CommandLine (v ∷ [])) (row (absgap, v) ∷ []) before none)
used_is relgap v before none = rw (missing_kept (codes "relgap") before none) (at_missing (codes "relgap") (more_values CommandLine (v ∷ [])) (row (relgap, v) ∷ []) before none)
used_is nodes v before none = rw (missing_kept (codes "nodes") before none) (at_missing (codes "nodes") (more_values CommandLine (v ∷ [])) (row (nodes, v) ∷ []) before none)
used_is file v before none = rw (missing_kept (codes "file") before none) (at_missing (codes "file") (more_values CommandLine (v ∷ [])) (row (file, v) ∷ []) before none)

same_id : (j k : Key) → bytes_eq (id_of j) (id_of k) ≡ same_key j k
same_id absgap absgap = refl
same_id absgap relgap = refl
same_id absgap nodes = refl
same_id absgap file = refl
same_id relgap absgap = refl
same_id relgap relgap = refl
same_id relgap nodes = refl
same_id relgap file = refl
same_id nodes absgap = refl
same_id nodes relgap = refl
same_id nodes nodes = refl
same_id nodes file = refl
same_id file absgap = refl
same_id file relgap = refl
same_id file nodes = refl
same_id file file = refl

pub has_row_is : (k : Key) (seen : Uses) → has_row (id_of k) (rows seen) ≡ has_use k seen
has_row_is k [] = refl
has_row_is k (u ∷ us) = ap₂ (λ (a b : Bool). a || b) (same_id u.0 k) (has_row_is k us)

pub used_row : (k : Key) (v : Text) (seen : Uses) → has_use k seen ≡ false → used (rule_for k) (v ∷ []) (rows seen) ≡ rows (seen ++ (k, v) ∷ [])
used_row k v seen none = used_is k v (rows seen) (has_row_is k seen ∙ none) ∙ sym (more seen)
  where
    more : (us : Uses) → rows (us ++ (k, v) ∷ []) ≡ rows us ++ row (k, v) ∷ []
    more [] = refl
    more (u ∷ us) = ap (λ (rs : List Row). row u ∷ rs) (more us)

-- ---- after the walk

keeps_rows : (has : Bool) (before : List Row) → cond has before before ≡ before
keeps_rows true before = refl
keeps_rows false before = refl

plain_table : AllByRecursion (λ (a : Rule). a.defaults ≡ []) table
unfolding shape
plain_table = (refl, (refl, (refl, (refl, tt))))

default_kept : (before : List Row) (a : Rule) → a.defaults ≡ [] → with_default before a ≡ before
default_kept before a e = ap (λ (ds : List Text). cond (has_row a.id before) before (default_rows a.id (reading_by a) ds before)) e ∙ keeps_rows (has_row a.id before) before

all_kept : (rs : List Rule) (before : List Row) → AllByRecursion (λ a. a.defaults ≡ []) rs → fold with_default before rs ≡ before
all_kept [] before h = refl
all_kept (a ∷ rs) before h = all_kept rs (with_default before a) h.1 ∙ default_kept before a h.0

pub finished_is : (h : Held) → finished table h ≡ (settled table h).rows
finished_is h = all_kept table (settled table h).rows plain_table

skips : (b : Bool) (ks : Kinds) → cond (b || true) [] ks ≡ []
skips true ks = refl
skips false ks = refl

default_none : (before : List Row) (a : Rule) → a.defaults ≡ [] → default_fault before a ≡ []
default_none before a e = ap (λ (ds : List Text). cond (has_row a.id before || is_empty ds) [] (given_default_fault a ds)) e ∙ skips (has_row a.id before) (given_default_fault a [])

pub no_defaults : (before : List Row) → defaults_fault before table ≡ []
unfolding shape rule_for at defaults_fault
no_defaults before = ap₂ or_else (default_none (before) (rule_for absgap) refl)
    (ap₂ or_else (default_none (with_default (before) (rule_for absgap)) (rule_for relgap) refl)
    (ap₂ or_else (default_none (with_default (with_default (before) (rule_for absgap)) (rule_for relgap)) (rule_for nodes) refl)
    (ap₂ or_else (default_none (with_default (with_default (with_default (before) (rule_for absgap)) (rule_for relgap)) (rule_for nodes)) (rule_for file) refl)
    refl)))

pub no_check : (before : List Row) → check_fault shape before false ≡ []
unfolding shape
no_check before = refl

-- ---- what the getters read

pub first_of_is : (k : Key) (seen : Uses) → first_of (id_of k) (rows seen) ≡ text_at k seen
first_of_is k [] = refl
first_of_is k (u ∷ us) = ap (λ (b : Bool). option_and_then (λ (r : Row). slice_get r.values 0) (cond b (Some (row u)) (find (λ r. bytes_eq r.id (id_of k)) (rows us)))) (same_id u.0 k) ∙ go (same_key u.0 k) (first_of_is k us)
  where
    go : (b : Bool) → first_of (id_of k) (rows us) ≡ text_at k us
        → option_and_then (λ (r : Row). slice_get r.values 0) (cond b (Some (row u)) (find (λ r. bytes_eq r.id (id_of k)) (rows us)))
        ≡ option_map (λ (w : Key × Text). w.1) (cond b (Some u) (find (λ w. same_key w.0 k) us))
    go true h = refl
    go false h = h
