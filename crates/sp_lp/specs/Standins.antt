-- What else could stand at a place of a file: tokens in place of those from there on.
use Rattle.std.specs.Prelude.{ℕ, ◌-◌, List, [], ◌∷◌, ◌++◌, length, take, slice_index_or, codes, pos}
use Rattle.std.proofs.Math.ListN.{replicate}
use Rattle.sp_decimal.specs.declared.numerals.Numeral.TheVariants.{Exact}
use Rattle.sp_draft.specs.Names.{Name}
use Rattle.sp_lp_tokens.specs.declared.symbols.Symbol.TheVariants.{Plus, Colon}
use Rattle.sp_lp_tokens.specs.declared.token_types.TokenKind.TheVariants as kinds
use Rattle.sp_lp_tokens.specs.SeenTokens.{SeenToken}
use Rattle.sp_lp_grammar.specs.Reads.{Begins}

-- what stands for a token of a file without any: line 1
abbrev pub no_token : SeenToken
no_token = record { kind = kinds.Name; line = 1; text = [] }

-- the line of the token at the place; behind the last one it is that one's, and 1 without tokens
abbrev pub line_of : List SeenToken → ℕ → ℕ
line_of ts place = (slice_index_or ts place (slice_index_or ts (length ts - 1) no_token)).line

-- a name that no file has, since it is longer than any
unfoldable pub spare_name : Name
spare_name = replicate 256 120

-- such a name; the kind of a set; the number 1; a plus; a colon; each in this line
abbrev pub a_name : ℕ → SeenToken
a_name line = record { kind = kinds.Name; line = line; text = spare_name }

abbrev pub a_set_kind : ℕ → SeenToken
a_set_kind line = record { kind = kinds.Name; line = line; text = codes "s1" }

abbrev pub a_number : ℕ → SeenToken
a_number line = record { kind = kinds.Number (Exact (record { p = pos 1; s = 0 })); line = line; text = [] }

abbrev pub a_plus : ℕ → SeenToken
a_plus line = record { kind = kinds.Symbol Plus; line = line; text = [] }

abbrev pub a_colon : ℕ → SeenToken
a_colon line = record { kind = kinds.Symbol Colon; line = line; text = [] }

-- some accepted file begins with the tokens before the place, and with these behind them
abbrev pub CanStand : List SeenToken → ℕ → List SeenToken → Type 0
CanStand ts place others = Begins (take place ts ++ others)

-- at the place can stand: a coefficient; a constant, behind which a sign may follow; a weight, behind which the next member may
-- follow
abbrev pub CanBeCoefficient : List SeenToken → ℕ → Type 0
CanBeCoefficient ts place = CanStand ts place (a_number (line_of ts place) ∷ a_name (line_of ts place) ∷ [])

abbrev pub CanBeConstant : List SeenToken → ℕ → Type 0
CanBeConstant ts place = CanStand ts place (a_number (line_of ts place) ∷ a_plus (line_of ts place) ∷ [])

abbrev pub CanBeWeight : List SeenToken → ℕ → Type 0
CanBeWeight ts place = CanStand ts place (a_number (line_of ts place) ∷ a_name (line_of ts place) ∷ a_colon (line_of ts place) ∷ [])

-- at the place can stand a further name and its colon; or these and the kind of a set
abbrev pub CanBeLabel : List SeenToken → ℕ → Type 0
CanBeLabel ts place = CanStand ts place (a_name (line_of ts place) ∷ a_colon (line_of ts place) ∷ [])

abbrev pub CanBeSet : List SeenToken → ℕ → Type 0
CanBeSet ts place = CanStand ts place (a_name (line_of ts place) ∷ a_colon (line_of ts place) ∷ a_set_kind (line_of ts place) ∷ [])
