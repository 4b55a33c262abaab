-- Which LP files are accepted, and what they mean.
use Rattle.std.specs.Prelude.{◌≡◌, ℕ, ◌<◌, ◌≤◌, suc, List, length, take, ◌++◌}
use Rattle.sp_draft.specs.declared.drafts.Draft.{Draft}
use Rattle.sp_lp_tokens.specs.declared.token_types.Token.{Token}
use Rattle.sp_lp_tokens.specs.SeenTokens.{SeenToken, all_seen}
use Rattle.sp_lp_tokens.specs.Tokens.{AreTokens}
use Rattle.sp_lp_grammar.specs.Lexemes.{lexemes}
use Rattle.sp_lp_grammar.specs.Trees.{File}
use Rattle.sp_lp_grammar.specs.Grammar.{Toks, IsFile}
use Rattle.sp_lp_grammar.specs.Meaning.{objective_said, AreNew, meaning}

-- the lexemes are those of a file that means this draft
pub record Says (ts : Toks) (draft : Draft) : Type 0 where
  pub file : File
  pub is_file : IsFile ts file
  pub are_new : AreNew (objective_said file) file.entries
  pub means : meaning file ≡ draft

-- the tokens are those of a file that means this draft
abbrev pub Lp : List SeenToken → Draft → Type 0
Lp ts draft = Says (lexemes ts) draft

-- the bytes are those of a file that means this draft
pub record LpOf (bytes : List ℕ) (draft : Draft) : Type 0 where
  pub tokens : List Token
  pub are_tokens : AreTokens bytes tokens
  pub says : Lp (all_seen bytes tokens) draft

-- some accepted list of tokens, of whatever length, begins so
pub record Begins (front : List SeenToken) : Type 0 where
  pub more : List SeenToken
  pub draft : Draft
  pub reads : Lp (front ++ more) draft

-- the place of the fault: no accepted list begins with the tokens through it, but one does with those before it. Where the tokens
-- run out it is their number
pub record IsFaultPlace (ts : List SeenToken) (place : ℕ) : Type 0 where
  pub within : place ≤ length ts
  pub before : Begins (take place ts)
  pub through : place < length ts → Begins (take (suc place) ts) → ⊥
  pub none : (draft : Draft) → Lp ts draft → ⊥
