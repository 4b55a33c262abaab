-- How far the reader comes over the tokens of a file, and where it stops over a list of them.
use Rattle.std.specs.Prelude.{◌≡◌, ◌<◌, ℕ, suc, true, List, length, take, Option, Some, None}
use Rattle.sp_draft.specs.declared.drafts.Draft.{Draft}
use Rattle.sp_lp_tokens.specs.declared.token_types.Token.{Token}
use Rattle.sp_lp_tokens.specs.SeenTokens.{SeenToken, all_seen}
use Rattle.sp_lp_tokens.specs.Tokens.{AreTokens}
use Rattle.sp_lp_grammar.specs.InnerCursor.{Cursor, origin, walk, ended_at}
use Rattle.sp_lp.specs.declared.walking.Stopped.{Stopped}
use Rattle.sp_lp.specs.declared.walking.Stopped.TheVariants.{At, AtEnd, Memory}

-- the tokens before the place are read, and those through it aren't
pub record IsStop (ts : List SeenToken) (place : ℕ) : Type 0 where
  pub within : place < length ts
  pub cursor : Cursor
  pub before : walk true 0 origin (take place ts) ≡ Some cursor
  pub through : walk true 0 origin (take (suc place) ts) ≡ None

-- the draft where the file may end behind the cursor's tokens
unfoldable pub outcome_at : Cursor → Option Draft
outcome_at c = ended_at c

-- the tokens are read to their end, and the file may end there
pub record IsReading (ts : List SeenToken) (draft : Draft) : Type 0 where
  pub cursor : Cursor
  pub read : walk true 0 origin ts ≡ Some cursor
  pub outcome : outcome_at cursor ≡ Some draft

-- the tokens of the source are read to their end
pub record IsReadThrough (source : List ℕ) (cursor : Cursor) : Type 0 where
  pub tokens : List Token
  pub are_tokens : AreTokens source tokens
  pub read : walk true 0 origin (all_seen source tokens) ≡ Some cursor

-- the source's tokens are read to their end, and the file may end there with this draft
pub record IsReadingOf (source : List ℕ) (draft : Draft) : Type 0 where
  pub tokens : List Token
  pub are_tokens : AreTokens source tokens
  pub reading : IsReading (all_seen source tokens) draft

-- the tokens are read to their end, and the file can't end there
pub record IsUnfinished (ts : List SeenToken) : Type 0 where
  pub cursor : Cursor
  pub read : walk true 0 origin ts ≡ Some cursor
  pub outcome : outcome_at cursor ≡ None

abbrev pub IsStopped : List SeenToken → Stopped → Type 0
IsStopped ts (At place) = IsStop ts place
IsStopped ts AtEnd = IsUnfinished ts
IsStopped ts Memory = Unit {0}
