-- What the words of a command line ask for.
use Rattle.std.specs.Prelude.{◌≡◌, true, List, Some}
use Rattle.std.specs.List.{All}
use Rattle.std.specs.Str.{IsUtf8}
use Rattle.sp_model.specs.declared.gaps.Gap.TheVariants.{Of, Unlimited}
use Rattle.sp_args.specs.declared.requests.Request.{Request}
use Rattle.sp_args.specs.Words.{Word, Uses, Gives, absgap, relgap, nodes, file, gap_or, is_once, nodes_or, text_at}

-- The words are texts that give each thing at most once, and a file. Without a value the absolute gap is 0, the relative
-- one unlimited, and the node limit the most.
pub record IsReading (words : List Word) (r : Request) : Type 0 where
  pub texts : All IsUtf8 words
  pub uses : Uses
  pub gives : Gives words uses
  pub once : is_once uses ≡ true
  pub abs : gap_or (Of 0 0) (text_at absgap uses) ≡ Some r.gaps.abs
  pub rel : gap_or Unlimited (text_at relgap uses) ≡ Some r.gaps.rel
  pub limit : nodes_or (text_at nodes uses) ≡ Some r.nodes
  pub named : text_at file uses ≡ Some r.file

-- the words ask for nothing
abbrev pub IsNoReading : List Word → Type 0
IsNoReading words = (r : Request) → IsReading words r → ⊥
