-- The numbers of lines.
use Rattle.std.proofs.Common.{◌≡◌, ℕ, ◌+◌, ◌≤◌, List, length, take, drop, refl, ap, ◌∙◌, arith}
use Rattle.std.specs.Prelude.{count_by}
use Rattle.std.proofs.Math.Seq.{take-add}
use Rattle.std.proofs.lemmas.List.{length-take}
use Rattle.std.proofs.lemmas.List.Sums.{sum_by-append, count_by-le-length}
use Rattle.sp_lp_tokens.specs.Gaps.{is_feed, line_at}

-- the line feeds of a piece lead from the line before it to the line behind it
pub line_at-add : (source : List ℕ) (place n : ℕ) → line_at source (place + n) ≡ line_at source place + count_by is_feed (take n (drop place source))
unfolding line_at
line_at-add source place n =
    let parts : count_by is_feed (take (place + n) source) ≡ count_by is_feed (take place source) + count_by is_feed (take n (drop place source)) =
    ap (count_by is_feed) (take-add place n source) ∙ sum_by-append _ (take place source) (take n (drop place source)) in
    omega (arith, parts)

-- there are at most as many lines as bytes, and one
pub line_at-le : (source : List ℕ) (place : ℕ) → line_at source place ≤ length source + 1
unfolding line_at
line_at-le source place = omega (arith, count_by-le-length is_feed (take place source), length-take place source)

pub line_at-first : (source : List ℕ) → line_at source 0 ≡ 1
unfolding line_at
line_at-first source = refl
