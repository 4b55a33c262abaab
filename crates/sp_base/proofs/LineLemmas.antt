-- The first line of a text, and the lines behind it.
use Rattle.std.proofs.Common.{◌≡◌, ◌≢◌, ℕ, ◌+◌, ◌<◌, ◌≤◌, false, List, [], ◌∷◌, refl, ap, ◌∙◌, length, take, drop, arith}
use Rattle.std.specs.List.{All, slice_split, position_or_len, before_first, after_first}
use Rattle.std.specs.Str.Lines.{lines_of_parts, strip_carriage_return}
use Rattle.std.proofs.lemmas.List.Splits.{slice_split_none, slice_split_first, length-slice_split}
use Rattle.std.proofs.lemmas.List.Sums.{fails_before_first}
use Rattle.sp_base.specs.Lines.{is_feed, lines}

behind : (part : List ℕ) (parts : List (List ℕ)) (n : ℕ) → length parts ≡ n + 1 → lines_of_parts (part ∷ parts) ≡ strip_carriage_return part ∷ lines_of_parts parts
behind part [] n e = absurd (omega (arith, e))
behind part (next ∷ parts) n e = refl

alone : (text : List ℕ) → text ≢ [] → lines_of_parts (text ∷ []) ≡ text ∷ []
alone [] ne = absurd (ne refl)
alone (byte ∷ text) ne = grind arith

-- a line feed ends the first line
pub feed_ends : (text : List ℕ) → position_or_len is_feed text < length text → lines text ≡ strip_carriage_return (take (position_or_len is_feed text) text) ∷ lines (drop (position_or_len is_feed text + 1) text)
feed_ends text h =
    ap lines_of_parts (slice_split_first is_feed text 0 h)
    ∙ behind (before_first is_feed text) (slice_split is_feed (after_first is_feed text)) _ (length-slice_split is_feed (after_first is_feed text))

-- the text has no line feed
pub text_ends : (text : List ℕ) → text ≢ [] → length text ≤ position_or_len is_feed text → lines text ≡ text ∷ []
text_ends text ne h =
    let none : All (λ b. is_feed b ≡ false) text = λ k d lt. fails_before_first is_feed text k d (omega (arith, lt, h)) in
    ap lines_of_parts (slice_split_none is_feed text none) ∙ alone text ne
