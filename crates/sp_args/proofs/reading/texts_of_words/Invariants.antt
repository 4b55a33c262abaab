use Rattle.std.proofs.Common.{◌≡◌, [], ◌∷◌, map, take}
use Rattle.std.specs.List.{All}
use Rattle.std.specs.Str.{IsUtf8}
use Rattle.sp_args.proofs.reading.texts_of_words.Given as goal

-- the texts of the words before this one, which each are UTF-8
abbrev pub invariant-loop-word : goal.invariant-loop-word
invariant-loop-word l = record { same : map (λ s. s.now) l.texts.items ≡ [] ∷ take l.word-index l.words; texts : All IsUtf8 (map (λ s. s.now) l.texts.items) }
