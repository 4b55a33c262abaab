-- The last colon of a word.
use Rattle.std.proofs.Common.{◌≡◌, ℕ, zero, suc, ◌+◌, ◌<◌, true, false, eqb, List, [], ◌∷◌, length, get_or, take, drop, Some, None, ap, ◌∙◌, arith}
use Rattle.std.proofs.lemmas.Bool.{cond-true, cond-false}
use Rattle.std.proofs.lemmas.List.{drop_more}
use Rattle.sp_command_words.specs.Keywords.{Word}
use Rattle.sp_command.specs.Filters.{cut_last, longer, is_colon}

pub no_cut_here : (text : List ℕ) (i : ℕ) → i < length text → eqb (get_or text i 0) 58 ≡ false → cut_last (drop (i + 1) text) ≡ None → cut_last (drop i text) ≡ None
no_cut_here text i lt other none =
    ap cut_last (drop_more text i 0 lt) ∙ ap (longer (get_or text i 0) (drop (i + 1) text)) none
    ∙ cond-false (is_colon (get_or text i 0)) (Some (let p : Word × Word = ([], drop (i + 1) text) in p)) None other

cut_from : (text : List ℕ) (i : ℕ) (rest : List ℕ) → i < length text → cut_last (drop i text) ≡ Some ([], rest) → cut_last text ≡ Some (take i text, rest)
cut_from [] i rest lt h = absurd (omega arith)
cut_from (b ∷ bs) zero rest lt h = h
cut_from (b ∷ bs) (suc i) rest lt h = ap (longer b bs) (cut_from bs i rest (omega arith) h)

pub cut_here : (text : List ℕ) (i : ℕ) → i < length text → eqb (get_or text i 0) 58 ≡ true → cut_last (drop (i + 1) text) ≡ None → cut_last text ≡ Some (take i text, drop (i + 1) text)
cut_here text i lt colon none =
    cut_from text i (drop (i + 1) text) lt
    (ap cut_last (drop_more text i 0 lt) ∙ ap (longer (get_or text i 0) (drop (i + 1) text)) none ∙ cond-true (is_colon (get_or text i 0)) (Some (let p : Word × Word = ([], drop (i + 1) text) in p)) None colon)
