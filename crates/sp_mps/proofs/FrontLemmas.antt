-- What one more line adds to what a front of the lines gives.
use Rattle.std.proofs.Common.{◌≡◌, List, [], ◌∷◌, ◌++◌, fold, refl, ap, ◌∙◌, sym, append_assoc}
use Rattle.std.specs.Prelude.{Option, Some, None, if◌then◌else◌}
use Rattle.std.proofs.lemmas.List.{append-nil}
use Rattle.std.proofs.lemmas.List.Sums.{fold-append}
use Rattle.sp_mps_words.specs.declared.heads.Head.{Head}
use Rattle.sp_mps_words.specs.Lines.{Line}
use Rattle.sp_mps_words.specs.Words.{Word}
use Rattle.sp_mps_sections.specs.Fronts.{each, first_of, section_behind, is_data_of, in_section}
use Rattle.sp_mps_sections.specs.Answers.{or_else}

-- what one more line gives
pub one_more : {X : Type 0} (f : List Line → Line → List X) (before ls : List Line) (l : Line) → each f before (ls ++ l ∷ []) ≡ each f before ls ++ f (before ++ ls) l
one_more f before [] l = append-nil (f before l) ∙ ap (λ b. f b l) (sym (append-nil before))
one_more f before (x ∷ xs) l =
    ap (λ r. f before x ++ r) (one_more f (before ++ x ∷ []) xs l)
    ∙ (sym (append_assoc (f before x) (each f (before ++ x ∷ []) xs) (f ((before ++ x ∷ []) ++ xs) l))
    ∙ ap (λ b. (f before x ++ each f (before ++ x ∷ []) xs) ++ f b l) (append_assoc before (x ∷ []) xs))

-- what one more line gives in a section
abbrev pub given : {X : Type 0} → Head → (List Line → List Word → List X) → List Line → Line → List X
given head f before l = if is_data_of head (section_behind before) l.kind then f before l.words else []

pub one_more_in : {X : Type 0} (head : Head) (f : List Line → List Word → List X) (before : List Line) (l : Line) → in_section head f (before ++ l ∷ []) ≡ in_section head f before ++ given head f before l
one_more_in head f before l = one_more (given head f) [] before l

pub first_of-append : {X : Type 0} (xs ys : List X) → first_of (xs ++ ys) ≡ or_else (first_of xs) (first_of ys)
first_of-append [] ys = refl
first_of-append (x ∷ xs) ys = refl

pub or_else-none : {X : Type 0} (o : Option X) → or_else o None ≡ o
or_else-none None = refl
or_else-none (Some x) = refl

pub first_more_in : {X : Type 0} (head : Head) (f : List Line → List Word → List X) (before : List Line) (l : Line) → first_of (in_section head f (before ++ l ∷ [])) ≡ or_else (first_of (in_section head f before)) (first_of (given head f before l))
first_more_in head f before l = ap first_of (one_more_in head f before l) ∙ first_of-append (in_section head f before) (given head f before l)

pub fold_more_in : {X Y : Type 0} (g : Y → X → Y) (y : Y) (head : Head) (f : List Line → List Word → List X) (before : List Line) (l : Line) → fold g y (in_section head f (before ++ l ∷ [])) ≡ fold g (fold g y (in_section head f before)) (given head f before l)
fold_more_in g y head f before l = ap (fold g y) (one_more_in head f before l) ∙ fold-append g y (in_section head f before) (given head f before l)
