-- Sections, and the words that begin them.
use Rattle.std.specs.Prelude.{ℕ, Bool, ◌==◌, if◌then◌else◌, List, Option, Some, None, codes}
use Rattle.sp_words.specs.Spellings.{same_word}
use Rattle.sp_model.specs.declared.parts.SosKind.{SosKind}
use Rattle.sp_model.specs.declared.parts.SosKind.TheVariants.{One, Two}
use Rattle.sp_lp_words.specs.declared.sections.Section.{Section}
use Rattle.sp_lp_words.specs.declared.sections.Section.TheVariants.{Minimize, Maximize, Rows, Bounds, General, Binary, Semi, Sets, End, Cuts}
use Rattle.sp_lp_words.specs.declared.sections.Pair.{Pair}
use Rattle.sp_lp_words.specs.declared.sections.Pair.TheVariants.{SubjectTo, SuchThat, LazyConstraints, UserCuts}
use Rattle.sp_lp_words.specs.declared.sections.Part.{Part}
use Rattle.sp_lp_words.specs.declared.sections.Part.TheVariants as parts

-- the section that a word of two parts begins
abbrev pub pair_section : Pair → Section
pair_section SubjectTo = Rows
pair_section SuchThat = Rows
pair_section LazyConstraints = Rows
pair_section UserCuts = Cuts

-- the parts of section words by their codes
abbrev pub part_for : ℕ → Option Part
part_for code =
    if code == 1 then Some (parts.Whole Rows) else (
    if code == 2 then Some (parts.Whole Bounds) else (
    if code == 3 then Some (parts.Whole General) else (
    if code == 4 then Some (parts.Whole Binary) else (
    if code == 5 then Some (parts.Whole Sets) else (
    if code == 6 then Some (parts.Whole End) else (
    if code == 7 then Some (parts.Whole Semi) else (
    if code == 8 then Some parts.Semi else (
    if code == 9 then Some parts.Continuous else (
    if code == 10 then Some (parts.Opens SubjectTo) else (
    if code == 11 then Some (parts.Closes SubjectTo) else (
    if code == 12 then Some (parts.Opens SuchThat) else (
    if code == 13 then Some (parts.Closes SuchThat) else (
    if code == 14 then Some (parts.Opens LazyConstraints) else (
    if code == 15 then Some (parts.Closes LazyConstraints) else (
    if code == 16 then Some (parts.Opens UserCuts) else (
    if code == 17 then Some (parts.Closes UserCuts) else None))))))))))))))))

-- the directions of the objective by their codes
abbrev pub direction_for : ℕ → Option Part
direction_for code =
    if code == 1 then Some (parts.Whole Minimize) else (
    if code == 2 then Some (parts.Whole Maximize) else None)

-- the word free, in any case
abbrev pub is_free : List ℕ → Bool
is_free word = same_word word (codes "free")

-- the kind of set that a word is, in any case
abbrev pub set_kind_of : List ℕ → Option SosKind
set_kind_of word = if same_word word (codes "s1") then Some One else (if same_word word (codes "s2") then Some Two else None)
