use Rattle.std.proofs.Common.{ap, sym, subst, codes, map, option_map, Some, [], ◌≡◌, ◌∙◌, inr, ⊎_elim}
use Rattle.clap.specs.Walk.{first_of, rows_of}
use Rattle.clap.specs.Matches.{found_of}
use Rattle.clap.specs.Values.{kind_of}
use Rattle.clap.specs.Simple.{App, app_of, is_simple, matches_of}
use Rattle.clap.specs.Kinds.{IsAmong}
use Rattle.clap.specs.Faults.{fault_of, is_simple_and_free}
use Rattle.clap.proofs.WalkLemmas.{first_value-rows}
use Rattle.sp_args.specs.InnerCommand.{solpool}
use Rattle.sp_args.proofs.OptionLemmas.{solpool_free, solpool_simple}
use Rattle.sp_args.proofs.ClapLemmas.{taken_read, refused_read}
use Rattle.sp_args.proofs.options.take_texts.Goals as goal

pub returns-in-Ok-try_get_matches_from : goal.returns-in-Ok-try_get_matches_from
returns-in-Ok-try_get_matches_from c =
    let whole_is : app_of c.in-Ok.whole ≡ solpool = c.in-Ok.ensures in
    let words = map (λ s. s.now) c.args.words.now in
    let m = c.in-Ok-try_get_matches_from.matches in
    let none : fault_of solpool words ≡ [] = sym (ap (λ (a : App). fault_of a words) whole_is) ∙ c.in-Ok-try_get_matches_from.ensures.kinds (ap is_simple_and_free whole_is ∙ solpool_free) in
    let rows_are : rows_of (found_of m) ≡ matches_of solpool words = (c.in-Ok-try_get_matches_from.ensures.matches (ap is_simple whole_is ∙ solpool_simple)).0 ∙ ap (λ (a : App). matches_of a words) whole_is in
    let absgap_read : first_of (codes "absgap") (rows_of (found_of m)) ≡ option_map (λ s. s.now) c.get_str.result = sym (first_value-rows (found_of m) (codes "absgap")) ∙ sym c.get_str.ensures in
    let relgap_read : first_of (codes "relgap") (rows_of (found_of m)) ≡ option_map (λ s. s.now) c.get_str-in-Ok-try_get_matches_from.result = sym (first_value-rows (found_of m) (codes "relgap")) ∙ sym c.get_str-in-Ok-try_get_matches_from.ensures in
    let nodes_read : first_of (codes "nodes") (rows_of (found_of m)) ≡ option_map (λ s. s.now) c.get_str-in-Ok-try_get_matches_from-2.result = sym (first_value-rows (found_of m) (codes "nodes")) ∙ sym c.get_str-in-Ok-try_get_matches_from-2.ensures in
    let file_read : first_of (codes "file") (rows_of (found_of m)) ≡ option_map (λ s. s.now) c.get_str-in-Ok-try_get_matches_from-3.result = sym (first_value-rows (found_of m) (codes "file")) ∙ sym c.get_str-in-Ok-try_get_matches_from-3.ensures in
    taken_read words (rows_of (found_of m)) c.requires none rows_are ∙ λ i. Some (record { absgap = absgap_read i; relgap = relgap_read i; nodes = nodes_read i; file = file_read i })

pub returns : goal.returns
returns c =
    let whole_is : app_of c.in-Ok.whole ≡ solpool = c.in-Ok.ensures in
    let words = map (λ s. s.now) c.args.words.now in
    let has = c.in-Err.ensures.kinds (ap is_simple_and_free whole_is ∙ solpool_free) in
    let among : IsAmong (kind_of c.in-Err.error) (fault_of solpool words) =
    subst (λ (a : App). IsAmong (kind_of c.in-Err.error) (fault_of a words)) whole_is
    (⊎_elim (λ m. absurd (c.in_default-kind.not-OutOfMemory (c.kind.ensures ∙ m))) (λ x. x) has) in
    inr (refused_read words (kind_of c.in-Err.error) c.requires among)
