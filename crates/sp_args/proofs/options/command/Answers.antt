use Rattle.std.proofs.Common.{ap, ap₂, codes, true, Some, ◌≡◌, ◌∙◌}
use Rattle.std.proofs.lemmas.Result.{IfOk-weaker}
use Rattle.clap.specs.Walk.{Rule, rule_of}
use Rattle.clap.specs.Simple.{App, app_of, app_of_fields, new_app, new_rule, on_top, with_rule}
use Rattle.clap.specs.declared.builder.command.Command.{Command}
use Rattle.clap.specs.declared.builder.command.Command.TheOpen.{Command-F}
use Rattle.clap.specs.declared.builder.arg.Arg.{Arg}
use Rattle.sp_args.proofs.options.command.Goals as goal

abbrev bare : App
bare = on_top (λ s. record s { disable_help_flag = true; disable_version_flag = true }) (new_app (codes "solpool"))

abbrev rule_absgap : Rule
rule_absgap = record (new_rule (codes "absgap")) { long = Some (codes "absgap") }

abbrev to_absgap : App
to_absgap = with_rule bare rule_absgap

abbrev rule_relgap : Rule
rule_relgap = record (new_rule (codes "relgap")) { long = Some (codes "relgap") }

abbrev to_relgap : App
to_relgap = with_rule to_absgap rule_relgap

abbrev rule_nodes : Rule
rule_nodes = record (new_rule (codes "nodes")) { long = Some (codes "nodes") }

abbrev to_nodes : App
to_nodes = with_rule to_relgap rule_nodes

pub returns : goal.returns
returns c =
    let is_bare : app_of c.disable_version_flag.result ≡ bare =
    ap app_of_fields c.disable_version_flag.ensures
    ∙ ap (λ (f : Command-F Command). app_of_fields (record f { disable_version_flag = true })) c.disable_help_flag.ensures
    ∙ ap (on_top (λ s. record s { disable_help_flag = true; disable_version_flag = true })) c.new-4.ensures.app in
    let file_is : rule_of c.new-file.result ≡ new_rule (codes "file") = c.new-file.ensures.rule in
    let absgap_is : rule_of c.long-absgap.result ≡ rule_absgap = ap rule_of c.long-absgap.ensures ∙ ap (λ (r : Rule). record r { long = Some (codes "absgap") }) c.new.ensures.rule in
    let is_absgap : app_of c.in_ok-arg.field-0 ≡ to_absgap = c.in_ok-arg.ensures.shape (ap (λ (a : Arg). a.global) c.long-absgap.ensures ∙ c.new.ensures.optional.1) ∙ ap₂ with_rule is_bare absgap_is in
    let relgap_is : rule_of c.long-relgap.result ≡ rule_relgap = ap rule_of c.long-relgap.ensures ∙ ap (λ (r : Rule). record r { long = Some (codes "relgap") }) c.new-2.ensures.rule in
    let is_relgap : app_of c.in_ok-arg-2.field-0 ≡ to_relgap = c.in_ok-arg-2.ensures.shape (ap (λ (a : Arg). a.global) c.long-relgap.ensures ∙ c.new-2.ensures.optional.1) ∙ ap₂ with_rule is_absgap relgap_is in
    let nodes_is : rule_of c.long-nodes.result ≡ rule_nodes = ap rule_of c.long-nodes.ensures ∙ ap (λ (r : Rule). record r { long = Some (codes "nodes") }) c.new-3.ensures.rule in
    let is_nodes : app_of c.in_ok-arg-3.field-0 ≡ to_nodes = c.in_ok-arg-3.ensures.shape (ap (λ (a : Arg). a.global) c.long-nodes.ensures ∙ c.new-3.ensures.optional.1) ∙ ap₂ with_rule is_relgap nodes_is in
    IfOk-weaker c.arg-4.result _ _ (λ r h. h.shape c.new-file.ensures.optional.1 ∙ ap₂ with_rule is_nodes file_is) c.arg-4.ensures
