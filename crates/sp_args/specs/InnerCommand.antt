-- The command that `clap` is given.
use Rattle.std.specs.Prelude.{Some, true, codes}
use Rattle.clap.specs.Simple.{App, new_app, new_rule, on_top, with_rule}

abbrev pub solpool : App
solpool = with_rule (with_rule (with_rule (with_rule (on_top (λ s. record s { disable_help_flag = true; disable_version_flag = true }) (new_app (codes "solpool")))
    (record (new_rule (codes "absgap")) { long = Some (codes "absgap") }))
    (record (new_rule (codes "relgap")) { long = Some (codes "relgap") }))
    (record (new_rule (codes "nodes")) { long = Some (codes "nodes") }))
    (new_rule (codes "file"))
