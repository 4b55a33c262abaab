use Rattle.std.proofs.Common.{◌≡◌, [], arith, take, drop, sym, ap, ◌∙◌}
use Rattle.std.proofs.lemmas.List.{drop-drop}
use Rattle.sp_base.proofs.StreamLemmas.{taken}
use Rattle.sp_base.proofs.memory_sources.SureSourceSource.read.Goals as goal

pub returns-then-count-eq0-clause-bytes : goal.returns-then-count-eq0-clause-bytes
returns-then-count-eq0-clause-bytes c =
    let left_is : drop c.self.inside.at c.self.inside.bytes.items ≡ c.args.self.now.bytes = ap (λ s. s.bytes) c.self.view_is in
    let none : c.split_at.result.1.now ≡ [] = c.give-count.ensures.none (omega arith) in
    (cc, cc)

pub returns-clause-bytes : goal.returns-clause-bytes
returns-clause-bytes c =
    let left_is : drop c.self.inside.at c.self.inside.bytes.items ≡ c.args.self.now.bytes = ap (λ s. s.bytes) c.self.view_is in
    let back_is : c.split_at.result.1.now ≡ c.args.self.now.bytes = cc in (
      omega arith,
      omega (arith, c.give-count.ensures.count),
      taken c.self.inside.bytes.items c.args.self.now.bytes _ c.self.inside.at c.give-count.result (sym left_is)
          (c.give-count.ensures.copied ∙ ap (take c.give-count.result) back_is),
    )

pub returns-clause-left : goal.returns-clause-left
returns-clause-left c =
    let left_is : drop c.self.inside.at c.self.inside.bytes.items ≡ c.args.self.now.bytes = ap (λ s. s.bytes) c.self.view_is in
    sym (drop-drop c.give-count.result c.self.inside.at c.self.inside.bytes.items) ∙ ap (drop c.give-count.result) left_is
