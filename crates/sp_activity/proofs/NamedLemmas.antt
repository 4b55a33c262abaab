-- The first reason as the code names it: items that were read from a list, and spans that were taken over the box.
use Rattle.std.proofs.Common.{◌≡◌, ℕ, ◌<◌, List, get_or, ap, ◌∙◌, AllPairs, pos}
use Rattle.std.proofs.lemmas.List.{get_or_read, get_or_default}
use Rattle.sp_model.specs.declared.parts.Row.{Row}
use Rattle.sp_model.specs.declared.parts.Indicator.{Indicator}
use Rattle.sp_model.specs.declared.parts.Sos.{Sos}
use Rattle.sp_model.specs.declared.parts.ModelParts.{ModelParts}
use Rattle.sp_model.specs.Boxes.{Bounds}
use Rattle.sp_model.specs.Stated.{Core}
use Rattle.sp_sums.specs.declared.spans.Span.{Span}
use Rattle.sp_sums.specs.Extremes.{is_low, span_of}
use Rattle.sp_sums.specs.Ranges.{IsFilled}
use Rattle.sp_sums.specs.Rows.{IsFirstBroken, bare_row, row_at}
use Rattle.sp_activity.specs.declared.reasons.Reason.{Reason}
use Rattle.sp_activity.specs.declared.reasons.Reason.TheVariants.{Sos as SetClash, Semi}
use Rattle.sp_activity.specs.Order.{IsFirst}
use Rattle.sp_activity.specs.Reasons.{bare_indicator, bare_set, core_at, indicator_at, set_at}
use Rattle.sp_activity.specs.Stages.{IsFirstClash, IsFirstCore, IsFirstGate, IsFirstSet, IsOpenToIndicators, IsOpenToRows, IsOpenToSets, gate_reason, row_reason}
use Rattle.sp_activity.proofs.OrderLemmas.{core_first, gate_first, row_first, set_first}

pub row_named : (m : ModelParts) (b : Bounds) (rows : List Row) (k : ℕ) (row : Row) (span : Span) (reason : Reason) → rows ≡ m.rows → row ≡ get_or rows k row → span ≡ span_of b row → reason ≡ row_reason k (is_low row span) → IsFilled b → IsFirstBroken b rows k → IsFirst m b reason
row_named m b rows k row span reason s r t e f h =
    let first : IsFirstBroken b m.rows k = rw s at h in
    let same : row ≡ row_at m.rows k = get_or_read rows k row h.here.known r bare_row ∙ ap (λ (xs : List Row). row_at xs k) s in
    let over : span ≡ span_of b (row_at m.rows k) = t ∙ ap (span_of b) same in
    rw (e, over, same) (row_first m b k f first)

pub gate_named : (m : ModelParts) (b : Bounds) (is : List Indicator) (k : ℕ) (i : Indicator) (span : Span) (reason : Reason) → is ≡ m.indicators → i ≡ get_or is k i → span ≡ span_of b i.row → reason ≡ gate_reason k (is_low i.row span) → IsOpenToRows m b → IsFirstGate b is k → IsFirst m b reason
gate_named m b is k i span reason s r t e o h =
    let first : IsFirstGate b m.indicators k = rw s at h in
    let same : i ≡ indicator_at m.indicators k = get_or_read is k i h.known r bare_indicator ∙ ap (λ (xs : List Indicator). indicator_at xs k) s in
    let over : span ≡ span_of b (indicator_at m.indicators k).row = t ∙ ap (λ (x : Indicator). span_of b x.row) same in
    rw (e, over, same) (gate_first m b k o first)

pub set_named : (m : ModelParts) (b : Bounds) (sets : List Sos) (k : ℕ) (set : Sos) (p q : ℕ) → sets ≡ m.sos → set ≡ get_or sets k set → IsOpenToIndicators m b → IsFirstSet b sets k → IsFirstClash b set p q → IsFirst m b (SetClash k p q)
set_named m b sets k set p q s r o h c =
    let first : IsFirstSet b m.sos k = rw s at h in
    let same : set ≡ set_at m.sos k = get_or_read sets k set h.known r bare_set ∙ ap (λ (xs : List Sos). set_at xs k) s in
    let clash : IsFirstClash b (set_at m.sos k) p q = rw same at c in
    set_first m b k p q o first clash

pub core_named : (m : ModelParts) (b : Bounds) (cores : List Core) (n : ℕ) (d : Core) → cores ≡ m.semi → IsOpenToSets m b → AllPairs (λ (c : Core) (e : Core). c.0 < e.0) m.semi → IsFirstCore b cores n → IsFirst m b (Semi (get_or cores n d).0)
core_named m b cores n d s o r h =
    let first : IsFirstCore b m.semi n = rw s at h in
    let same : get_or cores n d ≡ core_at m.semi n = ap (λ (xs : List Core). get_or xs n d) s ∙ get_or_default m.semi n d (0, pos 0, pos 0) first.known in
    rw same (core_first m b n o r first)
