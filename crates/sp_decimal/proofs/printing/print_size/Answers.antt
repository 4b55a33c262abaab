use Rattle.std.proofs.Common.{◌≡◌, ◌-◌, length, replicate, ◌∙◌, arith}
use Rattle.std.proofs.lemmas.List.{take-replicate}
use Rattle.sp_decimal.proofs.PrintedTextLemmas.{long_text, short_text}
use Rattle.sp_decimal.proofs.printing.print_size.Goals as goal

pub joined-requires : goal.joined-requires
joined-requires c = omega (arith, c.format.ensures.fits, c.split_at.ensures.front_len, c.split_at.ensures.back_len)

pub joined-requires-else-digits-places : goal.joined-requires-else-digits-places
joined-requires-else-digits-places c = omega (arith, c.format.ensures.fits, c.split_at-else-digits-places.ensures.front_len)

pub returns-then-digits-places : goal.returns-then-digits-places
returns-then-digits-places c =
    long_text c.args.sign.now c.as_bytes-digits.result.now _ _ _ _ c.from-places.result c.args.n c.args.s (omega arith) (c.as_bytes-digits.ensures.value ∙ c.format.ensures.text)
    c.from-places.ensures c.if-digits-places.true c.split_at.ensures.front c.split_at.ensures.back c.trimmed.ensures.value c.joined.ensures

pub returns-else-digits-places : goal.returns-else-digits-places
returns-else-digits-places c =
    let zeros : c.split_at-else-digits-places.result.0.now ≡ replicate (c.from-places.result - length c.as_bytes-digits.result.now) 48 =
    c.split_at-else-digits-places.ensures.front ∙ take-replicate (c.from-places.result - length c.as_bytes-digits.result.now) 30 48 (omega arith) in
    short_text c.args.sign.now c.as_bytes-digits.result.now _ _ _ c.from-places.result c.args.n c.args.s (omega arith) (c.as_bytes-digits.ensures.value ∙ c.format.ensures.text)
    c.from-places.ensures c.if-digits-places.false zeros c.trimmed-else-digits-places.ensures.value c.joined-else-digits-places.ensures
