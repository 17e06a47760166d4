use Rattle.std.proofs.Common.{◌∙◌, sym, ap, arith}
use lib.Seq.{length-take-le}
use Rattle.laws.specs.Listed.{same_list}
use Rattle.listing_spelling.proofs.spell.DecimalLaws.{length_decimal}
use Rattle.listing_spelling.proofs.spell.PutLaws.{put_first}
use Rattle.listing_spelling.proofs.unspell.NumberLaws.{pointwise_same}
use Rattle.listing_spelling.proofs.unspell.is_decimal.Goals as goal

pub put_decimal-end-requires : goal.put_decimal-end-requires
put_decimal-end-requires c = omega (arith, length_decimal c.args.n)

pub slice_bounds-room-end : goal.slice_bounds-room-end
slice_bounds-room-end c = omega (arith, length_decimal c.args.n, c.put_decimal-end.ensures.end, c.put_decimal-end.auto.out)

pub slice_bounds-eq-end : goal.slice_bounds-eq-end
slice_bounds-eq-end c = sym (length-take-le c.put_decimal-end.result _ (omega (arith, length_decimal c.args.n, c.put_decimal-end.ensures.end, c.put_decimal-end.auto.out)))

pub returns : goal.returns
returns c = c.eq.ensures ∙ (pointwise_same _ _ ∙ ap (λ x. same_list x c.args.s.now) (put_first c.put_decimal-end.ensures (omega (arith, length_decimal c.args.n))))
