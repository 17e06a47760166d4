-- The order is tested, then the length, and then the text is written.
use mathlib.Core.Path.{sym, ◌∙◌}
use native.Mathlib.Omega.{arith}
use Rattle.listing_write.proofs.ListLaws.{no_order, no_room, was_listed, few_places, numbered}
use Rattle.listing_write.proofs.list.Goals as goal

pub returns-then-not-referrals_in_order : goal.returns-then-not-referrals_in_order
returns-then-not-referrals_in_order c =
    let whole = numbered c.args.referrals.now c.args.out.now (no_order c.args.referrals.now _ (sym c.referrals_in_order.ensures ∙ c.if-not-referrals_in_order.true)) in
    record { number = whole.0; answer = whole.1.0; buffer = whole.1.1 }

pub listing_units-requires : goal.listing_units-requires
listing_units-requires c = few_places c.args.referrals.now (sym c.referrals_in_order.ensures ∙ c.if-not-referrals_in_order.false)

pub returns-then-out-listing_units : goal.returns-then-out-listing_units
returns-then-out-listing_units c =
    let whole = numbered c.args.referrals.now c.args.out.now (no_room c.args.referrals.now _ (sym c.referrals_in_order.ensures ∙ c.if-not-referrals_in_order.false) c.listing_units.ensures (omega arith)) in
    record { number = whole.0; answer = whole.1.0; buffer = whole.1.1 }

pub put_listing-requires : goal.put_listing-requires
put_listing-requires c = omega (arith, c.listing_units.ensures)

pub returns : goal.returns
returns c =
    let whole = numbered c.args.referrals.now c.args.out.now (was_listed c.args.referrals.now c.args.out.now (sym c.referrals_in_order.ensures ∙ c.if-not-referrals_in_order.false) c.listing_units.ensures (omega arith) c.put_listing.ensures) in
    record { number = whole.0; answer = whole.1.0; buffer = whole.1.1 }
