-- The tests in their order, then the entries.
use mathlib.Core.Path.{sym, ◌∙◌}
use native.Mathlib.Omega.{arith}
use Rattle.listing_read.proofs.read_listing.ReadLaws.{text_good, text_bad, no_places, no_listing, too_many, was_read}
use Rattle.listing_read.proofs.read_listing.read.Goals as goal

pub returns-then-not-right_size : goal.returns-then-not-right_size
returns-then-not-right_size c =
    let whole = no_places c.args.text.now c.args.refs.now (sym c.right_size.ensures ∙ c.if-not-right_size.true) in
    record { number = whole.0; cache = whole.1 }

pub returns-in_default : goal.returns-in_default
returns-in_default c =
    let whole = no_listing c.args.text.now c.args.refs.now (sym c.right_size.ensures ∙ c.if-not-right_size.false) (text_bad c.args.text.now c.check_text.ensures c.in_default.is) in
    record { number = whole.0; cache = whole.1 }

pub returns-then-refs-count : goal.returns-then-refs-count
returns-then-refs-count c =
    let w = text_good c.args.text.now c.check_text.ensures c.in-Some.is in
    let whole = too_many c.args.text.now c.args.refs.now (sym c.right_size.ensures ∙ c.if-not-right_size.false) w.0 (omega (arith, w.1)) in
    record { number = whole.0; cache = whole.1 }

pub fill-requires : goal.fill-requires
fill-requires c =
    let w = text_good c.args.text.now c.check_text.ensures c.in-Some.is in
    (sym c.right_size.ensures ∙ c.if-not-right_size.false, (w.0, omega (arith, w.1)))

pub returns : goal.returns
returns c =
    let w = text_good c.args.text.now c.check_text.ensures c.in-Some.is in
    let whole = was_read c.args.text.now c.args.refs.now (sym c.right_size.ensures ∙ c.if-not-right_size.false) w.0 (omega (arith, w.1)) c.fill.ensures in
    record { number = whole.0; cache = whole.1 }
