-- Each refusal's number.
use mathlib.Core.Path.{sym, ap}
use Rattle.std.specs.Prelude.{Err}
use Rattle.listing_read.specs.declared.read_listing.ReadError.{ReadError}
use Rattle.listing_read.specs.read_listing.Code.{load_refusal}
use Rattle.listing_read.proofs.read_listing.U32FromReadError.from.Goals as goal

pub returns-in-NotInOrder : goal.returns-in-NotInOrder
unfolding load_refusal
returns-in-NotInOrder c = ap (λ (e : ReadError). load_refusal (Err e)) (sym c.in-NotInOrder.is)

pub returns-in-NotListing : goal.returns-in-NotListing
unfolding load_refusal
returns-in-NotListing c = ap (λ (e : ReadError). load_refusal (Err e)) (sym c.in-NotListing.is)

pub returns-in-TooMany : goal.returns-in-TooMany
unfolding load_refusal
returns-in-TooMany c = ap (λ (e : ReadError). load_refusal (Err e)) (sym c.in-TooMany.is)
