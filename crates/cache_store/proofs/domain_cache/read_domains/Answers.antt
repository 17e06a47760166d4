-- The tests in their order, then the reply.
use mathlib.Core.Path.{◌≡◌, sym, ◌∙◌}
use mathlib.Core.Bool.{true}
use native.Mathlib.Omega.{arith}
use Rattle.cache.specs.order.Memory.{right_size}
use Rattle.cache_store.specs.domain_cache.Domains.{good_size}
use Rattle.cache_store.proofs.domain_cache.ReadLaws.{size_small, size_large, size_fine, not_in_order, bad_size, unreadable, well_formed, was_read}
use Rattle.cache_store.proofs.domain_cache.read_domains.Goals as goal

pub returns-then-not-right_size : goal.returns-then-not-right_size
returns-then-not-right_size c = record { answer = (not_in_order c.args.size c.args.reply.now c.args.cache.now c.right_size.ensures c.if-not-right_size.true).0; cache = (not_in_order c.args.size c.args.reply.now c.args.cache.now c.right_size.ensures c.if-not-right_size.true).1 }

pub returns-then-size-lt-LEAST_SIZE : goal.returns-then-size-lt-LEAST_SIZE
returns-then-size-lt-LEAST_SIZE c = record { answer = (bad_size c.args.size c.args.reply.now c.args.cache.now (sym c.right_size.ensures ∙ c.if-not-right_size.false) (size_small c.args.size c.if-size-lt-LEAST_SIZE.true)).0; cache = (bad_size c.args.size c.args.reply.now c.args.cache.now (sym c.right_size.ensures ∙ c.if-not-right_size.false) (size_small c.args.size c.if-size-lt-LEAST_SIZE.true)).1 }

pub returns-then-size-gt-MOST_SIZE : goal.returns-then-size-gt-MOST_SIZE
returns-then-size-gt-MOST_SIZE c = record { answer = (bad_size c.args.size c.args.reply.now c.args.cache.now (sym c.right_size.ensures ∙ c.if-not-right_size.false) (size_large c.args.size c.if-size-gt-MOST_SIZE.true)).0; cache = (bad_size c.args.size c.args.reply.now c.args.cache.now (sym c.right_size.ensures ∙ c.if-not-right_size.false) (size_large c.args.size c.if-size-gt-MOST_SIZE.true)).1 }

pub returns-then-is_err : goal.returns-then-is_err
returns-then-is_err c =
    let right : right_size c.args.cache.now ≡ true = sym c.right_size.ensures ∙ c.if-not-right_size.false in
    let fine : good_size c.args.size ≡ true = size_fine c.args.size (omega (arith, c.if-size-lt-LEAST_SIZE.false)) (omega (arith, c.if-size-gt-MOST_SIZE.false)) in record { answer = (unreadable c.args.size c.args.reply.now c.args.cache.now right fine c.read_domains.ensures (sym c.is_err.ensures.value ∙ c.if-is_err.true)).0; cache = (unreadable c.args.size c.args.reply.now c.args.cache.now right fine c.read_domains.ensures (sym c.is_err.ensures.value ∙ c.if-is_err.true)).1 }

pub replace-requires : goal.replace-requires
replace-requires c =
    let right : right_size c.args.cache.now ≡ true = sym c.right_size.ensures ∙ c.if-not-right_size.false in
    let fine : good_size c.args.size ≡ true = size_fine c.args.size (omega (arith, c.if-size-lt-LEAST_SIZE.false)) (omega (arith, c.if-size-gt-MOST_SIZE.false)) in
    (well_formed c.args.size c.args.reply.now c.args.cache.now right fine c.read_domains.ensures (sym c.is_err.ensures.value ∙ c.if-is_err.false) (omega (arith, c.if-size-gt-MOST_SIZE.false)), right)

pub returns : goal.returns
returns c =
    let right : right_size c.args.cache.now ≡ true = sym c.right_size.ensures ∙ c.if-not-right_size.false in
    let fine : good_size c.args.size ≡ true = size_fine c.args.size (omega (arith, c.if-size-lt-LEAST_SIZE.false)) (omega (arith, c.if-size-gt-MOST_SIZE.false)) in record { answer = (was_read c.args.size c.args.reply.now c.args.cache.now right fine c.read_domains.ensures (sym c.is_err.ensures.value ∙ c.if-is_err.false) c.replace.result c.replace.ensures.answer c.replace.ensures.cache).0; cache = (was_read c.args.size c.args.reply.now c.args.cache.now right fine c.read_domains.ensures (sym c.is_err.ensures.value ∙ c.if-is_err.false) c.replace.result c.replace.ensures.answer c.replace.ensures.cache).1 }
