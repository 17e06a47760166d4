-- A name that is new goes behind the others.
use mathlib.Core.Path.{refl}
use Rattle.cache_store.proofs.domain_cache.DcLaws.{fits_inside}
use Rattle.cache_store.proofs.domain_cache.OnceLaws.{added_none, added_one}
use Rattle.cache_store.proofs.domain_cache.add_once.Goals as goal

pub is_new-requires : goal.is_new-requires
is_new-requires c =
    (c.requires.1.0.good, fits_inside c.args.reply.now c.args.s c.requires.1.1)

pub returns-then-not-is_new : goal.returns-then-not-is_new
returns-then-not-is_new c =
    added_none c.args.reply.now c.args.names c.args.s c.requires.1.0 c.is_new.ensures c.if-not-is_new.true

pub returns : goal.returns
returns c =
    added_one c.args.reply.now c.args.names c.args.s c.requires.1.0 c.is_new.ensures _ refl refl c.requires.0 c.requires.1.1 c.if-not-is_new.false
