use native.Mathlib.Omega.{arith}
use Rattle.cache_store.proofs.entry_after_reply.StoreLaws.{prefix_fits, inserted}
use Rattle.cache_store.proofs.entry_after_reply.StoredLaws.{few_given}
use Rattle.cache_store.proofs.new_or_refreshed.insert.Goals as goal

pub begin_entry-requires : goal.begin_entry-requires
begin_entry-requires c =
    (omega arith, (c.requires.1.inside, prefix_fits c.args.reply.now c.args.found c.requires.1))

pub add_targets-requires : goal.add_targets-requires
add_targets-requires c =
    (omega arith, (few_given _ _ c.requires.1, c.requires.1.kept))

pub returns : goal.returns
returns c =
    inserted c.args.cache.now c.args.i (omega (arith, c.requires.0)) c.args.reply.now c.args.found c.requires.1 c.args.interlink c.args.clock
    c.begin_entry.ensures c.add_targets.ensures c.settle.ensures
