use Rattle.cache.specs.places.Layout.{place_at}
use Rattle.listing_write.proofs.EntryLaws.{ttl_fits, taken_fits, hint_fits, counts_put}
use Rattle.listing_write.proofs.put_counts.Goals as goal

pub put_number-a-requires : goal.put_number-a-requires
put_number-a-requires c = ttl_fits c.args.out.now c.args.at (place_at c.args.i c.args.cache.now) c.requires.1 c.wide.ensures

pub put_number-b-requires : goal.put_number-b-requires
put_number-b-requires c = taken_fits c.args.out.now c.args.at (place_at c.args.i c.args.cache.now) c.requires.1 c.wide.ensures c.put_number-a.ensures c.wide-2.ensures

pub put_number-requires : goal.put_number-requires
put_number-requires c =
    hint_fits c.args.out.now c.args.at (place_at c.args.i c.args.cache.now) c.requires.1 c.wide.ensures c.put_number-a.ensures c.wide-2.ensures c.put_number-b.ensures c.unit.ensures

pub returns : goal.returns
returns c =
    counts_put c.args.out.now c.args.at (place_at c.args.i c.args.cache.now) c.requires.1 c.wide.ensures c.put_number-a.ensures c.wide-2.ensures c.put_number-b.ensures
    c.unit.ensures c.put_number.ensures
