use Rattle.cache.specs.places.Layout.{place_at}
use Rattle.listing_write.proofs.EntryLaws.{prefix_fits, kind_fits, interlink_fits, failback_fits, settings_put}
use Rattle.listing_write.proofs.put_settings.Goals as goal

pub put_path-a-requires : goal.put_path-a-requires
put_path-a-requires c = prefix_fits c.args.out.now c.args.at (place_at c.args.i c.args.cache.now) c.requires.1 c.text.ensures

pub put_kind-b-requires : goal.put_kind-b-requires
put_kind-b-requires c = kind_fits c.args.out.now c.args.at (place_at c.args.i c.args.cache.now) c.requires.1 c.text.ensures c.put_path-a.ensures c.flag.ensures

pub put_flag-c-requires : goal.put_flag-c-requires
put_flag-c-requires c =
    interlink_fits c.args.out.now c.args.at (place_at c.args.i c.args.cache.now) c.requires.1 c.text.ensures c.put_path-a.ensures c.flag.ensures c.put_kind-b.ensures c.flag-2.ensures

pub put_flag-requires : goal.put_flag-requires
put_flag-requires c =
    failback_fits c.args.out.now c.args.at (place_at c.args.i c.args.cache.now) c.requires.1 c.text.ensures c.put_path-a.ensures c.flag.ensures c.put_kind-b.ensures
    c.flag-2.ensures c.put_flag-c.ensures c.flag-3.ensures

pub returns : goal.returns
returns c =
    settings_put c.args.out.now c.args.at (place_at c.args.i c.args.cache.now) c.requires.1 c.text.ensures c.put_path-a.ensures c.flag.ensures c.put_kind-b.ensures
    c.flag-2.ensures c.put_flag-c.ensures c.flag-3.ensures c.put_flag.ensures
