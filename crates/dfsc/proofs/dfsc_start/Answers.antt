use Rattle.dfsc_memory.specs.Units.{no_walk}
use Rattle.dfsc_memory.proofs.UnitLaws.{start_room, start_closed}
use Rattle.dfsc.proofs.dfsc_start.Goals as goal

pub close-requires : goal.close-requires
close-requires c = start_room c.args.refs.now c.args.doms.now c.args.walk.now c.args.path.now c.args.boot.now c.args.limit c.args.size c.args.clock c.args.out.now c.head_units-n.ensures _ _ (c.start-o.ensures no_walk)

pub returns : goal.returns
returns c = start_closed c.args.refs.now c.args.doms.now c.args.walk.now c.args.path.now c.args.boot.now c.args.limit c.args.size c.args.clock c.args.out.now c.head_units-n.ensures _ _ (c.start-o.ensures no_walk) c.close.ensures.number (c.close.ensures.units no_walk)
