use Rattle.dfsc_memory.proofs.UnitLaws.{io_room, io_closed}
use Rattle.dfsc.proofs.dfsc_answer_io.Goals as goal

pub close-requires : goal.close-requires
close-requires c = io_room c.args.refs.now c.args.doms.now c.args.walk.now c.args.status c.args.clock c.args.out.now c.head_units-n.ensures c.held-w.ensures _ _ c.answer_io-o.ensures

pub returns : goal.returns
returns c = io_closed c.args.refs.now c.args.doms.now c.args.walk.now c.args.status c.args.clock c.args.out.now c.head_units-n.ensures c.held-w.ensures _ _ c.answer_io-o.ensures c.close.ensures.number (c.close.ensures.units _)
