use Rattle.walk_calls.proofs.start_steps.StartLaws.{first_ready, first_moved}
use borrow.Author.Rules.{rules}
use Rattle.walk_calls.proofs.start_steps.first_rest.Goals as goal

pub from_lookup-requires : goal.from_lookup-requires
from_lookup-requires c = first_ready c.args.refs.now c.args.doms.now c.args.rooms.now c.args.g c.args.k c.requires (search rules)

pub returns : goal.returns
returns c = first_moved c.args.refs.now c.args.doms.now c.args.rooms.now c.args.g c.args.k c.requires (search rules) c.from_lookup.ensures
