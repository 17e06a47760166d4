-- Each refusal's number.
use mathlib.Core.Path.{sym, ap}
use Rattle.cache_upkeep.specs.Calls.{error_number}
use Rattle.cache_upkeep.proofs.U32FromUpkeepError.from.Goals as goal

pub returns-in-BadPath : goal.returns-in-BadPath
unfolding error_number
returns-in-BadPath c = ap error_number (sym c.in-BadPath.is)

pub returns-in-LongPath : goal.returns-in-LongPath
unfolding error_number
returns-in-LongPath c = ap error_number (sym c.in-LongPath.is)

pub returns-in-NotInOrder : goal.returns-in-NotInOrder
unfolding error_number
returns-in-NotInOrder c = ap error_number (sym c.in-NotInOrder.is)

pub returns-in-NoEntry : goal.returns-in-NoEntry
unfolding error_number
returns-in-NoEntry c = ap error_number (sym c.in-NoEntry.is)
