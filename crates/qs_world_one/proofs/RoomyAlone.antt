-- In each world of a run of one node what its log says is of transactions, and what a client begins is not known to it.
use Rattle.qs_node_room.specs.Fits as fits
use Rattle.qs_book_journal.specs.declared.script_line.Command.TheVariants as commands
use Rattle.qs_world_refine.specs.SaidLaws.{BeginsNew}
use Rattle.qs_node_step.specs.State.{Work}
use Rattle.qs_node_step.specs.declared.event.Event.{Event}
use Rattle.qs_node_step.specs.declared.event.Event.TheVariants as events

-- what is said of a node that is to make a sound step is what its room asks
pub new_of : (event : Event) (work : Work) → BeginsNew event work → fits.BeginsNew event work
new_of (events.Command client line label commands.Begin) work is = is
new_of (events.Command client line label commands.Commit) work is = tt
new_of (events.Command client line label commands.Abort) work is = tt
new_of (events.Command client line label commands.Take) work is = tt
new_of (events.Command client line label commands.Yield) work is = tt
new_of (events.Command client line label (commands.Request member op)) work is = tt
new_of (events.Received peer message) work is = tt
new_of events.ServeAll work is = tt
new_of (events.PeerRestarted peer old new) work is = tt
new_of events.Tick work is = tt
