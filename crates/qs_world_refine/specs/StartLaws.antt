-- A transaction that has not begun is shown by the agreement machine at its start, and so it is when it begins.
use Rattle.std.specs.Prelude.{◌≡◌, ℕ, ◌<◌, true, false}
use Rattle.qs_base.specs.Order.{same_tid}
use Rattle.qs_base.specs.declared.identifiers.Tid.{Tid}
use Rattle.qs_book_journal.specs.declared.script_line.ScriptLine.{ScriptLine}
use Rattle.qs_restart.specs.Recovery.{names_transaction}
use Rattle.qs_tm.specs.Manager as tm
use Rattle.qs_node_step.specs.Commands.{begin_as}
use Rattle.qs_node_step.specs.State.{Work}
use Rattle.qs_world.specs.Openings.{IsOpening}
use Rattle.qs_world.specs.World.{Opening, start}
use Rattle.qs_world_agree.specs.Carry.{IsLawful}
use Rattle.qs_world_agree.specs.World as machine
use Rattle.qs_world_refine.specs.Shows.{Scene, scene_of, sight, Shows, sight_during, ShowsWork}
use Rattle.qs_world_refine.specs.Sights.{Sight, ShowsSight}
use Rattle.qs_world_refine.specs.Starts.{IsUnseen, MayBegin, MayBeginAt, HasNoRecord, opening_seen}
use Rattle.qs_world_refine.specs.Steps.{Goes}

-- where nothing is seen of it, the machine at its start shows it
abbrev pub UnseenShown : Type 0
UnseenShown = (tid : Tid) (x : Sight) → IsUnseen tid x → ShowsSight tid x (machine.start (opening_seen tid x))

-- which is a start that the machine may have where the home runs
abbrev pub UnseenOpens : Type 0
UnseenOpens = (tid : Tid) (x : Sight) → MayBegin tid x → machine.IsOpening (opening_seen tid x)

-- and so a world that is lawful
abbrev pub UnseenLawful : Type 0
UnseenLawful = (tid : Tid) (x : Sight) → MayBegin tid x → IsLawful (machine.start (opening_seen tid x))

-- ---- a world as it begins

-- of a transaction of a node of the run, of which no log has a record, nothing is seen
abbrev pub StartUnseen : Type 0
StartUnseen = (tid : Tid) (o : Opening) → IsOpening o → names_transaction tid ≡ true → tid.home.0 < o.size → HasNoRecord tid o → IsUnseen tid (sight tid (scene_of (start o)))

-- so the machine at its start shows it
abbrev pub StartShown : Type 0
StartShown = (tid : Tid) (o : Opening) → IsOpening o → names_transaction tid ≡ true → tid.home.0 < o.size → HasNoRecord tid o
    → Shows tid (scene_of (start o)) (machine.start (opening_seen tid (sight tid (scene_of (start o)))))

-- and where it is one of the incarnation that its home begins with, that is a start that the machine may have
abbrev pub StartOpens : Type 0
StartOpens = (tid : Tid) (o : Opening) → IsOpening o → tid.home.0 < o.size → tid.inc ≡ (o.settings tid.home.0).inc → MayBegin tid (sight tid (scene_of (start o)))

-- ---- a client begins one, in the middle of a step

-- the transaction is shown as before: no event
abbrev pub BeginGoes : Type 0
BeginGoes = (scene : Scene) (n : ℕ) (line : ScriptLine) (work : Work) (w : machine.World) → MayBeginAt work → ShowsWork (tm.next_tid work.node.manager) scene n work w
    → Goes (tm.next_tid work.node.manager) scene n (begin_as line (tm.next_tid work.node.manager) work) w

-- every other one too: no event
abbrev pub BeginLeaves : Type 0
BeginLeaves = (t : Tid) (scene : Scene) (n : ℕ) (line : ScriptLine) (work : Work) (w : machine.World) → same_tid t (tm.next_tid work.node.manager) ≡ false → ShowsWork t scene n work w
    → Goes t scene n (begin_as line (tm.next_tid work.node.manager) work) w

-- where nothing was seen of it, the machine at its start shows it
abbrev pub BegunShown : Type 0
BegunShown = (scene : Scene) (n : ℕ) (line : ScriptLine) (work : Work) → MayBeginAt work → IsUnseen (tm.next_tid work.node.manager) (sight_during (tm.next_tid work.node.manager) scene n work)
    → ShowsWork (tm.next_tid work.node.manager) scene n (begin_as line (tm.next_tid work.node.manager) work) (machine.start (opening_seen (tm.next_tid work.node.manager) (sight_during (tm.next_tid work.node.manager) scene n work)))
