-- A transaction that has not begun, as laws.
use Rattle.qs_tm.specs.Manager as tm
use Rattle.qs_world_refine.proofs.Words.{begin_as, start, sight, scene_of, sight_during, opening_seen}
use Rattle.qs_world_agree.specs.World as machine
use Rattle.qs_world_refine.specs.StartLaws.{StartUnseen, StartShown, StartOpens, BeginGoes, BeginLeaves, BegunShown}
use Rattle.qs_world_refine.proofs.Beginning as beginning
use Rattle.qs_world_refine.proofs.During.{leaves_shown}
use Rattle.qs_world_refine.proofs.Keeping.{keeps_goes, keeps_shown, nothing_goes}
use Rattle.qs_world_refine.proofs.Starting.{unseen_shown}
use Rattle.qs_world_refine.proofs.StartWorlds as worlds

pub start_unseen : StartUnseen
start_unseen tid o opens numbered home_in clear = worlds.start_unseen tid o opens numbered home_in clear

pub start_shown : StartShown
start_shown tid o opens numbered home_in clear = unseen_shown tid (sight tid (scene_of (start o))) (worlds.start_unseen tid o opens numbered home_in clear)

pub start_opens : StartOpens
start_opens tid o opens home_in now = worlds.start_may tid o opens home_in now

pub begin_goes : BeginGoes
begin_goes scene n line work w may shown =
    keeps_goes (tm.next_tid work.node.manager) scene n work (begin_as line (tm.next_tid work.node.manager) work) w (beginning.begin_keeps line work may) shown

pub begin_leaves : BeginLeaves
begin_leaves t scene n line work w apart shown =
    nothing_goes t scene n (begin_as line (tm.next_tid work.node.manager) work) w (leaves_shown t scene n work (begin_as line (tm.next_tid work.node.manager) work) w (beginning.begin_leaves line work t apart) shown)

pub begun_shown : BegunShown
begun_shown scene n line work may unseen =
    keeps_shown (tm.next_tid work.node.manager) scene n work (begin_as line (tm.next_tid work.node.manager) work) (machine.start (opening_seen (tm.next_tid work.node.manager) (sight_during (tm.next_tid work.node.manager) scene n work)))
    (beginning.begin_keeps line work may) (unseen_shown (tm.next_tid work.node.manager) (sight_during (tm.next_tid work.node.manager) scene n work) unseen)
