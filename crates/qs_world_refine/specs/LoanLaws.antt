-- The laws of rules by which a borrower takes a transaction and gives it back: what shows the work before shows it after.
use Rattle.std.specs.Prelude.{◌≡◌, ℕ, false, None, Some}
use Rattle.qs_base.specs.declared.identifiers.ClientNo.{ClientNo}
use Rattle.qs_base.specs.declared.identifiers.Tid.{Tid}
use Rattle.qs_tm.specs.declared.participant.Participant.{Participant}
use Rattle.qs_node_kept.specs.Loans.{last_taken}
use Rattle.qs_node_kept.specs.declared.kept.Lent.{Lent}
use Rattle.qs_node_step.specs.Borrowing.{take, yield}
use Rattle.qs_node_step.specs.State.{Work}
use Rattle.qs_world_agree.specs.World.{World}
use Rattle.qs_world_refine.specs.Shows.{Scene, ShowsWork}
use Rattle.qs_world_refine.specs.Steps.{IsAt, Knows, Goes}

-- a borrower takes a loan that was made: no event, whatever the transaction
abbrev pub TakeGoes : Type 0
TakeGoes = (t tid : Tid) (scene : Scene) (n : ℕ) (client : ClientNo) (loan : Lent) (work : Work) (w : World) → ShowsWork t scene n work w
    → Goes t scene n (take client tid loan work) w

-- it gives its present loan back, which was made in this incarnation: Yield
abbrev pub GiveBackGoes : Type 0
GiveBackGoes = (tid : Tid) (scene : Scene) (n : ℕ) (client : ClientNo) (loan : Lent) (work : Work) (part : Participant) (w : World) → ShowsWork tid scene n work w
    → IsAt scene n work → Knows tid work part → part.outcome ≡ None
    → last_taken client tid work.node.kept.now.loans ≡ Some loan → loan.yielded ≡ false → loan.inc ≡ work.node.setting.inc
    → Goes tid scene n (yield client tid work) w
