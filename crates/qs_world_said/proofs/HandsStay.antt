-- What a node has in hand stays said as scripts say it, at each turn.
use Rattle.std.proofs.Common.{ℕ, List, [], ◌∷◌}
use Rattle.qs_base.specs.declared.identifiers.ClientNo.{ClientNo}
use Rattle.qs_base.specs.declared.identifiers.Tid.{Tid}
use Rattle.qs_node_step.specs.Settling.{due_tids, pass_rule, settle, settle_tid, try}
use Rattle.qs_node_step.specs.State.{NodeValue, Work}
use Rattle.qs_node_step.specs.Step.{step_work, wait_on, waiting_clients}
use Rattle.qs_node_step.specs.declared.event.Event.{Event}
use Rattle.qs_world_walk.specs.Stage.{Settles, Stage, after, during}
use Rattle.qs_world_walk.specs.Walked.{AtEach, AtTurns, done_work}
use Rattle.qs_world_walk.proofs.IsDeeds.{each_turn}
use Rattle.qs_world_said.specs.Hands.{HandsStay, HoldsHands}
use Rattle.qs_world_said.proofs.HandsTable.{Amid, table}

-- what gives another thing at each of them gives that at each
pub each_gives : {A : Type 0} (P Q : Work → A → Type 0) (f : Work → A → Work) → ((work : Work) (x : A) → P work x → Q work x) → (xs : List A) (work : Work) → AtEach P f work xs → AtEach Q f work xs
each_gives P Q f gives [] work each = tt
each_gives P Q f gives (x ∷ xs) work each = (gives work x each.0, each_gives P Q f gives xs (f work x) each.1)

pub turns_give : (I J : Stage → Work → Type 0) (node : NodeValue) (event : Event) (free : ℕ) → ((stage : Stage) (work : Work) → I stage work → J stage work) → AtTurns I node event free → AtTurns J node event free
turns_give I J node event free gives t = record {
  done = gives after (done_work node event free) t.done;
  settles = each_gives (λ (work : Work) (tid : Tid). I after work × I (during (Settles tid)) (try tid pass_rule work)) (λ (work : Work) (tid : Tid). J after work × J (during (Settles tid)) (try tid pass_rule work)) settle_tid
      (λ work tid at. (gives after work at.0, gives (during (Settles tid)) (try tid pass_rule work) at.1)) (due_tids (done_work node event free)) (done_work node event free) t.settles;
  waits = each_gives (λ (work : Work) (client : ClientNo). I after work) (λ (work : Work) (client : ClientNo). J after work) wait_on (λ work client at. gives after work at) (waiting_clients (settle (done_work node event free))) (settle (done_work node event free)) t.waits;
  all = gives after (step_work node event free) t.all;
}

pub hands_stay : HandsStay
hands_stay own node event free comes held = turns_give (Amid own event) (λ stage work. HoldsHands own work.node) node event free (λ stage work a. a.holds) (each_turn (Amid own event) node event free (table own event) (record { holds = held; yet = λ e. comes }))
