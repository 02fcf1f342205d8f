-- A whole step is given what it needs, from what stands as its event comes and from what the agreement protocol gives at each stage.
use Rattle.qs_world_lawful.proofs.Words.{◌≡◌, ℕ, true, List, [], ◌∷◌, refl, map, nat_lt, ClientNo, ServerNo, Tid, BookValue, serve_next, due_tids, settle, settle_tid, Work, wait_on, waiting_clients, Event, OpenCommand, AgreementGives, HasCountRoom, ComesTo, HoldsWork, book_at, AtEach, MayServe, MaySettle, MayStep, MayWait, done_work, first_work, Every, IsCommand, CanCount, Stands, StepStands}
use Rattle.qs_ipc.specs.Ipc as ipc
use Rattle.qs_node_step.specs.State.{NodeValue}
use Rattle.qs_node_step.specs.declared.event.Event.TheVariants as events
use Rattle.qs_world_lawful.specs.Agreed.{AgreesEvent, AreLentUndone}
use Rattle.qs_world_lawful.specs.GivenStep.{MayHappen}
use Rattle.qs_world_lawful.proofs.CommandCame.{by_waits}
use Rattle.qs_world_lawful.proofs.GivenComing.{may_come}
use Rattle.qs_world_lawful.proofs.GivenServing.{may_serve}
use Rattle.qs_world_lawful.proofs.GivenStages.{at_each, may_settle, reached, s_settled}
use Rattle.qs_world_lawful.proofs.GivenWaiting.{may_command, may_wait}
use Rattle.qs_world_lawful.proofs.Replied.{by_served}
use Rattle.qs_world_lawful.proofs.WholeStep.{by_happen}

pub all_any : {A : Type 0} (xs : List A) → Every (λ (x : A). Unit {0}) xs
all_any [] = tt
all_any (x ∷ xs) = (tt, all_any xs)

-- what is given at each stage, one beside the other
pub both_at : {A : Type 0} (P Q : Work → A → Type 0) (f : Work → A → Work) (xs : List A) (work : Work) → AtEach P f work xs → AtEach Q f work xs → AtEach (λ w x. P w x × Q w x) f work xs
both_at P Q f [] work p q = tt
both_at P Q f (x ∷ xs) work p q = ((p.0, q.0), both_at P Q f xs (f work x) p.1 q.1)

-- each client with an open command has a small number
pub small_clients : (P : ClientNo × OpenCommand → Type 0) (Q : ClientNo → Type 0) → ((entry : ClientNo × OpenCommand) → P entry → Q entry.0) → (entries : List (ClientNo × OpenCommand)) → Every P entries → Every Q (map (λ (entry : ClientNo × OpenCommand). entry.0) entries)
small_clients P Q each [] every = tt
small_clients P Q each (e ∷ es) every = (each e every.0, small_clients P Q each es every.1)

module _ (stamp : ℕ) (before : BookValue) (size : ℕ) (nodes : ℕ → NodeValue) (n : ℕ) (node : NodeValue) (event : Event) (free : ℕ) (s : StepStands stamp before size nodes n node event free) where
  abbrev first : Work
  first = first_work node free

  -- ---- what comes

  may_happen : (e : Event) → event ≡ e → ComesTo (book_at stamp before first) e first → AgreesEvent size nodes n first e → MayHappen stamp before e first
  may_happen (events.Command client line label command) is comes agrees = may_command stamp before size nodes n first s.first.by agrees (record { client = client; line = line; label = label; command = command }) comes
  may_happen (events.Received peer message) is comes agrees = may_come stamp before size nodes n first s.first peer message comes agrees
  may_happen events.ServeAll is comes agrees = at_each (Stands stamp before size nodes n) (λ (server : ServerNo). Unit {0}) CanCount (MayServe stamp before) serve_next
      (λ work server k any room. may_serve stamp before size nodes n work k server room)
      (λ work server k any room. let held : HoldsWork stamp before (serve_next work server) = by_served stamp before work k.held server (may_serve stamp before size nodes n work k server room) in record { held = held; by = s.rules.serves work server room k held })
      (ipc.turns first.node.queues) first s.first (all_any (ipc.turns first.node.queues)) comes
  may_happen (events.PeerRestarted peer old new) is comes agrees = tt
  may_happen events.Tick is comes agrees = s.ages is

  happens : MayHappen stamp before event first
  happens = may_happen event refl s.comes s.agreed.comes

  pub done : Stands stamp before size nodes n (done_work node event free)
  done = let held : HoldsWork stamp before (done_work node event free) = by_happen stamp before event first s.first.held happens in record { held = held; by = s.happens s.comes s.first held }

  -- ---- settling

  pub given_so : AtEach (λ (work : Work) (tid : Tid). AgreementGives stamp before size nodes n work tid × HasCountRoom work tid) settle_tid (done_work node event free) (due_tids (done_work node event free))
  given_so = both_at (AgreementGives stamp before size nodes n) HasCountRoom settle_tid (due_tids (done_work node event free)) (done_work node event free) s.agreed.settles s.rooms

  settles : AtEach (MaySettle stamp before) settle_tid (done_work node event free) (due_tids (done_work node event free))
  settles = at_each (Stands stamp before size nodes n) (λ (tid : Tid). Unit {0}) (λ (work : Work) (tid : Tid). AgreementGives stamp before size nodes n work tid × HasCountRoom work tid) (MaySettle stamp before) settle_tid
      (λ work tid k any g. may_settle stamp before size nodes n s.rules work tid k g.0 g.1)
      (λ work tid k any g. s_settled stamp before size nodes n s.rules work tid k g.0 g.1)
      (due_tids (done_work node event free)) (done_work node event free) done (all_any (due_tids (done_work node event free))) given_so

  pub settled : Stands stamp before size nodes n (settle (done_work node event free))
  settled = reached (Stands stamp before size nodes n) (λ (tid : Tid). Unit {0}) (λ (work : Work) (tid : Tid). AgreementGives stamp before size nodes n work tid × HasCountRoom work tid) settle_tid
      (λ work tid k any g. s_settled stamp before size nodes n s.rules work tid k g.0 g.1)
      (due_tids (done_work node event free)) (done_work node event free) done (all_any (due_tids (done_work node event free))) given_so

  -- ---- commands that stayed open

  abbrev IsSmall : ClientNo → Type 0
  IsSmall client = nat_lt client.0 64 ≡ true

  waits : AtEach (MayWait stamp before) wait_on (settle (done_work node event free)) (waiting_clients (settle (done_work node event free)))
  waits = at_each (Stands stamp before size nodes n) IsSmall (λ (work : Work) (client : ClientNo). AreLentUndone size nodes n work) (MayWait stamp before) wait_on
      (λ work client k small undone. may_wait stamp before size nodes n work k.by undone client small)
      (λ work client k small undone. let held : HoldsWork stamp before (wait_on work client) = by_waits stamp before work k.held client (may_wait stamp before size nodes n work k.by undone client small) in record { held = held; by = s.rules.waits work client k held })
      (waiting_clients (settle (done_work node event free))) (settle (done_work node event free)) settled
      (small_clients (λ (entry : ClientNo × OpenCommand). IsCommand (settle (done_work node event free)).node.setting entry.0 entry.1) IsSmall (λ entry is. is.small) (settle (done_work node event free)).node.commands settled.by.facts.commands)
      s.agreed.waits

  pub may_step : MayStep stamp before node event free
  may_step = record { happens = happens; settles = settles; waits = waits }
