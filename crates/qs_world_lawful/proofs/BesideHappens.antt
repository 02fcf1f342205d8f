-- What comes in a step, and all that waits being served: what stands before stands after.
use Rattle.qs_world_lawful.proofs.Words.{◌≡◌, inl, ℕ, true, false, List, [], ◌∷◌, Option, Some, None, refl, sym, ap, ◌∙◌, fold, if◌then◌else◌, ◌&&◌, not, is_some, slice_get, NodeNo, ServerNo, Tid, is_node, same_node, BookValue, find_transaction, TransactionValue, is_commit, Cause, Message, ask_came, asked_by, become_asked, block, closer_came, refusal_came, send, serve_next, Work, here, with_manager, happen, message_came, Event, is_undecided, Participant, InRun, IsTrueCause}
use Rattle.qs_world_lawful.proofs.Words.{ComesMessage, ComesTo, HoldsWork, book_at, face_of, AtEach, HoldsTid, CanCount, HoldsHomes, Stands}
use Rattle.qs_ipc.specs.Ipc as ipc
use Rattle.qs_book_machine.specs.Nodes as machine
use Rattle.qs_packet.specs.declared.message.Message.TheVariants as messages
use Rattle.qs_node_step.specs.Asking.{count, pass_unknown}
use Rattle.qs_node_step.specs.State.{NodeValue, part_of}
use Rattle.qs_node_step.specs.declared.event.Event.TheVariants as events
use Rattle.qs_tm.specs.Manager as tm
use Rattle.qs_tm.specs.Participant as participant
use Rattle.qs_world_lawful.specs.Agreed.{AgreesEvent, AgreesMessage}
use Rattle.qs_world_lawful.specs.BesideStep.{AreCommitted, HappensSo}
use Rattle.qs_world_lawful.proofs.BesideCommands.{goes_become, goes_command}
use Rattle.qs_world_lawful.proofs.BesideGoes.{Goes, goes_elim, goes_if, goes_part, goes_self, goes_send, goes_then, goes_where}
use Rattle.qs_world_lawful.proofs.BesideParts.{PartOn}
use Rattle.qs_world_lawful.proofs.BesidePlain.{goes_counted}
use Rattle.qs_world_lawful.proofs.BesideReply.{goes_block, goes_reply}
use Rattle.qs_world_lawful.proofs.BesideRequests.{goes_next, goes_request}
use Rattle.qs_world_lawful.proofs.BesideRestarts.{goes_restarted, goes_tick}
use Rattle.qs_world_lawful.proofs.BesideTold.{goes_inquiry, goes_tell, goes_told}
use Rattle.qs_world_lawful.proofs.Clauses.{of_tid}
use Rattle.qs_world_lawful.proofs.FactsQuiet.{counted_quiet}
use Rattle.qs_world_lawful.proofs.FactsStages.{serve_next_keeps}
use Rattle.qs_world_lawful.proofs.GivenServing.{may_serve}
use Rattle.qs_world_lawful.proofs.GivenSettling.{uncommitted}
use Rattle.qs_world_lawful.proofs.Replied.{by_served}
use Rattle.qs_world_lawful.proofs.SameSetting.{serve_next_same}
use Rattle.qs_world_lawful.proofs.StandsOn.{stands_on}
use Rattle.qs_world_lawful.proofs.Truths.{of_some}

module _ (stamp : ℕ) (before : BookValue) (run : InRun before) where
  abbrev On : Work → Work → Type 0
  On work new = Goes stamp before run work new

  -- ---- messages of a transaction

  goes_ask_came : (peer : NodeNo) (tid : Tid) (work : Work) → ((tx : TransactionValue) → find_transaction (book_at stamp before work) tid ≡ Some tx → is_some tx.asked ≡ true) → On work (ask_came peer tid work)
  goes_ask_came peer tid work asked = goes_where stamp before run tid (asked_by peer tid) work
      (λ part known none. goes_if stamp before run (is_node peer part.engage.superior && (not part.engage.home && not part.asked)) work (become_asked tid part work) work (λ is. goes_become stamp before run tid part work known asked) (λ is. goes_self stamp before run work))

  goes_closer : (peer : NodeNo) (tid : Tid) (up_to : ℕ) (told : List NodeNo) (work : Work) → On work (closer_came peer tid up_to told work)
  goes_closer peer tid up_to told work = goes_where stamp before run tid (λ part. count peer tid up_to told) work
      (λ part known none. goes_then stamp before run work noted (count peer tid up_to told work) (goes_part stamp before run tid (participant.counted tid.home peer up_to told) work (λ p at. counted_on p)) (goes_counted stamp before run tid peer up_to noted))
    where
      noted : Work
      noted = with_manager (tm.counted tid peer up_to told) work

      counted_on : (p : Participant) → PartOn p (participant.counted tid.home peer up_to told p)
      counted_on p = record { notes = record { keeps = λ c is. is }; asked = refl; outcome = refl; causes = inl refl; members = refl; involved = λ is. is; home = (counted_quiet tid.home peer up_to told).home p; begun_at = refl; unended = λ is. is }

  goes_refusal : (tid : Tid) (cause : Cause) (work : Work) → IsTrueCause (book_at stamp before work) tid cause → On work (refusal_came tid cause work)
  goes_refusal tid cause work so = goes_elim stamp before run (part_of tid work) work (pass_unknown tid cause work) (λ part. if is_undecided part then block tid cause work else work)
      (λ none. goes_if stamp before run (same_node tid.home (here work)) work work (send tid.home (messages.VotedAbort tid cause) work) (λ is. goes_self stamp before run work) (λ is. goes_send stamp before run tid.home (messages.VotedAbort tid cause) work tt (λ h. so)))
      (λ part known. goes_if stamp before run (is_undecided part) work (block tid cause work) work (λ is. goes_block stamp before run tid cause work (λ h. so)) (λ is. goes_self stamp before run work))

  module _ (size : ℕ) (nodes : ℕ → NodeValue) (n : ℕ) where
    module _ (work : Work) (s : Stands stamp before size nodes n work) where
      -- a request of what is not committed, and stands
      unknown_so : (tid : Tid) → is_some (find_transaction (book_at stamp before work) tid) ≡ true → ((tx : TransactionValue) → find_transaction (book_at stamp before work) tid ≡ Some tx → is_commit tx.cell ≡ false)
          → (tx : TransactionValue) × (find_transaction (book_at stamp before work) tid ≡ Some tx) × (is_commit tx.cell ≡ false) × HoldsTid work.node.setting.node work.node.setting.inc tid tx (face_of work.node tid)
      unknown_so tid there open_still = by (find_transaction (book_at stamp before work) tid) refl there
        where
          by : (o : Option TransactionValue) → find_transaction (book_at stamp before work) tid ≡ o → is_some o ≡ true
              → (tx : TransactionValue) × (find_transaction (book_at stamp before work) tid ≡ Some tx) × (is_commit tx.cell ≡ false) × HoldsTid work.node.setting.node work.node.setting.inc tid tx (face_of work.node tid)
          by None is e = absurd (cc e)
          by (Some tx) is e = (tx, is, open_still tx is, of_tid stamp (book_at stamp before work) work.node s.held.holds tid tx is)

      asked_so : (tid : Tid) → (x : TransactionValue) × (find_transaction (book_at stamp before work) tid ≡ Some x) × (is_some x.asked ≡ true) → (tx : TransactionValue) → find_transaction (book_at stamp before work) tid ≡ Some tx → is_some tx.asked ≡ true
      asked_so tid is tx found = ap (λ (x : TransactionValue). is_some x.asked) (of_some (sym found ∙ is.1)) ∙ is.2

      away : (tid : Tid) → same_node tid.home (here work) ≡ false → tm.is_home tid work.node.manager ≡ false
      away tid far = ap (λ (k : NodeNo). same_node tid.home k) s.by.facts.room.at ∙ far

      pub goes_message : (peer : NodeNo) (message : Message) → ComesMessage (book_at stamp before work) work.node peer message → AgreesMessage size nodes n work peer message → AreCommitted (book_at stamp before work) work.node → On work (message_came peer message work)
      goes_message peer messages.Hello c a logged = goes_self stamp before run work
      goes_message peer (messages.Request tid label member number issuer op) c a logged = goes_request stamp before run peer tid label member number op work (away tid) (λ none. unknown_so tid c.says (uncommitted stamp before size nodes n work s.by tid a))
      goes_message peer (messages.Answered tid member number reply) c a logged = goes_reply stamp before run tid member number reply work (λ p known. (s.by.facts.parts tid p known).numbered.apart)
      goes_message peer (messages.AskVote tid) c a logged = goes_ask_came peer tid work (asked_so tid c.says)
      goes_message peer (messages.Covered tid up_to) c a logged = goes_closer peer tid up_to [] work
      goes_message peer (messages.VotedYes tid up_to told) c a logged = goes_closer peer tid up_to told work
      goes_message peer (messages.VotedAbort tid cause) c a logged = goes_refusal tid cause work c.says
      goes_message peer (messages.Tell tid outcome) c a logged = goes_tell stamp before run work s.held peer tid outcome c.says
      goes_message peer (messages.Told tid further) c a logged = goes_told stamp before run work s.held peer tid further s.by.facts c.says s.by.beside
      goes_message peer (messages.Inquire tid) c a logged = goes_inquiry stamp before run work s.held peer tid s.by.beside (logged tid) c.says

      -- the clock of the machine's node is the manager's
      clock : (state : machine.NodeValue) → slice_get (book_at stamp before work).nodes work.node.setting.node.0 ≡ Some state → state.timers.ticks ≡ work.node.manager.ticks
      clock state there = ap (λ (x : machine.NodeValue). x.timers.ticks) (of_some (sym there ∙ s.held.holds.there)) ∙ (s.held.holds.servers.timers.ticks ∙ s.by.beside.clock.ticks)

    -- ---- all that waits is served

    module _ (homes : HoldsHomes before size nodes n) where
      pub served_stands : (work : Work) → Stands stamp before size nodes n work → (server : ServerNo) → CanCount work server → On work (serve_next work server) × Stands stamp before size nodes n (serve_next work server)
      served_stands work s server room =
          let g : On work (serve_next work server) = goes_next stamp before run work s.held server room (λ tid p known. (s.by.facts.parts tid p known).numbered.apart) in
          let held : HoldsWork stamp before (serve_next work server) = by_served stamp before work s.held server (may_serve stamp before size nodes n work s server room) in (
            g,
            record {
              held = held;
              by = stands_on stamp before size nodes n homes work (serve_next work server) (serve_next_same work server) (serve_next_keeps work server) s held
                  (g.keeps held.lawful s.by.beside);
            },
          )

      pub goes_serves : (servers : List ServerNo) (work : Work) → Stands stamp before size nodes n work → AtEach CanCount serve_next work servers → On work (fold serve_next work servers)
      goes_serves [] work s room = goes_self stamp before run work
      goes_serves (server ∷ servers) work s room =
          let p : On work (serve_next work server) × Stands stamp before size nodes n (serve_next work server) = served_stands work s server room.0 in
          goes_then stamp before run work (serve_next work server) (fold serve_next (serve_next work server) servers) p.0 (goes_serves servers (serve_next work server) p.1 room.1)

      -- ---- what comes

      pub goes_happens : (event : Event) (work : Work) → Stands stamp before size nodes n work → ComesTo (book_at stamp before work) event work → AgreesEvent size nodes n work event → HappensSo stamp before event work → AreCommitted (book_at stamp before work) work.node → On work (happen event work)
      goes_happens (events.Command client line label command) work s c a so logged = goes_command stamp before run (record { client = client; line = line; label = label; command = command }) work (ap is_some c.behind.there) (clock work s)
      goes_happens (events.Received peer message) work s c a so logged = goes_message work s peer message c a logged
      goes_happens events.ServeAll work s c a so logged = goes_serves (ipc.turns work.node.queues) work s c
      goes_happens (events.PeerRestarted peer old new) work s c a so logged = goes_restarted stamp before run peer old new work so
      goes_happens events.Tick work s c a so logged = goes_tick stamp before run work so
