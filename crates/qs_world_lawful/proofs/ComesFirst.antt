-- What comes as it is given before the first step of an incarnation comes so after it.
use Rattle.qs_world_lawful.proofs.Words.{◌≡◌, ◌==◌, ℕ, List, [], ◌∷◌, ◌++◌, refl, ap, sym, subst, ◌∙◌, nat_lt, is_at, filter, lookup, slice_get, ClientNo, NodeNo, Tid, IpcValue, queue_at, Delivery, ScriptLine, BookValue, is_fresh, TransactionValue, Owner, RequestNo, Op, Message, serve_next, Work, client_cmp, work_on, Event, Setting, OpenCommand, InRun, ComesLine, ComesMessage, ComesTo, HoldsWork, book_at, entries_so_far, AtEach, first_work, FitsEvent, GoesTo, CanCount, IsWithin, standing_ops}
use Rattle.qs_world_lawful.proofs.Words.{waiting_ops}
use Rattle.qs_ipc.specs.Ipc as ipc
use Rattle.qs_ipc.specs.Queue.{is_of}
use Rattle.qs_packet.specs.declared.message.Message.TheVariants as messages
use Rattle.qs_node_step.specs.State.{NodeValue}
use Rattle.qs_node_step.specs.declared.event.Event.TheVariants as events
use Rattle.qs_world_lawful.specs.Coming.{ComesBehind}
use Rattle.qs_world_lawful.specs.Face.{waiting_at}
use Rattle.qs_world_lawful.proofs.BesideGoes.{said_on}
use Rattle.qs_world_lawful.proofs.FirstComes.{StillComing, StoodBefore, coming_first}

-- a command that comes fits the run
pub fits_so : (book : BookValue) (node : NodeValue) (free : ℕ) (event : Event) → ComesTo book event (work_on node free) → FitsEvent node.setting event
fits_so book node free (events.Command client line label command) comes = (comes.small, comes.fits)
fits_so book node free (events.Received peer message) comes = tt
fits_so book node free events.ServeAll comes = tt
fits_so book node free (events.PeerRestarted peer old new) comes = tt
fits_so book node free events.Tick comes = tt

module _ (stamp : ℕ) (before : BookValue) (run : InRun before) (node : NodeValue) (free : ℕ) (held : HoldsWork stamp before (first_work node free)) where
  abbrev first : Work
  first = first_work node free

  still : StillComing stamp before (work_on node free) first
  still = coming_first stamp before (work_on node free)

  line_comes : (line : ScriptLine) → ComesLine before node line → ComesLine (book_at stamp before first) first.node line
  line_comes line c = record {
    free = ap (λ (cs : List (ClientNo × OpenCommand)). lookup (is_at (client_cmp line.client)) cs) still.commands ∙ c.free;
    behind = record { owner = c.behind.owner; there = ap (λ (os : List Owner). slice_get os line.client.0) still.book.owners ∙ c.behind.there; less = c.behind.less };
    small = c.small;
    fresh = λ begin. ap (λ (ls : List (List ℕ × Tid)). is_fresh ls line.label) still.book.labels ∙ c.fresh begin;
    fits = λ member op is. ((c.fits member op is).0, ap (λ (s : Setting). nat_lt member.node.0 s.nodes) still.setting ∙ (c.fits member op is).1);
  }

  behind_of : (peer : NodeNo) (message : Message) → ComesBehind before node peer message → ComesBehind (book_at stamp before first) first.node peer message
  behind_of peer (messages.Request tid label member number issuer op) c = λ later found. of later (still.book.stood tid later found)
    where
      numbered : NodeNo → RequestNo
      numbered to = record { link = record { from = peer; to = to }; number = number }

      waiting_same : waiting_at first.node tid member.server ≡ waiting_at node tid member.server
      waiting_same = ap (λ (qs : IpcValue). filter (is_of tid) (queue_at qs member.server).waiting) still.queues

      of : (later : TransactionValue) → StoodBefore before tid later → IsWithin (waiting_ops (numbered first.node.setting.node) (waiting_at first.node tid member.server) ++ op ∷ []) (standing_ops later (numbered first.node.setting.node) first.node.setting.node member.server)
      of later o = subst (λ (s : Setting). IsWithin (waiting_ops (numbered s.node) (waiting_at first.node tid member.server) ++ op ∷ []) (standing_ops later (numbered s.node) s.node member.server)) (sym still.setting)
          (subst (λ (ops : List Op). IsWithin (waiting_ops (numbered node.setting.node) (waiting_at first.node tid member.server) ++ op ∷ []) ops) (sym (o.standing (numbered node.setting.node) node.setting.node member.server))
          (subst (λ (ds : List Delivery). IsWithin (waiting_ops (numbered node.setting.node) ds ++ op ∷ []) (standing_ops o.tx (numbered node.setting.node) node.setting.node member.server)) (sym waiting_same) (c o.tx o.found)))
  behind_of peer messages.Hello c = tt
  behind_of peer (messages.Answered tid member number reply) c = tt
  behind_of peer (messages.AskVote tid) c = tt
  behind_of peer (messages.Covered tid up_to) c = tt
  behind_of peer (messages.VotedYes tid up_to told) c = tt
  behind_of peer (messages.VotedAbort tid cause) c = tt
  behind_of peer (messages.Tell tid outcome) c = tt
  behind_of peer (messages.Told tid further) c = tt
  behind_of peer (messages.Inquire tid) c = tt

  message_comes : (peer : NodeNo) (message : Message) → ComesMessage before node peer message → ComesMessage (book_at stamp before first) first.node peer message
  message_comes peer message c = record {
    other = ap (λ (s : Setting). peer.0 == s.node.0) still.setting ∙ c.other;
    in_run = ap (λ (s : Setting). nat_lt peer.0 s.nodes) still.setting ∙ c.in_run;
    goes = subst (λ (s : Setting). GoesTo s.node.0 message) (sym still.setting) c.goes;
    says = said_on before run [] (entries_so_far stamp first) tt held.lawful message c.says;
    behind = behind_of peer message c.behind;
  }

  pub comes_first : (event : Event) → ComesTo before event (work_on node free) → (event ≡ events.ServeAll → AtEach CanCount serve_next first (ipc.turns first.node.queues)) → ComesTo (book_at stamp before first) event first
  comes_first (events.Command client line label command) c room = line_comes (record { client = client; line = line; label = label; command = command }) c
  comes_first (events.Received peer message) c room = message_comes peer message c
  comes_first events.ServeAll c room = room refl
  comes_first (events.PeerRestarted peer old new) c room = tt
  comes_first events.Tick c room = still.young c
