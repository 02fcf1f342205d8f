-- Rules that change nothing of what is said of a sound node: asking, refusing, replies.
use Rattle.qs_world_refine.proofs.Words.{◌≡◌, ℕ, ◌&&◌, not, Bool, true, false, List, [], ◌∷◌, ◌++◌, Option, Some, None, refl, ◌∙◌, if◌then◌else◌, lookup, is_at, ClientNo, Member, NodeNo, Tid, uncovered, is_node, listed, same_node, Answer, Cause, Reply, Message, is_by_files, is_undecided, Outstanding, Participant, OpenCommand, where_undecided, become_asked, asked_by, pass_unknown, block, is_other, send, send_each, answer, enter_ask, take_reply, waits_as, answer_issuer, client_of, Work, here}
use Rattle.qs_world_refine.proofs.Words.{part_of, with_manager, client_cmp, is_sound, StaysSound}
use Rattle.qs_packet.specs.declared.message.Message.TheVariants as messages
use Rattle.qs_tm.specs.Manager as tm
use Rattle.qs_tm.specs.Participant as participant
use Rattle.qs_node_step.specs.Requests.{waiting_at}
use Rattle.qs_world_refine.specs.SoundLaws.{OwnerAsksSound, AskCameSound, RefusalCameSound, ReplyCameSound}
use Rattle.qs_world_refine.proofs.SoundParts.{hidden_sound}

-- ---- messages and answers

pub send_node : (to : NodeNo) (message : Message) (work : Work) → (send to message work).node ≡ work.node
send_node to message work = by (is_other work.node.setting to)
  where
    by : (b : Bool) → (if b then record work { out = record work.out { messages = work.out.messages ++ record { to = to; message = message } ∷ [] } } else work).node ≡ work.node
    by true = refl
    by false = refl

pub sends_node : (nodes : List NodeNo) (message : Message) (work : Work) → (send_each nodes message work).node ≡ work.node
sends_node [] message work = refl
sends_node (to ∷ nodes) message work = sends_node nodes message (send to message work) ∙ send_node to message work

pub answer_sound : (client : ClientNo) (said : Answer) (work : Work) → StaysSound work (answer client said work)
answer_sound client said work = by (lookup (is_at (client_cmp client)) work.node.commands)
  where
    by : (o : Option OpenCommand) → StaysSound work (elim o [
      | None ↦ work
      | Some command ↦ record work {
        node = record work.node { commands = Rattle.std.specs.Map.remove_entry (is_at (client_cmp client)) work.node.commands };
        out = record work.out {
          answers = work.out.answers ++ record { client = client; answer = record { line = command.line.line; answer = said } } ∷ [];
          entries = work.out.entries ++ Rattle.qs_book_journal.specs.declared.entry.Act.TheVariants.Answer client command.line.line said ∷ [];
        };
      }
    ])
    by None sound = sound
    by (Some command) sound = sound

-- ---- asking

asked_sound : (tid : Tid) (part : Participant) (work : Work) → StaysSound work (become_asked tid part work)
asked_sound tid part work sound =
    rw (sends_node (listed (uncovered part.engage)) (messages.AskVote tid) (with_manager (tm.ask tid) work))
    (hidden_sound tid participant.ask work.node (λ part. refl) (λ part. refl) sound)

pub owner_asks_sound : OwnerAsksSound
owner_asks_sound tid part work sound = by part.asked
  where
    by : (b : Bool) → is_sound (if b then work else become_asked tid part (enter_ask tid work)).node ≡ true
    by true = sound
    by false = asked_sound tid part (enter_ask tid work) sound

-- a rule for one that is not decided
undecided_sound : (tid : Tid) (rule : Participant → Work → Work) (work : Work) → ((part : Participant) → StaysSound work (rule part work)) → StaysSound work (where_undecided tid rule work)
undecided_sound tid rule work each = by (part_of tid work)
  where
    picked : (b : Bool) (part : Participant) → StaysSound work (if b then rule part work else work)
    picked true part sound = each part sound
    picked false part sound = sound

    by : (o : Option Participant) → StaysSound work (elim o [ None ↦ work | Some part ↦ if is_undecided part then rule part work else work ])
    by None sound = sound
    by (Some part) sound = picked (is_undecided part) part sound

pub ask_came_sound : AskCameSound
ask_came_sound peer tid work = undecided_sound tid (asked_by peer tid) work (λ part sound. by part (is_node peer part.engage.superior && (not part.engage.home && not part.asked)) sound)
  where
    by : (part : Participant) (b : Bool) → is_sound work.node ≡ true → is_sound (if b then become_asked tid part work else work).node ≡ true
    by part true sound = asked_sound tid part work sound
    by part false sound = sound

-- ---- refusals

pub block_sound : (tid : Tid) (cause : Cause) (work : Work) → StaysSound work (block tid cause work)
block_sound tid cause work sound =
    hidden_sound tid (participant.add_cause cause) (record work.node { manager = tm.refused tid work.node.manager }) (λ part. refl) (λ part. refl)
    (hidden_sound tid participant.refused work.node (λ part. refl) (λ part. refl) sound)

pub refusal_came_sound : RefusalCameSound
refusal_came_sound tid cause work = by (part_of tid work)
  where
    passed : (b : Bool) → StaysSound work (if b then work else send tid.home (messages.VotedAbort tid cause) work)
    passed true sound = sound
    passed false sound = rw (send_node tid.home (messages.VotedAbort tid cause) work) sound

    picked : (b : Bool) → StaysSound work (if b then block tid cause work else work)
    picked true sound = block_sound tid cause work sound
    picked false sound = sound

    by : (o : Option Participant) → StaysSound work (elim o [ None ↦ pass_unknown tid cause work | Some part ↦ if is_undecided part then block tid cause work else work ])
    by None sound = passed (same_node tid.home (here work)) sound
    by (Some part) sound = picked (is_undecided part) sound

-- ---- replies

module _ (tid : Tid) (member : Member) (number : ℕ) (reply : Reply) (work : Work) where
  abbrev dropped : Work
  dropped = with_manager (tm.drop_waiting tid member number) work

  dropped_sound : StaysSound work dropped
  dropped_sound sound = hidden_sound tid (participant.drop_waiting member number) work.node (λ part. refl) (λ part. refl) sound

  answered : (request : Outstanding) (b : Bool) → StaysSound dropped (if b then answer (client_of request.issuer) (Rattle.qs_ops.specs.Operations.answer_of reply) dropped else dropped)
  answered request true sound = answer_sound (client_of request.issuer) (Rattle.qs_ops.specs.Operations.answer_of reply) dropped sound
  answered request false sound = sound

  taken : (request : Outstanding) (b : Bool) → StaysSound dropped (if b then with_manager (tm.note_served tid request.count) dropped else answer_issuer tid request.member request.number reply (client_of request.issuer) dropped)
  taken request true sound = hidden_sound tid (participant.note_served request.count) dropped.node (λ part. refl) (λ part. refl) sound
  taken request false sound = answered request (waits_as tid request.member request.number (lookup (is_at (client_cmp (client_of request.issuer))) dropped.node.commands)) sound

  reply_sound : (o : Option Outstanding) → StaysSound work (elim o [ None ↦ work | Some request ↦ take_reply tid reply request dropped ])
  reply_sound None sound = sound
  reply_sound (Some request) sound = taken request (is_by_files request) (dropped_sound sound)

pub reply_came_sound : ReplyCameSound
reply_came_sound tid member number reply work = reply_sound tid member number reply work (waiting_at tid member number work)
