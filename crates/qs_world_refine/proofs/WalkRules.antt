-- What each thing of a step keeps, requests, votes and their answers keep.
use Rattle.qs_world_refine.proofs.Words.{◌≡◌, ℕ, ◌+◌, ◌==◌, ◌&&◌, ◌||◌, not, Bool, true, false, List, [], ◌∷◌, fold, Option, Some, None, is_none, refl, sym, ap, ◌∙◌, arith, nat_lt, if◌then◌else◌, nat_tests, lookup, is_at, ClientNo, Member, NodeNo, ServerNo, Tid, last_number, uncovered, is_node, listed, same_node, Engaged, is_for, Delivery, after_serving, Cause, Op, Reply, Message, is_client, client_of, class_here, is_told_class, is_by_files, is_undecided, Outstanding, Participant, where_undecided}
use Rattle.qs_world_refine.proofs.Words.{become_asked, asked_by, ask_came, count, closer_came, block, pass_unknown, refusal_came, send_next, send_each, member_here, enter_issue, with_local, ask_on, is_asked, issue_as, next_number, issue, waits_as, take_reply, reply_came, label_at, learn_label, cover_from, engage, is_dropped, take_in, request_came, change_served, enter_serve, lent_to, make_loan, give_reply, serve, reply_here, serve_or_drop, serve_next, serve_all, Work, here, part_of, with_manager}
use Rattle.qs_world_refine.proofs.Words.{with_queues, client_cmp, fits, Reads, Keeps, IsPlain}
use Rattle.qs_engage.specs.declared.engage.Engaged.TheVariants as engagements
use Rattle.qs_ipc.specs.Ipc as ipc
use Rattle.qs_packet.specs.declared.message.Message.TheVariants as messages
use Rattle.qs_tm.specs.Manager as tm
use Rattle.qs_tm.specs.Participant as participant
use Rattle.qs_node_step.specs.Requests.{enqueue, waiting_at}
use Rattle.qs_node_step.specs.Serving.{met, may_serve}
use Rattle.qs_world_refine.proofs.ServerKinds.{serving_kind}
use Rattle.qs_world_refine.proofs.SoundParts.{and_both, both_and}

-- one more was served: nothing else that counts here changes
served_plain : (server : ServerNo) (part : Participant) → IsPlain part (participant.served server part)
served_plain server part = by ((participant.member_of part server).served == last_number)
  where
    by : (b : Bool) → IsPlain part (if b then part
        else record (participant.with_member server (record (participant.member_of part server) { served = (participant.member_of part server).served + 1; fresh = true }) part) {
          involved = part.involved || is_told_class (class_here server);
        })
    by true = record { home = refl; superior = refl; asked = refl; outcome = refl; log = refl; begun = refl }
    by false = record { home = refl; superior = refl; asked = refl; outcome = refl; log = refl; begun = refl }

-- one more was sent
sent_plain : (to : NodeNo) (part : Participant) → IsPlain part (participant.sent to part)
sent_plain to part = by ((Rattle.qs_engage.specs.Engage.peer_of part.engage to).sent == last_number)
  where
    by : (b : Bool) → IsPlain part (record part {
      engage = if b then part.engage
          else Rattle.qs_engage.specs.Engage.with_peer to (record (Rattle.qs_engage.specs.Engage.peer_of part.engage to) { sent = (Rattle.qs_engage.specs.Engage.peer_of part.engage to).sent + 1 }) part.engage;
      involved = true;
    })
    by true = record { home = refl; superior = refl; asked = refl; outcome = refl; log = refl; begun = refl }
    by false = record { home = refl; superior = refl; asked = refl; outcome = refl; log = refl; begun = refl }

module _ (P Q : Tid → Bool) (R : NodeNo → Bool) (me : NodeNo) (nodes : ℕ) (I : Work → Type 0) (reads : Reads P Q R me nodes I) (keeps : Keeps P Q R me nodes I) where
  pub fold_walk : {X : Type 0} (f : Work → X → Work) → ((work : Work) (x : X) → I work → I (f work x)) → (xs : List X) (work : Work) → I work → I (fold f work xs)
  fold_walk f each [] work i = i
  fold_walk f each (x ∷ xs) work i = fold_walk f each xs (f work x) (each work x i)

  pub if_walk : (b : Bool) {new other : Work} → (b ≡ true → I new) → (b ≡ false → I other) → I (if b then new else other)
  if_walk true first second = first refl
  if_walk false first second = second refl

  -- the node itself
  pub here_home : (tid : Tid) (b : Bool) (work : Work) → I work → same_node tid.home (here work) ≡ b → same_node tid.home me ≡ b
  here_home tid b work i is = ap (λ (n : NodeNo). same_node tid.home n) (sym (reads.here work i)) ∙ is

  pub sends_walk : (to : List NodeNo) (message : Message) (work : Work) → ((node : NodeNo) → fits P Q nodes me node message ≡ true) → I work → I (send_each to message work)
  sends_walk to message work fit i = fold_walk (send_next message) (λ w node j. keeps.send node message w (λ low. fit node) j) to work i

  -- ---- requests that are issued, and their replies

  enqueue_walk : (server : ServerNo) (delivery : Delivery) (work : Work) → Q delivery.tid ≡ true → I work → I (enqueue server delivery work)
  enqueue_walk server delivery work its i = if_walk (is_for server delivery.op) (λ is. keeps.enqueue server delivery work its i) (λ is. i)

  enter_issue_walk : (tid : Tid) (request : Outstanding) (op : Op) (work : Work) → I work → I (enter_issue tid request op work)
  enter_issue_walk tid request op work i = keeps.part tid (participant.issued request) _ (λ part. record { home = refl; superior = refl; asked = refl; outcome = refl; log = refl; begun = refl }) (keeps.enter _ work i)

  ask_on_walk : (b : Bool) (tid : Tid) (to : NodeNo) (work : Work) → Q tid ≡ true → I work → I (ask_on b tid to work)
  ask_on_walk false tid to work its i = i
  ask_on_walk true tid to work its i = keeps.send to (messages.AskVote tid) work (λ low. its) i

  node_itself : (node : NodeNo) → same_node node node ≡ true
  node_itself node = grind (arith, nat_tests)

  pub issue_as_walk : (tid : Tid) (request : Outstanding) (op : Op) (work : Work) → Q tid ≡ true → is_for request.member.server op ≡ true → I work → I (issue_as tid request op work)
  issue_as_walk tid request op work its own i = if_walk (same_node request.member.node (here work))
      (λ is. enqueue_walk request.member.server (record { tid = tid; from = here work; number = request.number; op = op; stale = false }) (with_local tid request.number entered) its (keeps.local tid request.number entered issued))
      (λ is. ask_on_walk (is_asked tid work) tid request.member.node _ its (keeps.send request.member.node _ sent (λ low. fit) (keeps.part tid (participant.sent request.member.node) entered (sent_plain request.member.node) issued)))
    where
      entered : Work
      entered = enter_issue tid request op work

      sent : Work
      sent = with_manager (tm.sent tid request.member.node) entered

      issued : I entered
      issued = enter_issue_walk tid request op work i

      fit : (Q tid && (is_for request.member.server op && same_node request.member.node request.member.node)) ≡ true
      fit = both_and (Q tid) _ its (both_and (is_for request.member.server op) _ own (node_itself request.member.node))

  pub issue_walk : (tid : Tid) (issuer : ServerNo) (member : Member) (op : Op) (number : ℕ) (work : Work) → Q tid ≡ true → is_for member.server op ≡ true → I work → I (issue tid issuer member op number work)
  issue_walk tid issuer member op changes work its own i = by (next_number tid member.node work)
    where
      by : (o : Option ℕ) → I (elim o [ None ↦ work | Some number ↦ issue_as tid (record { issuer = issuer; member = member; number = number; count = changes }) op work ])
      by None = i
      by (Some number) = issue_as_walk tid (record { issuer = issuer; member = member; number = number; count = changes }) op work its own i

  take_reply_walk : (tid : Tid) (reply : Reply) (request : Outstanding) (work : Work) → I work → I (take_reply tid reply request work)
  take_reply_walk tid reply request work i = if_walk (is_by_files request)
      (λ is. keeps.part tid (participant.note_served request.count) work (λ part. record { home = refl; superior = refl; asked = refl; outcome = refl; log = refl; begun = refl }) i)
      (λ is. if_walk (waits_as tid request.member request.number (lookup (is_at (client_cmp (client_of request.issuer))) work.node.commands)) (λ is. keeps.answer (client_of request.issuer) _ work i) (λ is. i))

  pub reply_came_walk : (tid : Tid) (member : Member) (number : ℕ) (reply : Reply) (work : Work) → I work → I (reply_came tid member number reply work)
  reply_came_walk tid member number reply work i = by (waiting_at tid member number work)
    where
      by : (o : Option Outstanding) → I (elim o [ None ↦ work | Some request ↦ take_reply tid reply request (with_manager (tm.drop_waiting tid member number) work) ])
      by None = i
      by (Some request) = take_reply_walk tid reply request (with_manager (tm.drop_waiting tid member number) work)
          (keeps.part tid (participant.drop_waiting member number) work (λ part. record { home = refl; superior = refl; asked = refl; outcome = refl; log = refl; begun = refl }) i)

  -- ---- requests that come

  met_walk : (tid : Tid) (work : Work) → Q tid ≡ true → I work → I (met tid work)
  met_walk tid work its i = if_walk (same_node tid.home (here work)) (λ is. i) (λ is. keeps.meet tid work its (here_home tid false work i is) i)

  cover_walk : (engaged : Engaged) (tid : Tid) (peer : NodeNo) (number : ℕ) (work : Work) → Q tid ≡ true → I work → I (cover_from engaged tid peer number work)
  cover_walk engagements.Superior tid peer number work its i = i
  cover_walk engagements.Elsewhere tid peer number work its i = keeps.send peer (messages.Covered tid number) work (λ low. its) i

  engage_walk : (tid : Tid) (peer : NodeNo) (number : ℕ) (work : Work) → Q tid ≡ true → R peer ≡ true → I work → I (engage tid peer number work)
  engage_walk tid peer number work its met_it i = cover_walk (tm.engaged_at tid peer (met tid work).node.manager) tid peer number _ its (keeps.request tid peer number (met tid work) its met_it (met_walk tid work its i))

  learn_label_walk : (label : List ℕ) (tid : Tid) (work : Work) → Q tid ≡ true → I work → I (learn_label label tid work)
  learn_label_walk label tid work its i = if_walk (is_none (label_at label work.node)) (λ is. keeps.learn_label label tid work its i) (λ is. i)

  take_in_walk : (dropped : Bool) (member : Member) (delivery : Delivery) (work : Work) → Q delivery.tid ≡ true → I work → I (take_in dropped member delivery work)
  take_in_walk true member delivery work its i = i
  take_in_walk false member delivery work its i = enqueue_walk member.server delivery work its i

  pub request_came_walk : (peer : NodeNo) (tid : Tid) (label : List ℕ) (member : Member) (number : ℕ) (op : Op) (work : Work) → Q tid ≡ true → R peer ≡ true → I work → I (request_came peer tid label member number op work)
  request_came_walk peer tid label member number op work its met_it i =
      take_in_walk (is_dropped (same_node tid.home (here work)) (part_of tid work)) member (record { tid = tid; from = peer; number = number; op = op; stale = false }) (engage tid peer number (learn_label label tid work)) its
      (engage_walk tid peer number (learn_label label tid work) its met_it (learn_label_walk label tid work its i))

  -- ---- requests that are served

  change_served_walk : (server : ServerNo) (tid : Tid) (op : Op) (reply : Reply) (work : Work) → I work → I (change_served server tid op reply work)
  change_served_walk server tid op reply work i = if_walk (is_client server) (λ is. i) (λ is. keeps.serve server (λ value. after_serving value tid op reply) work (λ value. serving_kind value tid op reply) i)

  enter_serve_walk : (server : ServerNo) (delivery : Delivery) (reply : Reply) (work : Work) → I work → I (enter_serve server delivery reply work)
  enter_serve_walk server delivery reply work i =
      keeps.enter _ _ (keeps.part delivery.tid (participant.served server) _ (served_plain server)
      (keeps.doing delivery.tid (λ doings. record doings { served = true }) _ (λ doings is. is) (change_served_walk server delivery.tid delivery.op reply work i)))

  make_loan_walk : (tid : Tid) (client : Option ClientNo) (work : Work) → Q tid ≡ true → I work → I (make_loan tid client work)
  make_loan_walk tid None work its i = i
  make_loan_walk tid (Some client) work its i = keeps.enter _ _ (keeps.lend tid client work its i)

  give_reply_walk : (member : Member) (delivery : Delivery) (reply : Reply) (work : Work) → Q delivery.tid ≡ true → I work → I (give_reply member delivery reply work)
  give_reply_walk member delivery reply work its i = if_walk (same_node delivery.from (here work)) (λ is. reply_came_walk delivery.tid member delivery.number reply work i)
      (λ is. if_walk delivery.stale (λ is. i) (λ is. keeps.send delivery.from (messages.Answered delivery.tid member delivery.number reply) work (λ low. its) i))

  serve_walk : (server : ServerNo) (delivery : Delivery) (reply : Reply) (work : Work) → Q delivery.tid ≡ true → I work → I (serve server delivery reply work)
  serve_walk server delivery reply work its i =
      give_reply_walk (member_here work server) delivery reply (make_loan delivery.tid (lent_to delivery.op) (enter_serve server delivery reply work))
      its (make_loan_walk delivery.tid (lent_to delivery.op) (enter_serve server delivery reply work) its (enter_serve_walk server delivery reply work i))

  serve_or_drop_walk : (server : ServerNo) (delivery : Delivery) (work : Work) → Q delivery.tid ≡ true → I work → I (serve_or_drop server delivery work)
  serve_or_drop_walk server delivery work its i = if_walk (may_serve delivery.tid work) (λ is. by (reply_here server delivery.tid delivery.op work.node)) (λ is. i)
    where
      by : (o : Option Reply) → I (elim o [ None ↦ work | Some reply ↦ serve server delivery reply work ])
      by None = i
      by (Some reply) = serve_walk server delivery reply work its i

  serve_next_walk : (work : Work) (server : ServerNo) → I work → I (serve_next work server)
  serve_next_walk work server i = by (ipc.next server work.node.queues) refl
    where
      by : (o : Option Delivery) → ipc.next server work.node.queues ≡ o → I (elim o [ None ↦ work | Some delivery ↦ serve_or_drop server delivery (with_queues (ipc.after_next server) work) ])
      by None none = i
      by (Some delivery) is = serve_or_drop_walk server delivery (with_queues (ipc.after_next server) work) (reads.waiting server delivery work i is) (keeps.next server work i)

  pub serve_all_walk : (work : Work) → I work → I (serve_all work)
  serve_all_walk work i = fold_walk serve_next serve_next_walk (ipc.turns work.node.queues) work i

  -- ---- asking, counting and refusing

  pub undecided_walk : (tid : Tid) (rule : Participant → Work → Work) (work : Work) → ((part : Participant) → part_of tid work ≡ Some part → is_undecided part ≡ true → I (rule part work)) → I work → I (where_undecided tid rule work)
  undecided_walk tid rule work each i = by (part_of tid work) refl
    where
      by : (o : Option Participant) → part_of tid work ≡ o → I (elim o [ None ↦ work | Some part ↦ if is_undecided part then rule part work else work ])
      by None none = i
      by (Some part) known = if_walk (is_undecided part) (λ is. each part known is) (λ is. i)

  pub become_asked_walk : (tid : Tid) (part : Participant) (work : Work) → Q tid ≡ true → I work → I (become_asked tid part work)
  become_asked_walk tid part work its i = sends_walk (listed (uncovered part.engage)) (messages.AskVote tid) _ (λ node. its) (keeps.ask tid work its i)

  pub ask_came_walk : (peer : NodeNo) (tid : Tid) (work : Work) → I work → I (ask_came peer tid work)
  ask_came_walk peer tid work i = undecided_walk tid (asked_by peer tid) work
      (λ part known open_now. if_walk (is_node peer part.engage.superior && (not part.engage.home && not part.asked))
      (λ is. become_asked_walk tid part work (from part known part.engage.superior refl (and_both (is_node peer part.engage.superior) _ is).0) i) (λ is. i)) i
    where
      from : (part : Participant) → part_of tid work ≡ Some part → (o : Option NodeNo) → part.engage.superior ≡ o → is_node peer o ≡ true → Q tid ≡ true
      from part known (Some superior) its is = reads.engaged tid part superior work i known its
      from part known None none is = absurd (cc (is))

  pub closer_came_walk : (peer : NodeNo) (tid : Tid) (up_to : ℕ) (told : List NodeNo) (work : Work) → I work → I (closer_came peer tid up_to told work)
  closer_came_walk peer tid up_to told work i = undecided_walk tid (λ part. count peer tid up_to told) work (λ part known open_now. keeps.enter _ _ (keeps.part tid (participant.counted tid.home peer up_to told) work (λ part. record { home = refl; superior = refl; asked = refl; outcome = refl; log = refl; begun = refl }) i)) i

  pub block_walk : (tid : Tid) (cause : Cause) (work : Work) → I work → I (block tid cause work)
  block_walk tid cause work i =
      keeps.part tid (participant.add_cause cause) (with_manager (tm.refused tid) work) (λ part. record { home = refl; superior = refl; asked = refl; outcome = refl; log = refl; begun = refl })
      (keeps.part tid participant.refused work (λ part. record { home = refl; superior = refl; asked = refl; outcome = refl; log = refl; begun = refl }) i)

  pub refusal_came_walk : (tid : Tid) (cause : Cause) (work : Work) → (P tid && nat_lt tid.home.0 nodes) ≡ true → I work → I (refusal_came tid cause work)
  refusal_came_walk tid cause work fit i = by (part_of tid work)
    where
      by : (o : Option Participant) → I (elim o [ None ↦ pass_unknown tid cause work | Some part ↦ if is_undecided part then block tid cause work else work ])
      by None = if_walk (same_node tid.home (here work)) (λ is. i) (λ is. keeps.send tid.home (messages.VotedAbort tid cause) work (λ low. fit) i)
      by (Some part) = if_walk (is_undecided part) (λ is. block_walk tid cause work i) (λ is. i)
