-- What a served request changes of its own transaction: one count, and no outcome.
use Rattle.qs_world_refine.proofs.Words.{◌≡◌, ◌≢◌, ℕ, ◌+◌, ◌<◌, ◌==◌, ◌||◌, Bool, true, false, [], ◌∷◌, ◌++◌, length, Option, Some, None, refl, ap, ◌∙◌, if◌then◌else◌, lookup, remove_entry, is_at, get_or-set_other, tid_cmp, ClientNo, Member, ServerNo, Tid, last_number, same_node, Delivery, answer_of, after_serving, Answer, Reply, Message, is_client, client_of, no_member, is_told_class, class_here, member_of, with_member, is_by_files, MemberPart, Outstanding, Participant, is_other, send}
use Rattle.qs_world_refine.proofs.Words.{member_here, answer, reply_came, take_reply, answer_issuer, waits_as, enter_serve, lent_to, make_loan, give_reply, serve, Work, here, part_of, with_manager, with_doings, change_server, client_cmp, OpenCommand, server_no}
use Rattle.std.proofs.lemmas.List.{get_or-set_same}
use Rattle.qs_book_journal.specs.declared.entry.Act.TheVariants as acts
use Rattle.qs_packet.specs.declared.message.Message.TheVariants as messages
use Rattle.qs_tm.specs.Manager as tm
use Rattle.qs_tm.specs.Participant as participant
use Rattle.qs_node_step.specs.Requests.{waiting_at}
use Rattle.qs_world_refine.proofs.Maps.{lookup_changed}

-- its counts stay, and so do its outcome and whom it answers to; nothing is logged
pub record KeepsCounts (tid : Tid) (work new : Work) (part : Participant) : Type 0 where
  pub next : Participant
  pub known : part_of tid new ≡ Some next
  pub members : next.members ≡ part.members
  pub outcome : next.outcome ≡ part.outcome
  pub superior : next.engage.superior ≡ part.engage.superior
  pub prepared : next.log.prepared ≡ part.log.prepared
  pub queues : new.node.queues ≡ work.node.queues
  pub records : new.out.records ≡ work.out.records

abbrev KeepCounts : Tid → Work → Work → Type 0
KeepCounts tid work new = (part : Participant) → part_of tid work ≡ Some part → KeepsCounts tid work new part

counts_itself : (tid : Tid) (work : Work) → KeepCounts tid work work
counts_itself tid work part known = record { next = part; known = known; members = refl; outcome = refl; superior = refl; prepared = refl; queues = refl; records = refl }

counts_on : (tid : Tid) (a b c : Work) → KeepCounts tid a b → KeepCounts tid b c → KeepCounts tid a c
counts_on tid a b c first second part known =
    let one = first part known in
    let two = second one.next one.known in
    record {
      next = two.next;
      known = two.known;
      members = two.members ∙ one.members;
      outcome = two.outcome ∙ one.outcome;
      superior = two.superior ∙ one.superior;
      prepared = two.prepared ∙ one.prepared;
      queues = two.queues ∙ one.queues;
      records = two.records ∙ one.records;
    }

counts_changed : (tid : Tid) (f : Participant → Participant) (work : Work) → ((part : Participant) → (f part).members ≡ part.members) → ((part : Participant) → (f part).outcome ≡ part.outcome) → ((part : Participant) → (f part).engage.superior ≡ part.engage.superior)
    → ((part : Participant) → (f part).log.prepared ≡ part.log.prepared) → KeepCounts tid work (with_manager (tm.with_part tid f) work)
counts_changed tid f work members outcome superior prepared part known = record {
  next = f part;
  known = lookup_changed (is_at (tid_cmp tid)) f work.node.manager.known part known;
  members = members part;
  outcome = outcome part;
  superior = superior part;
  prepared = prepared part;
  queues = refl;
  records = refl;
}

counts_sent : (tid : Tid) (to : Rattle.qs_base.specs.declared.identifiers.NodeNo.NodeNo) (message : Message) (work : Work) → KeepCounts tid work (send to message work)
counts_sent tid to message work = by (is_other work.node.setting to)
  where
    by : (b : Bool) → KeepCounts tid work (if b then record work { out = record work.out { messages = work.out.messages ++ record { to = to; message = message } ∷ [] } } else work)
    by true part known = record { next = part; known = known; members = refl; outcome = refl; superior = refl; prepared = refl; queues = refl; records = refl }
    by false part known = counts_itself tid work part known

counts_answer : (tid : Tid) (client : ClientNo) (said : Answer) (work : Work) → KeepCounts tid work (answer client said work)
counts_answer tid client said work = by (lookup (is_at (client_cmp client)) work.node.commands)
  where
    by : (o : Option OpenCommand) → KeepCounts tid work (elim o [
      | None ↦ work
      | Some command ↦ record work {
        node = record work.node { commands = remove_entry (is_at (client_cmp client)) work.node.commands };
        out = record work.out {
          answers = work.out.answers ++ record { client = client; answer = record { line = command.line.line; answer = said } } ∷ [];
          entries = work.out.entries ++ acts.Answer client command.line.line said ∷ [];
        };
      }
    ])
    by None part known = counts_itself tid work part known
    by (Some command) part known = record { next = part; known = known; members = refl; outcome = refl; superior = refl; prepared = refl; queues = refl; records = refl }

pub reply_counts : (tid : Tid) (member : Member) (number : ℕ) (reply : Reply) (work : Work) → KeepCounts tid work (reply_came tid member number reply work)
reply_counts tid member number reply work = by (waiting_at tid member number work)
  where
    dropped : Work
    dropped = with_manager (tm.drop_waiting tid member number) work

    answered : (request : Outstanding) (b : Bool) → KeepCounts tid dropped (if b then answer (client_of request.issuer) (answer_of reply) dropped else dropped)
    answered request true = counts_answer tid (client_of request.issuer) (answer_of reply) dropped
    answered request false = counts_itself tid dropped

    taken : (request : Outstanding) (b : Bool) → KeepCounts tid dropped (if b then with_manager (tm.note_served tid request.count) dropped else answer_issuer tid request.member request.number reply (client_of request.issuer) dropped)
    taken request true = counts_changed tid (participant.note_served request.count) dropped (λ part. refl) (λ part. refl) (λ part. refl) (λ part. refl)
    taken request false = answered request (waits_as tid request.member request.number (lookup (is_at (client_cmp (client_of request.issuer))) dropped.node.commands))

    by : (o : Option Outstanding) → KeepCounts tid work (elim o [ None ↦ work | Some request ↦ take_reply tid reply request dropped ])
    by None = counts_itself tid work
    by (Some request) = counts_on tid work dropped (take_reply tid reply request dropped) (counts_changed tid (participant.drop_waiting member number) work (λ part. refl) (λ part. refl) (λ part. refl) (λ part. refl)) (taken request (is_by_files request))

-- ---- what is counted as it is served

module _ (server : ServerNo) (part : Participant) where
  pub served_outcome : (participant.served server part).outcome ≡ part.outcome
  served_outcome = by ((member_of part server).served == last_number)
    where
      by : (b : Bool) → (if b then part else record (with_member server (record (member_of part server) { served = (member_of part server).served + 1; fresh = true }) part) { involved = part.involved || is_told_class (class_here server) }).outcome ≡ part.outcome
      by true = refl
      by false = refl

  pub served_superior : (participant.served server part).engage.superior ≡ part.engage.superior
  served_superior = by ((member_of part server).served == last_number)
    where
      by : (b : Bool) → (if b then part else record (with_member server (record (member_of part server) { served = (member_of part server).served + 1; fresh = true }) part) { involved = part.involved || is_told_class (class_here server) }).engage.superior ≡ part.engage.superior
      by true = refl
      by false = refl

  pub served_prepared : (participant.served server part).log.prepared ≡ part.log.prepared
  served_prepared = by ((member_of part server).served == last_number)
    where
      by : (b : Bool) → (if b then part else record (with_member server (record (member_of part server) { served = (member_of part server).served + 1; fresh = true }) part) { involved = part.involved || is_told_class (class_here server) }).log.prepared ≡ part.log.prepared
      by true = refl
      by false = refl

  -- at another server it counts as before
  pub served_other : (r : ℕ) → r ≢ server.0 → member_of (participant.served server part) (server_no r) ≡ member_of part (server_no r)
  served_other r other = by ((member_of part server).served == last_number)
    where
      by : (b : Bool) → member_of (if b then part else record (with_member server (record (member_of part server) { served = (member_of part server).served + 1; fresh = true }) part) { involved = part.involved || is_told_class (class_here server) }) (server_no r) ≡ member_of part (server_no r)
      by true = refl
      by false = get_or-set_other part.members server.0 r (record (member_of part server) { served = (member_of part server).served + 1; fresh = true }) no_member other

  pub served_here : server.0 < length part.members → ((member_of part server).served == last_number) ≡ false → (member_of (participant.served server part) server).served ≡ (member_of part server).served + 1
  served_here below left = by ((member_of part server).served == last_number) left
    where
      by : (b : Bool) → b ≡ false → (member_of (if b then part else record (with_member server (record (member_of part server) { served = (member_of part server).served + 1; fresh = true }) part) { involved = part.involved || is_told_class (class_here server) }) server).served ≡ (member_of part server).served + 1
      by true is = absurd (cc is)
      by false is = ap (λ (m : MemberPart). m.served) (get_or-set_same part.members server.0 (record (member_of part server) { served = (member_of part server).served + 1; fresh = true }) no_member below)

module _ (server : ServerNo) (d : Delivery) (reply : Reply) (work : Work) (part : Participant) (known : part_of d.tid work ≡ Some part) where
  entered_known : part_of d.tid (enter_serve server d reply work) ≡ Some (participant.served server part)
  entered_known = by (is_client server)
    where
      by : (b : Bool) → part_of d.tid (with_manager (tm.served d.tid server) (with_doings d.tid (λ doings. record doings { served = true }) (if b then work else change_server server (λ value. after_serving value d.tid d.op reply) work))) ≡ Some (participant.served server part)
      by true = lookup_changed (is_at (tid_cmp d.tid)) (participant.served server) work.node.manager.known part known
      by false = lookup_changed (is_at (tid_cmp d.tid)) (participant.served server) work.node.manager.known part known

  entered_queues : (enter_serve server d reply work).node.queues ≡ work.node.queues
  entered_queues = by (is_client server)
    where
      by : (b : Bool) → (if b then work else change_server server (λ value. after_serving value d.tid d.op reply) work).node.queues ≡ work.node.queues
      by true = refl
      by false = refl

  entered_records : (enter_serve server d reply work).out.records ≡ work.out.records
  entered_records = by (is_client server)
    where
      by : (b : Bool) → (if b then work else change_server server (λ value. after_serving value d.tid d.op reply) work).out.records ≡ work.out.records
      by true = refl
      by false = refl

  loan_counts : (o : Option ClientNo) (some : Work) → KeepCounts d.tid some (make_loan d.tid o some)
  loan_counts None some part known = counts_itself d.tid some part known
  loan_counts (Some client) some part known = record { next = part; known = known; members = refl; outcome = refl; superior = refl; prepared = refl; queues = refl; records = refl }

  replied_counts : (member : Member) (some : Work) → KeepCounts d.tid some (give_reply member d reply some)
  replied_counts member some = by (same_node d.from (here some)) d.stale
    where
      by : (a b : Bool) → KeepCounts d.tid some (if a then reply_came d.tid member d.number reply some else if b then some else send d.from (messages.Answered d.tid member d.number reply) some)
      by true b = reply_counts d.tid member d.number reply some
      by false true = counts_itself d.tid some
      by false false = counts_sent d.tid d.from (messages.Answered d.tid member d.number reply) some

  after : KeepsCounts d.tid (enter_serve server d reply work) (serve server d reply work) (participant.served server part)
  after = counts_on d.tid (enter_serve server d reply work) (make_loan d.tid (lent_to d.op) (enter_serve server d reply work)) (serve server d reply work)
      (loan_counts (lent_to d.op) (enter_serve server d reply work)) (replied_counts (member_here work server) (make_loan d.tid (lent_to d.op) (enter_serve server d reply work))) (participant.served server part) entered_known

  pub serve_counts : KeepsCounts d.tid work (serve server d reply work) (participant.served server part)
  serve_counts = record {
    next = after.next;
    known = after.known;
    members = after.members;
    outcome = after.outcome;
    superior = after.superior;
    prepared = after.prepared;
    queues = after.queues ∙ entered_queues;
    records = after.records ∙ entered_records;
  }
