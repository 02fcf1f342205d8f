-- A whole step keeps to the rules of clients: what comes, serving, settling, and the commands that stayed open.
use Rattle.std.proofs.Common.{◌≡◌, ℕ, Bool, true, false, List, [], ◌∷◌, ◌++◌, Option, Some, None, is_none, inl, inr, refl, sym, ap, subst, fold}
use Rattle.std.specs.Prelude.{if◌then◌else◌}
use Rattle.std.specs.BTreeMap.{is_at}
use Rattle.std.specs.Map.{lookup}
use Rattle.std.proofs.lemmas.Cmp.{nat_cmp_total, tied_itself}
use Rattle.qs_base.specs.declared.identifiers.ClientNo.{ClientNo}
use Rattle.qs_base.specs.declared.identifiers.Member.{Member}
use Rattle.qs_base.specs.declared.identifiers.NodeNo.{NodeNo}
use Rattle.qs_base.specs.declared.identifiers.Outcome.TheVariants as outcomes
use Rattle.qs_base.specs.declared.identifiers.ServerNo.{ServerNo}
use Rattle.qs_base.specs.declared.identifiers.Tid.{Tid}
use Rattle.qs_base_lemmas.proofs.Tests.{none_is}
use Rattle.qs_engage.specs.Nodes.{same_node}
use Rattle.qs_ipc.specs.Ipc as ipc
use Rattle.qs_ipc.specs.declared.delivery.Delivery.{Delivery}
use Rattle.qs_ops.specs.Operations.{answer_of}
use Rattle.qs_ops.specs.Server.{after_serving}
use Rattle.qs_ops.specs.declared.answer.Cause.{Cause}
use Rattle.qs_ops.specs.declared.operation.Op.{Op}
use Rattle.qs_ops.specs.declared.reply.Reply.{Reply}
use Rattle.qs_book_journal.specs.declared.entry.Act.TheVariants as acts
use Rattle.qs_book_journal.specs.declared.entry.Entry.{Entry}
use Rattle.qs_book_journal.specs.declared.script_line.ScriptLine.{ScriptLine}
use Rattle.qs_book_laws.proofs.Maps.{lookup_put}
use Rattle.qs_book_conformance.specs.Course.{CourseValue}
use Rattle.qs_node_kept.specs.Keeping.{with_now}
use Rattle.qs_node_servers.specs.Servers.{client_of, is_client, with_server}
use Rattle.qs_node_step.specs.Bringing.{enter, member_here, send}
use Rattle.qs_node_step.specs.Deciding.{decide}
use Rattle.qs_node_step.specs.Requests.{answer_issuer, is_issued_as, reply_came, take_reply, waiting_at, waits_as}
use Rattle.qs_node_step.specs.Restarts.{begin_incarnation}
use Rattle.qs_node_step.specs.Serving.{engage, enter_serve, give_reply, is_dropped, label_at, learn_label, lent_to, make_loan, may_serve, put_label, reply_here, request_came, serve, serve_next, serve_or_drop, take_in}
use Rattle.qs_node_step.specs.Settling.{due_tids, forget_rule, pass_rule, ready_rule, refuse_elsewhere, refuse_home, refuse_rule, settle, settle_tid, try}
use Rattle.qs_node_step.specs.State.{Work, change_server, client_cmp, here, part_of, with_doings, with_manager, work_on}
use Rattle.qs_node_step.specs.Step.{after_step, age_rule, command_came, effects_of, happen, message_came, step_work, tick, wait_on, waiting_clients, with_command}
use Rattle.qs_node_step.specs.declared.event.Event.{Event}
use Rattle.qs_node_step.specs.declared.event.Event.TheVariants as events
use Rattle.qs_node_step.specs.declared.setting.Setting.{Setting}
use Rattle.qs_node_step.specs.declared.state.Issued.{Issued}
use Rattle.qs_node_step.specs.declared.state.OpenCommand.{OpenCommand}
use Rattle.qs_packet.specs.declared.message.Message.{Message}
use Rattle.qs_packet.specs.declared.message.Message.TheVariants as messages
use Rattle.qs_tm.specs.Manager as tm
use Rattle.qs_tm.specs.Participant.{is_by_files, is_undecided}
use Rattle.qs_tm.specs.declared.participant.Outstanding.{Outstanding}
use Rattle.qs_tm.specs.declared.participant.Participant.{Participant}
use Rattle.qs_world.specs.Posting.{entries_of}
use Rattle.qs_world_course.specs.Clients.{IsOnCourse}
use Rattle.qs_world_course.specs.Kinds.{course_on, said}
use Rattle.qs_world_course.specs.Kinds as kinds
use Rattle.qs_world_course.specs.Reasons.{IsUnseen}
use Rattle.qs_world_lawful.specs.Entering.{entries_so_far}
use Rattle.qs_world_lawful.specs.StepKeeps.{entered_by}
use Rattle.qs_world_lawful.proofs.SameSetting.{step_same}
use Rattle.qs_world_walk.specs.Deed.{closed, fresh_command, left, lent, loan_entered, served, taken_reply, ticked_work, waiting}
use Rattle.qs_world_walk.specs.May.{IsOpen, MayServe}
use Rattle.qs_world_walk.specs.Walked.{AtEach, done_work}
use Rattle.qs_world_walk.proofs.First.{sent_is}
use Rattle.qs_world_walk.proofs.Rules.{waiting_is}
use Rattle.qs_world_walk.proofs.Shapes as shapes
use Rattle.qs_world_said.specs.Amid.{AreAmid, IsAmid, IsSaidSo, NoneCameIsOn, clients_at, course_amid}
use Rattle.qs_world_said.specs.Deeds.{Knows}
use Rattle.qs_world_said.specs.Knows.{IsNewLabel, KnowsAtStage}
use Rattle.qs_world_said.specs.Steps.{HasFound, KnowsComing, KnowsEvent, KnowsMessage, KnowsReplying, KnowsServe, KnowsServing, StepKeepsSaid}
use Rattle.qs_world_said.proofs.Comes.{comes_just, comes_keeps, learns_keeps}
use Rattle.qs_world_said.proofs.Quiet as quiet
use Rattle.qs_world_said.proofs.QuietMessages as heard
use Rattle.qs_world_said.proofs.Serves.{replies_keep, serves_away_keep, serves_keep}
use Rattle.qs_world_said.proofs.StepCommands as commanded
use Rattle.qs_world_said.proofs.Unseen.{home_aborts_keep, unseen_keeps}

-- what is served, test by test (as in the walk, where it is not public)
served_is : (server : ServerNo) (delivery : Delivery) (reply : Reply) (work : Work) → served server delivery reply work ≡ make_loan delivery.tid (lent_to delivery.op) (enter_serve server delivery reply (left server work))
served_is server delivery reply work = by (is_client server) (lent_to delivery.op)
  where
    by : (b : Bool) (o : Option ClientNo) → record work {
      node = record work.node {
        queues = ipc.after_next server work.node.queues;
        servers = if b then work.node.servers else with_server server (λ value. after_serving value delivery.tid delivery.op reply) work.node.servers;
        manager = tm.served delivery.tid server work.node.manager;
        kept = with_now (λ kept. record kept { loans = lent delivery.tid work.node.setting.inc o kept.loans }) work.node.kept;
      };
      doings = (with_doings delivery.tid (λ doings. record doings { served = true }) work).doings;
      out = record work.out { entries = loan_entered delivery.tid o (work.out.entries ++ acts.Serve delivery.tid (member_here work server) delivery.from delivery.number reply ∷ []) };
    } ≡ make_loan delivery.tid o (enter (acts.Serve delivery.tid (member_here work server) delivery.from delivery.number reply)
        (with_manager (tm.served delivery.tid server) (with_doings delivery.tid (λ doings. record doings { served = true })
        (if b then left server work else change_server server (λ value. after_serving value delivery.tid delivery.op reply) (left server work)))))
    by true None = refl
    by true (Some client) = refl
    by false None = refl
    by false (Some client) = refl

module _ (stamp : ℕ) (before : CourseValue) where
  abbrev P : Work → Type 0
  P work = IsSaidSo stamp before None work

  abbrev Keeps : Work → Work → Type 0
  Keeps work new = P work → P new

  unseen : (work new : Work) → IsUnseen work new → Keeps work new
  unseen work new u h = unseen_keeps stamp before work new u None h

  -- ---- settling

  settles_tid : (work : Work) (tid : Tid) → HasFound (try tid ready_rule (try tid pass_rule work)) tid → Keeps work (settle_tid work tid)
  settles_tid work tid found h = tried (forget_rule tid) three (λ part running. quiet.forgets P unseen tid part three) (tried (refuse_rule tid) two refused (tried (ready_rule tid) one (λ part running. quiet.readies P unseen tid part one) (tried (pass_rule tid) work (λ part running. quiet.passes P unseen tid part work) h)))
    where
      one : Work
      one = try tid pass_rule work

      two : Work
      two = try tid ready_rule one

      three : Work
      three = try tid refuse_rule two

      tried : (rule : Participant → Work → Work) (w : Work) → ((part : Participant) → IsOpen tid part w → Keeps w (rule part w)) → Keeps w (elim (part_of tid w) [ None ↦ w | Some part ↦ if is_undecided part then rule part w else w ])
      tried rule w each = shapes.open_keeps P tid rule w each

      home_refuses : (part : Participant) → IsOpen tid part two → part.engage.home ≡ true → (cs : List Cause) → part.causes ≡ cs → Keeps two (elim cs [ [] ↦ two | cause ∷ more ↦ decide tid outcomes.Abort (Some cause) two ])
      home_refuses part running home [] is g = g
      home_refuses part running home (cause ∷ more) is g = quiet.decides P unseen tid outcomes.Abort (Some cause) two (home_aborts_keep stamp before two tid cause (found part cause more running home is) None g)

      refused : (part : Participant) → IsOpen tid part two → Keeps two (refuse_rule tid part two)
      refused part running = shapes.if_keeps P part.engage.home (refuse_home tid part two) (refuse_elsewhere tid part two) two (λ home. home_refuses part running home part.causes refl) (λ away. quiet.sends_on P unseen tid part two)

  settles : (tids : List Tid) (work : Work) → AtEach (λ (w : Work) (tid : Tid). HasFound (try tid ready_rule (try tid pass_rule w)) tid) settle_tid work tids → Keeps work (fold settle_tid work tids)
  settles [] work found h = h
  settles (tid ∷ tids) work found h = settles tids (settle_tid work tid) found.1 (settles_tid work tid found.0 h)

  waited : (clients : List ClientNo) (work : Work) → AtEach (λ (w : Work) (client : ClientNo). Knows stamp before w) wait_on work clients → Keeps work (fold wait_on work clients)
  waited [] work knows h = h
  waited (client ∷ clients) work knows h = waited clients (wait_on work client) knows.1 (commanded.waits stamp before client work knows.0 h)

  -- ---- replies

  replied : (tid : Tid) (member : Member) (number : ℕ) (reply : Reply) (work : Work) → KnowsReplying KnowsAtStage stamp before work tid member number reply → Keeps work (reply_came tid member number reply work)
  replied tid member number reply work r = shapes.elim_keeps P (waiting_at tid member number work) work (λ request. take_reply tid reply request dropped) work (λ none h. h)
      (λ request waits. shapes.if_keeps P (is_by_files request) (with_manager (tm.note_served tid request.count) dropped) (answer_issuer tid request.member request.number reply (client_of request.issuer) dropped) work
      (λ is. quiet.left P unseen work (with_manager (tm.note_served tid request.count) dropped) refl refl refl refl refl)
      (λ is. answers request (lookup (is_at (client_cmp (client_of request.issuer))) work.node.commands) refl))
    where
      dropped : Work
      dropped = taken_reply tid member number work

      lost : Keeps work dropped
      lost = quiet.left P unseen work dropped refl refl refl refl refl

      gives : (request : Outstanding) (command : OpenCommand) → lookup (is_at (client_cmp (client_of request.issuer))) work.node.commands ≡ Some command → (o : Option Issued) → command.issued ≡ o
          → (elim o [ None ↦ false | Some issued ↦ is_issued_as tid request.member request.number issued ]) ≡ true → Keeps work (closed (client_of request.issuer) command (answer_of reply) dropped)
      gives request command there None is its h = absurd (cc its)
      gives request command there (Some issued) is its h = replies_keep stamp before work tid member number request command issued reply r.knows there is (r.gave request command issued there is its) None (λ other came. absurd (cc came)) h

      answers : (request : Outstanding) (o : Option OpenCommand) → lookup (is_at (client_cmp (client_of request.issuer))) work.node.commands ≡ o
          → Keeps work (if waits_as tid request.member request.number o then elim o [ None ↦ dropped | Some c ↦ closed (client_of request.issuer) c (answer_of reply) dropped ] else dropped)
      answers request None there = lost
      answers request (Some command) there = shapes.if_keeps P (waits_as tid request.member request.number (Some command)) (closed (client_of request.issuer) command (answer_of reply) dropped) dropped work
          (λ its. gives request command there command.issued refl its) (λ its. lost)

  -- ---- serving

  serves : (work : Work) (server : ServerNo) → KnowsServing KnowsAtStage stamp before work server → Keeps work (serve_next work server)
  serves work server knows = shapes.elim_keeps P (ipc.next server work.node.queues) work (λ delivery. serve_or_drop server delivery (left server work)) work (λ none h. h)
      (λ delivery next. shapes.if_keeps P (may_serve delivery.tid (left server work)) (elim (reply_here server delivery.tid delivery.op (left server work).node) [ None ↦ left server work | Some reply ↦ serve server delivery reply (left server work) ]) (left server work) work
      (λ may. shapes.elim_keeps P (reply_here server delivery.tid delivery.op (left server work).node) (left server work) (λ reply. serve server delivery reply (left server work)) work (λ none. drops)
      (λ reply says. served_so delivery reply (record { first = next; runs = may; says = says })))
      (λ may. drops))
    where
      drops : Keeps work (left server work)
      drops = quiet.left P unseen work (left server work) refl refl refl refl refl

      served_so : (delivery : Delivery) (reply : Reply) → MayServe server delivery reply work → Keeps work (serve server delivery reply (left server work))
      served_so delivery reply may h = subst (λ (w : Work). P (give_reply member delivery reply w)) (served_is server delivery reply work) (given h)
        where
          kn : KnowsServe KnowsAtStage stamp before work server delivery reply
          kn = knows delivery reply may

          made : Work
          made = served server delivery reply work

          member : Member
          member = member_here work server

          answered : Message
          answered = messages.Answered delivery.tid member delivery.number reply

          stays : Keeps work made
          stays g = serves_keep stamp before work server delivery reply kn.knows kn.sits None g

          given : Keeps work (give_reply member delivery reply made)
          given = shapes.if_keeps P (same_node delivery.from (here made)) (reply_came delivery.tid member delivery.number reply made) (if delivery.stale then made else send delivery.from answered made) work
              (λ own g. replied delivery.tid member delivery.number reply made (kn.replies own) (stays g))
              (λ far. shapes.if_keeps P delivery.stale made (send delivery.from answered made) work (λ stale. stays)
              (λ live g. sent_is P delivery.from answered made (serves_away_keep stamp before work server delivery reply kn.knows kn.sits None g)))

  serves_all : (servers : List ServerNo) (work : Work) → AtEach (KnowsServing KnowsAtStage stamp before) serve_next work servers → Keeps work (fold serve_next work servers)
  serves_all [] work knows h = h
  serves_all (server ∷ servers) work knows h = serves_all servers (serve_next work server) knows.1 (serves work server knows.0 h)

  -- ---- what comes

  requested : (peer : NodeNo) (tid : Tid) (label : List ℕ) (member : Member) (number : ℕ) (op : Op) (work : Work) → (label_at label work.node ≡ None → IsNewLabel (course_amid stamp before work) work.node label) → Keeps work (request_came peer tid label member number op work)
  requested peer tid label member number op work new h = taken (is_dropped (same_node tid.home (here work)) (part_of tid work)) (heard.engages P unseen tid peer number (learn_label label tid work) learnt)
    where
      learnt : P (learn_label label tid work)
      learnt = shapes.if_keeps P (is_none (label_at label work.node)) (put_label (record { label = label; tid = Some tid; owner = None }) work) work work
          (λ none. learns_keeps stamp before work label tid (new (none_is (label_at label work.node) none)) None) (λ known g. g) h

      engaged : Work
      engaged = engage tid peer number (learn_label label tid work)

      delivery : Delivery
      delivery = record { tid = tid; from = peer; number = number; op = op; stale = false }

      taken : (b : Bool) → Keeps engaged (take_in b member delivery engaged)
      taken true g = g
      taken false g = waiting_is P member.server delivery engaged (quiet.left P unseen engaged (waiting member.server delivery engaged) refl refl refl refl refl g)

  message : (peer : NodeNo) (m : Message) (work : Work) → KnowsMessage KnowsAtStage stamp before work m → Keeps work (message_came peer m work)
  message peer messages.Hello work knows h = h
  message peer (messages.Request tid label member number issuer op) work knows h = requested peer tid label member number op work knows h
  message peer (messages.Answered tid member number reply) work knows h = replied tid member number reply work knows h
  message peer (messages.AskVote tid) work knows h = heard.asks P unseen peer tid work h
  message peer (messages.Covered tid up_to) work knows h = heard.counts P unseen peer tid up_to [] work h
  message peer (messages.VotedYes tid up_to told) work knows h = heard.counts P unseen peer tid up_to told work h
  message peer (messages.VotedAbort tid cause) work knows h = heard.refuses P unseen tid cause work h
  message peer (messages.Tell tid outcome) work knows h = heard.tells P unseen peer tid outcome work h
  message peer (messages.Told tid further) work knows h = heard.are_told P unseen peer tid further work h
  message peer (messages.Inquire tid) work knows h = heard.inquires P unseen peer tid work h

  comes : (line : ScriptLine) (work : Work) → KnowsComing KnowsAtStage stamp before work line → Keeps work (command_came line work)
  comes line work c h = commanded.obeys stamp before line (with_command line work) (lookup_put client_cmp line.client (fresh_command line) (tied_itself nat_cmp_total line.client.0) work.node.commands) c.knows
      (λ state there. comes_just stamp before work line c.first h state there) c.new c.room (comes_keeps stamp before work line c.first h)

  ticks : (work : Work) → work.node.setting.age ≡ None → Keeps work (tick work)
  ticks work ageless h = subst (λ (o : Option ℕ). P (age_rule o (ticked_work work))) (sym ageless) (quiet.quiet P unseen work (ticked_work work) acts.Tick tt refl refl refl refl refl h)

  happens : (event : Event) (work : Work) → KnowsEvent KnowsAtStage stamp before event work → Keeps work (happen event work)
  happens (events.Command client line label command) work knows h = comes (record { client = client; line = line; label = label; command = command }) work knows h
  happens (events.Received peer m) work knows h = message peer m work knows h
  happens events.ServeAll work knows h = serves_all (ipc.turns work.node.queues) work knows h
  happens (events.PeerRestarted peer old new) work knows h = heard.restarts P unseen peer old new work h
  happens events.Tick work knows h = ticks work knows h

pub step_keeps_said : StepKeepsSaid
step_keeps_said stamp before node event free knows found on = record {
  keeps = subst (kinds.Keeps said before) same h.keeps;
  on = subst (λ (es : List Entry). AreAmid (course_on before es) (clients_at (after_step node event free)) None) same h.on;
}
  where
    done : Work
    done = done_work node event free

    h : IsSaidSo stamp before None (step_work node event free)
    h = waited stamp before (waiting_clients (settle done)) (settle done) knows.waits
        (settles stamp before (due_tids done) done found
        (happens stamp before event (begin_incarnation (work_on node free)) knows.comes
        (heard.begins (λ (w : Work). IsSaidSo stamp before None w) (λ work new u g. unseen_keeps stamp before work new u None g) (work_on node free) (record { keeps = tt; on = on }))))

    same : entries_so_far stamp (step_work node event free) ≡ entered_by stamp node event free
    same = ap (λ (s : Setting). entries_of s.node.0 stamp (effects_of node event free).entries) (step_same node event free)

pub none_came_is_on : NoneCameIsOn
none_came_is_on course node client state on there sits = by ((on client).each state there sits)
  where
    by : IsAmid node None client state → IsOnCourse node client state.left state
    by (inl held) = held
    by (inr (its, just)) = absurd (cc its)
