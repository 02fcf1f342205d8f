-- What deeds and whole rules keep, a whole step keeps: what comes, votes and settling, and commands that stayed open.
use Rattle.qs_world_walk.proofs.Words.{ClientNo, Event, InHand, List, Message, NodeNo, None, OpenCommand, Option, Participant, ServerNo, Settles, Some, Stage, Tid, Waits, Whole, Work, [], after, answer, before, decide, doings_of, during, false}
use Rattle.qs_world_walk.proofs.Words.{here, if◌then◌else◌, inl, inr, is_at, label_at, listed, lookup, refl, subst, sym, true, with_manager, ℕ, ◌∷◌, ◌≡◌}
use Rattle.std.proofs.lemmas.Cmp.{nat_cmp_total, tied_itself}
use Rattle.std.specs.BTreeMap.{insert_entry}
use Rattle.qs_ops.specs.declared.answer.Cause.{Cause}
use Rattle.qs_book_journal.specs.declared.script_line.ScriptLine.{ScriptLine}
use Rattle.qs_book_laws.proofs.Maps.{lookup_put}
use Rattle.qs_engage.specs.Engage.{release_of}
use Rattle.qs_tm.specs.Outcomes.{told_with_own}
use Rattle.qs_tm.specs.Participant.{is_forgotten}
use Rattle.qs_node_step.specs.Answering.{kept_outcome}
use Rattle.qs_node_step.specs.Borrowing.{is_aborted}
use Rattle.qs_node_step.specs.Commands.{decided_answer}
use Rattle.qs_node_step.specs.Deciding.{decide_commit}
use Rattle.qs_node_step.specs.Restarts.{begin_incarnation}
use Rattle.qs_node_step.specs.Serving.{serve_next}
use Rattle.qs_node_step.specs.Settling.{answer_superior, due_tids, forget_rule, is_pass_due, is_quiet, may_answer, pass_rule, ready, ready_rule, refuse_elsewhere, refuse_home, refuse_rule, say_yes, settle, settle_tid, try}
use Rattle.qs_node_step.specs.State.{NodeValue, client_cmp, work_on}
use Rattle.qs_node_step.specs.Step.{answer_waiting, age_rule, borrower_waits, command_came, happen, is_owner, message_came, owner_waits, wait_command, wait_on, waiting_clients, waits_at, with_command}
use Rattle.qs_node_step.specs.Telling.{forget}
use Rattle.qs_node_step.specs.Voting.{vote_pass}
use Rattle.qs_node_step.specs.declared.state.Issued.{Issued}
use Rattle.qs_world_walk.specs.Deed.{fresh_command, ticked_work}
use Rattle.qs_world_walk.specs.May.{IsLet, IsMet, IsOpen, command_of}
use Rattle.qs_world_walk.specs.Walked.{AtEach, AtTurns, done_work}
use Rattle.qs_base.specs.declared.identifiers.Outcome.TheVariants as outcomes
use Rattle.qs_ops.specs.declared.answer.Answer.TheVariants as answers
use Rattle.qs_ipc.specs.Ipc as ipc
use Rattle.qs_tm.specs.Manager as tm
use Rattle.qs_packet.specs.declared.message.Message.TheVariants as messages
use Rattle.qs_node_step.specs.declared.event.Event.TheVariants as events
use Rattle.qs_world_walk.proofs.Commands as commanded
use Rattle.qs_world_walk.proofs.First as first
use Rattle.qs_world_walk.proofs.Rules as rules
use Rattle.qs_world_walk.proofs.Shapes as shapes
use Rattle.qs_world_walk.proofs.Told as told
use Rattle.qs_world_walk.specs.Deed as d
use Rattle.qs_world_walk.specs.May as may

module _ (event : Event) (I : Stage → Work → Type 0) (r : Whole event I) where
  abbrev P : Work → Type 0
  P work = I after work

  abbrev Keeps : Work → Work → Type 0
  Keeps work new = P work → P new

  -- ---- the vote pass, and settling: in the turn of the transaction

  module _ (tid : Tid) where
    abbrev T : Work → Type 0
    T work = I (during (Settles tid)) work

    pub passes_keep : (work : Work) → T work → T (try tid pass_rule work)
    passes_keep work = shapes.open_keeps T tid (pass_rule tid) work (λ part running. shapes.if_keeps T (is_pass_due tid part work) (vote_pass tid work) work work (r.passes tid part work running) (λ is h. h))

    pub readies_keep : (work : Work) → T work → T (try tid ready_rule work)
    readies_keep work = shapes.open_keeps T tid (ready_rule tid) work (λ part running. shapes.if_keeps T (may_answer tid part work) (ready tid part work) work work
        (λ answers. shapes.if_keeps T part.engage.home (if is_quiet (doings_of tid work) then decide_commit tid work else work) (answer_superior tid part work) work
        (λ home. shapes.if_keeps T (is_quiet (doings_of tid work)) (decide_commit tid work) work work (λ quiet. rules.commit_keeps event I r tid part work (record { running = running; answers = answers; home = home; quiet = quiet })) (λ quiet h. h))
        (λ home. shapes.elim_keeps T (release_of part.engage) work (λ superior. say_yes tid part superior work) work (λ none h. h)
        (λ superior to h. first.sent_is T superior.0 (messages.VotedYes tid superior.1 (listed (told_with_own (here work) part))) (with_manager (tm.released tid) work) (r.does (d.SaysYes tid part superior) tt work tt (running, (answers, (home, to))) h)))) (λ is h. h))

    pub refuses_keep : (work : Work) → T work → T (try tid refuse_rule work)
    refuses_keep work = shapes.open_keeps T tid (refuse_rule tid) work (λ part running. shapes.if_keeps T part.engage.home (refuse_home tid part work) (refuse_elsewhere tid part work) work (λ home. home_refuses part running home part.causes refl)
        (r.refuses tid part work running))
      where
        home_refuses : (part : Participant) → IsOpen tid part work → part.engage.home ≡ true → (cs : List Cause) → part.causes ≡ cs → T work → T (elim cs [ [] ↦ work | cause ∷ more ↦ decide tid outcomes.Abort (Some cause) work ])
        home_refuses part running home [] is = λ h. h
        home_refuses part running home (cause ∷ more) is = r.decides tid outcomes.Abort (Some cause) true work (may.Refused part cause more running home is refl)

    pub forgets_keep : (work : Work) → T work → T (try tid forget_rule work)
    forgets_keep work = shapes.open_keeps T tid (forget_rule tid) work (λ part running. shapes.if_keeps T (is_forgotten part) (forget tid work) work work (λ is. r.does (d.Forgets tid part) tt work tt (running, is)) (λ is h. h))

    pub turns : (work : Work) → P work → T work
    turns work = r.does (d.Turns (Settles tid)) tt work tt tt

    pub settle_tid_keeps : (work : Work) → Keeps work (settle_tid work tid)
    settle_tid_keeps work h = r.does (d.Rests (Settles tid)) tt (settle_tid work tid) tt tt
        (forgets_keep (try tid refuse_rule (try tid ready_rule (try tid pass_rule work))) (refuses_keep (try tid ready_rule (try tid pass_rule work)) (readies_keep (try tid pass_rule work) (passes_keep work (turns work h)))))

  pub settle_keeps : (work : Work) → Keeps work (settle work)
  settle_keeps work = shapes.fold_keeps P settle_tid (λ w tid. settle_tid_keeps tid w) (due_tids work) work

  pub turns_keep : (tids : List Tid) (work : Work) → P work → AtEach (λ (w : Work) (tid : Tid). P w × I (during (Settles tid)) (try tid pass_rule w)) settle_tid work tids
  turns_keep [] work h = tt
  turns_keep (tid ∷ tids) work h = ((h, passes_keep tid work (turns tid work h)), turns_keep tids (settle_tid work tid) (settle_tid_keeps tid work h))

  -- ---- commands that stayed open: in the turn of the client

  pub wait_keeps : (work : Work) (client : ClientNo) → Keeps work (wait_on work client)
  wait_keeps work client h = r.does (d.Rests (Waits client)) tt (wait_on work client) tt tt (waits (r.does (d.Turns (Waits client)) tt work tt tt h))
    where
      W : Work → Type 0
      W w = I (during (Waits client)) w

      owners : (command : OpenCommand) → InHand client command work → (o : Option Tid) → IsMet client command true o work → W work → W (owner_waits client o command.line.command work)
      owners command there None its = λ h. h
      owners command there (Some tid) its = shapes.elim_keeps W (kept_outcome tid work.node) work (λ decided. answer client (decided_answer decided command.line.command) work) work (λ none h. h)
          (λ decided is. rules.answer_keeps event I r true client command (d.Over decided) work there (tid, (its, is)))

      borrowers : (command : OpenCommand) → InHand client command work → (i : Option Issued) → command.issued ≡ i → (o : Option Tid) → IsMet client command false o work → W work → W (borrower_waits client i o command.line.command work)
      borrowers command there (Some issued) is o its = shapes.if_keeps W (is_aborted issued.tid work.node) (answer client answers.Ended work) work work (λ over. rules.answer_keeps event I r true client command (d.Ended issued) work there (o, (its, (is, over)))) (λ on h. h)
      borrowers command there None is None its = λ h. h
      borrowers command there None is (Some tid) its = commanded.borrower_keeps event I r client command work there true tid its

      waits : W work → W (wait_on work client)
      waits = shapes.elim_keeps W (lookup (is_at (client_cmp client)) work.node.commands) work (λ command. wait_command client command work) work (λ none h. h)
          (λ command there. shapes.elim_keeps W (label_at command.line.label work.node) work (λ begun. waits_at client command begun work) work (λ none h. h)
          (λ begun is. shapes.if_keeps W (is_owner client begun.owner) (owner_waits client begun.tid command.line.command work) (borrower_waits client command.issued begun.tid command.line.command work) work
          (λ own. owners command there begun.tid (record { begun = begun; met = is; own_is = own; of_is = refl }))
          (λ own. borrowers command there command.issued refl begun.tid (record { begun = begun; met = is; own_is = own; of_is = refl }))))

  pub answers_keep : (work : Work) → Keeps work (answer_waiting work)
  answers_keep work = shapes.fold_keeps P wait_on wait_keeps (waiting_clients work) work

  pub waits_keep : (clients : List ClientNo) (work : Work) → P work → AtEach (λ (w : Work) (client : ClientNo). P w) wait_on work clients
  waits_keep [] work h = tt
  waits_keep (client ∷ clients) work h = (h, waits_keep clients (wait_on work client) (wait_keeps work client h))

  -- ---- what comes

  age_keeps : event ≡ events.Tick → (work : Work) → Keeps work (age_rule work.node.setting.age work)
  age_keeps is work = by work.node.setting.age refl
    where
      by : (o : Option ℕ) → work.node.setting.age ≡ o → Keeps work (age_rule o work)
      by None none = λ h. h
      by (Some age) set = r.ages age work is set

  let_go : (e : Event) → event ≡ e → IsLet e → (work : Work) → I before work → P work
  let_go e is lets work h = r.does d.Lets tt work tt (subst IsLet (sym is) lets) h

  message_keeps : (peer : NodeNo) (message : Message) (work : Work) → event ≡ events.Received peer message → I before work → P (message_came peer message work)
  message_keeps peer messages.Hello work is h = let_go _ is tt work h
  message_keeps peer (messages.Request tid label member number issuer op) work is h = r.requests peer tid label member number issuer op work is h
  message_keeps peer (messages.Answered tid member number reply) work is h = rules.reply_keeps event I r None tid member number reply work (may.Came peer is) (let_go _ is tt work h)
  message_keeps peer (messages.AskVote tid) work is h = rules.ask_came_keeps event I r peer tid work is (let_go _ is tt work h)
  message_keeps peer (messages.Covered tid up_to) work is h = rules.closer_keeps event I r peer tid up_to [] work (inl (is, refl)) (let_go _ is tt work h)
  message_keeps peer (messages.VotedYes tid up_to names) work is h = rules.closer_keeps event I r peer tid up_to names work (inr is) (let_go _ is tt work h)
  message_keeps peer (messages.VotedAbort tid cause) work is h = rules.refusal_keeps event I r peer tid cause work is (let_go _ is tt work h)
  message_keeps peer (messages.Tell tid outcome) work is h = told.tell_keeps event I r peer tid outcome work is (let_go _ is tt work h)
  message_keeps peer (messages.Told tid further) work is h = told.told_keeps event I r peer tid further work is (let_go _ is tt work h)
  message_keeps peer (messages.Inquire tid) work is h = told.inquiry_keeps event I r peer tid work is (let_go _ is tt work h)

  command_keeps : (line : ScriptLine) (work : Work) → event ≡ command_of line → I before work → P (command_came line work)
  command_keeps line work is h = commanded.obey_keeps event I r line (with_command line work) in_hand is (r.does (d.Opens line) tt work tt is h)
    where
      in_hand : lookup (is_at (client_cmp line.client)) (insert_entry client_cmp work.node.commands line.client (fresh_command line)) ≡ Some (fresh_command line)
      in_hand = lookup_put client_cmp line.client (fresh_command line) (tied_itself nat_cmp_total line.client.0) work.node.commands

  pub happens_keep : (e : Event) (work : Work) → event ≡ e → I before work → P (happen e work)
  happens_keep (events.Command client line label command) work is h = command_keeps (record { client = client; line = line; label = label; command = command }) work is h
  happens_keep (events.Received peer message) work is h = message_keeps peer message work is h
  happens_keep events.ServeAll work is h = rules.serve_all_keeps event I r is work (let_go _ is tt work h)
  happens_keep (events.PeerRestarted peer old new) work is h = told.peer_restarted_keeps event I r peer old new work is h
  happens_keep events.Tick work is h = age_keeps is (ticked_work work) (r.does d.Ticks tt work tt is h)

  -- at each turn of a server
  serve_turns : event ≡ events.ServeAll → (servers : List ServerNo) (work : Work) → P work → AtEach (λ (w : Work) (server : ServerNo). P w) serve_next work servers
  serve_turns is [] work h = tt
  serve_turns is (server ∷ servers) work h = (h, serve_turns is servers (serve_next work server) (rules.serve_turn_keeps event I r server is work h))

  -- ---- the whole step

  module _ (node : NodeValue) (free : ℕ) (h : I before (work_on node free)) where
    done : P (done_work node event free)
    done = happens_keep event (begin_incarnation (work_on node free)) refl (first.begin_incarnation_keeps event I r (work_on node free) h)

    pub serves_kept : event ≡ events.ServeAll → AtEach (λ (w : Work) (server : ServerNo). P w) serve_next (begin_incarnation (work_on node free)) (ipc.turns (begin_incarnation (work_on node free)).node.queues)
    serves_kept is = let begun : Work = begin_incarnation (work_on node free) in serve_turns is (ipc.turns begun.node.queues) begun (let_go events.ServeAll is tt begun (first.begin_incarnation_keeps event I r (work_on node free) h))

    pub turns_kept : AtTurns I node event free
    turns_kept = let settled : Work = settle (done_work node event free) in record {
      done = done;
      settles = turns_keep (due_tids (done_work node event free)) (done_work node event free) done;
      waits = waits_keep (waiting_clients settled) settled (settle_keeps (done_work node event free) done);
      all = answers_keep settled (settle_keeps (done_work node event free) done);
    }
