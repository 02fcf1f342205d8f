-- What waits for its reply waits on through a whole step: a client whose request waits is answered by its reply, or where abort is known.
use Rattle.qs_world_runs.proofs.Words.{◌≡◌, ℕ, ◌==◌, ◌&&◌, Bool, true, false, Option, Some, None, refl, sym, ap, subst, ◌∙◌, insert_entry, is_at, find, list_any, lookup, is_none, is_some, same_member, ClientNo, Member, ServerNo, Tid, member_here, label_at, due_tids, settle, Work, client_cmp, Setting, Issued, OpenCommand, Participant, KeptLabel, Decided, kept_outcome, is_aborted, answer, decided_answer, begin_incarnation, borrower_waits, happen, is_owner, owner_waits, step_work, wait_command}
use Rattle.qs_world_runs.proofs.Words.{wait_on, waiting_clients, waits_at, work_on, Event, begin_same, is_engaged, IsBorrowed, same_Some}
use Rattle.qs_packet.specs.declared.message.Message.TheVariants as messages
use Rattle.qs_ops.specs.declared.answer.Answer.TheVariants as answers
use Rattle.qs_node_step.specs.State.{NodeValue}
use Rattle.qs_node_step.specs.declared.event.Event.TheVariants as events
use Rattle.qs_world_runs.specs.Awaited.{ComesSo, StepsWaitOn, TakesIt, WaitsEngaged, its_request}
use Rattle.qs_world_runs.proofs.AwaitedCommands.{BeginsOther, HasNone, borrower_on, command_on}
use Rattle.qs_world_runs.proofs.AwaitedComes.{TakesIn, begins_on, message_on, peer_on, tick_on}
use Rattle.qs_world_runs.proofs.AwaitedSettles.{settles_on}
use Rattle.qs_world_runs.proofs.AwaitedTurns.{IsAway, serve_all_on}
use Rattle.qs_world_runs.proofs.AwaitedRules.{On, Free, Other, answer_on, fold_on, if_on, itself_on, then_on}

module _ (D : Type 0) (tid : Tid) (member : Member) (number : ℕ) where
  abbrev L : Work → Work → Type 0
  L work new = On D tid member number work new

  abbrev Fr : ClientNo → Work → Type 0
  Fr client work = Free D tid member number client work

  abbrev Ot : ClientNo → Work → Type 0
  Ot client work = Other D tid member number client work

  -- ---- commands that stayed open

  module _ (client : ClientNo) (command : OpenCommand) (work : Work) (there : lookup (is_at (client_cmp client)) work.node.commands ≡ Some command) where
    -- the command of that client is this one
    its_own : (b : IsBorrowed tid member number work.node.commands work.node.kept.now work.node.setting.inc) → client ≡ b.client → b.command ≡ command
    its_own b e = same_Some b.command command (sym b.there ∙ subst (λ (c : ClientNo). lookup (is_at (client_cmp c)) work.node.commands ≡ Some command) e there)

    owner_wait_on : (begun : KeptLabel) → label_at command.line.label work.node ≡ Some begun → is_owner client begun.owner ≡ true → L work (owner_waits client begun.tid command.line.command work)
    owner_wait_on begun label owns = of begun.tid
      where
        not_its : Ot client work
        not_its w b e = absurd (let mine : is_owner b.client b.begun.owner ≡ true = subst (λ (c : ClientNo). is_owner c b.begun.owner ≡ true) e (subst (λ (x : KeptLabel). is_owner client x.owner ≡ true) (same_Some begun b.begun (sym label ∙ subst (λ (c : OpenCommand). label_at c.line.label work.node ≡ Some b.begun) (its_own b e) b.label)) owns) in
            let none : is_owner b.client b.begun.owner ≡ false = b.other in cc (mine, none))

        kept : (o : Option Decided) → L work (elim o [ None ↦ work | Some decided ↦ answer client (decided_answer decided command.line.command) work ])
        kept None = itself_on D tid member number work
        kept (Some decided) = answer_on D tid member number client (decided_answer decided command.line.command) work not_its

        of : (o : Option Tid) → L work (owner_waits client o command.line.command work)
        of None = itself_on D tid member number work
        of (Some t) = kept (kept_outcome t work.node)

    borrower_wait_on : (o : Option Issued) → command.issued ≡ o → (t : Option Tid) → L work (borrower_waits client o t command.line.command work)
    borrower_wait_on (Some issued) is t = if_on D tid member number (is_aborted issued.tid work.node) (answer client answers.Ended work) work work (λ so. answer_on D tid member number client answers.Ended work (not_its so)) (λ so. itself_on D tid member number work)
      where
        not_its : is_aborted issued.tid work.node ≡ true → Ot client work
        not_its aborted w b e = absurd (let ended : is_aborted tid work.node ≡ true = subst (λ (u : Tid). is_aborted u work.node ≡ true) (ap (λ (i : Issued). i.tid) (same_Some issued (its_request tid member number) (sym is ∙ (ap (λ (c : OpenCommand). c.issued) (sym (its_own b e)) ∙ b.issued)))) aborted in
            let runs : is_aborted tid work.node ≡ false = ap (λ (o : Option Participant). elim o [ None ↦ false | Some part ↦ Rattle.qs_tm.specs.Outcomes.is_abort part.outcome ]) w.known ∙ ap Rattle.qs_tm.specs.Outcomes.is_abort w.undecided in cc (ended, runs))
    borrower_wait_on None is None = itself_on D tid member number work
    borrower_wait_on None is (Some t) = borrower_on D tid member number client t command.line.command work free
      where
        free : Fr client work
        free other found issued = absurd (let none : other.issued ≡ None = ap (λ (c : OpenCommand). c.issued) (same_Some other command (sym found ∙ there)) ∙ is in cc (none, issued))

    known_on : L work (wait_command client command work)
    known_on = by (label_at command.line.label work.node) refl
      where
        by : (o : Option KeptLabel) → label_at command.line.label work.node ≡ o → L work (elim o [ None ↦ work | Some begun ↦ waits_at client command begun work ])
        by None label = itself_on D tid member number work
        by (Some begun) label = if_on D tid member number (is_owner client begun.owner) (owner_waits client begun.tid command.line.command work) (borrower_waits client command.issued begun.tid command.line.command work) work
            (λ owns. owner_wait_on begun label owns) (λ so. borrower_wait_on command.issued refl begun.tid)

  pub wait_one : (work : Work) (client : ClientNo) → L work (wait_on work client)
  wait_one work client = by (lookup (is_at (client_cmp client)) work.node.commands) refl
    where
      by : (o : Option OpenCommand) → lookup (is_at (client_cmp client)) work.node.commands ≡ o → L work (elim o [ None ↦ work | Some command ↦ wait_command client command work ])
      by None is = itself_on D tid member number work
      by (Some command) is = known_on client command work is

  -- ---- the whole step

  -- what comes: the command of a client that has none in hand, which begins another transaction if any; its reply, or its outcome
  abbrev pub Comes : Event → Work → Type 0
  Comes (events.Command client line label command) work = BeginsOther D tid member number work × HasNone D tid member number client work
  Comes (events.Received peer message) work = TakesIn D tid member number message
  Comes event work = Rattle.std.specs.Prelude.⊤

  happen_on : (event : Event) (work : Work) → IsAway D tid member number work → Comes event work → L work (happen event work)
  happen_on (events.Command client line label command) work away comes = command_on D tid member number (record { client = client; line = line; label = label; command = command }) work comes.0 comes.1
  happen_on (events.Received peer message) work away comes = message_on D tid member number peer message work comes
  happen_on events.ServeAll work away comes = serve_all_on D tid member number work away
  happen_on (events.PeerRestarted peer old new) work away comes = peer_on D tid member number peer old new work
  happen_on events.Tick work away comes = tick_on D tid member number work

  pub step_on : (node : NodeValue) (event : Event) (free : ℕ) → IsAway D tid member number (begin_incarnation (work_on node free)) → Comes event (begin_incarnation (work_on node free)) → L (work_on node free) (step_work node event free)
  step_on node event free away comes = then_on D tid member number (work_on node free) begun (step_work node event free) (begins_on D tid member number (work_on node free))
      (then_on D tid member number begun (happen event begun) (step_work node event free) (happen_on event begun away comes)
      (then_on D tid member number (happen event begun) (settle (happen event begun)) (step_work node event free) (settles_on D tid member number (due_tids (happen event begun)) (happen event begun))
      (fold_on D tid member number wait_on wait_one (waiting_clients (settle (happen event begun))) (settle (happen event begun)))))
    where
      begun : Work
      begun = begin_incarnation (work_on node free)

pub steps_wait_on : StepsWaitOn
steps_wait_on tid member number node event free away comes waiting = step_on (TakesIt tid member number event) tid member number node event free far (came event comes) waiting
  where
    begun : Work
    begun = begin_incarnation (work_on node free)

    far : (server : ServerNo) → same_member member (member_here begun server) ≡ false
    far server = subst (λ (s : Setting). same_member member (record { node = s.node; server = server }) ≡ false) (sym (begin_same (work_on node free))) (of (member.node.0 == node.setting.node.0) away)
      where
        of : (b : Bool) → b ≡ false → (b && (member.server.0 == server.0)) ≡ false
        of true e = absurd (cc e)
        of false e = refl

    came : (e : Event) → ComesSo tid e begun → Comes (TakesIt tid member number e) tid member number e begun
    came (events.Command client line label command) c = c
    came (events.Received peer messages.Hello) c = tt
    came (events.Received peer (messages.Request t label m n issuer op)) c = tt
    came (events.Received peer (messages.Answered t m n reply)) c = λ e is. (e, is)
    came (events.Received peer (messages.AskVote t)) c = tt
    came (events.Received peer (messages.Covered t up_to)) c = tt
    came (events.Received peer (messages.VotedYes t up_to told)) c = tt
    came (events.Received peer (messages.VotedAbort t cause)) c = tt
    came (events.Received peer (messages.Tell t outcome)) c = λ e. e
    came (events.Received peer (messages.Told t further)) c = tt
    came (events.Received peer (messages.Inquire t)) c = tt
    came events.ServeAll c = tt
    came (events.PeerRestarted peer old new) c = tt
    came events.Tick c = tt

pub waits_engaged : WaitsEngaged
waits_engaged tid member number node part known open_now w = subst (λ (p : Participant). is_engaged p ≡ true) (same_Some w.part part (sym w.known ∙ known)) w.engaged
