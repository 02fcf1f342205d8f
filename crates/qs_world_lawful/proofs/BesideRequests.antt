-- Requests are issued, come and are served: what stands in the middle of these rules stands after them.
use Rattle.qs_world_lawful.proofs.Words.{◌≡◌, inl, ℕ, ◌==◌, Bool, true, false, List, [], ◌∷◌, ◌++◌, Option, Some, None, refl, sym, ap, subst, ◌∙◌, ◌+◌, ◌||◌, if◌then◌else◌, is_none, is_some, ClientNo, Member, NodeNo, ServerNo, Tid, last_number, same_node, Engaged, Delivery, BookValue, find_transaction, TransactionValue, is_commit, Op, Reply, member_here, send, ask_on, enqueue, enter_issue, is_asked, issue_as, issue_away, issue_here, label_of, next_local, next_number, with_local, cover_from, engage}
use Rattle.qs_world_lawful.proofs.Words.{enter_serve, is_dropped, label_at, learn_label, lent_to, make_loan, met, put_label, reply_here, request_came, serve_next, serve_or_drop, take_in, Work, here, with_kept, with_manager, with_queues, is_client, after_serving, change_server, class_here, is_told_class, is_undecided, member_of, Outstanding, Participant, InRun, HoldsBeside, HoldsWork, book_at, face_of, HoldsTid, AreApart, CanCount}
use Rattle.qs_engage.specs.Engage.{next_sent}
use Rattle.qs_engage.specs.declared.engage.Engaged.TheVariants as engagements
use Rattle.qs_ipc.specs.Ipc as ipc
use Rattle.qs_ipc.specs.Queue.{is_for}
use Rattle.qs_packet.specs.declared.message.Message.TheVariants as messages
use Rattle.qs_node_step.specs.Requests.{issue}
use Rattle.qs_node_step.specs.Serving.{serve}
use Rattle.qs_node_step.specs.State.{NodeValue, part_of}
use Rattle.qs_tm.specs.Manager as tm
use Rattle.qs_tm.specs.Participant as participant
use Rattle.qs_world_lawful.proofs.BesideGoes.{Goes, goes_alike, goes_elim, goes_if, goes_part, goes_self, goes_send, goes_then}
use Rattle.qs_world_lawful.proofs.BesideIssue.{TellsCount, goes_issue}
use Rattle.qs_world_lawful.proofs.BesideKnown.{goes_meet}
use Rattle.qs_world_lawful.proofs.BesideParts.{PartOn}
use Rattle.qs_world_lawful.proofs.BesidePlain.{goes_loan}
use Rattle.qs_world_lawful.proofs.BesideReply.{goes_reply}
use Rattle.qs_world_lawful.proofs.BesideServed.{goes_served}
use Rattle.qs_world_lawful.proofs.Clauses.{of_tid}
use Rattle.qs_world_lawful.proofs.FactsQuiet.{requested_quiet, sent_home}
use Rattle.qs_world_lawful.proofs.Faces.{part_changed}
use Rattle.qs_world_lawful.proofs.LearningAll.{stands}
use Rattle.qs_world_lawful.proofs.Asking.{sent_node}
use Rattle.qs_world_lawful.proofs.Truths.{clash, of_some}

-- a change of the engagement alone
pub engaged_on : (p q : Participant) → q ≡ record p { engage = q.engage } → q.engage.home ≡ p.engage.home → PartOn p q
engaged_on p q same home = subst (PartOn p) (sym same) (record { notes = record { keeps = λ c is. is }; asked = refl; outcome = refl; causes = inl refl; members = refl; involved = λ is. is; home = home; begun_at = refl; unended = λ is. is })

-- what stands of a transaction that a node knows
pub known_there : (book : BookValue) (node : NodeValue) (tid : Tid) (p : Participant) → tm.part_of tid node.manager ≡ Some p → HoldsBeside book node → is_some (find_transaction book tid) ≡ true
known_there book node tid p known h = (h.at tid).stands p known

-- that it was asked here the machine has
pub known_asked : (book : BookValue) (node : NodeValue) (tid : Tid) (p : Participant) → tm.part_of tid node.manager ≡ Some p → p.asked ≡ true → HoldsBeside book node → (tx : TransactionValue) × (find_transaction book tid ≡ Some tx) × (is_some tx.asked ≡ true)
known_asked book node tid p known asked h = by (find_transaction book tid) refl ((h.at tid).stands p known)
  where
    by : (o : Option TransactionValue) → find_transaction book tid ≡ o → is_some (find_transaction book tid) ≡ true → (tx : TransactionValue) × (find_transaction book tid ≡ Some tx) × (is_some tx.asked ≡ true)
    by None is there = absurd (clash (sym (ap is_some is) ∙ there))
    by (Some tx) is there = (tx, is, ((h.at tid).parts tx p is known).asked asked)

module _ (stamp : ℕ) (before : BookValue) (run : InRun before) where
  abbrev On : Work → Work → Type 0
  On work new = Goes stamp before run work new

  -- ---- issuing

  goes_enqueue : (server : ServerNo) (delivery : Delivery) (work : Work) → On work (enqueue server delivery work)
  goes_enqueue server delivery work = goes_if stamp before run (is_for server delivery.op) work (with_queues (ipc.enqueue server delivery) work) work
      (λ is. goes_alike stamp before run work (with_queues (ipc.enqueue server delivery) work) refl refl refl refl refl refl) (λ is. goes_self stamp before run work)

  goes_here : (tid : Tid) (request : Outstanding) (op : Op) (work : Work) → (participant.is_by_files request ≡ true → TellsCount stamp before work tid request op) → On work (issue_here tid request op work)
  goes_here tid request op work tells =
      let entered : Work = enter_issue tid request op work in
      let local : Work = with_local tid request.number entered in
      goes_then stamp before run work entered (issue_here tid request op work) (goes_issue stamp before run tid request op work tells)
      (goes_then stamp before run entered local (issue_here tid request op work) (goes_alike stamp before run entered local refl refl refl refl refl refl)
      (goes_enqueue request.member.server (record { tid = tid; from = here work; number = request.number; op = op; stale = false }) local))

  goes_away : (tid : Tid) (request : Outstanding) (op : Op) (work : Work) → (participant.is_by_files request ≡ true → TellsCount stamp before work tid request op) → (p : Participant) → part_of tid work ≡ Some p → On work (issue_away tid request op work)
  goes_away tid request op work tells p known =
      goes_then stamp before run work entered (issue_away tid request op work) (goes_issue stamp before run tid request op work tells)
      (goes_then stamp before run entered sent (issue_away tid request op work) (goes_part stamp before run tid (participant.sent to) entered (λ q at. sent_on q))
      (goes_then stamp before run sent told (issue_away tid request op work) (goes_send stamp before run to (messages.Request tid (label_of tid work.node) request.member request.number request.issuer op) sent tt (λ h. known_there (book_at stamp before sent) sent.node tid (participant.sent to (participant.issued request p)) known_sent h))
      (asks (is_asked tid work) refl)))
    where
      to : NodeNo
      to = request.member.node

      entered : Work
      entered = enter_issue tid request op work

      sent : Work
      sent = with_manager (tm.sent tid request.member.node) (enter_issue tid request op work)

      told : Work
      told = send request.member.node (messages.Request tid (label_of tid work.node) request.member request.number request.issuer op) sent

      sent_on : (q : Participant) → PartOn q (participant.sent request.member.node q)
      sent_on q = record { notes = record { keeps = λ c is. is }; asked = refl; outcome = refl; causes = inl refl; members = refl; involved = λ is. refl; home = sent_home request.member.node q.engage; begun_at = refl; unended = λ is. is }

      known_sent : part_of tid sent ≡ Some (participant.sent request.member.node (participant.issued request p))
      known_sent = part_changed tid (participant.sent request.member.node) entered.node.manager (participant.issued request p) (part_changed tid (participant.issued request) work.node.manager p known)

      known_told : part_of tid told ≡ Some (participant.sent request.member.node (participant.issued request p))
      known_told = ap (λ (n : NodeValue). tm.part_of tid n.manager) (sent_node request.member.node (messages.Request tid (label_of tid work.node) request.member request.number request.issuer op) sent) ∙ known_sent

      asks : (b : Bool) → is_asked tid work ≡ b → On told (ask_on b tid request.member.node told)
      asks false is = goes_self stamp before run told
      asks true is = goes_send stamp before run request.member.node (messages.AskVote tid) told tt
          (λ h. known_asked (book_at stamp before told) told.node tid (participant.sent request.member.node (participant.issued request p)) known_told (sym (ap (λ (o : Option Participant). elim o [ None ↦ false | Some x ↦ x.asked ]) known) ∙ is) h)

  pub goes_number : (tid : Tid) (request : Outstanding) (op : Op) (work : Work) → (participant.is_by_files request ≡ true → TellsCount stamp before work tid request op) → next_number tid request.member.node work ≡ Some request.number → On work (issue_as tid request op work)
  goes_number tid request op work tells numbered = goes_if stamp before run (same_node request.member.node (here work)) work (issue_here tid request op work) (issue_away tid request op work)
      (λ near. goes_here tid request op work tells)
      (λ far. away (part_of tid work) refl (sym (ap (λ (b : Bool). if b then next_local tid work.node else tm.sent_as tid request.member.node work.node.manager) far) ∙ numbered))
    where
      away : (o : Option Participant) → part_of tid work ≡ o → tm.sent_as tid request.member.node work.node.manager ≡ Some request.number → On work (issue_away tid request op work)
      away None none sent = absurd (no (sym (ap (λ (o : Option Participant). elim o [ None ↦ None | Some p ↦ next_sent request.member.node p.engage ]) none) ∙ sent))
        where
          no : None ≡ Some request.number → ⊥
          no e = cc e
      away (Some p) known sent = goes_away tid request op work tells p known

  -- what goes to another node is of what is known
  pub goes_issued : (tid : Tid) (issuer : ServerNo) (member : Member) (op : Op) (count : ℕ) (work : Work)
      → ((number : ℕ) → participant.is_by_files (record { issuer = issuer; member = member; number = number; count = count }) ≡ true → TellsCount stamp before work tid (record { issuer = issuer; member = member; number = number; count = count }) op)
      → On work (issue tid issuer member op count work)
  goes_issued tid issuer member op count work tells = goes_elim stamp before run (next_number tid member.node work) work work _ (λ none. goes_self stamp before run work)
      (λ number is. goes_number tid (record { issuer = issuer; member = member; number = number; count = count }) op work (tells number) is)

  -- ---- a request comes

  goes_cover : (e : Engaged) (tid : Tid) (peer : NodeNo) (number : ℕ) (work : Work) → On work (cover_from e tid peer number work)
  goes_cover engagements.Superior tid peer number work = goes_self stamp before run work
  goes_cover engagements.Elsewhere tid peer number work = goes_send stamp before run peer (messages.Covered tid number) work tt (λ h. tt)

  goes_take_in : (b : Bool) (member : Member) (delivery : Delivery) (work : Work) → On work (take_in b member delivery work)
  goes_take_in true member delivery work = goes_self stamp before run work
  goes_take_in false member delivery work = goes_enqueue member.server delivery work

  pub requested_on : (peer : NodeNo) (number : ℕ) (p : Participant) → PartOn p (participant.requested peer number p)
  requested_on peer number p = engaged_on p (participant.requested peer number p) refl ((requested_quiet peer number).home p)

  -- where it is unknown here, it stands in the machine and is not committed
  pub goes_request : (peer : NodeNo) (tid : Tid) (label : List ℕ) (member : Member) (number : ℕ) (op : Op) (work : Work) → (same_node tid.home (here work) ≡ false → tm.is_home tid work.node.manager ≡ false)
      → (part_of tid work ≡ None → (tx : TransactionValue) × (find_transaction (book_at stamp before work) tid ≡ Some tx) × (is_commit tx.cell ≡ false) × HoldsTid work.node.setting.node work.node.setting.inc tid tx (face_of work.node tid))
      → On work (request_came peer tid label member number op work)
  goes_request peer tid label member number op work home there =
      goes_then stamp before run work learnt (request_came peer tid label member number op work) learns
      (goes_then stamp before run learnt known (request_came peer tid label member number op work) meets
      (goes_then stamp before run known requested (request_came peer tid label member number op work) (goes_part stamp before run tid (participant.requested peer number) known (λ p at. requested_on peer number p))
      (goes_then stamp before run requested (engage tid peer number learnt) (request_came peer tid label member number op work) (goes_cover (tm.engaged_at tid peer known.node.manager) tid peer number requested)
      (goes_take_in (is_dropped (same_node tid.home (here work)) (part_of tid work)) member (record { tid = tid; from = peer; number = number; op = op; stale = false }) (engage tid peer number learnt)))))
    where
      labelled : Work
      labelled = put_label (record { label = label; tid = Some tid; owner = None }) work

      learnt : Work
      learnt = learn_label label tid work

      known : Work
      known = met tid learnt

      requested : Work
      requested = with_manager (tm.requested tid peer number) known

      learns : On work (learn_label label tid work)
      learns = goes_if stamp before run (is_none (label_at label work.node)) work labelled work (λ is. goes_alike stamp before run work labelled refl refl refl refl refl refl) (λ is. goes_self stamp before run work)

      -- a label changes nothing that is looked at
      at : (b : Bool) → On (if b then labelled else work) (met tid (if b then labelled else work))
      at true = goes_if stamp before run (same_node tid.home (here work)) labelled labelled (with_manager (tm.meet tid) labelled) (λ is. goes_self stamp before run labelled) (λ is. goes_meet stamp before run labelled tid (home is) there)
      at false = goes_if stamp before run (same_node tid.home (here work)) work work (with_manager (tm.meet tid) work) (λ is. goes_self stamp before run work) (λ is. goes_meet stamp before run work tid (home is) there)

      meets : On (learn_label label tid work) (met tid (learn_label label tid work))
      meets = at (is_none (label_at label work.node))

  -- ---- serving

  pub goes_lend : (tid : Tid) (o : Option ClientNo) (work : Work) → On work (make_loan tid o work)
  goes_lend tid None work = goes_self stamp before run work
  goes_lend tid (Some client) work =
      let lent : Work = with_kept (λ kept. record kept { loans = kept.loans ++ record { tid = tid; client = client; inc = work.node.setting.inc; taken = false; yielded = false } ∷ [] }) work in
      goes_then stamp before run work lent (make_loan tid (Some client) work) (goes_alike stamp before run work lent refl refl refl refl refl refl) (goes_loan stamp before run tid client lent)

  module _ (work : Work) (held : HoldsWork stamp before work) (server : ServerNo) (room : CanCount work server) (apart : (tid : Tid) (p : Participant) → part_of tid work ≡ Some p → AreApart p.waiting) where
    module _ (delivery : Delivery) (next : ipc.next server work.node.queues ≡ Some delivery) (p : Participant) (known : part_of delivery.tid work ≡ Some p) where
      tx : (tx : TransactionValue) × (find_transaction (book_at stamp before work) delivery.tid ≡ Some tx)
      tx = stands stamp (book_at stamp before work) work.node delivery.tid p held.holds known

      its : HoldsTid work.node.setting.node work.node.setting.inc delivery.tid tx.0 (record (face_of work.node delivery.tid) { known = Some p })
      its = subst (λ (o : Option Participant). HoldsTid work.node.setting.node work.node.setting.inc delivery.tid tx.0 (record (face_of work.node delivery.tid) { known = o })) known (of_tid stamp (book_at stamp before work) work.node held.holds delivery.tid tx.0 tx.1)

      goes_serve : (reply : Reply) → On (with_queues (ipc.after_next server) work) (serve server delivery reply (with_queues (ipc.after_next server) work))
      goes_serve reply =
          goes_then stamp before run queued entered (serve server delivery reply queued) (goes_served stamp before run queued server delivery reply p known its.sized (room delivery p next known) (λ kept two. ((its.members refl server kept).votes two).covers))
          (goes_then stamp before run entered lent (serve server delivery reply queued) (goes_lend delivery.tid (lent_to delivery.op) entered)
          (goes_if stamp before run (same_node delivery.from (here lent)) lent _ _
          (λ near. goes_reply stamp before run delivery.tid (member_here queued server) delivery.number reply lent (λ q at. waits q at))
          (λ far. goes_if stamp before run delivery.stale lent lent _ (λ is. goes_self stamp before run lent) (λ is. goes_send stamp before run delivery.from (messages.Answered delivery.tid (member_here queued server) delivery.number reply) lent tt (λ h. tt)))))
        where
          queued : Work
          queued = with_queues (ipc.after_next server) work

          entered : Work
          entered = enter_serve server delivery reply (with_queues (ipc.after_next server) work)

          lent : Work
          lent = make_loan delivery.tid (lent_to delivery.op) (enter_serve server delivery reply (with_queues (ipc.after_next server) work))

          lent_manager : (o : Option ClientNo) → (make_loan delivery.tid o entered).node.manager ≡ entered.node.manager
          lent_manager None = refl
          lent_manager (Some client) = refl

          served_manager : entered.node.manager ≡ tm.served delivery.tid server work.node.manager
          served_manager = by (is_client server)
            where
              by : (b : Bool) → tm.served delivery.tid server (if b then queued else change_server server (λ value. after_serving value delivery.tid delivery.op reply) queued).node.manager ≡ tm.served delivery.tid server work.node.manager
              by true = refl
              by false = refl

          served_waiting : (participant.served server p).waiting ≡ p.waiting
          served_waiting = by ((member_of p server).served == last_number)
            where
              by : (b : Bool) → (if b then p else record (participant.with_member server (record (member_of p server) { served = (member_of p server).served + 1; fresh = true }) p) { involved = p.involved || is_told_class (class_here server) }).waiting ≡ p.waiting
              by true = refl
              by false = refl

          waits : (q : Participant) → part_of delivery.tid lent ≡ Some q → AreApart q.waiting
          waits q at = subst AreApart (sym served_waiting ∙ ap (λ (x : Participant). x.waiting) same) (apart delivery.tid p known)
            where
              same : participant.served server p ≡ q
              same = of_some (sym (part_changed delivery.tid (participant.served server) work.node.manager p known) ∙ (sym (ap (tm.part_of delivery.tid) (lent_manager (lent_to delivery.op) ∙ served_manager)) ∙ at))

    pub goes_next : On work (serve_next work server)
    goes_next = goes_elim stamp before run (ipc.next server work.node.queues) work work (λ delivery. serve_or_drop server delivery (with_queues (ipc.after_next server) work)) (λ none. goes_self stamp before run work)
        (λ delivery next. goes_then stamp before run work (with_queues (ipc.after_next server) work) (serve_or_drop server delivery (with_queues (ipc.after_next server) work))
        (goes_alike stamp before run work (with_queues (ipc.after_next server) work) refl refl refl refl refl refl) (known delivery next (part_of delivery.tid work) refl))
      where
        served : (delivery : Delivery) → ipc.next server work.node.queues ≡ Some delivery → (p : Participant) → part_of delivery.tid work ≡ Some p → (b : Bool)
            → On (with_queues (ipc.after_next server) work) (if b then elim (reply_here server delivery.tid delivery.op work.node) [ None ↦ with_queues (ipc.after_next server) work | Some reply ↦ serve server delivery reply (with_queues (ipc.after_next server) work) ] else with_queues (ipc.after_next server) work)
        served delivery next p is false = goes_self stamp before run (with_queues (ipc.after_next server) work)
        served delivery next p is true = goes_elim stamp before run (reply_here server delivery.tid delivery.op work.node) (with_queues (ipc.after_next server) work) (with_queues (ipc.after_next server) work) _
            (λ none. goes_self stamp before run (with_queues (ipc.after_next server) work)) (λ reply says. goes_serve delivery next p is reply)

        known : (delivery : Delivery) → ipc.next server work.node.queues ≡ Some delivery → (o : Option Participant) → part_of delivery.tid work ≡ o
            → On (with_queues (ipc.after_next server) work) (if (elim o [ None ↦ false | Some part ↦ is_undecided part ]) then elim (reply_here server delivery.tid delivery.op work.node) [ None ↦ with_queues (ipc.after_next server) work | Some reply ↦ serve server delivery reply (with_queues (ipc.after_next server) work) ] else with_queues (ipc.after_next server) work)
        known delivery next None is = goes_self stamp before run (with_queues (ipc.after_next server) work)
        known delivery next (Some p) is = served delivery next p is (is_undecided p)
