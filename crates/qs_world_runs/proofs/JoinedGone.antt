-- What a node owes that restarted, the machine finds gone: the node did run in the incarnation that is known of it, restarted into a later one, and what it owes stands open.
use Rattle.qs_world_runs.proofs.Words.{◌≡◌, ℕ, ◌<◌, ◌==◌, ◌&&◌, ◌||◌, Bool, true, false, List, [], ◌∷◌, append-nil, Option, Some, None, is_some, refl, sym, ap, subst, ◌∙◌, arith, nat_tests, list_any, NodeNo, Tid, Act, Entry, BookValue, find_transaction, inc_at, TransactionValue, Opened, notice_tid, Work, with_queues, work_on, book_of, opened_from, Clock, Commanded, Handed, Noticed, Queues, Source, event_of, Opening, World, FromNotice, from_client, from_node, from_notice, StepMay, step_may}
use Rattle.qs_world_runs.proofs.Words.{InRun, IsTrueCause, HappensSo, HoldsWork, entries_so_far, AtEach, first_work, HoldsNodeAt, opens_soundly, first_held, MakesStep, HoldsRunning, Joined, book_in}
use Rattle.qs_ipc.specs.Ipc as ipc
use Rattle.qs_book_journal.specs.declared.entry.Act.TheVariants as acts
use Rattle.qs_book_laws.proofs.GoneByEntries.{is_gone_whenever}
use Rattle.qs_book_laws.specs.Gone.{is_restart_beyond, is_restart_into, ran_as, restarts_beyond, restarts_into, stands_open}
use Rattle.qs_book_machine.specs.Clauses.{is_gone_cause}
use Rattle.qs_book_machine.specs.Nodes as machine
use Rattle.qs_ops.specs.declared.answer.Cause.TheVariants as causes
use Rattle.qs_packet.specs.declared.message.Message.TheVariants as messages
use Rattle.qs_node_step.specs.State.{NodeValue}
use Rattle.qs_node_step.specs.declared.event.Event.TheVariants as events
use Rattle.qs_tm.specs.Manager as tm
use Rattle.qs_world.specs.Moves.{node_no}
use Rattle.qs_world_lawful.specs.BesideStep.{IsGone}
use Rattle.qs_world_lawful.specs.Holds.{Holds}
use Rattle.qs_world_lawful.proofs.BesideGoes.{said_on}
use Rattle.qs_world_lawful.proofs.PeerRestarts.{by_marks, by_tid}
use Rattle.qs_world_runs.specs.Born.{HasRun}
use Rattle.qs_world_runs.proofs.AgreesEach.{steady}
use Rattle.qs_world_runs.proofs.LaterOwned.{opened_inc}
use Rattle.qs_world_runs.proofs.OwingEntries.{owed_open}
use Rattle.qs_world_runs.proofs.OwedBefore.{Back, Owing, back_begin, back_notice}

-- ---- a restart into an incarnation is one beyond each before it

later_into : (old inc : ℕ) → old < inc → (act : Act) → is_restart_into inc act ≡ true → is_restart_beyond old act ≡ true
later_into old inc less (acts.Restart new pend done) same = grind (arith, nat_tests, same, less)
later_into old inc less (acts.Begin tid label client) same = absurd (cc same)
later_into old inc less (acts.Issue tid issuer member number op) same = absurd (cc same)
later_into old inc less (acts.Serve tid member from number reply) same = absurd (cc same)
later_into old inc less (acts.Ask tid) same = absurd (cc same)
later_into old inc less (acts.Vote tid member vote covers) same = absurd (cc same)
later_into old inc less (acts.Counted tid peer up_to) same = absurd (cc same)
later_into old inc less (acts.Decide tid outcome cause) same = absurd (cc same)
later_into old inc less (acts.Ending tid member) same = absurd (cc same)
later_into old inc less (acts.Learn tid member outcome) same = absurd (cc same)
later_into old inc less (acts.Answer client line said) same = absurd (cc same)
later_into old inc less (acts.Loan tid client) same = absurd (cc same)
later_into old inc less (acts.Yield tid client) same = absurd (cc same)
later_into old inc less acts.Tick same = absurd (cc same)
later_into old inc less (acts.Crash cause) same = absurd (cc same)

beyond : (m : NodeNo) (old inc : ℕ) → old < inc → (history : List Entry) → list_any (restarts_into m inc) history ≡ true → list_any (restarts_beyond m old) history ≡ true
beyond m old inc less [] is = absurd (cc is)
beyond m old inc less (entry ∷ rest) is = by (entry.node.0 == m.0) (is_restart_into inc entry.act) (is_restart_beyond old entry.act) (later_into old inc less entry.act) (beyond m old inc less rest) is
  where
    by : (here b c : Bool) {more far : Bool} → (b ≡ true → c ≡ true) → (more ≡ true → far ≡ true) → ((here && b) || more) ≡ true → ((here && c) || far) ≡ true
    by true true c one rest is = rw (one refl) refl
    by true false true one rest is = refl
    by true false false one rest is = rest is
    by false b c one rest is = rest is

module _ (P : Opening → World → Type 0) (o : Opening) (world : World) (j : Joined P o world) (n stamp free : ℕ) (source : Source) (peer : NodeNo) (old new : ℕ)
    (makes : MakesStep world n stamp source (events.PeerRestarted peer old new)) (holds : Holds stamp (book_in o world) (world.hosts n).node) where
  abbrev node : NodeValue
  node = (world.hosts n).node

  abbrev book : BookValue
  book = book_in o world

  abbrev opened : List Opened
  opened = opened_from o 0 o.size

  its : StepMay world n source
  its = step_may world n stamp source makes.may

  running : HoldsRunning book node
  running = j.running n its.low its.runs

  run_in : InRun book
  run_in = record { opened = opened; history = world.journal; coherent = opens_soundly o j.opens; lawful = j.lawful; is = refl }

  -- ---- the node that restarted ran as it was known, and then in a later incarnation

  inc_first : (m : ℕ) → m < o.size → inc_at (book_of o) (node_no m) ≡ (o.settings m).inc
  inc_first m low = opened_inc o j.opens (node_no m) low

  ran : (m inc : ℕ) → m < o.size → HasRun o world.journal m inc → ran_as (book_of o) world.journal (node_no m) inc ≡ true
  ran m inc low h = ap (λ (first : ℕ). first == inc || list_any (restarts_into (node_no m) inc) world.journal) (inc_first m low) ∙ h.ran

  restarted : (m known inc : ℕ) → known < inc → HasRun o world.journal m known → HasRun o world.journal m inc → list_any (restarts_beyond (node_no m) known) world.journal ≡ true
  restarted m known inc less before after = beyond (node_no m) known inc less world.journal (by ((o.settings m).inc == inc) refl after.ran)
    where
      other : ((o.settings m).inc == inc) ≡ true → ⊥
      other same = let least = before.least in grind (arith, nat_tests, same, least, less)

      by : (b : Bool) → ((o.settings m).inc == inc) ≡ b → (b || list_any (restarts_into (node_no m) inc) world.journal) ≡ true → list_any (restarts_into (node_no m) inc) world.journal ≡ true
      by true same is = absurd (other same)
      by false same is = is

  record Noted : Type 0 where
    m : ℕ
    from : (later : ℕ) × FromNotice world n m later (events.PeerRestarted peer old new)

  noted : (source : Source) → event_of world n stamp source ≡ Some (events.PeerRestarted peer old new) → Noted
  noted (Noticed m later) comes = record { m = m; from = (later, from_notice world n stamp m later (events.PeerRestarted peer old new) comes) }
  noted Queues comes = absurd (cc comes)
  noted Clock comes = absurd (cc comes)
  noted (Commanded k) comes = absurd (let same = (from_client world n k (events.PeerRestarted peer old new) (steady world j.shown n stamp free source (events.PeerRestarted peer old new) makes) comes).is in cc same)
  noted (Handed m) comes = absurd (let same = (from_node world n stamp m (events.PeerRestarted peer old new) comes).is in cc same)

  cause : (note : Noted) (tid : Tid) → Owing peer node.manager tid → IsTrueCause book tid (causes.Gone peer old)
  cause note tid h = by (find_transaction book tid) refl ((running.beside.at tid).stands h.part h.known)
    where
      m : ℕ
      m = note.m

      from : FromNotice world n m note.from.0 (events.PeerRestarted peer old new)
      from = note.from.1

      peer_is : peer ≡ node_no m
      peer_is = let same = from.is in cc same

      old_is : old ≡ world.channels.peer n m
      old_is = let same = from.is in cc same

      low : m < world.size
      low = ((steady world j.shown n stamp free source (events.PeerRestarted peer old new) makes).peers n m from.known).0

      low_first : m < o.size
      low_first = subst (λ (size : ℕ). m < size) j.size low

      known : ℕ
      known = world.channels.peer n m

      before : HasRun o world.journal m known
      before = j.born.born m known (j.born.known n m from.known)

      after : HasRun o world.journal m (world.channels.inc m)
      after = j.born.born m (world.channels.inc m) (j.born.present m)

      less : known < world.channels.inc m
      less = let later = from.later in let begun = from.begun in grind (arith, later, begun)

      stands : stands_open tid (node_no m) world.journal ≡ true
      stands = subst (λ (p : NodeNo). stands_open tid p world.journal ≡ true) peer_is (owed_open (world.hosts n).node world.journal tid peer h.part (j.owing n its.low its.runs tid h.part h.known) h.undecided h.owed)

      core : (tx : TransactionValue) → find_transaction book tid ≡ Some tx → IsTrueCause book tid (causes.Gone (node_no m) known)
      core tx found = (
        tx,
        found,
        ap (λ (s : Option machine.NodeValue). machine_gone s tx) at.there ∙ is_gone_whenever opened world.journal tid (node_no m) known tx at.state (opens_soundly o j.opens) j.lawful found at.there (record {
          ran = ran m known low_first before;
          stood = record { early = world.journal; late = []; parts = sym (append-nil world.journal); restarted = restarted m known (world.channels.inc m) less before after; open_then = stands };
        }),
      )
        where
          at : HoldsNodeAt book world m
          at = j.held.nodes m low

          machine_gone : Option machine.NodeValue → TransactionValue → Bool
          machine_gone s t = is_gone_cause s t (node_no m) known

      by : (found : Option TransactionValue) → find_transaction book tid ≡ found → is_some found ≡ true → IsTrueCause book tid (causes.Gone peer old)
      by None is there = absurd (cc there)
      by (Some tx) is there = subst (λ (p : NodeNo). IsTrueCause book tid (causes.Gone p old)) (sym peer_is) (subst (λ (k : ℕ). IsTrueCause book tid (causes.Gone (node_no m) k)) (sym old_is) (core tx is))

  -- ---- at each transaction that is concerned

  walk : (tids : List Tid) (work : Work) → HoldsWork stamp book work → Back peer (work_on node free) work → AtEach (IsGone stamp book peer old) (notice_tid peer old new) work tids
  walk [] work held back = tt
  walk (tid ∷ tids) work held back = (
    λ part known undecided owes. said_on book run_in [] (entries_so_far stamp work) tt held.lawful (messages.VotedAbort tid (causes.Gone peer old))
        (cause (noted source makes.comes) tid (back tid (record { part = part; known = known; undecided = undecided; owed = owes }))),
    walk tids (notice_tid peer old new work tid) (by_tid stamp book peer old new work held tid) (λ t h. back t (back_notice peer old new work tid t h)),
  )

  pub finds_gone : HappensSo stamp book (events.PeerRestarted peer old new) (first_work node free)
  finds_gone = walk (tm.concerned peer (first_work node free).node.manager) (with_queues (ipc.mark_queues peer) (first_work node free))
      (by_marks stamp book peer (first_work node free) (first_held stamp book node free holds)) (λ t h. back_begin peer (work_on node free) t h)
