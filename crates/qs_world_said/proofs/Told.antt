-- What a node keeps of outcomes is what the machine has: what is decided stays so, and a home keeps what it decides.
use Rattle.std.proofs.Common.{◌≡◌, ◌∙◌, ℕ, Bool, true, false, List, [], ◌∷◌, ◌++◌, Option, Some, None, append_assoc, inl, inr, refl, sym, ap, subst}
use Rattle.std.specs.Prelude.{◌⊎◌, slice_get, if◌then◌else◌}
use Rattle.std.specs.BTreeMap.{is_at}
use Rattle.std.specs.List.{find}
use Rattle.std.specs.Option.{option_map}
use Rattle.std.proofs.lemmas.List.{append-nil}
use Rattle.qs_base.specs.Order.{tid_cmp}
use Rattle.qs_base.specs.declared.identifiers.ClientNo.{ClientNo}
use Rattle.qs_base.specs.declared.identifiers.Outcome.{Outcome}
use Rattle.qs_base.specs.declared.identifiers.Outcome.TheVariants as outcomes
use Rattle.qs_base.specs.declared.identifiers.Tid.{Tid}
use Rattle.qs_base.proofs.Same.{same_member-self, same_tid-true}
use Rattle.qs_base_lemmas.proofs.Tests.{eqb-self, some_same}
use Rattle.qs_ops.specs.Alike.{same_cause}
use Rattle.qs_ops.specs.Operations.{answer_of}
use Rattle.qs_ops.specs.declared.answer.Answer.TheVariants as answers
use Rattle.qs_ops.specs.declared.answer.Cause.{Cause}
use Rattle.qs_ops.specs.declared.answer.Cause.TheVariants as causes
use Rattle.qs_ops.specs.declared.vote.Vote.TheVariants as votes
use Rattle.qs_book_journal.specs.declared.entry.Act.{Act}
use Rattle.qs_book_journal.specs.declared.entry.Act.TheVariants as acts
use Rattle.qs_book_journal.specs.declared.entry.Entry.{Entry}
use Rattle.qs_book_laws.proofs.Faces.{Face, face}
use Rattle.qs_book_laws.proofs.Maps.{lookup_changed}
use Rattle.qs_book_laws.proofs.Openings.{opening_holds}
use Rattle.qs_book_laws.proofs.Outcomes.{Inv, Kept}
use Rattle.qs_book_laws.proofs.Steps.{decide_may, held, ran}
use Rattle.qs_book_machine.specs.Book.{BookValue, find_transaction}
use Rattle.qs_book_machine.specs.Lawful.{IsLawful, broken, broken_at, effect, is_in_order}
use Rattle.qs_book_machine.specs.Nodes as machine
use Rattle.qs_book_machine.specs.Opening.{opening}
use Rattle.qs_book_machine.specs.Transaction.{TransactionValue, cell_of, decided_at, is_open}
use Rattle.qs_book_machine.specs.declared.transaction.Cell.{Cell}
use Rattle.qs_book_machine.specs.declared.transaction.Cell.TheVariants as cells
use Rattle.qs_book_conformance.specs.Answers.{is_outcome_answer}
use Rattle.qs_node_kept.specs.Keeping.{is_outcome_of}
use Rattle.qs_node_kept.specs.declared.kept.Decided.{Decided}
use Rattle.qs_node_servers.specs.Servers.{client_of}
use Rattle.qs_node_step.specs.Borrowing.{is_void}
use Rattle.qs_node_step.specs.Bringing.{member_here}
use Rattle.qs_node_step.specs.Commands.{outcome_answer}
use Rattle.qs_node_step.specs.Serving.{lent_to}
use Rattle.qs_node_step.specs.State.{Work}
use Rattle.qs_node_step.specs.Voting.{served_count}
use Rattle.qs_node_step.specs.declared.event.Event.{Event}
use Rattle.qs_tm.specs.Manager as tm
use Rattle.qs_world.specs.Posting.{entry_of}
use Rattle.qs_world_course.specs.Worlds.{IsToldSo}
use Rattle.qs_world_lawful.specs.Amid.{InRun}
use Rattle.qs_world_lawful.specs.Entering.{book_at, entries_so_far}
use Rattle.qs_world_lawful.proofs.Told.{same_reason-self}
use Rattle.qs_world_walk.specs.Deed as d
use Rattle.qs_world_walk.specs.Deed.{answer_by, did, loan_entered}
use Rattle.qs_world_walk.specs.May.{MayAbort, MayDecide}
use Rattle.qs_world_walk.specs.May as may
use Rattle.qs_world_walk.specs.Stage.{Stage}
use Rattle.qs_world_walk.specs.Walked.{Table}
use Rattle.qs_world_walk.proofs.IsDeeds.{each_turn}
use Rattle.qs_world_said.specs.Outcomes.{OutcomesStayTold, ToldAmid}
use Rattle.qs_world_said.proofs.SoFar.{added, book_then, more_lawful, was_lawful}

-- ---- what is told stays so, through lawful entries

pub closed_cell : (cell : Cell) (decided : Decided) (cause : Option Cause) → is_outcome_answer cell cause (outcome_answer decided) ≡ true → is_open cell ≡ false
closed_cell cells.Open decided cause is = absurd (cc is)
closed_cell cells.Commit decided cause is = refl
closed_cell cells.Abort decided cause is = refl

pub found_face : (o : Option TransactionValue) (seen : Face) → option_map face o ≡ Some seen → (tx : TransactionValue) × ((o ≡ Some tx) × (face tx ≡ seen))
found_face None seen is = absurd (cc is)
found_face (Some tx) seen is = (tx, (refl, some_same is))

pub told_still : (old new : BookValue) → Kept old new → (tid : Tid) (decided : Decided) → IsToldSo old tid decided → IsToldSo new tid decided
told_still old new kept tid decided t = let f = found_face (find_transaction new tid) (face t.tx) (kept tid (face t.tx) (ap (option_map face) t.found) (closed_cell t.tx.cell decided t.tx.cause t.so)) in
    record { tx = f.0; found = f.1.0; so = subst (λ (seen : Face). is_outcome_answer seen.cell seen.cause (outcome_answer decided) ≡ true) (sym f.1.1) t.so }

-- ---- what is decided now

cause_itself : (c : Cause) → same_cause c c ≡ true
cause_itself causes.Asked = refl
cause_itself (causes.Voted member reason) = rw (same_member-self member, same_reason-self reason) refl
cause_itself (causes.Gone node inc) = rw (eqb-self node.0, eqb-self inc) refl
cause_itself (causes.Home inc) = eqb-self inc
cause_itself (causes.Room need room) = rw (eqb-self need, eqb-self room) refl
cause_itself (causes.Old age) = eqb-self age

-- an abort has its cause
abbrev HasItsCause : Outcome → Option Cause → Type 0
HasItsCause outcomes.Commit cause = Unit {0}
HasItsCause outcomes.Abort None = ⊥
HasItsCause outcomes.Abort (Some cause) = Unit {0}

module _ (book : BookValue) (entry : Entry) (tid : Tid) (outcome : Outcome) (cause : Option Cause) (is : entry.act ≡ acts.Decide tid outcome cause) (lawful : broken book entry ≡ None) where
  may_be : (tx : TransactionValue) × (find_transaction book tid ≡ Some tx) × (is_open tx.cell ≡ true)
  may_be = by (slice_get book.nodes entry.node.0) (subst (λ (act : Act). broken_at book entry.stamp entry.node.0 (slice_get book.nodes entry.node.0) act ≡ None) is
      (held (is_in_order book entry) 1 (broken_at book entry.stamp entry.node.0 (slice_get book.nodes entry.node.0) entry.act) lawful).1)
    where
      by : (o : Option machine.NodeValue) → broken_at book entry.stamp entry.node.0 o (acts.Decide tid outcome cause) ≡ None → (tx : TransactionValue) × (find_transaction book tid ≡ Some tx) × (is_open tx.cell ≡ true)
      by None h = absurd (cc h)
      by (Some node) h = decide_may entry.node.0 node book.nodes tid (find_transaction book tid) entry.stamp outcome cause (held node.up 2 _ h).1

  answers_so : (o : Outcome) (c : Option Cause) → HasItsCause o c → is_outcome_answer (cell_of o) c (outcome_answer (record { tid = tid; outcome = o; cause = c })) ≡ true
  answers_so outcomes.Commit c has = refl
  answers_so outcomes.Abort None has = absurd has
  answers_so outcomes.Abort (Some c) has = cause_itself c

  told_now : HasItsCause outcome cause → IsToldSo (effect book entry) tid (record { tid = tid; outcome = outcome; cause = cause })
  told_now has = record {
    tx = decided_at book.place outcome cause may_be.0;
    found = ap (λ (act : Act). find_transaction (effect book (record entry { act = act })) tid) is ∙ lookup_changed (is_at (tid_cmp tid)) (decided_at book.place outcome cause) book.transactions may_be.0 may_be.1;
    so = answers_so outcome cause has;
  }

found_or : (tid : Tid) (xs : List Decided) (y decided : Decided) → find (is_outcome_of tid) (xs ++ y ∷ []) ≡ Some decided → (find (is_outcome_of tid) xs ≡ Some decided) ⊎ ((y ≡ decided) × (tid ≡ y.tid))
found_or tid [] y decided found = by (is_outcome_of tid y) refl
  where
    by : (b : Bool) → is_outcome_of tid y ≡ b → (find (is_outcome_of tid) [] ≡ Some decided) ⊎ ((y ≡ decided) × (tid ≡ y.tid))
    by true is = inr (some_same (rw is at found), same_tid-true tid y.tid is)
    by false is = absurd (cc (rw is at found))
found_or tid (x ∷ xs) y decided found = by (is_outcome_of tid x) refl (λ f. found_or tid xs y decided f)
  where
    by : (b : Bool) → is_outcome_of tid x ≡ b → (find (is_outcome_of tid) (xs ++ y ∷ []) ≡ Some decided → (find (is_outcome_of tid) xs ≡ Some decided) ⊎ ((y ≡ decided) × (tid ≡ y.tid)))
        → (find (is_outcome_of tid) (x ∷ xs) ≡ Some decided) ⊎ ((y ≡ decided) × (tid ≡ y.tid))
    by true is rest = inl (rw is (rw is at found))
    by false is rest = later (rest (rw is at found))
      where
        later : (find (is_outcome_of tid) xs ≡ Some decided) ⊎ ((y ≡ decided) × (tid ≡ y.tid)) → (find (is_outcome_of tid) (x ∷ xs) ≡ Some decided) ⊎ ((y ≡ decided) × (tid ≡ y.tid))
        later (inl there) = inl (rw is there)
        later (inr last) = inr last

-- ---- deed by deed

module _ (stamp : ℕ) (before : BookValue) (run : InRun before) (event : Event) where
  abbrev pub I : Stage → Work → Type 0
  I stage work = ToldAmid stamp before work

  inv_before : Inv before
  inv_before = subst Inv (sym run.is) (ran run.history (opening run.opened) (opening_holds run.opened run.coherent) run.lawful).inv

  -- these acts are entered, and what is kept of outcomes is left
  module _ (work new : Work) (more : List Act) (setting : new.node.setting ≡ work.node.setting) (entries : new.out.entries ≡ work.out.entries ++ more) where
    kept_on : IsLawful before (entries_so_far stamp new) → Kept (book_at stamp before work) (book_at stamp before new)
    kept_on lawful = subst (Kept (book_at stamp before work)) (sym (book_then stamp before work new more setting entries))
        (ran (added stamp before work new more setting entries) (book_at stamp before work) (ran (entries_so_far stamp work) before inv_before (was_lawful stamp before work new more setting entries lawful)).inv
        (more_lawful stamp before work new more setting entries lawful)).kept

    stays : new.node.kept.now.outcomes ≡ work.node.kept.now.outcomes → ToldAmid stamp before work → ToldAmid stamp before new
    stays same h lawful tid decided there = told_still (book_at stamp before work) (book_at stamp before new) (kept_on lawful) tid decided (h (was_lawful stamp before work new more setting entries lawful) tid decided (ap (find (is_outcome_of tid)) (sym same) ∙ there))

  -- nothing is entered
  quiet : (work new : Work) → new.node.setting ≡ work.node.setting → new.out.entries ≡ work.out.entries → new.node.kept.now.outcomes ≡ work.node.kept.now.outcomes → ToldAmid stamp before work → ToldAmid stamp before new
  quiet work new setting entries same = stays work new [] setting (entries ∙ sym (append-nil work.out.entries)) same

  one : (work new : Work) (act : Act) → new.node.setting ≡ work.node.setting → new.out.entries ≡ work.out.entries ++ act ∷ [] → new.node.kept.now.outcomes ≡ work.node.kept.now.outcomes → ToldAmid stamp before work → ToldAmid stamp before new
  one work new act setting entries same = stays work new (act ∷ []) setting entries same

  served : (work new : Work) (tid : Tid) (o : Option ClientNo) (act : Act) → new.node.setting ≡ work.node.setting → new.out.entries ≡ loan_entered tid o (work.out.entries ++ act ∷ []) → new.node.kept.now.outcomes ≡ work.node.kept.now.outcomes
      → ToldAmid stamp before work → ToldAmid stamp before new
  served work new tid None act setting entries same = one work new act setting entries same
  served work new tid (Some client) act setting entries same = stays work new (act ∷ acts.Loan tid client ∷ []) setting (entries ∙ append_assoc work.out.entries (act ∷ []) (acts.Loan tid client ∷ [])) same

  -- ---- a decision

  its_cause : (tid : Tid) (outcome : Outcome) (cause : Option Cause) (work : Work) → MayDecide event tid outcome cause work → HasItsCause outcome cause
  its_cause tid outcomes.Commit cause work m = tt
  its_cause tid outcomes.Abort cause work m = abort m
    where
      with_cause : (c : Cause) → cause ≡ Some c → HasItsCause outcomes.Abort cause
      with_cause c is = subst (HasItsCause outcomes.Abort) (sym is) tt

      abort : MayAbort event tid cause work → HasItsCause outcomes.Abort cause
      abort (may.Commanded line part came there is met undecided running because) = with_cause _ because
      abort (may.Old age ticks limit because) = with_cause _ because
      abort (may.Refused part first rest running home causes_are because) = with_cause _ because
      abort (may.NoRoom part need ready past because) = with_cause _ because

  decides : (tid : Tid) (outcome : Outcome) (cause : Option Cause) (work : Work) → MayDecide event tid outcome cause work → ToldAmid stamp before work → ToldAmid stamp before (did (d.Decides tid outcome cause) work)
  decides tid outcome cause work m h lawful t decided there = by (found_or t work.node.kept.now.outcomes (record { tid = tid; outcome = outcome; cause = cause }) decided there)
    where
      new : Work
      new = did (d.Decides tid outcome cause) work

      act : Act
      act = acts.Decide tid outcome cause

      entry : Entry
      entry = entry_of work.node.setting.node.0 stamp act

      rest : IsLawful (book_at stamp before work) (entry ∷ [])
      rest = more_lawful stamp before work new (act ∷ []) refl refl lawful

      now : IsToldSo (book_at stamp before new) tid (record { tid = tid; outcome = outcome; cause = cause })
      now = subst (λ (b : BookValue). IsToldSo b tid (record { tid = tid; outcome = outcome; cause = cause })) (sym (book_then stamp before work new (act ∷ []) refl refl))
          (told_now (book_at stamp before work) entry tid outcome cause refl rest.0 (its_cause tid outcome cause work m))

      by : (find (is_outcome_of t) work.node.kept.now.outcomes ≡ Some decided) ⊎ ((record { tid = tid; outcome = outcome; cause = cause } ≡ decided) × (t ≡ tid)) → IsToldSo (book_at stamp before new) t decided
      by (inl was) = told_still (book_at stamp before work) (book_at stamp before new) (kept_on work new (act ∷ []) refl refl lawful) t decided (h (was_lawful stamp before work new (act ∷ []) refl refl lawful) t decided was)
      by (inr last) = subst (λ (u : Tid). IsToldSo (book_at stamp before new) u decided) (sym last.1) (subst (IsToldSo (book_at stamp before new) tid) last.0 now)

  -- ---- all deeds

  pub told_table : Table event I
  told_table d.Ticks when w m h = one w (did d.Ticks w) acts.Tick refl refl refl h
  told_table (d.Ends tid server) when w m h = one w (did (d.Ends tid server) w) (acts.Ending tid (member_here w server)) refl refl refl h
  told_table (d.Learns tid outcome server) when w m h = one w (did (d.Learns tid outcome server) w) (acts.Learn tid (member_here w server) outcome) refl refl refl h
  told_table (d.Begins line) when w m h = stays w (did (d.Begins line) w) (acts.Begin (tm.next_tid w.node.manager) line.label line.client ∷ acts.Answer line.client line.line answers.Done ∷ []) refl
      (append_assoc w.out.entries (acts.Begin (tm.next_tid w.node.manager) line.label line.client ∷ []) (acts.Answer line.client line.line answers.Done ∷ [])) refl h
  told_table (d.Refuses line need room) when w m h = one w (did (d.Refuses line need room) w) (acts.Answer line.client line.line (answers.LogFull need room)) refl refl refl h
  told_table (d.Answers client command why) when w m h = one w (did (d.Answers client command why) w) (acts.Answer client command.line.line (answer_by command why)) refl refl refl h
  told_table (d.Takes client command tid loan) when w m h = one w (did (d.Takes client command tid loan) w) (acts.Answer client command.line.line (if is_void tid loan w.node then answers.Ended else answers.Done)) refl refl refl h
  told_table (d.Yields client command tid loan) when w m h = stays w (did (d.Yields client command tid loan) w) (acts.Yield tid client ∷ acts.Answer client command.line.line answers.Done ∷ []) refl
      (append_assoc w.out.entries (acts.Yield tid client ∷ []) (acts.Answer client command.line.line answers.Done ∷ [])) refl h
  told_table (d.Asks line tid) when w m h = one w (did (d.Asks line tid) w) (acts.Ask tid) refl refl refl h
  told_table (d.IssuesHere by tid request op) when w m h = one w (did (d.IssuesHere by tid request op) w) (acts.Issue tid (member_here w request.issuer) request.member request.number op) refl refl refl h
  told_table (d.IssuesAway by tid request op) when w m h = one w (did (d.IssuesAway by tid request op) w) (acts.Issue tid (member_here w request.issuer) request.member request.number op) refl refl refl h
  told_table (d.Serves server delivery reply) when w m h = served w (did (d.Serves server delivery reply) w) delivery.tid (lent_to delivery.op) (acts.Serve delivery.tid (member_here w server) delivery.from delivery.number reply) refl refl refl h
  told_table (d.ServesAway server delivery reply) when w m h = served w (did (d.ServesAway server delivery reply) w) delivery.tid (lent_to delivery.op) (acts.Serve delivery.tid (member_here w server) delivery.from delivery.number reply) refl refl refl h
  told_table (d.GivesReply tid member number request command reply) when w m h = one w (did (d.GivesReply tid member number request command reply) w) (acts.Answer (client_of request.issuer) command.line.line (answer_of reply)) refl refl refl h
  told_table (d.Counts peer tid up_to told) when w m h = one w (did (d.Counts peer tid up_to told) w) (acts.Counted tid peer up_to) refl refl refl h
  told_table (d.Votes tid server ballot) when w m h = one w (did (d.Votes tid server ballot) w) (acts.Vote tid (member_here w server) ballot (served_count tid server w)) refl refl refl h
  told_table (d.Prepares tid server) when w m h = one w (did (d.Prepares tid server) w) (acts.Vote tid (member_here w server) votes.Recoverable (served_count tid server w)) refl refl refl h
  told_table (d.Decides tid outcome cause) when w m h = decides tid outcome cause w m h
  told_table deed when w m h = quiet w (did deed w) refl refl refl h

pub outcomes_stay_told : OutcomesStayTold
outcomes_stay_told stamp before node event free run told = each_turn (I stamp before run event) node event free (told_table stamp before run event) (λ lawful. told)
