-- What is known of names at each turn of a step.
use Rattle.std.proofs.Common.{◌≡◌, ◌∙◌, ℕ, List, [], ◌∷◌, ◌++◌, Option, Some, None, append_assoc, inl, inr, refl, sym, ap, subst}
use Rattle.std.specs.Prelude.{◌⊎◌, if◌then◌else◌}
use Rattle.std.proofs.lemmas.List.{append-nil}
use Rattle.qs_base.specs.declared.identifiers.ClientNo.{ClientNo}
use Rattle.qs_base.specs.declared.identifiers.Tid.{Tid}
use Rattle.qs_ops.specs.Operations.{answer_of}
use Rattle.qs_ops.specs.declared.answer.Answer.TheVariants as answers
use Rattle.qs_ops.specs.declared.vote.Vote.TheVariants as votes
use Rattle.qs_book_journal.specs.declared.entry.Act.{Act}
use Rattle.qs_book_journal.specs.declared.entry.Act.TheVariants as acts
use Rattle.qs_book_journal.specs.declared.entry.Entry.{Entry}
use Rattle.qs_world_course.specs.Worlds.{IsToldSo}
use Rattle.qs_world_said.proofs.Labelled.{acts_keep}
use Rattle.qs_book_laws.proofs.Openings.{opening_holds}
use Rattle.qs_book_laws.proofs.Outcomes.{Inv}
use Rattle.qs_book_laws.proofs.Steps.{ran}
use Rattle.qs_book_machine.specs.Book.{BookValue, find_label}
use Rattle.qs_book_machine.specs.Lawful.{IsLawful, book_after}
use Rattle.qs_book_machine.specs.Opening.{opening}
use Rattle.qs_book_conformance.specs.Course.{CourseValue}
use Rattle.qs_node_kept.specs.declared.kept.KeptLabel.{KeptLabel}
use Rattle.qs_node_servers.specs.Servers.{client_of}
use Rattle.qs_node_step.specs.Borrowing.{is_void}
use Rattle.qs_node_step.specs.Bringing.{member_here}
use Rattle.qs_node_step.specs.Serving.{label_at, lent_to}
use Rattle.qs_node_step.specs.State.{NodeValue, Work, work_on}
use Rattle.qs_node_step.specs.Step.{is_owner}
use Rattle.qs_node_step.specs.Voting.{served_count}
use Rattle.qs_node_step.specs.declared.event.Event.{Event}
use Rattle.qs_node_step.specs.declared.state.OpenCommand.{OpenCommand}
use Rattle.qs_tm.specs.Manager as tm
use Rattle.qs_world_course.specs.Clients.{in_hand_of}
use Rattle.qs_world.specs.Posting.{entries_of}
use Rattle.qs_world_course.specs.Kinds.{course_on}
use Rattle.qs_world_lawful.specs.Aside.{IsOfStep}
use Rattle.qs_world_lawful.specs.Amid.{InRun}
use Rattle.qs_world_lawful.specs.Entering.{book_at, entries_so_far}
use Rattle.qs_world_lawful.specs.Logs.{Every}
use Rattle.qs_world_walk.specs.Deed as d
use Rattle.qs_world_walk.specs.Deed.{Deed, answer_by, did, loan_entered}
use Rattle.qs_world_walk.specs.May.{May}
use Rattle.qs_world_walk.specs.Stage.{Stage}
use Rattle.qs_world_walk.specs.Stage as walks
use Rattle.qs_world_walk.specs.Walked.{Table}
use Rattle.qs_world_walk.specs.When.{When, stage_of}
use Rattle.qs_world_walk.proofs.IsDeeds.{each_turn}
use Rattle.qs_world_said.specs.Hands.{ComesAs, IsToBegin, Owns}
use Rattle.qs_world_said.specs.Knows.{KnowsTid, MaySay}
use Rattle.qs_world_said.specs.Labels.{AreLabelled, LabelledAmid, TellsItsLabel}
use Rattle.qs_world_said.specs.Naming.{AreOwned, BeginsAs, NamesAmid, NamesAreKnown, NamesAside, NamesStand, NamesStay}
use Rattle.qs_world_said.specs.Outcomes.{AreTold, ToldAmid}
use Rattle.qs_world_said.proofs.HandsTable.{Amid, its_own}
use Rattle.qs_world_said.proofs.HandsTable as hands
use Rattle.qs_world_said.proofs.HandsStay.{turns_give}
use Rattle.qs_world_said.proofs.Labelled as labelled
use Rattle.qs_world_said.proofs.Machine.{book_on}
use Rattle.qs_world_said.proofs.Owners.{acts_owned}
use Rattle.qs_world_said.proofs.Told as told
use Rattle.qs_world_said.proofs.SoFar.{book_then, more_lawful, was_lawful}

-- ---- where names stand, what has to be known of them is known

pub names_are_known : NamesAreKnown
names_are_known own course node n = record {
  says = λ client command begun there met. says client command begun there met (n.hands.hands client command there).says;
  tids = tids;
  issued = n.hands.issued;
  outcomes = n.outcomes;
}
  where
    says : (client : ClientNo) (command : OpenCommand) (begun : KeptLabel) → in_hand_of client node.commands ≡ Some command → label_at command.line.label node ≡ Some begun
        → MaySay (is_owner client (own.begins command.line.label)) command.line.command ⊎ IsToBegin own node client command.line → MaySay (is_owner client begun.owner) command.line.command
    says client command begun there met (inl may) = subst (λ (o : Option ClientNo). MaySay (is_owner client o) command.line.command) (sym (n.hands.owners command.line.label begun met)) may
    says client command begun there met (inr b) = absurd (cc (sym b.1.1 ∙ met))

    tids : (client : ClientNo) (command : OpenCommand) (begun : KeptLabel) (tid : Tid) → in_hand_of client node.commands ≡ Some command → label_at command.line.label node ≡ Some begun → begun.tid ≡ Some tid → KnowsTid course client command.line.label begun tid
    tids client command begun tid there met of =
        let said = n.hands.hands client command there in
        let labelled = n.labels command.line.label begun tid said.named met of in
        let o = n.owners command.line.label tid labelled in
        record { tx = o.tx; labelled = labelled; found = o.found; owner = o.owner client said.sits ∙ ap (is_owner client) (sym (n.hands.owners command.line.label begun met)) }

-- ---- at each turn

module _ (own : Owns) (stamp : ℕ) (before : BookValue) (run : InRun before) (event : Event) where
  abbrev pub OwnedAmid : Work → Type 0
  OwnedAmid work = IsLawful before (entries_so_far stamp work) → AreOwned own (book_at stamp before work)

  abbrev pub I : Stage → Work → Type 0
  I stage work = (Amid own event stage work × OwnedAmid work) × (LabelledAmid stamp before work × ToldAmid stamp before work)

  inv_before : Inv before
  inv_before = subst Inv (sym run.is) (ran run.history (opening run.opened) (opening_holds run.opened run.coherent) run.lawful).inv

  goes : (work new : Work) (more : List Act) → Every IsOfStep more → Every (BeginsAs own) more → new.node.setting ≡ work.node.setting → new.out.entries ≡ work.out.entries ++ more → OwnedAmid work → OwnedAmid new
  goes work new more of_step begins setting entries h lawful = subst (AreOwned own) (sym (book_then stamp before work new more setting entries))
      (acts_owned own work.node.setting.node.0 stamp more of_step begins (book_at stamp before work) (ran (entries_so_far stamp work) before inv_before (was_lawful stamp before work new more setting entries lawful)).inv
      (more_lawful stamp before work new more setting entries lawful) (h (was_lawful stamp before work new more setting entries lawful)))

  one : (work new : Work) (act : Act) → IsOfStep act → BeginsAs own act → new.node.setting ≡ work.node.setting → new.out.entries ≡ work.out.entries ++ act ∷ [] → OwnedAmid work → OwnedAmid new
  one work new act of_step begins setting entries = goes work new (act ∷ []) (of_step, tt) (begins, tt) setting entries

  served : (work new : Work) (tid : Tid) (o : Option ClientNo) (act : Act) → IsOfStep act → BeginsAs own act → new.node.setting ≡ work.node.setting → new.out.entries ≡ loan_entered tid o (work.out.entries ++ act ∷ []) → OwnedAmid work → OwnedAmid new
  served work new tid None act of_step begins setting entries = one work new act of_step begins setting entries
  served work new tid (Some client) act of_step begins setting entries = goes work new (act ∷ acts.Loan tid client ∷ []) (of_step, (tt, tt)) (begins, (tt, tt)) setting (entries ∙ append_assoc work.out.entries (act ∷ []) (acts.Loan tid client ∷ []))

  owned : (deed : Deed) (when : When deed) (w : Work) → May event deed w → Amid own event (stage_of deed when) w → OwnedAmid w → OwnedAmid (did deed w)
  owned d.Ticks when w m a h = one w (did d.Ticks w) acts.Tick tt tt refl refl h
  owned (d.Ends tid server) when w m a h = one w (did (d.Ends tid server) w) (acts.Ending tid (member_here w server)) tt tt refl refl h
  owned (d.Learns tid outcome server) when w m a h = one w (did (d.Learns tid outcome server) w) (acts.Learn tid (member_here w server) outcome) tt tt refl refl h
  owned (d.Begins line) when w m a h = goes w (did (d.Begins line) w) (acts.Begin (tm.next_tid w.node.manager) line.label line.client ∷ acts.Answer line.client line.line answers.Done ∷ []) (tt, (tt, tt)) (λ c sits. ap (is_owner c) (sym (its_own own event w line a.holds m.0 m.1.1.0)), (tt, tt)) refl
      (append_assoc w.out.entries (acts.Begin (tm.next_tid w.node.manager) line.label line.client ∷ []) (acts.Answer line.client line.line answers.Done ∷ [])) h
  owned (d.Refuses line need room) when w m a h = one w (did (d.Refuses line need room) w) (acts.Answer line.client line.line (answers.LogFull need room)) tt tt refl refl h
  owned (d.Answers client command why) when w m a h = one w (did (d.Answers client command why) w) (acts.Answer client command.line.line (answer_by command why)) tt tt refl refl h
  owned (d.Takes client command tid loan) when w m a h = one w (did (d.Takes client command tid loan) w) (acts.Answer client command.line.line (if is_void tid loan w.node then answers.Ended else answers.Done)) tt tt refl refl h
  owned (d.Yields client command tid loan) when w m a h = goes w (did (d.Yields client command tid loan) w) (acts.Yield tid client ∷ acts.Answer client command.line.line answers.Done ∷ []) (tt, (tt, tt)) (tt, (tt, tt)) refl
      (append_assoc w.out.entries (acts.Yield tid client ∷ []) (acts.Answer client command.line.line answers.Done ∷ [])) h
  owned (d.Asks line tid) when w m a h = one w (did (d.Asks line tid) w) (acts.Ask tid) tt tt refl refl h
  owned (d.IssuesHere by tid request op) when w m a h = one w (did (d.IssuesHere by tid request op) w) (acts.Issue tid (member_here w request.issuer) request.member request.number op) tt tt refl refl h
  owned (d.IssuesAway by tid request op) when w m a h = one w (did (d.IssuesAway by tid request op) w) (acts.Issue tid (member_here w request.issuer) request.member request.number op) tt tt refl refl h
  owned (d.Serves server delivery reply) when w m a h = served w (did (d.Serves server delivery reply) w) delivery.tid (lent_to delivery.op) (acts.Serve delivery.tid (member_here w server) delivery.from delivery.number reply) tt tt refl refl h
  owned (d.ServesAway server delivery reply) when w m a h = served w (did (d.ServesAway server delivery reply) w) delivery.tid (lent_to delivery.op) (acts.Serve delivery.tid (member_here w server) delivery.from delivery.number reply) tt tt refl refl h
  owned (d.GivesReply tid member number request command reply) when w m a h = one w (did (d.GivesReply tid member number request command reply) w) (acts.Answer (client_of request.issuer) command.line.line (answer_of reply)) tt tt refl refl h
  owned (d.Counts peer tid up_to told) when w m a h = one w (did (d.Counts peer tid up_to told) w) (acts.Counted tid peer up_to) tt tt refl refl h
  owned (d.Votes tid server ballot) when w m a h = one w (did (d.Votes tid server ballot) w) (acts.Vote tid (member_here w server) ballot (served_count tid server w)) tt tt refl refl h
  owned (d.Prepares tid server) when w m a h = one w (did (d.Prepares tid server) w) (acts.Vote tid (member_here w server) votes.Recoverable (served_count tid server w)) tt tt refl refl h
  owned (d.Decides tid outcome cause) when w m a h = one w (did (d.Decides tid outcome cause) w) (acts.Decide tid outcome cause) tt tt refl refl h
  owned deed when w m a h = goes w (did deed w) [] tt tt refl (sym (append-nil w.out.entries)) h

  pub table : TellsItsLabel before event → Table event I
  table tells deed when w m h = ((hands.table own event deed when w m h.0.0, owned deed when w m h.0.0 h.0.1), (labelled.table stamp before event tells deed when w m h.1.0, told.told_table stamp before run event deed when w m h.1.1))

-- ---- acts of whatever node

pub names_aside : NamesAside
names_aside own course node here stamp more run of_step begins lawful n = record {
  hands = n.hands;
  labels = λ label begun tid named there of. subst (λ (b : BookValue). find_label b label ≡ Some tid) later (acts_keep here stamp more of_step course.book lawful label tid (n.labels label begun tid named there of));
  outcomes = λ tid decided there. subst (λ (b : BookValue). IsToldSo b tid decided) later (told.told_still course.book (book_after course.book entries) (ran entries course.book inv lawful).kept tid decided (n.outcomes tid decided there));
  owners = subst (AreOwned own) later (acts_owned own here stamp more of_step begins course.book inv lawful n.owners);
}
  where
    entries : List Entry
    entries = entries_of here stamp more

    inv : Inv course.book
    inv = subst Inv (sym run.is) (ran run.history (opening run.opened) (opening_holds run.opened run.coherent) run.lawful).inv

    later : book_after course.book entries ≡ (course_on course entries).book
    later = sym (book_on course entries)

-- ---- all of it

pub stand_amid : (own : Owns) (stamp : ℕ) (before : CourseValue) (run : InRun before.book) (event : Event) (stage : Stage) (work : Work) → I own stamp before.book run event stage work → NamesAmid own stamp before work
stand_amid own stamp before run event stage work i lawful = record {
  hands = i.0.0.holds;
  labels = subst (λ (book : BookValue). AreLabelled book work.node.kept.now.labels) (sym (book_on before (entries_so_far stamp work))) (i.1.0 lawful).labels;
  outcomes = subst (λ (book : BookValue). AreTold book work.node.kept.now.outcomes) (sym (book_on before (entries_so_far stamp work))) (i.1.1 lawful);
  owners = subst (AreOwned own) (sym (book_on before (entries_so_far stamp work))) (i.0.1 lawful);
}

pub begins_so : (own : Owns) (stamp : ℕ) (before : CourseValue) (run : InRun before.book) (event : Event) (node : NodeValue) (free : ℕ) → ComesAs own node event → NamesStand own before node → I own stamp before.book run event walks.before (work_on node free)
begins_so own stamp before run event node free comes n = ((record { holds = n.hands; yet = λ e. comes }, λ lawful. n.owners), (λ lawful. record { labels = n.labels; stay = λ label tid there. there }, λ lawful. n.outcomes))

pub names_stay : NamesStay
names_stay own stamp before node event free run comes tells n = turns_give (I own stamp before.book run event) (λ stage work. NamesAmid own stamp before work) node event free (λ stage work i. stand_amid own stamp before run event stage work i)
    (each_turn (I own stamp before.book run event) node event free (table own stamp before.book run event tells) (begins_so own stamp before run event node free comes n))
