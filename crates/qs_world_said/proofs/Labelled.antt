-- The labels that a node keeps tell the machine's transactions: what a label tells it tells for good, and what begins is labelled.
use Rattle.std.proofs.Common.{◌≡◌, ◌∙◌, ℕ, ◌-◌, Bool, true, false, not, List, [], ◌∷◌, ◌++◌, Option, Some, None, Ordering, Less, Equal, Greater, append_assoc, inl, inr, refl, sym, ap, subst}
use Rattle.std.specs.Prelude.{◌⊎◌, fold, is_none, slice_get, if◌then◌else◌}
use Rattle.std.specs.BTreeMap.{is_at}
use Rattle.qs_base.specs.Order.{bytes_cmp}
use Rattle.std.specs.List.{find}
use Rattle.std.specs.Map.{lookup}
use Rattle.std.specs.Ordering.{ordering_reverse}
use Rattle.std.proofs.lemmas.List.{append-nil}
use Rattle.std.proofs.lemmas.Map.Lookups.{exact_bytes}
use Rattle.qs_base.specs.declared.identifiers.ClientNo.{ClientNo}
use Rattle.qs_base.specs.declared.identifiers.Member.{Member}
use Rattle.qs_base.specs.declared.identifiers.Tid.{Tid}
use Rattle.qs_ops.specs.Operations.{answer_of}
use Rattle.qs_ops.specs.Servers.{is_client_no}
use Rattle.qs_ops.specs.declared.answer.Answer.TheVariants as answers
use Rattle.qs_ops.specs.declared.vote.Vote.TheVariants as votes
use Rattle.qs_ops.proofs.FileOrder.{bytes_total}
use Rattle.qs_book_journal.specs.declared.entry.Act.{Act}
use Rattle.qs_book_journal.specs.declared.entry.Act.TheVariants as acts
use Rattle.qs_book_journal.specs.declared.entry.Entry.{Entry}
use Rattle.qs_book_laws.proofs.Maps.{lookup_put, lookup_put_apart}
use Rattle.qs_book_laws.proofs.Steps.{held, passed, past}
use Rattle.qs_book_machine.specs.Book.{BookValue, begin, crosses, find_label, find_transaction, give_back_from, hear, inc_at, loan_to, waiting_of, with_crossing, with_owner, with_transaction, with_waiting}
use Rattle.qs_book_machine.specs.Clauses.{borrower_at, is_fresh, is_next_tid, link_to}
use Rattle.qs_book_machine.specs.Lawful.{IsLawful, book_after, broken, broken_at, effect, effect_act, is_in_order}
use Rattle.qs_book_machine.specs.Nodes as machine
use Rattle.qs_book_machine.specs.Transaction.{issued}
use Rattle.qs_book_machine.specs.declared.state.Asking.{Asking}
use Rattle.qs_book_machine.specs.declared.state.Owner.{Owner}
use Rattle.qs_book_machine.specs.declared.transaction.RequestNo.{RequestNo}
use Rattle.qs_node_kept.specs.Keeping.{has_label}
use Rattle.qs_node_kept.specs.declared.kept.KeptLabel.{KeptLabel}
use Rattle.qs_node_servers.specs.Servers.{client_of}
use Rattle.qs_node_step.specs.Borrowing.{is_void}
use Rattle.qs_node_step.specs.Bringing.{member_here}
use Rattle.qs_node_step.specs.Serving.{lent_to}
use Rattle.qs_node_step.specs.State.{Work}
use Rattle.qs_node_step.specs.Voting.{served_count}
use Rattle.qs_node_step.specs.declared.event.Event.{Event}
use Rattle.qs_tm.specs.Manager as tm
use Rattle.qs_world.specs.Posting.{entries_of, entry_of}
use Rattle.qs_world_lawful.specs.Aside.{IsOfStep}
use Rattle.qs_world_lawful.specs.Entering.{book_at, entries_so_far}
use Rattle.qs_world_lawful.specs.Logs.{Every}
use Rattle.qs_world_walk.specs.Deed as d
use Rattle.qs_world_walk.specs.Deed.{answer_by, did, loan_entered}
use Rattle.qs_world_walk.specs.Stage.{Stage}
use Rattle.qs_world_walk.specs.Walked.{Table}
use Rattle.qs_world_walk.proofs.IsDeeds.{each_turn}
use Rattle.qs_world_said.specs.Labels.{KeepsLabels, LabelledAmid, LabelsAmid, LabelsStayTold, TellsItsLabel}
use Rattle.qs_world_said.proofs.Lookups.{exact_label, find_last}
use Rattle.qs_world_said.proofs.SoFar.{book_then, more_lawful, was_lawful}

-- ---- labels that compare as equal; as in qs_world_lawful (Taken) and qs_ops (Written), where it is private

pub itself : (x : List ℕ) → bytes_cmp x x ≡ Equal
itself x = by (bytes_cmp x x) refl
  where
    by : (o : Ordering) → bytes_cmp x x ≡ o → bytes_cmp x x ≡ Equal
    by Less is = absurd (cc (sym is ∙ bytes_total.antisymm x x ∙ ap ordering_reverse is))
    by Equal is = is
    by Greater is = absurd (cc (sym is ∙ bytes_total.antisymm x x ∙ ap ordering_reverse is))

-- ---- an entry of a step leaves labels, or makes a fresh one; the first part is in qs_world_lawful (OtherScripts) too, where it is private

heard_labels : (asks : List Asking) (book : BookValue) → (fold hear book asks).labels ≡ book.labels
heard_labels [] book = refl
heard_labels (ask ∷ asks) book = heard_labels asks (hear book ask)

crossing_labels : (b : Bool) (tid : Tid) (member : Member) (book : BookValue) → (with_crossing b tid member book).labels ≡ book.labels
crossing_labels true tid member book = refl
crossing_labels false tid member book = refl

waiting_labels : (tid : Tid) (issuer member : Member) (book : BookValue) → (with_waiting tid issuer member book).labels ≡ book.labels
waiting_labels tid issuer member book = by (is_client_no issuer.server.0)
  where
    by : (b : Bool) → (if b then with_owner (issuer.server.0 - 32) (λ owner. record owner { waiting = owner.waiting ++ record { tid = tid; node = member.node } ∷ [] }) book else book).labels ≡ book.labels
    by true = refl
    by false = refl

pub fresh_by : (here : ℕ) (book : BookValue) (o : Option machine.NodeValue) (stamp : ℕ) (tid : Tid) (label : List ℕ) (client : ClientNo) → broken_at book stamp here o (acts.Begin tid label client) ≡ None → is_fresh book.labels label ≡ true
fresh_by here book None stamp tid label client h = absurd (cc h)
fresh_by here book (Some node) stamp tid label client h = let begins = held node.up 2 _ h in
    passed (is_fresh book.labels label) 11 None (past (is_next_tid here node tid) 10 (if not (is_fresh book.labels label) then Some 11 else None) begins.1)

pub begin_keeps : (here : ℕ) (tid : Tid) (label : List ℕ) (client : ClientNo) (book : BookValue) → is_fresh book.labels label ≡ true → KeepsLabels book (begin here tid label client book)
begin_keeps here tid label client book fresh other known there = by (is_at (bytes_cmp other) label) refl
  where
    by : (b : Bool) → is_at (bytes_cmp other) label ≡ b → find_label (begin here tid label client book) other ≡ Some known
    by true is = absurd (cc (sym fresh ∙ ap (λ (l : List ℕ). is_fresh book.labels l) (sym (exact_label other label is)) ∙ ap is_none there))
    by false far = lookup_put_apart bytes_cmp label tid (exact_bytes label) (is_at (bytes_cmp other)) far book.labels ∙ there

-- an act that begins nothing leaves labels
abbrev pub IsPlain : Act → Type 0
IsPlain (acts.Begin tid label client) = ⊥
IsPlain (acts.Restart inc pend done) = ⊥
IsPlain act = Unit {0}

pub plain_labels : (stamp here : ℕ) (act : Act) → IsPlain act → (book : BookValue) → (effect_act stamp here act book).labels ≡ book.labels
plain_labels stamp here (acts.Restart inc pend done) plain book = absurd plain
plain_labels stamp here (acts.Begin tid label client) plain book = absurd plain
plain_labels stamp here (acts.Issue tid issuer member number op) plain book =
    crossing_labels (crosses (find_transaction book tid) key member) tid member _
    ∙ waiting_labels tid issuer member (with_transaction tid (issued key (record { issuer = issuer; member = member; op = op; inc = inc_at book (record { 0 = here }); served = false }) (inc_at book member.node) book.place) book)
  where
    key : RequestNo
    key = record { link = link_to here member; number = number }
plain_labels stamp here (acts.Answer client line said) plain book = heard_labels (waiting_of (slice_get book.owners client.0)) (with_owner client.0 (λ (owner : Owner). record owner { line = line; waiting = [] }) book)
plain_labels stamp here (acts.Loan tid client) plain book = by (borrower_at client here)
  where
    by : (o : Option Member) → (loan_to (inc_at book (record { 0 = here })) tid o book).labels ≡ book.labels
    by None = refl
    by (Some member) = refl
plain_labels stamp here (acts.Yield tid client) plain book = by (borrower_at client here)
  where
    by : (o : Option Member) → (give_back_from (inc_at book (record { 0 = here })) tid o book).labels ≡ book.labels
    by None = refl
    by (Some member) = refl
plain_labels stamp here act plain book = refl

pub entry_keeps : (book : BookValue) (entry : Entry) → IsOfStep entry.act → broken book entry ≡ None → KeepsLabels book (effect book entry)
entry_keeps book entry of_step lawful = by entry.act of_step (held (is_in_order book entry) 1 (broken_at book entry.stamp entry.node.0 (slice_get book.nodes entry.node.0) entry.act) lawful).1
  where
    here : ℕ
    here = entry.node.0

    same : (act : Act) → IsPlain act → KeepsLabels book (effect_act entry.stamp here act book)
    same act plain label tid there = ap (lookup (is_at (bytes_cmp label))) (plain_labels entry.stamp here act plain book) ∙ there

    by : (act : Act) → IsOfStep act → broken_at book entry.stamp here (slice_get book.nodes here) act ≡ None → KeepsLabels book (effect_act entry.stamp here act book)
    by (acts.Restart inc pend done) so h = absurd so
    by (acts.Begin tid label client) so h = begin_keeps here tid label client book (fresh_by here book (slice_get book.nodes here) entry.stamp tid label client h)
    by act so h = same act tt

pub acts_keep : (here stamp : ℕ) (more : List Act) → Every IsOfStep more → (book : BookValue) → IsLawful book (entries_of here stamp more) → KeepsLabels book (book_after book (entries_of here stamp more))
acts_keep here stamp [] of_step book lawful label tid there = there
acts_keep here stamp (act ∷ more) of_step book lawful label tid there =
    acts_keep here stamp more of_step.1 (effect book (entry_of here stamp act)) lawful.1 label tid (entry_keeps book (entry_of here stamp act) of_step.0 lawful.0 label tid there)

-- ---- deed by deed

module _ (stamp : ℕ) (before : BookValue) (event : Event) (tells : TellsItsLabel before event) where
  abbrev pub I : Stage → Work → Type 0
  I stage work = LabelledAmid stamp before work

  module _ (work new : Work) (more : List Act) (of_step : Every IsOfStep more) (setting : new.node.setting ≡ work.node.setting) (entries : new.out.entries ≡ work.out.entries ++ more) where
    grown : IsLawful before (entries_so_far stamp new) → KeepsLabels (book_at stamp before work) (book_at stamp before new)
    grown lawful = subst (KeepsLabels (book_at stamp before work)) (sym (book_then stamp before work new more setting entries))
        (acts_keep work.node.setting.node.0 stamp more of_step (book_at stamp before work) (more_lawful stamp before work new more setting entries lawful))

    was : LabelledAmid stamp before work → IsLawful before (entries_so_far stamp new) → LabelsAmid stamp before work
    was h lawful = h (was_lawful stamp before work new more setting entries lawful)

    stays : new.node.kept.now.labels ≡ work.node.kept.now.labels → LabelledAmid stamp before work → LabelledAmid stamp before new
    stays same h lawful = record {
      labels = λ label begun tid named there of. grown lawful label tid ((was h lawful).labels label begun tid named (ap (find (has_label label)) (sym same) ∙ there) of);
      stay = λ label tid there. grown lawful label tid ((was h lawful).stay label tid there);
    }

    adds : (put : KeptLabel) → new.node.kept.now.labels ≡ work.node.kept.now.labels ++ put ∷ []
        → (IsLawful before (entries_so_far stamp new) → LabelsAmid stamp before work → (tid : Tid) → put.tid ≡ Some tid → (put.label ≡ [] → ⊥) → find_label (book_at stamp before new) put.label ≡ Some tid)
        → LabelledAmid stamp before work → LabelledAmid stamp before new
    adds put same so h lawful = record {
      labels = λ label begun tid named there of. by label begun tid named of (find_last label work.node.kept.now.labels put begun (ap (find (has_label label)) (sym same) ∙ there));
      stay = λ label tid there. grown lawful label tid ((was h lawful).stay label tid there);
    }
      where
        by : (label : List ℕ) (begun : KeptLabel) (tid : Tid) → (label ≡ [] → ⊥) → begun.tid ≡ Some tid → (find (has_label label) work.node.kept.now.labels ≡ Some begun) ⊎ ((put ≡ begun) × (label ≡ put.label)) → find_label (book_at stamp before new) label ≡ Some tid
        by label begun tid named of (inl there) = grown lawful label tid ((was h lawful).labels label begun tid named there of)
        by label begun tid named of (inr last) = ap (find_label (book_at stamp before new)) last.1 ∙ so lawful (was h lawful) tid (ap (λ (b : KeptLabel). b.tid) last.0 ∙ of) (λ none. named (last.1 ∙ none))

  quiet : (work new : Work) → new.node.setting ≡ work.node.setting → new.out.entries ≡ work.out.entries → new.node.kept.now.labels ≡ work.node.kept.now.labels → LabelledAmid stamp before work → LabelledAmid stamp before new
  quiet work new setting entries same = stays work new [] tt setting (entries ∙ sym (append-nil work.out.entries)) same

  one : (work new : Work) (act : Act) → IsOfStep act → new.node.setting ≡ work.node.setting → new.out.entries ≡ work.out.entries ++ act ∷ [] → new.node.kept.now.labels ≡ work.node.kept.now.labels → LabelledAmid stamp before work → LabelledAmid stamp before new
  one work new act of_step setting entries same = stays work new (act ∷ []) (of_step, tt) setting entries same

  served : (work new : Work) (tid : Tid) (o : Option ClientNo) (act : Act) → IsOfStep act → new.node.setting ≡ work.node.setting → new.out.entries ≡ loan_entered tid o (work.out.entries ++ act ∷ []) → new.node.kept.now.labels ≡ work.node.kept.now.labels
      → LabelledAmid stamp before work → LabelledAmid stamp before new
  served work new tid None act of_step setting entries same = one work new act of_step setting entries same
  served work new tid (Some client) act of_step setting entries same = stays work new (act ∷ acts.Loan tid client ∷ []) (of_step, (tt, tt)) setting (entries ∙ append_assoc work.out.entries (act ∷ []) (acts.Loan tid client ∷ [])) same

  pub table : Table event I
  table d.Ticks when w m h = one w (did d.Ticks w) acts.Tick tt refl refl refl h
  table (d.Labels label tid) when w m h = adds w (did (d.Labels label tid) w) [] tt refl (sym (append-nil w.out.entries)) (record { label = label; tid = Some tid; owner = None }) refl
      (λ lawful was other is named. was.stay label other (tells m.1.0 tid label m.1.1.0 m.1.1.1.0 m.1.1.1.1.0 m.1.1.1.1.1 named ∙ is)) h
  table (d.Ends tid server) when w m h = one w (did (d.Ends tid server) w) (acts.Ending tid (member_here w server)) tt refl refl refl h
  table (d.Learns tid outcome server) when w m h = one w (did (d.Learns tid outcome server) w) (acts.Learn tid (member_here w server) outcome) tt refl refl refl h
  table (d.Begins line) when w m h = adds w new more (tt, (tt, tt)) refl entries (record { label = line.label; tid = Some tid; owner = Some line.client }) refl
      (λ lawful was other is named. subst (λ (b : BookValue). find_label b line.label ≡ Some other) (sym (book_then stamp before w new more refl entries))
      (entry_keeps begun (entry_of w.node.setting.node.0 stamp (acts.Answer line.client line.line answers.Done)) tt (more_lawful stamp before w new more refl entries lawful).1.0 line.label other
      (lookup_put bytes_cmp line.label tid (itself line.label) (book_at stamp before w).labels ∙ is))) h
    where
      new : Work
      new = did (d.Begins line) w

      tid : Tid
      tid = tm.next_tid w.node.manager

      more : List Act
      more = acts.Begin tid line.label line.client ∷ acts.Answer line.client line.line answers.Done ∷ []

      begun : BookValue
      begun = effect (book_at stamp before w) (entry_of w.node.setting.node.0 stamp (acts.Begin tid line.label line.client))

      entries : new.out.entries ≡ w.out.entries ++ more
      entries = append_assoc w.out.entries (acts.Begin tid line.label line.client ∷ []) (acts.Answer line.client line.line answers.Done ∷ [])
  table (d.Refuses line need room) when w m h = adds w (did (d.Refuses line need room) w) (acts.Answer line.client line.line (answers.LogFull need room) ∷ []) (tt, tt) refl refl (record { label = line.label; tid = None; owner = Some line.client }) refl
      (λ lawful was other is named. absurd (cc is)) h
  table (d.Answers client command why) when w m h = one w (did (d.Answers client command why) w) (acts.Answer client command.line.line (answer_by command why)) tt refl refl refl h
  table (d.Takes client command tid loan) when w m h = one w (did (d.Takes client command tid loan) w) (acts.Answer client command.line.line (if is_void tid loan w.node then answers.Ended else answers.Done)) tt refl refl refl h
  table (d.Yields client command tid loan) when w m h = stays w (did (d.Yields client command tid loan) w) (acts.Yield tid client ∷ acts.Answer client command.line.line answers.Done ∷ []) (tt, (tt, tt)) refl
      (append_assoc w.out.entries (acts.Yield tid client ∷ []) (acts.Answer client command.line.line answers.Done ∷ [])) refl h
  table (d.Asks line tid) when w m h = one w (did (d.Asks line tid) w) (acts.Ask tid) tt refl refl refl h
  table (d.IssuesHere by tid request op) when w m h = one w (did (d.IssuesHere by tid request op) w) (acts.Issue tid (member_here w request.issuer) request.member request.number op) tt refl refl refl h
  table (d.IssuesAway by tid request op) when w m h = one w (did (d.IssuesAway by tid request op) w) (acts.Issue tid (member_here w request.issuer) request.member request.number op) tt refl refl refl h
  table (d.Serves server delivery reply) when w m h = served w (did (d.Serves server delivery reply) w) delivery.tid (lent_to delivery.op) (acts.Serve delivery.tid (member_here w server) delivery.from delivery.number reply) tt refl refl refl h
  table (d.ServesAway server delivery reply) when w m h = served w (did (d.ServesAway server delivery reply) w) delivery.tid (lent_to delivery.op) (acts.Serve delivery.tid (member_here w server) delivery.from delivery.number reply) tt refl refl refl h
  table (d.GivesReply tid member number request command reply) when w m h = one w (did (d.GivesReply tid member number request command reply) w) (acts.Answer (client_of request.issuer) command.line.line (answer_of reply)) tt refl refl refl h
  table (d.Counts peer tid up_to told) when w m h = one w (did (d.Counts peer tid up_to told) w) (acts.Counted tid peer up_to) tt refl refl refl h
  table (d.Votes tid server ballot) when w m h = one w (did (d.Votes tid server ballot) w) (acts.Vote tid (member_here w server) ballot (served_count tid server w)) tt refl refl refl h
  table (d.Prepares tid server) when w m h = one w (did (d.Prepares tid server) w) (acts.Vote tid (member_here w server) votes.Recoverable (served_count tid server w)) tt refl refl refl h
  table (d.Decides tid outcome cause) when w m h = one w (did (d.Decides tid outcome cause) w) (acts.Decide tid outcome cause) tt refl refl refl h
  table deed when w m h = quiet w (did deed w) refl refl refl h

pub labels_stay_told : LabelsStayTold
labels_stay_told stamp before node event free tells told = each_turn (I stamp before event tells) node event free (table stamp before event tells) (λ lawful. record { labels = told; stay = λ label tid there. there })
