-- What a node has in hand stays said as scripts say it, deed by deed.
use Rattle.std.proofs.Common.{◌≡◌, ◌∙◌, ℕ, ◌==◌, Bool, true, false, List, [], ◌∷◌, ◌++◌, Option, Some, None, Equal, inl, inr, refl, sym, ap, subst}
use Rattle.std.specs.Prelude.{◌⊎◌, cond}
use Rattle.std.specs.BTreeMap.{is_at}
use Rattle.std.specs.List.{find}
use Rattle.std.specs.Map.{remove_entry, set_value}
use Rattle.std.proofs.lemmas.Cmp.{tied_itself}
use Rattle.qs_base.specs.declared.identifiers.ClientNo.{ClientNo}
use Rattle.qs_base.specs.declared.identifiers.Member.{Member}
use Rattle.qs_base.specs.declared.identifiers.NodeNo.{NodeNo}
use Rattle.qs_base.specs.declared.identifiers.Tid.{Tid}
use Rattle.qs_base_lemmas.proofs.Tests.{eqb-self, some_same}
use Rattle.qs_ops.specs.declared.operation.Op.{Op}
use Rattle.qs_book_journal.specs.declared.script_line.Command.TheVariants as commands
use Rattle.qs_book_journal.specs.declared.script_line.ScriptLine.{ScriptLine}
use Rattle.qs_book_laws.proofs.Maps.{changed_apart, lookup_changed, lookup_put, lookup_put_apart}
use Rattle.qs_book_laws.proofs.Rising.{IsBelow, IsRising, put_rises, remove_rises, removed}
use Rattle.qs_node_kept.specs.Keeping.{has_label}
use Rattle.qs_node_kept.specs.Loans.{last_taken}
use Rattle.qs_node_kept.specs.declared.kept.KeptLabel.{KeptLabel}
use Rattle.qs_node_kept.specs.declared.kept.Lent.{Lent}
use Rattle.qs_node_servers.specs.Servers.{client_of}
use Rattle.qs_node_step.specs.Answering.{kept_outcome}
use Rattle.qs_node_step.specs.Serving.{label_at, lent_to}
use Rattle.qs_node_step.specs.State.{NodeValue, Work, client_cmp}
use Rattle.qs_node_step.specs.Step.{is_owner}
use Rattle.qs_node_step.specs.declared.event.Event.{Event}
use Rattle.qs_node_step.specs.declared.state.Issued.{Issued}
use Rattle.qs_node_step.specs.declared.state.OpenCommand.{OpenCommand}
use Rattle.qs_tm.specs.Manager as tm
use Rattle.qs_tm.specs.declared.participant.Outstanding.{Outstanding}
use Rattle.qs_world_course.specs.Clients.{Commands, in_hand_of}
use Rattle.qs_world_lawful.proofs.Answers.{client_exact}
use Rattle.qs_world_lawful.proofs.OtherShares.{removed_apart}
use Rattle.qs_world_walk.specs.Deed as d
use Rattle.qs_world_walk.specs.Deed.{Deed, did, fresh_command, lent}
use Rattle.qs_world_walk.specs.May.{HasLoan, InHand, IsMet, IsRequest, MayUse}
use Rattle.qs_world_walk.specs.Stage.{Stage}
use Rattle.qs_world_walk.specs.Walked.{Table}
use Rattle.qs_world_walk.specs.When.{When, next_stage, stage_of}
use Rattle.qs_world_said.specs.Hands.{ComesAs, HoldsHands, IsSaidAs, IsToBegin, Owns}
use Rattle.qs_world_said.specs.Knows.{KnowsIssued, MaySay}
use Rattle.qs_world_said.proofs.Hands.{IsHeld, Leaves, client_total, closes, holds, left, same, still, unmet_more}
use Rattle.qs_world_said.proofs.Lookups.{IsFoundOr, exact_label, far_at, find_last, found_before, last_gives, last_stays, last_takes, not_at, of_other_client, same_number}
use Rattle.qs_world_said.proofs.OpenStill.{good_loan}

-- ---- entries whose keys rise, with another value at a key; as in qs_world_lawful (Requesting), where it is private

set_below : (x : ClientNo) (p : ClientNo → Bool) (es : Commands) (w : OpenCommand) → IsBelow client_cmp x es → IsBelow client_cmp x (set_value p es w)
set_below x p [] w below = tt
set_below x p (e ∷ es) w below = by (p e.0) (set_below x p es w below.1)
  where
    by : (b : Bool) → IsBelow client_cmp x (set_value p es w) → IsBelow client_cmp x (cond b ((e.0, w) ∷ es) (e ∷ set_value p es w))
    by true more = (below.0, below.1)
    by false more = (below.0, more)

set_rises : (p : ClientNo → Bool) (es : Commands) (w : OpenCommand) → IsRising client_cmp es → IsRising client_cmp (set_value p es w)
set_rises p [] w rising = tt
set_rises p (e ∷ es) w rising = by (p e.0) (set_rises p es w rising.1)
  where
    by : (b : Bool) → IsRising client_cmp (set_value p es w) → IsRising client_cmp (cond b ((e.0, w) ∷ es) (e ∷ set_value p es w))
    by true more = (rising.0, rising.1)
    by false more = (set_below e.0 p es w rising.0, more)

module _ (own : Owns) where
  -- ---- a request is issued

  module _ (work new : Work) (client : ClientNo) (command : OpenCommand) (tid : Tid) (request : Outstanding) (op : Op) (h : HoldsHands own work.node) (there : InHand client command work) (asks : command.line.command ≡ commands.Request request.member op)
      (uses : MayUse client command tid work) (inc : new.node.setting.inc ≡ work.node.setting.inc) (kept : new.node.kept ≡ work.node.kept)
      (commands_are : new.node.commands ≡ tm.changed_value (is_at (client_cmp client)) (λ c. record c { issued = Some (record { tid = tid; member = request.member; number = request.number }) }) work.node.commands) where
    abbrev its_issued : Issued
    its_issued = record { tid = tid; member = request.member; number = request.number }

    abbrev note : OpenCommand → OpenCommand
    note c = record c { issued = Some its_issued }

    labels_are : new.node.kept.now.labels ≡ work.node.kept.now.labels
    labels_are = ap (λ k. k.now.labels) kept

    last_is : (k : ClientNo) (t : Tid) → last_taken k t new.node.kept.now.loans ≡ last_taken k t work.node.kept.now.loans
    last_is k t = ap (λ x. last_taken k t x.now.loans) kept

    set_is : new.node.commands ≡ set_value (is_at (client_cmp client)) work.node.commands (note command)
    set_is = commands_are ∙ ap (λ (o : Option OpenCommand). elim o [ None ↦ work.node.commands | Some v ↦ set_value (is_at (client_cmp client)) work.node.commands (note v) ]) there

    noted_there : in_hand_of client new.node.commands ≡ Some (note command)
    noted_there = ap (in_hand_of client) commands_are ∙ lookup_changed (is_at (client_cmp client)) note work.node.commands command there

    met_still : (label : List ℕ) → label_at label new.node ≡ label_at label work.node
    met_still label = ap (find (has_label label)) labels_are

    said : IsSaidAs own new.node client command.line
    said = let was = h.hands client command there in record { sits = was.sits; named = was.named; says = by was.says }
      where
        by : MaySay (is_owner client (own.begins command.line.label)) command.line.command ⊎ IsToBegin own work.node client command.line → MaySay (is_owner client (own.begins command.line.label)) command.line.command ⊎ IsToBegin own new.node client command.line
        by (inl may) = inl may
        by (inr b) = absurd (cc (sym b.0 ∙ asks))

    known : (issued : Issued) → Some its_issued ≡ Some issued → KnowsIssued new.node client (note command) issued
    known issued is = subst (KnowsIssued new.node client (note command)) (some_same is) (by uses)
      where
        by : (IsMet client command true (Some tid) work × (kept_outcome tid work.node ≡ None)) ⊎ (IsMet client command false (Some tid) work × ((loan : Lent) × HasLoan client tid loan work)) → KnowsIssued new.node client (note command) its_issued
        by (inl (met, none)) = record { op = op; asks = asks; begun = met.begun; met = met_still command.line.label ∙ met.met; of = met.of_is; lent = λ other. absurd (cc (sym met.own_is ∙ other)) }
        by (inr (met, (loan, has))) = record {
          op = op;
          asks = asks;
          begun = met.begun;
          met = met_still command.line.label ∙ met.met;
          of = met.of_is;
          lent = λ other. record { loan = loan; last = last_is client tid ∙ has.last; ungiven = has.kept; present = (good_loan tid loan work.node has.good).0 ∙ sym inc };
        }

    issues : HoldsHands own new.node
    issues = still own work.node new.node inc labels_are h (subst (λ (cs : Commands). IsRising client_cmp cs) (sym set_is) (set_rises (is_at (client_cmp client)) work.node.commands (note command) h.apart)) (λ k c at. by k c at (client.0 == k.0) refl)
      where
        by : (k : ClientNo) (c : OpenCommand) → in_hand_of k new.node.commands ≡ Some c → (b : Bool) → (client.0 == k.0) ≡ b → IsHeld own work.node new.node inc (λ label begun met. met_still label ∙ met) h k c
        by k c at false far = inl (left own work.node new.node inc labels_are h k c (sym (ap (in_hand_of k) commands_are ∙ changed_apart (is_at (client_cmp client)) (is_at (client_cmp k)) (far_at client k far) note work.node.commands) ∙ at) (last_is k))
        by k c at true near = let e : client ≡ k = same_number client k near in let f : note command ≡ c = some_same (sym noted_there ∙ subst (λ (x : ClientNo). in_hand_of x new.node.commands ≡ Some c) (sym e) at) in
            subst (λ (x : ClientNo). IsHeld own work.node new.node inc (λ label begun met. met_still label ∙ met) h x c) e
            (subst (λ (x : OpenCommand). IsHeld own work.node new.node inc (λ label begun met. met_still label ∙ met) h client x) f (inr (said, known)))

  -- ---- a label is met

  module _ (old new : NodeValue) (inc : new.setting.inc ≡ old.setting.inc) (put : KeptLabel) (labels : new.kept.now.labels ≡ old.kept.now.labels ++ put ∷ []) (loans : new.kept.now.loans ≡ old.kept.now.loans) (owner : put.owner ≡ own.begins put.label) (h : HoldsHands own old) where
    grow : (label : List ℕ) (begun : KeptLabel) → label_at label old ≡ Some begun → label_at label new ≡ Some begun
    grow label begun met = ap (find (has_label label)) labels ∙ found_before (has_label label) old.kept.now.labels put begun met

    owners : (label : List ℕ) (begun : KeptLabel) → label_at label new ≡ Some begun → begun.owner ≡ own.begins label
    owners label begun met = by (find_last label old.kept.now.labels put begun (ap (find (has_label label)) (sym labels) ∙ met))
      where
        by : IsFoundOr label old.kept.now.labels put begun → begun.owner ≡ own.begins label
        by (inl was) = h.owners label begun was
        by (inr last) = ap (λ (b : KeptLabel). b.owner) (sym last.0) ∙ (owner ∙ ap own.begins (sym last.1))

    -- what is in hand of a client that does not begin under it is left
    leaves : (k : ClientNo) (c : OpenCommand) → (own.begins put.label ≡ Some k → ⊥) → in_hand_of k old.commands ≡ Some c → Leaves own old new k c
    leaves k c differ there = record { there = there; unmet = λ b. ap (find (has_label c.line.label)) labels ∙ unmet_more c.line.label old.kept.now.labels put b.1.1 (far b (has_label c.line.label put) refl); last = λ tid. ap (last_taken k tid) loans }
      where
        far : IsToBegin own old k c.line → (b : Bool) → has_label c.line.label put ≡ b → b ≡ false
        far b false is = refl
        far b true is = absurd (differ (ap own.begins (sym (exact_label c.line.label put.label is)) ∙ b.1.0))

    learns : new.commands ≡ old.commands → own.begins put.label ≡ None → HoldsHands own new
    learns commands none = holds own old new inc grow h (subst (λ (cs : Commands). IsRising client_cmp cs) (sym commands) h.apart) owners (λ k c there. inl (leaves k c (λ is. absurd (cc (sym none ∙ is))) (ap (in_hand_of k) (sym commands) ∙ there)))

    begins : (client : ClientNo) → own.begins put.label ≡ Some client → new.commands ≡ remove_entry (is_at (client_cmp client)) old.commands → HoldsHands own new
    begins client its commands = holds own old new inc grow h (subst (λ (cs : Commands). IsRising client_cmp cs) (sym commands) (remove_rises client_cmp (is_at (client_cmp client)) old.commands h.apart)) owners (λ k c there. inl (by k c there (client.0 == k.0) refl))
      where
        by : (k : ClientNo) (c : OpenCommand) → in_hand_of k new.commands ≡ Some c → (b : Bool) → (client.0 == k.0) ≡ b → Leaves own old new k c
        by k c there true is = absurd (cc (sym (subst (λ (x : ClientNo). in_hand_of x new.commands ≡ None) (same_number client k is) (ap (in_hand_of client) commands ∙ removed client_cmp client_exact client old.commands h.apart)) ∙ there))
        by k c there false is = leaves k c (λ of. absurd (cc (sym (eqb-self client.0) ∙ (ap (λ (x : ClientNo). client.0 == x.0) (some_same (sym its ∙ of)) ∙ is))))
            (sym (ap (in_hand_of k) commands ∙ removed_apart (is_at (client_cmp client)) (is_at (client_cmp k)) (far_at client k is) old.commands) ∙ there)

  -- ---- a line comes

  said_still : (old new : NodeValue) → new.kept.now.labels ≡ old.kept.now.labels → (client : ClientNo) (line : ScriptLine) → IsSaidAs own old client line → IsSaidAs own new client line
  said_still old new labels client line s = record { sits = s.sits; named = s.named; says = by s.says }
    where
      by : MaySay (is_owner client (own.begins line.label)) line.command ⊎ IsToBegin own old client line → MaySay (is_owner client (own.begins line.label)) line.command ⊎ IsToBegin own new client line
      by (inl may) = inl may
      by (inr b) = inr (b.0, (b.1.0, ap (find (has_label line.label)) labels ∙ b.1.1))

  opens : (work : Work) (line : ScriptLine) → IsSaidAs own work.node line.client line → HoldsHands own work.node → HoldsHands own (did (d.Opens line) work).node
  opens work line said h = still own work.node new refl refl h (put_rises client_cmp client_total line.client (fresh_command line) work.node.commands h.apart) (λ k c at. by k c at (line.client.0 == k.0) refl)
    where
      new : NodeValue
      new = (did (d.Opens line) work).node

      there : in_hand_of line.client new.commands ≡ Some (fresh_command line)
      there = lookup_put client_cmp line.client (fresh_command line) (tied_itself client_total line.client) work.node.commands

      equal : (x : ClientNo) → client_cmp line.client x ≡ Equal → is_at (client_cmp line.client) x ≡ true
      equal x e = rw e refl

      by : (k : ClientNo) (c : OpenCommand) → in_hand_of k new.commands ≡ Some c → (b : Bool) → (line.client.0 == k.0) ≡ b → IsHeld own work.node new refl (λ label begun met. met) h k c
      by k c at false far = inl (left own work.node new refl refl h k c (sym (lookup_put_apart client_cmp line.client (fresh_command line) (λ x e. client_exact line.client x (equal x e)) (is_at (client_cmp k)) (not_at line.client k far) work.node.commands) ∙ at) (λ tid. refl))
      by k c at true near = let e : line.client ≡ k = same_number line.client k near in let f : fresh_command line ≡ c = some_same (sym there ∙ subst (λ (x : ClientNo). in_hand_of x new.commands ≡ Some c) (sym e) at) in
          subst (λ (x : ClientNo). IsHeld own work.node new refl (λ label begun met. met) h x c) e
          (subst (λ (x : OpenCommand). IsHeld own work.node new refl (λ label begun met. met) h line.client x) f (inr (said_still work.node new refl line.client line said, λ issued is. absurd (cc is))))

  -- ---- all deeds

  module _ (event : Event) where
    pub record Amid (stage : Stage) (work : Work) : Type 0 where
      pub holds : HoldsHands own work.node
      pub yet : stage.come ≡ false → ComesAs own work.node event

    comes_still : (old new : NodeValue) → new.kept.now.labels ≡ old.kept.now.labels → ComesAs own old event → ComesAs own new event
    comes_still old new labels c = record {
      lines = λ line is. said_still old new labels line.client line (c.lines line is);
      requests = λ peer tid label member number op r. by label (c.requests peer tid label member number op r);
    }
      where
        by : (label : List ℕ) → (own.begins label ≡ None) ⊎ ((begun : KeptLabel) × (label_at label old ≡ Some begun)) → (own.begins label ≡ None) ⊎ ((begun : KeptLabel) × (label_at label new ≡ Some begun))
        by label (inl none) = inl none
        by label (inr (begun, met)) = inr (begun, ap (find (has_label label)) labels ∙ met)

    -- what has not come as a deed is done had not come before it
    not_come : (deed : Deed) (when : When deed) → (next_stage deed when).come ≡ false → (stage_of deed when).come ≡ false
    not_come d.Lets when is = absurd (cc is)
    not_come (d.Opens line) when is = absurd (cc is)
    not_come (d.TakesIn peer tid member number op) when is = absurd (cc is)
    not_come (d.Stales peer) when is = absurd (cc is)
    not_come d.Ticks when is = absurd (cc is)
    not_come (d.Turns turn) when is = absurd (cc is)
    not_come (d.Rests turn) when is = absurd (cc is)
    not_come deed when is = is

    abbrev pub I : Stage → Work → Type 0
    I stage work = Amid stage work

    rest : (deed : Deed) (when : When deed) (work : Work) → (did deed work).node.kept.now.labels ≡ work.node.kept.now.labels → HoldsHands own (did deed work).node → Amid (stage_of deed when) work → Amid (next_stage deed when) (did deed work)
    rest deed when work labels held h = record { holds = held; yet = λ e. comes_still work.node (did deed work).node labels (h.yet (not_come deed when e)) }

    pub lends : (o : Option ClientNo) (k : ClientNo) (tid t : Tid) (inc : ℕ) (loans : List Lent) → last_taken k t (lent tid inc o loans) ≡ last_taken k t loans
    lends None k tid t inc loans = refl
    lends (Some client) k tid t inc loans = last_stays k client t tid inc loans

    learnt : (label : List ℕ) (tid : Tid) (work : Work) → label_at label work.node ≡ None → (peer : NodeNo) (member : Member) (number : ℕ) (op : Op) → IsRequest event peer tid label member number op → HoldsHands own work.node → ComesAs own work.node event
        → HoldsHands own (did (d.Labels label tid) work).node × ComesAs own (did (d.Labels label tid) work).node event
    learnt label tid work unmet peer member number op r h c = (learns work.node new refl put refl refl (sym none) h refl none, record { lines = λ line is. absurd (cc (sym r.is ∙ is)); requests = λ p t l m n o s. by l (c.requests p t l m n o s) })
      where
        put : KeptLabel
        put = record { label = label; tid = Some tid; owner = None }

        new : NodeValue
        new = (did (d.Labels label tid) work).node

        of : (own.begins label ≡ None) ⊎ ((begun : KeptLabel) × (label_at label work.node ≡ Some begun)) → own.begins label ≡ None
        of (inl is) = is
        of (inr (begun, met)) = absurd (cc (sym unmet ∙ met))

        none : own.begins label ≡ None
        none = of (c.requests peer tid label member number op r)

        by : (l : List ℕ) → (own.begins l ≡ None) ⊎ ((begun : KeptLabel) × (label_at l work.node ≡ Some begun)) → (own.begins l ≡ None) ⊎ ((begun : KeptLabel) × (label_at l new ≡ Some begun))
        by l (inl is) = inl is
        by l (inr (begun, met)) = inr (begun, grow work.node new refl put refl refl (sym none) h l begun met)

    -- a begin in hand is of its client's own.begins label
    pub its_own : (work : Work) (line : ScriptLine) → HoldsHands own work.node → InHand line.client (fresh_command line) work → line.command ≡ commands.Begin → own.begins line.label ≡ Some line.client
    its_own work line h there is = by (h.hands line.client (fresh_command line) there).says
      where
        by : MaySay (is_owner line.client (own.begins line.label)) line.command ⊎ IsToBegin own work.node line.client line → own.begins line.label ≡ Some line.client
        by (inl may) = absurd (subst (MaySay (is_owner line.client (own.begins line.label))) is may)
        by (inr b) = b.1.0

    pub table : Table event I
    table (d.Opens line) when w m h = rest (d.Opens line) when w refl (opens w line ((h.yet refl).lines line m) h.holds) h
    table (d.Labels label tid) when w m h = let l = learnt label tid w m.0 m.1.0 m.1.1.0 m.1.1.1.0 m.1.1.1.1.0 m.1.1.1.1.1 h.holds (h.yet refl) in record { holds = l.0; yet = λ e. l.1 }
    table (d.Begins line) when w m h = record {
      holds = let its = its_own w line h.holds m.0 m.1.1.0 in begins w.node (did (d.Begins line) w).node refl (record { label = line.label; tid = Some (tm.next_tid w.node.manager); owner = Some line.client }) refl refl (sym its) h.holds line.client its refl;
      yet = λ e. absurd (cc e);
    }
    table (d.Refuses line need room) when w m h = record {
      holds = let its = its_own w line h.holds m.0 m.1.1.0 in begins w.node (did (d.Refuses line need room) w).node refl (record { label = line.label; tid = None; owner = Some line.client }) refl refl (sym its) h.holds line.client its refl;
      yet = λ e. absurd (cc e);
    }
    table (d.Answers client command why) when w m h = rest (d.Answers client command why) when w refl (closes own w.node (did (d.Answers client command why) w).node refl refl h.holds client refl (λ k far tid. refl)) h
    table (d.Takes client command tid loan) when w m h = rest (d.Takes client command tid loan) when w refl
        (closes own w.node (did (d.Takes client command tid loan) w).node refl refl h.holds client refl (λ k far t. last_takes client k tid t (λ x. of_other_client client k tid t x far) w.node.kept.now.loans)) h
    table (d.Yields client command tid loan) when w m h = rest (d.Yields client command tid loan) when w refl
        (closes own w.node (did (d.Yields client command tid loan) w).node refl refl h.holds client refl (λ k far t. last_gives client k tid t (λ x. of_other_client client k tid t x far) w.node.kept.now.loans)) h
    table (d.IssuesHere (d.Client client command) tid request op) when w m h = rest (d.IssuesHere (d.Client client command) tid request op) when w refl
        (issues w (did (d.IssuesHere (d.Client client command) tid request op) w) client command tid request op h.holds m.1.1.0 m.1.1.1.0 m.1.1.1.1.1 refl refl refl) h
    table (d.IssuesAway (d.Client client command) tid request op) when w m h = rest (d.IssuesAway (d.Client client command) tid request op) when w refl
        (issues w (did (d.IssuesAway (d.Client client command) tid request op) w) client command tid request op h.holds m.1.1.0 m.1.1.1.0 m.1.1.1.1.1 refl refl refl) h
    table (d.Serves server delivery reply) when w m h = rest (d.Serves server delivery reply) when w refl
        (same own w.node (did (d.Serves server delivery reply) w).node refl refl h.holds refl (λ k t. lends (lent_to delivery.op) k delivery.tid t w.node.setting.inc w.node.kept.now.loans)) h
    table (d.ServesAway server delivery reply) when w m h = rest (d.ServesAway server delivery reply) when w refl
        (same own w.node (did (d.ServesAway server delivery reply) w).node refl refl h.holds refl (λ k t. lends (lent_to delivery.op) k delivery.tid t w.node.setting.inc w.node.kept.now.loans)) h
    table (d.GivesReply tid member number request command reply) when w m h = rest (d.GivesReply tid member number request command reply) when w refl
        (closes own w.node (did (d.GivesReply tid member number request command reply) w).node refl refl h.holds (client_of request.issuer) refl (λ k far t. refl)) h
    table deed when w m h = rest deed when w refl (same own w.node (did deed w).node refl refl h.holds refl (λ k t. refl)) h
