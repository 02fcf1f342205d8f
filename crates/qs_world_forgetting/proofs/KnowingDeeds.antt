-- What a rule brings about is the same where the node knows of other Commits: messages, entries, answers, decisions, outcomes.
use Rattle.std.proofs.Common.{◌≡◌, ◌∙◌, Bool, true, false, List, [], ◌∷◌, ◌++◌, refl, ap, fold, Option, Some, None}
use Rattle.std.specs.Prelude.{if◌then◌else◌}
use Rattle.std.specs.List.{list_any}
use Rattle.std.specs.Map.{lookup, remove_entry}
use Rattle.std.specs.BTreeMap.{is_at}
use Rattle.qs_base.specs.declared.identifiers.NodeNo.{NodeNo}
use Rattle.qs_base.specs.declared.identifiers.Outcome.{Outcome}
use Rattle.qs_base.specs.declared.identifiers.Tid.{Tid}
use Rattle.qs_base.specs.declared.identifiers.ClientNo.{ClientNo}
use Rattle.qs_base.specs.declared.identifiers.Outcome.TheVariants as outcomes
use Rattle.qs_ops.specs.declared.answer.Cause.{Cause}
use Rattle.qs_ops.specs.declared.answer.Answer.{Answer}
use Rattle.qs_ops.specs.declared.answer.Cause.TheVariants as causes
use Rattle.qs_record.specs.declared.record.Record.{Record}
use Rattle.qs_packet.specs.declared.message.Message.{Message}
use Rattle.qs_packet.specs.declared.message.Message.TheVariants as messages
use Rattle.qs_book_journal.specs.declared.entry.Act.TheVariants as acts
use Rattle.qs_engage.specs.Nodes.{same_node, listed}
use Rattle.qs_tm.specs.Participant.{is_undecided}
use Rattle.qs_tm.specs.Manager as tm
use Rattle.qs_tm.specs.declared.participant.Participant.{Participant}
use Rattle.qs_tm.specs.declared.manager.Decision.{Decision}
use Rattle.qs_node_step.specs.State.{Work, here, part_of, with_manager, client_cmp}
use Rattle.qs_node_step.specs.Bringing.{send, enter, send_each, answer, is_other, send_next, log_if}
use Rattle.qs_node_step.specs.Telling.{keep_abort_told, record_learnt, tell_came, told_came, names_at, learn, learn_unknown, take_outcome, end_told, take_names, is_other_node, told_unknown, told_known, told_at_home}
use Rattle.qs_node_step.specs.Asking.{where_undecided}
use Rattle.qs_node_step.specs.Deciding.{decide, end_member, due_endings, end_members, learn_member, learners_at, learn_members, give_notices, keep_outcome, decide_as, decide_commit}
use Rattle.qs_node_step.specs.declared.state.OpenCommand.{OpenCommand}
use Rattle.qs_world_forgetting.specs.Knowing.{work_knowing}

-- the rule does the same with other Commits known
abbrev pub Commutes : List Tid → (Work → Work) → Type 0
Commutes c f = (w : Work) → f (work_knowing c w) ≡ work_knowing c (f w)

abbrev pub unchanged : Work → Work
unchanged w = w

module _ (c : List Tid) where
  pub same_goes : Commutes c unchanged
  same_goes w = refl

  pub fold_goes : {A : Type 0} (f : Work → A → Work) → ((x : A) → Commutes c (λ w. f w x)) → (xs : List A) → Commutes c (λ w. fold f w xs)
  fold_goes f p [] w = refl
  fold_goes f p (x ∷ xs) w = ap (λ (v : Work). fold f v xs) (p x w) ∙ fold_goes f p xs (f w x)

  pub if_goes : (b : Bool) (f g : Work → Work) → Commutes c f → Commutes c g → (w : Work) → (if b then f (work_knowing c w) else g (work_knowing c w)) ≡ work_knowing c (if b then f w else g w)
  if_goes true f g p q w = p w
  if_goes false f g p q w = q w

  pub when_goes : (b : Bool) (f : Work → Work) → Commutes c f → (w : Work) → (if b then f (work_knowing c w) else work_knowing c w) ≡ work_knowing c (if b then f w else w)
  when_goes true f p w = p w
  when_goes false f p w = refl

  pub unless_goes : (b : Bool) (f : Work → Work) → Commutes c f → (w : Work) → (if b then work_knowing c w else f (work_knowing c w)) ≡ work_knowing c (if b then w else f w)
  unless_goes true f p w = refl
  unless_goes false f p w = p w

  pub opt_goes : {A : Type 0} (o : Option A) (f : Work → Work) (g : A → Work → Work) → Commutes c f → ((x : A) → Commutes c (g x)) → (w : Work)
      → ◌≡◌ {A = Work} (elim o [ None ↦ f (work_knowing c w) | Some x ↦ g x (work_knowing c w) ]) (work_knowing c (elim o [ None ↦ f w | Some x ↦ g x w ]))
  opt_goes None f g p q w = p w
  opt_goes (Some x) f g p q w = q x w

  -- ---- what a rule brings about

  pub send_goes : (to : NodeNo) (message : Message) → Commutes c (send to message)
  send_goes to message w = when_goes (is_other w.node.setting to) (λ u. record u { out = record u.out { messages = u.out.messages ++ record { to = to; message = message } ∷ [] } }) (λ u. refl) w

  pub send_each_goes : (nodes : List NodeNo) (message : Message) → Commutes c (send_each nodes message)
  send_each_goes nodes message w = fold_goes (send_next message) (λ to v. send_goes to message v) nodes w

  pub answer_goes : (client : ClientNo) (said : Answer) → Commutes c (answer client said)
  answer_goes client said w = opt_goes (lookup (is_at (client_cmp client)) w.node.commands) unchanged (λ (command : OpenCommand) u. record u {
    node = record u.node { commands = remove_entry (is_at (client_cmp client)) u.node.commands };
    out = record u.out {
      answers = u.out.answers ++ record { client = client; answer = record { line = command.line.line; answer = said } } ∷ [];
      entries = u.out.entries ++ acts.Answer client command.line.line said ∷ [];
    };
  }) same_goes (λ command u. refl) w

  pub log_if_goes : (rec : Option Record) → Commutes c (log_if rec)
  log_if_goes None w = refl
  log_if_goes (Some rec) w = refl

  pub where_goes : (tid : Tid) (rule : Participant → Work → Work) → ((part : Participant) → Commutes c (rule part)) → Commutes c (where_undecided tid rule)
  where_goes tid rule p w = opt_goes (part_of tid w) unchanged (λ part u. if is_undecided part then rule part u else u) same_goes (λ part u. when_goes (is_undecided part) (rule part) (p part) u) w

  -- ---- notices and decisions

  pub end_members_goes : (tid : Tid) → Commutes c (end_members tid)
  end_members_goes tid w = fold_goes (end_member tid) (λ server v. refl) (due_endings tid w) w

  learn_members_goes : (tid : Tid) (outcome : Outcome) → Commutes c (learn_members tid outcome)
  learn_members_goes tid outcome w = fold_goes (learn_member tid outcome) (λ server v. refl) (learners_at tid w) w

  pub notices_go : (tid : Tid) (outcome : Outcome) → Commutes c (give_notices tid outcome)
  notices_go tid outcomes.Commit w = learn_members_goes tid outcomes.Commit w
  notices_go tid outcomes.Abort w = ap (learn_members tid outcomes.Abort) (end_members_goes tid w) ∙ learn_members_goes tid outcomes.Abort (end_members tid w)

  decide_as_goes : (tid : Tid) (outcome : Outcome) (cause : Option Cause) (made : Decision) → Commutes c (decide_as tid outcome cause made)
  decide_as_goes tid outcome cause made w =
      let first : Work = with_manager (tm.decide tid outcome) w in
      let told : Work = enter (acts.Decide tid outcome cause) (keep_outcome tid outcome cause (log_if made.rec first)) in
      ap (λ (v : Work). send_each made.tell (messages.Tell tid outcome) (give_notices tid outcome (enter (acts.Decide tid outcome cause) (keep_outcome tid outcome cause v)))) (log_if_goes made.rec first)
      ∙ ap (send_each made.tell (messages.Tell tid outcome)) (notices_go tid outcome told)
      ∙ send_each_goes made.tell (messages.Tell tid outcome) (give_notices tid outcome told)

  pub decide_goes : (tid : Tid) (outcome : Outcome) (cause : Option Cause) → Commutes c (decide tid outcome cause)
  decide_goes tid outcome cause w = decide_as_goes tid outcome cause (tm.decision tid outcome w.node.manager) w

  pub decide_commit_goes : (tid : Tid) → Commutes c (decide_commit tid)
  decide_commit_goes tid w = opt_goes (tm.need_past tid w.room w.node.manager) (decide tid outcomes.Commit None) (λ need u. decide tid outcomes.Abort (Some (causes.Room need w.room)) u) (decide_goes tid outcomes.Commit None)
      (λ need u. decide_goes tid outcomes.Abort (Some (causes.Room need w.room)) u) w

  -- ---- an outcome is told

  learn_goes : (tid : Tid) (outcome : Outcome) (part : Participant) → Commutes c (learn tid outcome part)
  learn_goes tid outcome part w = ap (log_if (record_learnt tid outcome part)) (notices_go tid outcome (with_manager (tm.took_outcome tid outcome) w)) ∙ log_if_goes (record_learnt tid outcome part) (give_notices tid outcome (with_manager (tm.took_outcome tid outcome) w))

  unknown_goes : (tid : Tid) (outcome : Outcome) → Commutes c (learn_unknown tid outcome)
  unknown_goes tid outcomes.Commit w = refl
  unknown_goes tid outcomes.Abort w = refl

  take_goes : (tid : Tid) (outcome : Outcome) → Commutes c (take_outcome tid outcome)
  take_goes tid outcome w = opt_goes (part_of tid w) (learn_unknown tid outcome) (λ part v. if is_undecided part then learn tid outcome part v else v) (unknown_goes tid outcome) (λ part v. when_goes (is_undecided part) (learn tid outcome part) (learn_goes tid outcome part) v) w

  pub tell_goes : (peer : NodeNo) (tid : Tid) (outcome : Outcome) → Commutes c (tell_came peer tid outcome)
  tell_goes peer tid outcome w = unless_goes (same_node tid.home (here w)) (λ u. send peer (messages.Told tid (names_at tid outcome w)) (take_outcome tid outcome u))
      (λ u. ap (send peer (messages.Told tid (names_at tid outcome w))) (take_goes tid outcome u) ∙ send_goes peer (messages.Told tid (names_at tid outcome w)) (take_outcome tid outcome u)) w

  names_goes : (tid : Tid) (further : List NodeNo) → Commutes c (take_names tid further)
  names_goes tid further w = send_each_goes (listed (tm.new_names tid further w.node.manager)) (messages.Tell tid outcomes.Abort) (with_manager (tm.take_names tid further) w)

  end_told_goes : (b : Bool) (tid : Tid) → Commutes c (end_told b tid)
  end_told_goes false tid w = refl
  end_told_goes true tid w = refl

  told_known_goes : (peer : NodeNo) (tid : Tid) (further : List NodeNo) (o : Option Outcome) → Commutes c (told_known peer tid further o)
  told_known_goes peer tid further None w = refl
  told_known_goes peer tid further (Some outcomes.Commit) w = end_told_goes (tm.all_acknowledged tid peer w.node.manager) tid (with_manager (tm.acknowledged tid peer) w)
  told_known_goes peer tid further (Some outcomes.Abort) w = names_goes tid further w

  told_unknown_goes : (peer : NodeNo) (tid : Tid) (further : List NodeNo) → Commutes c (told_unknown peer tid further)
  told_unknown_goes peer tid further w = when_goes (list_any (is_other_node tid) further) (λ u. take_names tid further (keep_abort_told tid peer u)) (λ u. names_goes tid further (keep_abort_told tid peer u)) w

  pub told_goes : (peer : NodeNo) (tid : Tid) (further : List NodeNo) → Commutes c (told_came peer tid further)
  told_goes peer tid further w = when_goes (same_node tid.home (here w)) (told_at_home peer tid further)
      (λ u. opt_goes (part_of tid u) (told_unknown peer tid further) (λ part v. told_known peer tid further part.outcome v) (told_unknown_goes peer tid further) (λ part v. told_known_goes peer tid further part.outcome v) u) w
