-- A home that aborts leaves all other transactions, its clock, and the machine's ticks.
use Rattle.qs_world_lawful.proofs.Words.{◌≡◌, ℕ, ◌==◌, List, [], ◌∷◌, ◌++◌, Option, Some, None, refl, ap, ◌∙◌, fold, option_map, slice_get, NodeNo, ServerNo, Tid, Act, either_way, changed_at_alike, BookValue, doubts_after, end_node, learn_node, book_after, effect_act, TableValue, released, Cause, Record, enter, log_if, member_here, due_endings, end_member, end_members, give_notices, keep_outcome, learn_member, learners_at, Work, here, with_manager, Setting, Decision, entries_of, book_at}
use Rattle.qs_base.specs.declared.identifiers.Outcome.TheVariants as outcomes
use Rattle.qs_book_journal.specs.declared.entry.Act.TheVariants as acts
use Rattle.qs_book_machine.specs.Nodes as machine
use Rattle.qs_packet.specs.declared.message.Message.TheVariants as messages
use Rattle.qs_node_step.specs.Deciding.{decide}
use Rattle.qs_tm.specs.Manager as tm
use Rattle.qs_tm.specs.Outcomes as outcome_rules
use Rattle.qs_world_lawful.proofs.Apart.{Apart}
use Rattle.qs_world_lawful.proofs.Asking.{sent_each_entries, sent_each_node}
use Rattle.qs_world_lawful.proofs.DecidedOutcomes.{decision_of}
use Rattle.qs_world_lawful.proofs.Faces.{part_apart}
use Rattle.qs_world_lawful.proofs.Growing.{book_now}

-- when the machine saw a node's last tick
abbrev pub ticked_at : BookValue → ℕ → Option ℕ
ticked_at book n = option_map (λ (state : machine.NodeValue). state.ticked) (slice_get book.nodes n)

pub record LeavesElse (stamp : ℕ) (before : BookValue) (tid : Tid) (work new : Work) : Type 0 where
  pub others : (t : Tid) → Apart tid t → tm.part_of t new.node.manager ≡ tm.part_of t work.node.manager
  pub ticks : new.node.manager.ticks ≡ work.node.manager.ticks
  pub setting : new.node.setting ≡ work.node.setting
  pub ticked : (n : ℕ) → ticked_at (book_at stamp before new) n ≡ ticked_at (book_at stamp before work) n

-- ---- the machine's nodes

abbrev last_tick : machine.NodeValue → ℕ
last_tick node = node.ticked

table_ticked : (s : ℕ) (f : TableValue → TableValue) (node : machine.NodeValue) → last_tick (machine.with_table s f node) ≡ last_tick node
table_ticked s f node = either_way last_tick (s == 0) _ _ _ refl
    (either_way last_tick (s == 1) _ _ _ refl
    (either_way last_tick (s == 2) _ _ _ refl
    (either_way last_tick (s == 4) _ _ _ refl
    (either_way last_tick (s == 5) _ _ _ refl refl))))

learns_ticked : (stamp h : ℕ) (tid : Tid) (s : ServerNo) (at : NodeNo) (book : BookValue) (n : ℕ) → ticked_at (effect_act stamp h (acts.Learn tid (record { node = at; server = s }) outcomes.Abort) book) n ≡ ticked_at book n
learns_ticked stamp h tid s at book n = changed_at_alike last_tick (λ node. doubts_after tid s.0 (learn_node outcomes.Abort tid s.0 node)) each book.nodes h n
  where
    each : (node : machine.NodeValue) → last_tick (doubts_after tid s.0 (learn_node outcomes.Abort tid s.0 node)) ≡ last_tick node
    each node = either_way last_tick (s.0 == 2) _ _ _ refl refl ∙ table_ticked s.0 (λ table. released table tid) node

ends_ticked : (stamp h : ℕ) (tid : Tid) (s : ServerNo) (at : NodeNo) (book : BookValue) (n : ℕ) → ticked_at (effect_act stamp h (acts.Ending tid (record { node = at; server = s })) book) n ≡ ticked_at book n
ends_ticked stamp h tid s at book n = changed_at_alike last_tick (end_node tid) (λ node. refl) book.nodes h n

module _ (stamp : ℕ) (before : BookValue) (tid : Tid) where
  abbrev Leaves : Work → Work → Type 0
  Leaves work new = LeavesElse stamp before tid work new

  else_self : (work : Work) → Leaves work work
  else_self work = record { others = λ t far. refl; ticks = refl; setting = refl; ticked = λ n. refl }

  else_then : (work mid new : Work) → Leaves work mid → Leaves mid new → Leaves work new
  else_then work mid new a b = record { others = λ t far. b.others t far ∙ a.others t far; ticks = b.ticks ∙ a.ticks; setting = b.setting ∙ a.setting; ticked = λ n. b.ticked n ∙ a.ticked n }

  else_fold : {A : Type 0} (f : Work → A → Work) → ((work : Work) (x : A) → Leaves work (f work x)) → (xs : List A) (work : Work) → Leaves work (fold f work xs)
  else_fold f each [] work = else_self work
  else_fold f each (x ∷ xs) work = else_then work (f work x) (fold f (f work x) xs) (each work x) (else_fold f each xs (f work x))

  pub same_book : (work new : Work) → new.node.setting ≡ work.node.setting → new.out.entries ≡ work.out.entries → book_at stamp before new ≡ book_at stamp before work
  same_book work new setting entries = ap (book_after before) (ap (λ (s : Setting). entries_of s.node.0 stamp new.out.entries) setting ∙ ap (λ (es : List Act). entries_of (here work).0 stamp es) entries)

  -- what enters nothing
  else_still : (work new : Work) → new.out.entries ≡ work.out.entries → new.node.setting ≡ work.node.setting → new.node.manager.ticks ≡ work.node.manager.ticks
      → ((t : Tid) → Apart tid t → tm.part_of t new.node.manager ≡ tm.part_of t work.node.manager) → Leaves work new
  else_still work new entries setting ticks others = record { others = others; ticks = ticks; setting = setting; ticked = λ n. ap (λ (b : BookValue). ticked_at b n) (same_book work new setting entries) }

  -- one entry
  else_entry : (work new : Work) (act : Act) → new.out.entries ≡ work.out.entries ++ act ∷ [] → new.node.setting ≡ work.node.setting → new.node.manager.ticks ≡ work.node.manager.ticks
      → ((t : Tid) → Apart tid t → tm.part_of t new.node.manager ≡ tm.part_of t work.node.manager) → ((n : ℕ) → ticked_at (effect_act stamp (here work).0 act (book_at stamp before work)) n ≡ ticked_at (book_at stamp before work) n) → Leaves work new
  else_entry work new act entries setting ticks others ticked = record { others = others; ticks = ticks; setting = setting; ticked = λ n. ap (λ (b : BookValue). ticked_at b n) (book_now stamp before work new act setting entries) ∙ ticked n }

  -- ---- notices

  else_end : (work : Work) (s : ServerNo) → Leaves work (end_member tid work s)
  else_end work s = else_entry work (end_member tid work s) (acts.Ending tid (member_here work s)) refl refl refl (λ t far. part_apart tid t (outcome_rules.settled s) work.node.manager far)
      (ends_ticked stamp (here work).0 tid s (here work) (book_at stamp before work))

  else_learn : (work : Work) (s : ServerNo) → Leaves work (learn_member tid outcomes.Abort work s)
  else_learn work s = else_entry work (learn_member tid outcomes.Abort work s) (acts.Learn tid (member_here work s) outcomes.Abort) refl refl refl (λ t far. part_apart tid t (outcome_rules.settled s) work.node.manager far)
      (learns_ticked stamp (here work).0 tid s (here work) (book_at stamp before work))

  else_notices : (work : Work) → Leaves work (give_notices tid outcomes.Abort work)
  else_notices work = else_then work (end_members tid work) (give_notices tid outcomes.Abort work) (else_fold (end_member tid) else_end (due_endings tid work) work)
      (else_fold (learn_member tid outcomes.Abort) else_learn (learners_at tid (end_members tid work)) (end_members tid work))

  -- ---- the decision

  pub else_abort : (cause : Option Cause) (work : Work) → Leaves work (decide tid outcomes.Abort cause work)
  else_abort cause work = else_then work entered (decide tid outcomes.Abort cause work) decided
      (else_then entered noticed (decide tid outcomes.Abort cause work) (else_notices entered) sent)
    where
      made : Decision
      made = tm.decision tid outcomes.Abort work.node.manager

      once : Work
      once = with_manager (tm.decide tid outcomes.Abort) work

      entered : Work
      entered = enter (acts.Decide tid outcomes.Abort cause) (keep_outcome tid outcomes.Abort cause (log_if made.rec once))

      noticed : Work
      noticed = give_notices tid outcomes.Abort entered

      sent : Leaves noticed (decide tid outcomes.Abort cause work)
      sent = else_still noticed (decide tid outcomes.Abort cause work) (sent_each_entries (messages.Tell tid outcomes.Abort) made.tell noticed)
          (ap (λ n. n.setting) (sent_each_node (messages.Tell tid outcomes.Abort) made.tell noticed)) (ap (λ n. n.manager.ticks) (sent_each_node (messages.Tell tid outcomes.Abort) made.tell noticed))
          (λ t far. ap (λ n. tm.part_of t n.manager) (sent_each_node (messages.Tell tid outcomes.Abort) made.tell noticed))

      decided_by : (o : Option Record) → made.rec ≡ o → Leaves work (enter (acts.Decide tid outcomes.Abort cause) (keep_outcome tid outcomes.Abort cause (log_if o once)))
      decided_by None is = else_entry work (enter (acts.Decide tid outcomes.Abort cause) (keep_outcome tid outcomes.Abort cause once)) (acts.Decide tid outcomes.Abort cause) refl refl refl
          (λ t far. part_apart tid t (outcome_rules.decided outcomes.Abort) work.node.manager far) (λ n. refl)
      decided_by (Some r) is = else_entry work (enter (acts.Decide tid outcomes.Abort cause) (keep_outcome tid outcomes.Abort cause (log_if (Some r) once))) (acts.Decide tid outcomes.Abort cause) refl refl refl
          (λ t far. ap (λ (u : Tid). tm.part_of t (tm.logged u r (tm.decide tid outcomes.Abort work.node.manager))) (decision_of tid outcomes.Abort work.node.manager r is)
          ∙ (part_apart tid t (outcome_rules.logged r) (tm.decide tid outcomes.Abort work.node.manager) far ∙ part_apart tid t (outcome_rules.decided outcomes.Abort) work.node.manager far)) (λ n. refl)

      decided : Leaves work entered
      decided = decided_by made.rec refl
