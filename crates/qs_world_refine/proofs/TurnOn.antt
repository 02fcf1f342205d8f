-- In a step no record of a transaction that must be forced comes behind one that need not: once one of these stands the node has decided; and what the node keeps as committed it knows as such. Pieces of a step keep to that, one after another.
use Rattle.qs_world_refine.proofs.Words.{◌≡◌, ◌⊎◌, ℕ, ◌||◌, Bool, true, false, List, [], ◌∷◌, ◌++◌, fold, Option, Some, None, refl, sym, ap, subst, ◌∙◌, if◌then◌else◌, lookup, is_at, list_any, find, same_tid, tid_cmp, ClientNo, NodeNo, ServerNo, Tid, same_node, Nodes, IpcValue, is_outcome_of, Decided, Kept, ServerValue, Answer, Message, Record, Participant, was_committed, is_kept_commit, enter, send, send_next, send_each, answer, is_other, NodeValue, Work, with_manager, with_queues, with_kept}
use Rattle.qs_world_refine.proofs.Words.{with_doings, change_server, client_cmp, Doings, OpenCommand, is_loose_of, are_in_turn, node_no, same_Some, and_false, or_first, or_last, or_from}
use Rattle.qs_base.specs.declared.identifiers.Outcome.{Outcome}
use Rattle.qs_base.specs.declared.identifiers.Outcome.TheVariants as outcomes
use Rattle.qs_engage.specs.Nodes.{has_node}
use Rattle.qs_book_journal.specs.declared.entry.Act.{Act}
use Rattle.qs_record.specs.declared.record.Record.TheVariants as records
use Rattle.qs_tm.specs.Manager as tm
use Rattle.qs_world_refine.proofs.Frames.{part_apart}
use Rattle.qs_world_refine.proofs.SaysOn.{told_changed}

-- ---- what is followed: a transaction, the records that waited before the step, whether the step may learn its commit from the home and end it, and whose acknowledgement it may know
pub record Case : Type 0 where
  pub tid : Tid
  pub before : List Record
  pub learns : Bool
  pub ends : Bool
  pub acks : ℕ → Bool
  pub was : Bool  -- whether its node kept it as committed before the step

abbrev pub Fate : Type 0
Fate = Option Outcome × Nodes

abbrev pub became : Option Outcome → Nodes → Option Fate
became o acks = Some (o, acks)

pub same_outcome : (o u : Option Outcome) (a b : Nodes) → became o a ≡ became u b → o ≡ u
same_outcome o u a b same = ap (λ (f : Fate). f.0) (same_Some (o, a) (u, b) same)

pub same_acks : (o u : Option Outcome) (a b : Nodes) → became o a ≡ became u b → a ≡ b
same_acks o u a b same = ap (λ (f : Fate). f.1) (same_Some (o, a) (u, b) same)

-- an outcome is not another one, nor none
pub open_apart : (outcome : Outcome) (a b : Nodes) → became (Some outcome) a ≡ became None b → ⊥
open_apart outcome a b same = none (same_outcome (Some outcome) None a b same)
  where
    none : Some outcome ≡ None → ⊥
    none is = cc (is)

pub abort_apart : (a b : Nodes) → became (Some outcomes.Abort) a ≡ became (Some outcomes.Commit) b → ⊥
abort_apart a b same = other (same_outcome (Some outcomes.Abort) (Some outcomes.Commit) a b same)
  where
    other : Some outcomes.Abort ≡ Some outcomes.Commit → ⊥
    other is = cc (is)

abbrev pub fate_of : Participant → Option Fate
fate_of part = became part.outcome part.acknowledged

abbrev pub fate_found : Option Participant → Option Fate
fate_found o = elim o [ None ↦ None | Some part ↦ fate_of part ]

abbrev pub fate_at : Tid → NodeValue → Option Fate
fate_at tid node = fate_found (tm.part_of tid node.manager)

abbrev pub is_aborted_of : Tid → Record → Bool
is_aborted_of tid (records.Prepare other server covers changes) = false
is_aborted_of tid (records.Commit other told) = false
is_aborted_of tid (records.Aborted other) = same_tid tid other
is_aborted_of tid (records.End other) = false

abbrev pub is_end_of : Tid → Record → Bool
is_end_of tid (records.Prepare other server covers changes) = false
is_end_of tid (records.Commit other told) = false
is_end_of tid (records.Aborted other) = false
is_end_of tid (records.End other) = same_tid tid other

pub record TurnedAs (k : Case) (node : NodeNo) (fate : Option Fate) (more : List Record) : Type 0 where
  pub aborted : list_any (is_aborted_of k.tid) (k.before ++ more) ≡ true → (acks : Nodes) × (fate ≡ became (Some outcomes.Abort) acks)
  pub ended : list_any (is_end_of k.tid) (k.before ++ more) ≡ true → (same_node k.tid.home node ≡ true) × ((acks : Nodes) → fate ≡ became None acks → ⊥)
  pub ends : list_any (is_end_of k.tid) more ≡ true → k.ends ≡ true
  pub turn : are_in_turn k.tid (k.before ++ more) ≡ true
  pub learnt : same_node k.tid.home node ≡ false → (acks : Nodes) → fate ≡ became (Some outcomes.Commit) acks → k.learns ≡ true
  pub acked : (o : Option Outcome) (acks : Nodes) → fate ≡ became o acks → (m : ℕ) → has_node acks (node_no m) ≡ true → k.acks m ≡ true

abbrev pub Turned : Case → Work → Type 0
Turned k work = TurnedAs k work.node.setting.node (fate_at k.tid work.node) work.out.records

-- what its node keeps as committed was so before the step, or is known as such, or it ended
abbrev pub KeptAs : Case → Bool → Option Fate → Type 0
KeptAs k kept fate = k.ends ≡ false → kept ≡ true → (k.was ≡ true) ⊎ ((acks : Nodes) × (fate ≡ became (Some outcomes.Commit) acks))

abbrev pub KeptSo : Case → Work → Type 0
KeptSo k work = KeptAs k (was_committed k.tid work.node) (fate_at k.tid work.node)

pub record TurnsOn (k : Case) (work new : Work) : Type 0 where
  pub setting : new.node.setting ≡ work.node.setting
  pub goes : Turned k work → Turned k new
  pub kept : KeptSo k work → KeptSo k new

-- nothing of it changes
pub record SameTurn (k : Case) (work new : Work) : Type 0 where
  pub setting : new.node.setting ≡ work.node.setting
  pub fate : fate_at k.tid new.node ≡ fate_at k.tid work.node
  pub records : new.out.records ≡ work.out.records
  pub was : was_committed k.tid new.node ≡ was_committed k.tid work.node

-- where neither changes
pub kept_still : (k : Case) (work new : Work) → was_committed k.tid new.node ≡ was_committed k.tid work.node → fate_at k.tid new.node ≡ fate_at k.tid work.node → KeptSo k work → KeptSo k new
kept_still k work new was fate is = subst (λ (b : Bool). KeptAs k b (fate_at k.tid new.node)) (sym was) (subst (λ (f : Option Fate). KeptAs k (was_committed k.tid work.node) f) (sym fate) is)

-- ---- one after another

pub on_then : {k : Case} {a b c : Work} → TurnsOn k a b → TurnsOn k b c → TurnsOn k a c
on_then first second = record { setting = second.setting ∙ first.setting; goes = λ is. second.goes (first.goes is); kept = λ is. second.kept (first.kept is) }

pub same_then : {k : Case} {a b c : Work} → SameTurn k a b → SameTurn k b c → SameTurn k a c
same_then first second = record { setting = second.setting ∙ first.setting; fate = second.fate ∙ first.fate; records = second.records ∙ first.records; was = second.was ∙ first.was }

pub same_on : {k : Case} {work new : Work} → SameTurn k work new → TurnsOn k work new
same_on {k} {work} {new} same = record {
  setting = same.setting;
  goes = λ is. subst (λ (n : NodeNo). TurnedAs k n (fate_at k.tid new.node) new.out.records) (sym (ap (λ s. s.node) same.setting))
      (subst (λ (f : Option Fate). TurnedAs k work.node.setting.node f new.out.records) (sym same.fate)
      (subst (λ (l : List Record). TurnedAs k work.node.setting.node (fate_at k.tid work.node) l) (sym same.records) is));
  kept = kept_still k work new same.was same.fate;
}

pub rest_same : {k : Case} (work new : Work) → new.node.setting ≡ work.node.setting → new.out.records ≡ work.out.records → new.node.manager.known ≡ work.node.manager.known → was_committed k.tid new.node ≡ was_committed k.tid work.node → SameTurn k work new
rest_same {k} work new setting records known was = record { setting = setting; fate = ap (λ (es : List (Tid × Participant)). fate_found (lookup (is_at (tid_cmp k.tid)) es)) known; records = records; was = was }

pub rest_on : {k : Case} (work new : Work) → new.node.setting ≡ work.node.setting → new.out.records ≡ work.out.records → new.node.manager.known ≡ work.node.manager.known → was_committed k.tid new.node ≡ was_committed k.tid work.node → TurnsOn k work new
rest_on work new setting records known was = same_on (rest_same work new setting records known was)

pub on_itself : {k : Case} (work : Work) → TurnsOn k work work
on_itself work = record { setting = refl; goes = λ is. is; kept = λ is. is }

pub same_itself : {k : Case} (work : Work) → SameTurn k work work
same_itself work = record { setting = refl; fate = refl; records = refl; was = refl }

pub fold_on : {k : Case} {X : Type 0} (f : Work → X → Work) → ((work : Work) (x : X) → TurnsOn k work (f work x)) → (xs : List X) (work : Work) → TurnsOn k work (fold f work xs)
fold_on f each [] work = on_itself work
fold_on f each (x ∷ xs) work = on_then (each work x) (fold_on f each xs (f work x))

pub fold_same : {k : Case} {X : Type 0} (f : Work → X → Work) → ((work : Work) (x : X) → SameTurn k work (f work x)) → (xs : List X) (work : Work) → SameTurn k work (fold f work xs)
fold_same f each [] work = same_itself work
fold_same f each (x ∷ xs) work = same_then (each work x) (fold_same f each xs (f work x))

pub if_on : {k : Case} (b : Bool) {work new other : Work} → TurnsOn k work new → TurnsOn k work other → TurnsOn k work (if b then new else other)
if_on true first second = first
if_on false first second = second

-- ---- what is done beside what is kept of transactions

pub enter_same : {k : Case} (act : Act) (work : Work) → SameTurn k work (enter act work)
enter_same act work = rest_same work (enter act work) refl refl refl refl

pub enter_on : {k : Case} (act : Act) (work : Work) → TurnsOn k work (enter act work)
enter_on act work = same_on (enter_same act work)

pub send_on : {k : Case} (to : NodeNo) (message : Message) (work : Work) → TurnsOn k work (send to message work)
send_on {k} to message work = by (is_other work.node.setting to)
  where
    by : (b : Bool) → TurnsOn k work (if b then record work { out = record work.out { messages = work.out.messages ++ record { to = to; message = message } ∷ [] } } else work)
    by true = rest_on work (record work { out = record work.out { messages = work.out.messages ++ record { to = to; message = message } ∷ [] } }) refl refl refl refl
    by false = on_itself work

pub sends_on : {k : Case} (nodes : List NodeNo) (message : Message) (work : Work) → TurnsOn k work (send_each nodes message work)
sends_on nodes message work = fold_on (send_next message) (λ w to. send_on to message w) nodes work

pub answer_on : {k : Case} (client : ClientNo) (said : Answer) (work : Work) → TurnsOn k work (answer client said work)
answer_on {k} client said work = by (lookup (is_at (client_cmp client)) work.node.commands)
  where
    answered : OpenCommand → Work
    answered command = record work {
      node = record work.node { commands = Rattle.std.specs.Map.remove_entry (is_at (client_cmp client)) work.node.commands };
      out = record work.out {
        answers = work.out.answers ++ record { client = client; answer = record { line = command.line.line; answer = said } } ∷ [];
        entries = work.out.entries ++ Rattle.qs_book_journal.specs.declared.entry.Act.TheVariants.Answer client command.line.line said ∷ [];
      };
    }

    by : (o : Option OpenCommand) → TurnsOn k work (elim o [ None ↦ work | Some command ↦ answered command ])
    by None = on_itself work
    by (Some command) = rest_on work (answered command) refl refl refl refl

pub queues_on : {k : Case} (f : IpcValue → IpcValue) (work : Work) → TurnsOn k work (with_queues f work)
queues_on f work = rest_on work (with_queues f work) refl refl refl refl

-- the outcomes stay
pub kept_on : {k : Case} (f : Kept → Kept) → ((kept : Kept) → (f kept).outcomes ≡ kept.outcomes) → (work : Work) → TurnsOn k work (with_kept f work)
kept_on {k} f same work = rest_on work (with_kept f work) refl refl refl (ap (λ (l : List Decided). is_kept_commit (find (is_outcome_of k.tid) l) || list_any (same_tid k.tid) work.node.committed) (same work.node.kept.now))

pub doings_on : {k : Case} (tid : Tid) (f : Doings → Doings) (work : Work) → TurnsOn k work (with_doings tid f work)
doings_on tid f work = rest_on work (with_doings tid f work) refl refl refl refl

pub server_same : {k : Case} (server : ServerNo) (f : ServerValue → ServerValue) (work : Work) → SameTurn k work (change_server server f work)
server_same server f work = rest_same work (change_server server f work) refl refl refl refl

pub server_on : {k : Case} (server : ServerNo) (f : ServerValue → ServerValue) (work : Work) → TurnsOn k work (change_server server f work)
server_on server f work = same_on (server_same server f work)

-- ---- what is kept of one transaction is changed, and not what became of it

pub part_same : {k : Case} (tid : Tid) (f : Participant → Participant) → ((part : Participant) → fate_of (f part) ≡ fate_of part) → (work : Work) → SameTurn k work (with_manager (tm.with_part tid f) work)
part_same {k} tid f same work = record { setting = refl; fate = told_changed None fate_of (is_at (tid_cmp tid)) (is_at (tid_cmp k.tid)) f same work.node.manager.known; records = refl; was = refl }

pub part_on : {k : Case} (tid : Tid) (f : Participant → Participant) → ((part : Participant) → fate_of (f part) ≡ fate_of part) → (work : Work) → TurnsOn k work (with_manager (tm.with_part tid f) work)
part_on tid f same work = same_on (part_same tid f same work)

-- or it is another transaction
pub apart_same : {k : Case} (tid : Tid) (f : Participant → Participant) (work : Work) → same_tid k.tid tid ≡ false → SameTurn k work (with_manager (tm.with_part tid f) work)
apart_same {k} tid f work apart = record { setting = refl; fate = ap fate_found (part_apart k.tid tid f work.node.manager apart); records = refl; was = refl }

-- ---- while it is undecided no record that need not be forced stands

abbrev pub NoLoose : Case → List Record → Type 0
NoLoose k more = list_any (is_loose_of k.tid) (k.before ++ more) ≡ false

loose_is : (t : Tid) (rec : Record) → is_aborted_of t rec ≡ false → is_end_of t rec ≡ false → is_loose_of t rec ≡ false
loose_is t (records.Prepare other server covers changes) a e = and_false (same_tid t other)
loose_is t (records.Commit other told) a e = and_false (same_tid t other)
loose_is t (records.Aborted other) a e = rw a refl
loose_is t (records.End other) a e = rw e refl

pub none_loose : (t : Tid) (rs : List Record) → list_any (is_aborted_of t) rs ≡ false → list_any (is_end_of t) rs ≡ false → list_any (is_loose_of t) rs ≡ false
none_loose t [] a e = refl
none_loose t (r ∷ rs) a e = or_from (is_loose_of t r) (list_any (is_loose_of t) rs) (loose_is t r (or_first (is_aborted_of t r) _ a) (or_first (is_end_of t r) _ e)) (none_loose t rs (or_last (is_aborted_of t r) _ a) (or_last (is_end_of t r) _ e))

pub open_loose : (k : Case) (node : NodeNo) (fate : Option Fate) (more : List Record) (acks : Nodes) → fate ≡ became None acks → TurnedAs k node fate more → NoLoose k more
open_loose k node fate more acks its is = none_loose k.tid (k.before ++ more) (no_abort (list_any (is_aborted_of k.tid) (k.before ++ more)) refl) (no_end (list_any (is_end_of k.tid) (k.before ++ more)) refl)
  where
    other : (a : Nodes) → became (Some outcomes.Abort) a ≡ became None acks → ⊥
    other a same = open_apart outcomes.Abort a acks same

    no_abort : (b : Bool) → list_any (is_aborted_of k.tid) (k.before ++ more) ≡ b → b ≡ false
    no_abort true has = let known = is.aborted has in absurd (other known.0 (sym known.1 ∙ its))
    no_abort false has = refl

    no_end : (b : Bool) → list_any (is_end_of k.tid) (k.before ++ more) ≡ b → b ≡ false
    no_end true has = absurd ((is.ended has).1 acks its)
    no_end false has = refl
