-- Pieces of a step that leave a node sound over its log, one after another.
use Rattle.qs_world_refine.proofs.Words.{◌≡◌, ℕ, ◌<◌, ◌||◌, Bool, true, false, List, [], ◌∷◌, ◌++◌, fold, Option, Some, None, is_some, refl, sym, ap, subst, ◌∙◌, arith, if◌then◌else◌, lookup, set_value, is_at, nat_tests, list_all, list_any, list_all-append, list_any-append, fold-append, same_tid, tid_cmp, ClientNo, NodeNo, ServerNo, Tid, no_nodes, Nodes, IpcValue, Kept, ServerValue, Answer, Message, Record, Recovery, found_record, changed_value, InLog, Participant, enter, send, send_next}
use Rattle.qs_world_refine.proofs.Words.{send_each, answer, is_other, is_forced, Work, with_manager, with_queues, with_kept, with_doings, change_server, client_cmp, Doings, OpenCommand, lists_others, no_flags, flags_at, AreSaid, SaysOn, node_no, Setting, same_node, is_whole_log, AreListed, tell_at, tell_of_part, is_open_in_run, commands_in_run, or_assoc, false-or}
use Rattle.qs_engage.specs.Nodes.{has_node}
use Rattle.qs_book_journal.specs.declared.entry.Act.{Act}
use Rattle.qs_tm.specs.Manager as tm
use Rattle.qs_world_refine.proofs.DoubtsBefore.{own_then}
use Rattle.qs_world_refine.proofs.Maps.{lookup_put}
use Rattle.qs_world_refine.proofs.Others.{put_apart}
use Rattle.qs_world_refine.proofs.Sending.{append_nil}
use Rattle.qs_world_refine.proofs.SoundKnown.{same_is}
use Rattle.qs_world_refine.proofs.SoundStep.{all_left}

-- ---- one after another

pub append_three : {A : Type 0} (xs ys zs : List A) → (xs ++ ys) ++ zs ≡ xs ++ (ys ++ zs)
append_three [] ys zs = refl
append_three (x ∷ xs) ys zs = ap (λ (l : List _). x ∷ l) (append_three xs ys zs)

pub on_then : {a b c : Work} → SaysOn a b → SaysOn b c → SaysOn a c
on_then {a} {b} {c} first second = record {
  setting = second.setting ∙ first.setting;
  more = first.more ++ second.more;
  records = second.records ∙ (ap (λ (l : List Record). l ++ second.more) first.records ∙ append_three a.out.records first.more second.more);
  forced = second.forced ∙ (ap (λ (f : Bool). f || list_any is_forced second.more) first.forced ∙ (or_assoc a.out.force (list_any is_forced first.more) (list_any is_forced second.more)
      ∙ ap (λ (f : Bool). a.out.force || f) (sym (list_any-append is_forced first.more second.more))));
  commands = λ is. second.commands (first.commands is);
  own = λ said is t off any. own_then t first.more second.more said (first.own said is t off) (second.own (fold found_record said first.more) (first.said said is) t (subst (λ (s : Setting). same_node t.home s.node ≡ false) (sym first.setting) off)) any;
  others = list_all-append lists_others first.more second.more ∙ rw (first.others, second.others) refl;
  said = λ said is. subst (λ (r : Recovery). AreSaid c.node r) (sym (fold-append found_record said first.more second.more)) (second.said (fold found_record said first.more) (first.said said is));
  lists = λ said is has. subst (λ (r : Recovery). AreListed c.node r) (sym (fold-append found_record said first.more second.more)) (second.lists (fold found_record said first.more) (first.said said is) (first.lists said is has));
  whole = λ said is all. subst (λ (r : Recovery). is_whole_log r ≡ true) (sym (fold-append found_record said first.more second.more))
      (second.whole (fold found_record said first.more) (first.said said is) (first.whole said is all));
}

-- what piece of a work stays the same
pub record SameRest (work new : Work) : Type 0 where
  pub setting : new.node.setting ≡ work.node.setting
  pub records : new.out.records ≡ work.out.records
  pub force : new.out.force ≡ work.out.force
  pub commands : commands_in_run work.node ≡ true → commands_in_run new.node ≡ true

-- whom the node is to tell a commit stays, or goes on
abbrev pub KeepsTelling : Work → Work → Type 0
KeepsTelling work new = (said : Recovery) → AreSaid work.node said → AreListed work.node said → AreListed new.node said

pub tells_more : (work new : Work) → ((tid : Tid) (m : ℕ) → m < 16 → has_node (tell_at tid work.node) (node_no m) ≡ true → has_node (tell_at tid new.node) (node_no m) ≡ true) → KeepsTelling work new
tells_more work new more said is has = record { named = λ tid m below names. more tid m below (has.named tid m below names); taken = has.taken }

pub tells_same : (work new : Work) → ((tid : Tid) → tell_at tid new.node ≡ tell_at tid work.node) → KeepsTelling work new
tells_same work new same = tells_more work new (λ tid m below has. subst (λ (s : Nodes). has_node s (node_no m) ≡ true) (sym (same tid)) has)

-- nothing is logged, and the flags stay
pub two_on : (work new : Work) → SameRest work new
    → ((tid : Tid) → ((flags_at tid new.node).prepared ≡ (flags_at tid work.node).prepared) × ((flags_at tid new.node).listed ≡ (flags_at tid work.node).listed)) → KeepsTelling work new → SaysOn work new
two_on work new rest same tells = record {
  setting = rest.setting;
  more = [];
  others = refl;
  own = λ said is t off any. absurd (cc (any));
  records = rest.records ∙ sym (append_nil work.out.records);
  forced = rest.force ∙ false-or work.out.force;
  commands = rest.commands;
  said = λ said is tid. record { prepared = (same tid).0 ∙ (is tid).prepared; listed = (same tid).1 ∙ (is tid).listed };
  lists = tells;
  whole = λ said is all. all;
}

pub flags_on : (work new : Work) → SameRest work new → ((tid : Tid) → flags_at tid new.node ≡ flags_at tid work.node) → KeepsTelling work new → SaysOn work new
flags_on work new rest same tells = two_on work new rest (λ tid. (ap (λ (f : InLog). f.prepared) (same tid), ap (λ (f : InLog). f.listed) (same tid))) tells

-- nothing changes that the log speaks of
pub plain_on : (work new : Work) → SameRest work new → new.node.manager.known ≡ work.node.manager.known → SaysOn work new
plain_on work new rest known = flags_on work new rest (λ tid. ap (λ (es : List (Tid × Participant)). elim (lookup (is_at (tid_cmp tid)) es) [ None ↦ no_flags | Some part ↦ part.log ]) known)
    (tells_same work new (λ tid. ap (λ (es : List (Tid × Participant)). elim (lookup (is_at (tid_cmp tid)) es) [ None ↦ no_nodes | Some part ↦ tell_of_part part ]) known))

-- nor what is open
pub rest_on : (work new : Work) → new.node.setting ≡ work.node.setting → new.out.records ≡ work.out.records → new.out.force ≡ work.out.force → new.node.commands ≡ work.node.commands → new.node.manager.known ≡ work.node.manager.known → SaysOn work new
rest_on work new setting records force commands known = plain_on work new (record { setting = setting; records = records; force = force; commands = λ is. rw (commands, setting) is }) known

pub on_itself : (work : Work) → SaysOn work work
on_itself work = rest_on work work refl refl refl refl refl

pub fold_on : {X : Type 0} (f : Work → X → Work) → ((work : Work) (x : X) → SaysOn work (f work x)) → (xs : List X) (work : Work) → SaysOn work (fold f work xs)
fold_on f each [] work = on_itself work
fold_on f each (x ∷ xs) work = on_then (each work x) (fold_on f each xs (f work x))

pub if_on : (b : Bool) {work new other : Work} → SaysOn work new → SaysOn work other → SaysOn work (if b then new else other)
if_on true first second = first
if_on false first second = second

-- ---- what is done beside what is kept of transactions

pub enter_on : (act : Act) (work : Work) → SaysOn work (enter act work)
enter_on act work = rest_on work (enter act work) refl refl refl refl refl

pub send_on : (to : NodeNo) (message : Message) (work : Work) → SaysOn work (send to message work)
send_on to message work = by (is_other work.node.setting to)
  where
    by : (b : Bool) → SaysOn work (if b then record work { out = record work.out { messages = work.out.messages ++ record { to = to; message = message } ∷ [] } } else work)
    by true = rest_on work (record work { out = record work.out { messages = work.out.messages ++ record { to = to; message = message } ∷ [] } }) refl refl refl refl refl
    by false = on_itself work

pub sends_on : (nodes : List NodeNo) (message : Message) (work : Work) → SaysOn work (send_each nodes message work)
sends_on nodes message work = fold_on (send_next message) (λ w to. send_on to message w) nodes work

pub answer_on : (client : ClientNo) (said : Answer) (work : Work) → SaysOn work (answer client said work)
answer_on client said work = by (lookup (is_at (client_cmp client)) work.node.commands)
  where
    by : (o : Option OpenCommand) → SaysOn work (elim o [
      | None ↦ work
      | Some command ↦ record work {
        node = record work.node { commands = Rattle.std.specs.Map.remove_entry (is_at (client_cmp client)) work.node.commands };
        out = record work.out {
          answers = work.out.answers ++ record { client = client; answer = record { line = command.line.line; answer = said } } ∷ [];
          entries = work.out.entries ++ Rattle.qs_book_journal.specs.declared.entry.Act.TheVariants.Answer client command.line.line said ∷ [];
        };
      }
    ])
    by None = on_itself work
    by (Some command) = plain_on work (record work {
      node = record work.node { commands = Rattle.std.specs.Map.remove_entry (is_at (client_cmp client)) work.node.commands };
      out = record work.out {
        answers = work.out.answers ++ record { client = client; answer = record { line = command.line.line; answer = said } } ∷ [];
        entries = work.out.entries ++ Rattle.qs_book_journal.specs.declared.entry.Act.TheVariants.Answer client command.line.line said ∷ [];
      };
    }) (record { setting = refl; records = refl; force = refl; commands = all_left (is_at (client_cmp client)) (is_open_in_run work.node.setting.nodes) work.node.commands }) refl

pub queues_on : (f : IpcValue → IpcValue) (work : Work) → SaysOn work (with_queues f work)
queues_on f work = rest_on work (with_queues f work) refl refl refl refl refl

pub kept_on : (f : Kept → Kept) (work : Work) → SaysOn work (with_kept f work)
kept_on f work = rest_on work (with_kept f work) refl refl refl refl refl

pub doings_on : (tid : Tid) (f : Doings → Doings) (work : Work) → SaysOn work (with_doings tid f work)
doings_on tid f work = rest_on work (with_doings tid f work) refl refl refl refl refl

pub server_on : (server : ServerNo) (f : ServerValue → ServerValue) (work : Work) → SaysOn work (change_server server f work)
server_on server f work = rest_on work (change_server server f work) refl refl refl refl refl

-- ---- what is kept of one transaction is changed

-- a value that a change of another one leaves, told of what is found
module _ {X A : Type 0} (d : A) (g : X → A) where
  abbrev told : Option X → A
  told o = elim o [ None ↦ d | Some x ↦ g x ]

  told_set : {K : Type 0} (p q : K → Bool) (es : List (K × X)) (v w : X) → lookup p es ≡ Some v → g w ≡ g v → told (lookup q (set_value p es w)) ≡ told (lookup q es)
  told_set p q [] v w found same = refl
  told_set {K} p q (e ∷ es) v w found same = by (p e.0) (q e.0) refl refl (told_set p q es v w)
    where
      by : (a b : Bool) → p e.0 ≡ a → q e.0 ≡ b → (lookup p es ≡ Some v → g w ≡ g v → told (lookup q (set_value p es w)) ≡ told (lookup q es)) → told (lookup q (set_value p (e ∷ es) w)) ≡ told (lookup q (e ∷ es))
      by true true is has more = let value : Some e.1 ≡ Some v = rw is at found in rw (is, has) (same ∙ ap g (sym (cc (value))))
      by true false is has more = rw (is, has) refl
      by false true is has more = rw (is, has) refl
      by false false is has more = rw (is, has) (more (rw is at found) same)

  pub told_changed : {K : Type 0} (p q : K → Bool) (f : X → X) → ((x : X) → g (f x) ≡ g x) → (es : List (K × X)) → told (lookup q (changed_value p f es)) ≡ told (lookup q es)
  told_changed p q f same es = by (lookup p es) refl
    where
      by : (o : Option X) → lookup p es ≡ o → told (lookup q (elim o [ None ↦ es | Some v ↦ set_value p es (f v) ])) ≡ told (lookup q es)
      by None none = refl
      by (Some v) found = told_set p q es v (f v) found (same v)

pub part_on : (tid : Tid) (f : Participant → Participant) → ((part : Participant) → ((f part).log ≡ part.log) × (tell_of_part (f part) ≡ tell_of_part part)) → (work : Work) → SaysOn work (with_manager (tm.with_part tid f) work)
part_on tid f same work = flags_on work (with_manager (tm.with_part tid f) work) (record { setting = refl; records = refl; force = refl; commands = λ is. is })
    (λ t. told_changed no_flags (λ (part : Participant). part.log) (is_at (tid_cmp tid)) (is_at (tid_cmp t)) f (λ part. (same part).0) work.node.manager.known)
    (tells_same work (with_manager (tm.with_part tid f) work) (λ t. told_changed no_nodes tell_of_part (is_at (tid_cmp tid)) (is_at (tid_cmp t)) f (λ part. (same part).1) work.node.manager.known))

-- and whom it is to tell goes on
pub grown_on : (tid : Tid) (f : Participant → Participant) → ((part : Participant) → (f part).log ≡ part.log) → (work : Work)
    → ((part : Participant) → tm.part_of tid work.node.manager ≡ Some part → (m : ℕ) → m < 16 → has_node (tell_of_part part) (node_no m) ≡ true → has_node (tell_of_part (f part)) (node_no m) ≡ true) → SaysOn work (with_manager (tm.with_part tid f) work)
grown_on tid f same work grows = flags_on work (with_manager (tm.with_part tid f) work) (record { setting = refl; records = refl; force = refl; commands = λ is. is })
    (λ t. told_changed no_flags (λ (part : Participant). part.log) (is_at (tid_cmp tid)) (is_at (tid_cmp t)) f same work.node.manager.known) (tells_more work (with_manager (tm.with_part tid f) work) (λ t m below has. by t m below has (same_tid t tid) refl))
  where
    found : Option Participant → Nodes
    found o = elim o [ None ↦ no_nodes | Some part ↦ tell_of_part part ]

    own : (m : ℕ) → m < 16 → (o : Option Participant) → tm.part_of tid work.node.manager ≡ o → has_node (found o) (node_no m) ≡ true → has_node (found (tm.part_of tid (tm.with_part tid f work.node.manager))) (node_no m) ≡ true
    own m below None none has = absurd (never m has)
      where
        never : (m : ℕ) → has_node no_nodes (node_no m) ≡ true → ⊥
        never m has = let off : has_node no_nodes (node_no m) ≡ false = Rattle.qs_world_refine.proofs.StartWorlds.nobody m in cc (off, has)
    own m below (Some part) known has = subst (λ (o : Option Participant). has_node (found o) (node_no m) ≡ true) (sym (Rattle.qs_world_refine.proofs.Maps.lookup_changed (is_at (tid_cmp tid)) f work.node.manager.known part known)) (grows part known m below has)

    by : (t : Tid) (m : ℕ) → m < 16 → has_node (tell_at t work.node) (node_no m) ≡ true → (b : Bool) → same_tid t tid ≡ b → has_node (tm.told_of t no_nodes tell_of_part (tm.with_part tid f work.node.manager)) (node_no m) ≡ true
    by t m below has true same = subst (λ (u : Tid). has_node (tm.told_of u no_nodes tell_of_part (tm.with_part tid f work.node.manager)) (node_no m) ≡ true) (sym (same_is t tid same))
        (own m below (tm.part_of tid work.node.manager) refl (subst (λ (u : Tid). has_node (tell_at u work.node) (node_no m) ≡ true) (same_is t tid same) has))
    by t m below has false apart = subst (λ (o : Option Participant). has_node (found o) (node_no m) ≡ true) (sym (Rattle.qs_world_refine.proofs.Frames.part_apart t tid f work.node.manager apart)) has

-- ---- a transaction becomes known

pub put_on : (tid : Tid) (part : Participant) (work : Work) → tm.part_of tid work.node.manager ≡ None → part.log ≡ no_flags → tell_of_part part ≡ no_nodes → SaysOn work (with_manager (tm.put_part tid part) work)
put_on tid part work none new nobody = flags_on work (with_manager (tm.put_part tid part) work) (record { setting = refl; records = refl; force = refl; commands = λ is. is }) (λ t. by t (same_tid t tid) refl)
    (tells_same work (with_manager (tm.put_part tid part) work) (λ t. tells t (same_tid t tid) refl))
  where
    told_in : Option Participant → Nodes
    told_in o = elim o [ None ↦ no_nodes | Some part ↦ tell_of_part part ]

    tells : (t : Tid) (b : Bool) → same_tid t tid ≡ b → tm.told_of t no_nodes tell_of_part (tm.put_part tid part work.node.manager) ≡ tm.told_of t no_nodes tell_of_part work.node.manager
    tells t true same = subst (λ (u : Tid). tm.told_of u no_nodes tell_of_part (tm.put_part tid part work.node.manager) ≡ tm.told_of u no_nodes tell_of_part work.node.manager) (sym (same_is t tid same))
        (ap told_in (lookup_put tid_cmp tid part (grind (arith, nat_tests)) work.node.manager.known) ∙ (nobody ∙ sym (ap told_in none)))
    tells t false apart = ap told_in (put_apart t tid part work.node.manager apart)

    found : Option Participant → InLog
    found o = elim o [ None ↦ no_flags | Some part ↦ part.log ]

    by : (t : Tid) (b : Bool) → same_tid t tid ≡ b → tm.told_of t no_flags (λ part. part.log) (tm.put_part tid part work.node.manager) ≡ tm.told_of t no_flags (λ part. part.log) work.node.manager
    by t true same = subst (λ (u : Tid). tm.told_of u no_flags (λ part. part.log) (tm.put_part tid part work.node.manager) ≡ tm.told_of u no_flags (λ part. part.log) work.node.manager) (sym (same_is t tid same))
        (ap found (lookup_put tid_cmp tid part (grind (arith, nat_tests)) work.node.manager.known) ∙ (new ∙ sym (ap found none)))
    by t false apart = ap found (put_apart t tid part work.node.manager apart)

-- unless it is
pub absent_on : (tid : Tid) (part : Participant) (work : Work) → part.log ≡ no_flags → tell_of_part part ≡ no_nodes → SaysOn work (with_manager (λ manager. if tm.knows tid manager then manager else tm.put_part tid part manager) work)
absent_on tid part work new nobody = by (tm.part_of tid work.node.manager) refl
  where
    by : (o : Option Participant) → tm.part_of tid work.node.manager ≡ o → SaysOn work (record work { node = record work.node { manager = if is_some o then work.node.manager else tm.put_part tid part work.node.manager } })
    by None none = put_on tid part work none new nobody
    by (Some known) is = on_itself work
