-- What a rule does that leaves the places of a transaction: its entries do not bear on it, and no request of it is sent, comes to wait or is served.
use Rattle.qs_world_runs.proofs.Words.{◌≡◌, ℕ, ◌+◌, ◌==◌, Bool, true, false, List, [], ◌∷◌, ◌++◌, length, map, Option, Some, None, suc, refl, sym, ap, ◌∙◌, append_assoc, append-nil, fold, arith, if◌then◌else◌, is_at, filter, lookup, nat_lt, unwrap_or, ClientNo, NodeNo, ServerNo, Tid, IpcValue, queue_at, server_cmp, QueueValue, Delivery, Act, RequestNo, Answer, Message, Record, where_undecided, answer, is_other, log_if, send, send_each, send_next, Work, client_cmp, with_queues, drop_counts}
use Rattle.qs_world_runs.proofs.Words.{Sending, is_undecided, Participant, sent_to, is_asking_for, asked, is_loud, loud, LeavesPlaces, is_zero_plus, plus_zero}
use Rattle.std.proofs.lemmas.List.Elements.{filter-append}
use Rattle.std.specs.List.{flat_map}
use Rattle.qs_ipc.specs.Ipc as ipc
use Rattle.qs_ipc.specs.Ipc.{forgotten_below, mark_queue, servers}
use Rattle.qs_ipc.specs.Queue.{forgotten, is_of, mark_stale, no_queue}
use Rattle.qs_book_journal.specs.declared.entry.Act.TheVariants as acts
use Rattle.qs_node_step.specs.State.{part_of}
use Rattle.qs_world_lawful.specs.Face.{is_numbered}
use Rattle.qs_world_runs.specs.PlacesAmid.{counted}

-- ---- counts of messages

flat_more : {A B : Type 0} (f : A → List B) (xs ys : List A) → length (flat_map f (xs ++ ys)) ≡ length (flat_map f xs) + length (flat_map f ys)
flat_more f [] ys = is_zero_plus (length (flat_map f ys))
flat_more f (x ∷ xs) ys = by (length (f x ++ flat_map f (xs ++ ys))) (length (f x)) (length (flat_map f (xs ++ ys))) (length (f x ++ flat_map f xs)) (length (flat_map f xs)) (length (flat_map f ys))
    (length_more (f x) (flat_map f (xs ++ ys))) (length_more (f x) (flat_map f xs)) (flat_more f xs ys)
  where
    length_more : {B : Type 0} (cs bs : List B) → length (cs ++ bs) ≡ length cs + length bs
    length_more [] bs = is_zero_plus (length bs)
    length_more (a ∷ cs) bs = one (length (cs ++ bs)) (length cs) (length bs) (length_more cs bs)
      where
        one : (a b c : ℕ) → a ≡ b + c → suc a ≡ suc b + c
        one a b c is = omega (arith, is)

    by : (a b c d e f : ℕ) → a ≡ b + c → d ≡ b + e → c ≡ e + f → a ≡ d + f
    by a b c d e f p q r = omega (arith, p, q, r)

pub asked_more : (t : Tid) (server : ServerNo) (number : ℕ) (xs ys : List Message) → asked t server number (xs ++ ys) ≡ asked t server number xs + asked t server number ys
asked_more t server number xs ys = flat_more (is_asking_for t server number) xs ys

-- one message more
pub sent_more : (t : Tid) (server : ServerNo) (number q : ℕ) (ms : List Sending) (x : Sending) → asked t server number (sent_to q (ms ++ x ∷ [])) ≡ asked t server number (sent_to q ms) + asked t server number (sent_to q (x ∷ []))
sent_more t server number q ms x = ap (λ (xs : List Sending). asked t server number (map (λ (sending : Sending). sending.message) xs)) (filter-append (λ (sending : Sending). sending.to.0 == q) ms (x ∷ []))
    ∙ (ap (asked t server number) (mapped (filter (λ (sending : Sending). sending.to.0 == q) ms) (filter (λ (sending : Sending). sending.to.0 == q) (x ∷ []))) ∙ asked_more t server number (sent_to q ms) (sent_to q (x ∷ [])))
  where
    mapped : (xs ys : List Sending) → map (λ (sending : Sending). sending.message) (xs ++ ys) ≡ map (λ (sending : Sending). sending.message) xs ++ map (λ (sending : Sending). sending.message) ys
    mapped [] ys = refl
    mapped (x ∷ xs) ys = ap (λ (rest : List Message). x.message ∷ rest) (mapped xs ys)

-- ---- a rule after another

pub itself_leaves : (t : Tid) (work : Work) → LeavesPlaces t work work
itself_leaves t work = record { more = []; entries = sym (append-nil work.out.entries); silent = refl; asks = λ q server number. refl; waits = λ at server. refl; setting = refl }

pub then_leaves : (t : Tid) (a b c : Work) → LeavesPlaces t a b → LeavesPlaces t b c → LeavesPlaces t a c
then_leaves t a b c l m = record {
  more = l.more ++ m.more;
  entries = m.entries ∙ (ap (λ (xs : List Act). xs ++ m.more) l.entries ∙ append_assoc a.out.entries l.more m.more);
  silent = filter-append (is_loud t) l.more m.more ∙ (ap (λ (xs : List Act). xs ++ loud t m.more) l.silent ∙ m.silent);
  asks = λ q server number. m.asks q server number ∙ l.asks q server number;
  waits = λ at server. m.waits at server ∙ l.waits at server;
  setting = m.setting ∙ l.setting;
}

-- ---- what touches none of it

pub same_leaves : (t : Tid) (work new : Work) → new.out.entries ≡ work.out.entries → new.out.messages ≡ work.out.messages → new.node.queues ≡ work.node.queues → new.node.setting ≡ work.node.setting → LeavesPlaces t work new
same_leaves t work new es ms qs setting = record {
  more = [];
  entries = es ∙ sym (append-nil work.out.entries);
  silent = refl;
  asks = λ q server number. ap (λ (sendings : List Sending). asked t server number (sent_to q sendings)) ms;
  waits = λ at server. ap (λ (queues : IpcValue). length (filter (is_numbered at) (filter (is_of t) (queue_at queues server).waiting))) qs;
  setting = setting;
}

-- an entry that does not bear on it
pub entry_leaves : (t : Tid) (act : Act) (work new : Work) → is_loud t act ≡ false → new.out.entries ≡ work.out.entries ++ act ∷ [] → new.out.messages ≡ work.out.messages → new.node.queues ≡ work.node.queues → new.node.setting ≡ work.node.setting → LeavesPlaces t work new
entry_leaves t act work new quiet es ms qs setting = record {
  more = act ∷ [];
  entries = es;
  silent = rw quiet refl;
  asks = λ q server number. ap (λ (sendings : List Sending). asked t server number (sent_to q sendings)) ms;
  waits = λ at server. ap (λ (queues : IpcValue). length (filter (is_numbered at) (filter (is_of t) (queue_at queues server).waiting))) qs;
  setting = setting;
}

-- queues in which as many wait
pub queues_leave : (t : Tid) (f : IpcValue → IpcValue) (work : Work) → ((at : RequestNo) (server : ServerNo) → length (filter (is_numbered at) (filter (is_of t) (queue_at (f work.node.queues) server).waiting)) ≡ counted t at server work.node) → LeavesPlaces t work (with_queues f work)
queues_leave t f work same = record { more = []; entries = sym (append-nil work.out.entries); silent = refl; asks = λ q server number. refl; waits = λ at server. same at server; setting = refl }

-- a message that asks for nothing of it
abbrev pub asks_nothing : Tid → Message → Type 0
asks_nothing t message = (server : ServerNo) (number : ℕ) → is_asking_for t server number message ≡ []

pub send_leaves : (t : Tid) (to : NodeNo) (message : Message) (work : Work) → asks_nothing t message → LeavesPlaces t work (send to message work)
send_leaves t to message work nothing = by (is_other work.node.setting to)
  where
    sent : Work
    sent = record work { out = record work.out { messages = work.out.messages ++ record { to = to; message = message } ∷ [] } }

    last : (q : ℕ) (server : ServerNo) (number : ℕ) → asked t server number (sent_to q sent.out.messages) ≡ asked t server number (sent_to q work.out.messages)
    last q server number = sent_more t server number q work.out.messages (record { to = to; message = message }) ∙ none (to.0 == q) refl
      where
        none : (b : Bool) → (to.0 == q) ≡ b → asked t server number (sent_to q work.out.messages) + asked t server number (sent_to q (record { to = to; message = message } ∷ [])) ≡ asked t server number (sent_to q work.out.messages)
        none true is = rw (is, nothing server number) (plus_zero (asked t server number (sent_to q work.out.messages)))
        none false is = rw is (plus_zero (asked t server number (sent_to q work.out.messages)))

    by : (b : Bool) → LeavesPlaces t work (if b then sent else work)
    by true = record { more = []; entries = sym (append-nil work.out.entries); silent = refl; asks = last; waits = λ at server. refl; setting = refl }
    by false = itself_leaves t work

-- ---- cases, and one after another

pub if_leaves : (t : Tid) (b : Bool) (x y work : Work) → LeavesPlaces t work x → LeavesPlaces t work y → LeavesPlaces t work (if b then x else y)
if_leaves t true x y work p q = p
if_leaves t false x y work p q = q

pub elim_leaves : {A : Type 0} (t : Tid) (o : Option A) (n : Work) (f : A → Work) (work : Work) → LeavesPlaces t work n → ((x : A) → LeavesPlaces t work (f x)) → LeavesPlaces t work (elim o [ None ↦ n | Some x ↦ f x ])
elim_leaves t None n f work p q = p
elim_leaves t (Some x) n f work p q = q x

pub fold_leaves : {A : Type 0} (t : Tid) (f : Work → A → Work) → ((w : Work) (x : A) → LeavesPlaces t w (f w x)) → (xs : List A) (work : Work) → LeavesPlaces t work (fold f work xs)
fold_leaves t f each [] work = itself_leaves t work
fold_leaves t f each (x ∷ xs) work = then_leaves t work (f work x) (fold f work (x ∷ xs)) (each work x) (fold_leaves t f each xs (f work x))

pub undecided_leaves : (t tid : Tid) (rule : Participant → Work → Work) (work : Work) → ((part : Participant) → LeavesPlaces t work (rule part work)) → LeavesPlaces t work (where_undecided tid rule work)
undecided_leaves t tid rule work each = elim_leaves t (part_of tid work) work (λ part. if is_undecided part then rule part work else work) work (itself_leaves t work) (λ part. if_leaves t (is_undecided part) (rule part work) work work (each part) (itself_leaves t work))

pub send_each_leaves : (t : Tid) (nodes : List NodeNo) (message : Message) (work : Work) → asks_nothing t message → LeavesPlaces t work (send_each nodes message work)
send_each_leaves t nodes message work nothing = fold_leaves t (send_next message) (λ w to. send_leaves t to message w nothing) nodes work

pub log_if_leaves : (t : Tid) (o : Option Record) (work : Work) → LeavesPlaces t work (log_if o work)
log_if_leaves t None work = itself_leaves t work
log_if_leaves t (Some rec) work = same_leaves t work (log_if (Some rec) work) refl refl refl refl

pub answer_leaves : (t : Tid) (client : ClientNo) (said : Answer) (work : Work) → LeavesPlaces t work (answer client said work)
answer_leaves t client said work = elim_leaves t (lookup (is_at (client_cmp client)) work.node.commands) work _ work (itself_leaves t work) (λ command. entry_leaves t (acts.Answer client command.line.line said) work _ refl refl refl refl refl)

-- ---- queues

-- what is dropped is what was served
pub drop_leaves : (t tid : Tid) (work : Work) → LeavesPlaces t work (with_queues (drop_counts tid) work)
drop_leaves t tid work = queues_leave t (drop_counts tid) work (λ at server. ap (λ (ds : List Delivery). length (filter (is_numbered at) (filter (is_of t) ds))) (dropped (ipc.waits tid work.node.queues) server))
  where
    below : (n : ℕ) (p : ServerNo → Bool) (queues : IpcValue) → (unwrap_or (lookup p (map (forgotten_below n tid) queues)) no_queue).waiting ≡ (unwrap_or (lookup p queues) no_queue).waiting
    below n p [] = refl
    below n p (q ∷ qs) = by (nat_lt q.0.0 n) (below n p qs)
      where
        of : (b : Bool) → p q.0 ≡ b → (c : QueueValue) → c.waiting ≡ q.1.waiting → (unwrap_or (lookup p (map (forgotten_below n tid) qs)) no_queue).waiting ≡ (unwrap_or (lookup p qs) no_queue).waiting
            → (unwrap_or (lookup p ((q.0, c) ∷ map (forgotten_below n tid) qs)) no_queue).waiting ≡ (unwrap_or (lookup p (q ∷ qs)) no_queue).waiting
        of true is c same more = rw is same
        of false is c same more = rw is more

        by : (b : Bool) → (unwrap_or (lookup p (map (forgotten_below n tid) qs)) no_queue).waiting ≡ (unwrap_or (lookup p qs) no_queue).waiting
            → (unwrap_or (lookup p ((if b then (q.0, forgotten tid q.1) else q) ∷ map (forgotten_below n tid) qs)) no_queue).waiting ≡ (unwrap_or (lookup p (q ∷ qs)) no_queue).waiting
        by true more = of (p q.0) refl (forgotten tid q.1) refl more
        by false more = of (p q.0) refl q.1 refl more

    dropped : (b : Bool) (server : ServerNo) → (queue_at (if b then work.node.queues else ipc.forget tid work.node.queues) server).waiting ≡ (queue_at work.node.queues server).waiting
    dropped true server = refl
    dropped false server = below servers (is_at (server_cmp server)) work.node.queues

-- a mark leaves whose a request is, and its number
pub mark_leaves : (t : Tid) (peer : NodeNo) (work : Work) → LeavesPlaces t work (with_queues (ipc.mark_queues peer) work)
mark_leaves t peer work = queues_leave t (ipc.mark_queues peer) work (λ at server. ap (λ (ds : List Delivery). length (filter (is_numbered at) (filter (is_of t) ds))) (marked_at (is_at (server_cmp server)) work.node.queues) ∙ same at (queue_at work.node.queues server).waiting)
  where
    marked_at : (p : ServerNo → Bool) (queues : IpcValue) → (unwrap_or (lookup p (map (mark_queue peer) queues)) no_queue).waiting ≡ map (mark_stale peer) (unwrap_or (lookup p queues) no_queue).waiting
    marked_at p [] = refl
    marked_at p (q ∷ qs) = by (p q.0) refl (marked_at p qs)
      where
        by : (b : Bool) → p q.0 ≡ b → (unwrap_or (lookup p (map (mark_queue peer) qs)) no_queue).waiting ≡ map (mark_stale peer) (unwrap_or (lookup p qs) no_queue).waiting
            → (unwrap_or (lookup p (map (mark_queue peer) (q ∷ qs))) no_queue).waiting ≡ map (mark_stale peer) (unwrap_or (lookup p (q ∷ qs)) no_queue).waiting
        by true is more = rw is refl
        by false is more = rw is more

    of_same : (d : Delivery) → is_of t (mark_stale peer d) ≡ is_of t d
    of_same d = by (d.from.0 == peer.0)
      where
        by : (b : Bool) → is_of t (if b then record d { stale = true } else d) ≡ is_of t d
        by true = refl
        by false = refl

    number_same : (at : RequestNo) (d : Delivery) → is_numbered at (mark_stale peer d) ≡ is_numbered at d
    number_same at d = by (d.from.0 == peer.0)
      where
        by : (b : Bool) → is_numbered at (if b then record d { stale = true } else d) ≡ is_numbered at d
        by true = refl
        by false = refl

    same : (at : RequestNo) (ds : List Delivery) → length (filter (is_numbered at) (filter (is_of t) (map (mark_stale peer) ds))) ≡ length (filter (is_numbered at) (filter (is_of t) ds))
    same at [] = refl
    same at (d ∷ ds) = by (is_of t d) (is_numbered at d) refl refl (same at ds)
      where
        by : (a b : Bool) → is_of t d ≡ a → is_numbered at d ≡ b → length (filter (is_numbered at) (filter (is_of t) (map (mark_stale peer) ds))) ≡ length (filter (is_numbered at) (filter (is_of t) ds))
            → length (filter (is_numbered at) (filter (is_of t) (map (mark_stale peer) (d ∷ ds)))) ≡ length (filter (is_numbered at) (filter (is_of t) (d ∷ ds)))
        by false b is has more = rw (of_same d ∙ is, is) more
        by true true is has more = rw (of_same d ∙ is, is, number_same at d ∙ has, has) (ap suc more)
        by true false is has more = rw (of_same d ∙ is, is, number_same at d ∙ has, has) more
