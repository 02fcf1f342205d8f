-- A request that waits is served: it leaves its queue as it counts as served, and a loan that it asks for is made at once.
use Rattle.qs_world_runs.proofs.Words.{◌≡◌, inl, inr, ℕ, ◌+◌, ◌<◌, ◌≤◌, ◌==◌, ◌&&◌, Bool, true, false, List, [], ◌∷◌, ◌++◌, Option, Some, None, refl, sym, ap, subst, ◌∙◌, arith, if◌then◌else◌, eqb-true, eq-eqb, nat_tests, is_at, is_some, nat_lt, same_member, same_tid, same_tid-self, ClientNo, Member, NodeNo, ServerNo, Tid, Delivery, Act, paced, Inv, ran, BookValue, find_transaction, inc_at, borrower_at, broken, effect, TransactionValue, life, request_cmp, standing_request, RequestNo, class_of}
use Rattle.qs_world_runs.proofs.Words.{after_serving, client_no, Reply, is_client, member_here, send, reply_came, change_served, enter_serve, lent_to, make_loan, serve, Work, change_server, here, with_queues, same_node, Effects, Sending, IpcValue, entry_of, sent_to, at_server, Field, IsPresent, asked, waiting, OpenPlaced, Here, LeavesPlaces, PlacedAmid, book_amid, field_amid, and_first, and_last, and_false, eq_le}
use Rattle.qs_base.specs.declared.identifiers.Class.TheVariants as classes
use Rattle.qs_ipc.specs.Ipc as ipc
use Rattle.qs_ipc.specs.Queue.{is_for, is_of}
use Rattle.qs_book_journal.specs.declared.entry.Act.TheVariants as acts
use Rattle.qs_book_machine.specs.Book.{is_done}
use Rattle.qs_book_machine.specs.Lawful.{IsLawful}
use Rattle.qs_packet.specs.declared.message.Message.TheVariants as messages
use Rattle.qs_world_lawful.specs.Face.{is_numbered}
use Rattle.qs_world_runs.specs.PlacesAmid.{counted}
use Rattle.qs_world_runs.proofs.CountedQueues.{count_in, count_left}
use Rattle.qs_world_runs.proofs.FreeLives.{client_class, low_class}
use Rattle.qs_world_runs.proofs.LeftRequests.{reply_leaves}
use Rattle.qs_world_runs.proofs.PlacedActs.{WasServed, client_obliged, loan_obliged, open_grown, serve_obliged, step_here}
use Rattle.qs_world_runs.proofs.PlacedAmid.{act_on, book_is, entries, inv_amid, kept_amid, lawful_then, left_on, rest_of, room, there_amid}
use Rattle.qs_world_runs.proofs.FieldRoom.{goes_now, less_by, more_grows, posted_by, room_more, stays_back}
use Rattle.qs_world_runs.proofs.ServedKinds.{Kind, kind_of, served_stands}
use Rattle.qs_world_runs.proofs.PlacedServes.{LessRoom, one_if}
use Rattle.qs_world_runs.proofs.PlacedTx.{Grows, HasRoom, SameNodes, back, request_self, there}
use Rattle.qs_world_runs.proofs.PlacesLeft.{if_leaves, itself_leaves, send_leaves}

-- ---- the field, once it left its queue

module _ (t : Tid) (base : Field) (knows : ℕ → ℕ) (n stamp : ℕ) (before : BookValue) (i : Inv before) (server : ServerNo) (d : Delivery) (reply : Reply) (work : Work) (here_is : (here work).0 ≡ n) (n_in : n < base.size) (on : base.up n ≡ true)
    (first : ipc.next server work.node.queues ≡ Some d) (own : d.tid ≡ t) (fits : is_for server d.op ≡ true) where
  abbrev left : Work
  left = with_queues (ipc.after_next server) work

  abbrev served : Work
  served = enter_serve server d reply left

  abbrev member : Member
  member = member_here left server

  abbrev at : RequestNo
  at = record { link = record { from = d.from; to = member.node }; number = d.number }

  abbrev amid : Work → Field
  amid w = field_amid base knows n w

  -- what it changes at its server is nothing of this
  changed : (b : Bool) → ((if b then left else change_server server (λ value. after_serving value d.tid d.op reply) left).out ≡ left.out)
      × (((if b then left else change_server server (λ value. after_serving value d.tid d.op reply) left).node.queues ≡ left.node.queues) × ((if b then left else change_server server (λ value. after_serving value d.tid d.op reply) left).node.setting ≡ left.node.setting))
  changed true = (refl, (refl, refl))
  changed false = (refl, (refl, refl))

  same : (change_served server d.tid d.op reply left).out ≡ left.out
  same = (changed (is_client server)).0

  entries_are : served.out.entries ≡ work.out.entries ++ acts.Serve d.tid member d.from d.number reply ∷ []
  entries_are = ap (λ (out : Effects). out.entries ++ acts.Serve d.tid member d.from d.number reply ∷ []) same

  messages_are : served.out.messages ≡ work.out.messages
  messages_are = ap (λ (out : Effects). out.messages) same

  queues_are : served.node.queues ≡ ipc.after_next server work.node.queues
  queues_are = (changed (is_client server)).1.0

  setting_is : served.node.setting ≡ work.node.setting
  setting_is = (changed (is_client server)).1.1

  its : is_of t d ≡ true
  its = ap (λ (u : Tid). same_tid t u) own ∙ same_tid-self t

  fewer : (k : RequestNo) (s : ServerNo) → counted t k s work.node ≡ counted t k s served.node + one_if ((s.0 == server.0) && (is_of t d && is_numbered k d))
  fewer k s = count_left t k work.node.queues server d first s
      ∙ ap (λ (queues : IpcValue). count_in t k s queues + one_if ((s.0 == server.0) && (is_of t d && is_numbered k d))) (sym queues_are)

  same_asked : (q : ℕ) (s : ServerNo) (number : ℕ) → asked t s number (sent_to q work.out.messages) ≡ asked t s number (sent_to q served.out.messages)
  same_asked q s number = ap (λ (ms : List Sending). asked t s number (sent_to q ms)) (sym messages_are)

  nodes : SameNodes (amid work) (amid served)
  nodes = record { size = refl; up = λ k. refl; inc = λ k. refl }

  -- elsewhere, or of another number
  others : (k : RequestNo) → is_at (request_cmp at) k ≡ false → HasRoom t (amid work) (amid served) k
  others k far = record {
    runs = λ up s. by (k.link.to.0 == n) refl s;
    stopped = λ off s. eq_le (back t (amid work) k s) (back t (amid served) k s) (kept_amid t base knows n work k s
        ∙ (ap (λ (p : ℕ). back t base k s + (if stays_back t base knows n work served k s then p else 0)) (same_asked k.link.to.0 s k.number) ∙ sym (kept_amid t base knows n served k s)));
  }
    where
      it_is : (k.link.to.0 == n) ≡ true → is_numbered k d ≡ true → ⊥
      it_is to_n number = let same_key : at ≡ k = key at k (and_first (d.from.0 == k.link.from.0) (d.number == k.number) number) (member_to to_n) (and_last (d.from.0 == k.link.from.0) (d.number == k.number) number) in
          let is : is_at (request_cmp at) k ≡ true = subst (λ (r : RequestNo). is_at (request_cmp at) r ≡ true) same_key (rw (request_self at) refl) in cc (is, far)
        where
          member_to : (k.link.to.0 == n) ≡ true → member.node.0 ≡ k.link.to.0
          member_to e = here_is ∙ sym (eqb-true k.link.to.0 n e)

          node_as : ℕ → NodeNo
          node_as a = record { 0 = a }

          no_as : ℕ → ℕ → ℕ → RequestNo
          no_as a b c = record { link = record { from = node_as a; to = node_as b }; number = c }

          key : (r q : RequestNo) → (r.link.from.0 == q.link.from.0) ≡ true → r.link.to.0 ≡ q.link.to.0 → (r.number == q.number) ≡ true → r ≡ q
          key r q x y z = ap (λ (a : ℕ). no_as a r.link.to.0 r.number) (eqb-true r.link.from.0 q.link.from.0 x) ∙ (ap (λ (b : ℕ). no_as q.link.from.0 b r.number) y ∙ ap (λ (c : ℕ). no_as q.link.from.0 q.link.to.0 c) (eqb-true r.number q.number z))

      by : (b : Bool) → (k.link.to.0 == n) ≡ b → (s : ServerNo) → there t (amid work) k s ≤ there t (amid served) k s
      by true to_n s = less_by (there_amid t base knows n work k s) (there_amid t base knows n served k s)
          (room_more (k.link.to.0 == n) (goes_now t base knows n work served k s) (stays_back t base knows n work served k s) (counted t k s work.node) (counted t k s served.node) (waiting t base k s) (asked t s k.number (base.sent k.link.from.0 k.link.to.0)) (back t base k s)
          (posted_by t base knows n work served k s work) (posted_by t base knows n work served k s served) (eq_le (counted t k s work.node) (counted t k s served.node) (none (is_numbered k d) refl)) (eq_le (posted_by t base knows n work served k s work) (posted_by t base knows n work served k s served) (same_asked k.link.to.0 s k.number)))
        where
          plus_none : (a b c : ℕ) → a ≡ b + c → c ≡ 0 → a ≡ b
          plus_none a b c p q = omega (arith, p, q)

          and_off : (a b : Bool) → (a && (b && false)) ≡ false
          and_off true true = refl
          and_off true false = refl
          and_off false b = refl

          none : (c : Bool) → is_numbered k d ≡ c → counted t k s work.node ≡ counted t k s served.node
          none true number = absurd (it_is to_n number)
          none false number = plus_none (counted t k s work.node) (counted t k s served.node) (one_if ((s.0 == server.0) && (is_of t d && is_numbered k d))) (fewer k s) (ap one_if (ap (λ (c : Bool). (s.0 == server.0) && (is_of t d && c)) number ∙ and_off (s.0 == server.0) (is_of t d)))
      by false apart s = less_by (there_amid t base knows n work k s) (there_amid t base knows n served k s) (elsewhere (k.link.to.0 == n) apart)
        where
          elsewhere : (h : Bool) → h ≡ false
              → room h (goes_now t base knows n work served k s) (stays_back t base knows n work served k s) (counted t k s work.node) (waiting t base k s) (asked t s k.number (base.sent k.link.from.0 k.link.to.0)) (back t base k s) (posted_by t base knows n work served k s work)
              ≤ room h (goes_now t base knows n work served k s) (stays_back t base knows n work served k s) (counted t k s served.node) (waiting t base k s) (asked t s k.number (base.sent k.link.from.0 k.link.to.0)) (back t base k s) (posted_by t base knows n work served k s served)
          elsewhere true e = absurd (cc e)
          elsewhere false e = room_more false (goes_now t base knows n work served k s) (stays_back t base knows n work served k s) 0 0 (waiting t base k s) (asked t s k.number (base.sent k.link.from.0 k.link.to.0)) (back t base k s)
              (posted_by t base knows n work served k s work) (posted_by t base knows n work served k s served) (eq_le 0 0 refl) (eq_le (posted_by t base knows n work served k s work) (posted_by t base knows n work served k s served) (same_asked k.link.to.0 s k.number))

  own_less : (s : ServerNo) → there t (amid work) at s ≤ there t (amid served) at s + one_if (same_member member (at_server member.node s))
  own_less s = fewer_there (at.link.to.0 == n) (eq-eqb member.node.0 n here_is) (there_amid t base knows n work at s) (there_amid t base knows n served at s)
    where
      tests : ((s.0 == server.0) && (is_of t d && is_numbered at d)) ≡ same_member member (at_server member.node s)
      tests = ap (λ (b : Bool). (s.0 == server.0) && (b && is_numbered at d)) its ∙ alike member.node.0 server.0 s.0 d.from.0 d.number
        where
          alike : (a b c f k : ℕ) → ((c == b) && (true && ((f == f) && (k == k)))) ≡ ((a == a) && (b == c))
          alike a b c f k = by (c == b) refl
            where
              by : (x : Bool) → (c == b) ≡ x → ((c == b) && (true && ((f == f) && (k == k)))) ≡ ((a == a) && (b == c))
              by true p = let q : (b == c) ≡ true = grind (arith, nat_tests, p) in grind (arith, nat_tests, p, q)
              by false p = let q : (b == c) ≡ false = grind (arith, nat_tests, p) in grind (arith, nat_tests, p, q)

      counts : counted t at s work.node ≡ counted t at s served.node + one_if (same_member member (at_server member.node s))
      counts = fewer at s ∙ ap (λ (b : Bool). counted t at s served.node + one_if b) tests

      fewer_there : (h : Bool) → h ≡ true
          → there t (amid work) at s ≡ room h (goes_now t base knows n work served at s) (stays_back t base knows n work served at s) (counted t at s work.node) (waiting t base at s) (asked t s at.number (base.sent at.link.from.0 at.link.to.0)) (back t base at s) (posted_by t base knows n work served at s work)
          → there t (amid served) at s ≡ room h (goes_now t base knows n work served at s) (stays_back t base knows n work served at s) (counted t at s served.node) (waiting t base at s) (asked t s at.number (base.sent at.link.from.0 at.link.to.0)) (back t base at s) (posted_by t base knows n work served at s served)
          → there t (amid work) at s ≤ there t (amid served) at s + one_if (same_member member (at_server member.node s))
      fewer_there true h p q = sums (there t (amid work) at s) (there t (amid served) at s) (counted t at s work.node) (counted t at s served.node) (one_if (same_member member (at_server member.node s))) _ _ p q counts
          (ap (λ (x : ℕ). (asked t s at.number (base.sent at.link.from.0 at.link.to.0) + (if goes_now t base knows n work served at s then x else 0)) + (back t base at s + (if stays_back t base knows n work served at s then x else 0))) (same_asked at.link.to.0 s at.number))
        where
          sums : (a b c d k x y : ℕ) → a ≡ c + x → b ≡ d + y → c ≡ d + k → x ≡ y → a ≤ b + k
          sums a b c d k x y p q r e = omega (arith, p, q, r, e)
      fewer_there false h p q = absurd (cc h)

  less : LessRoom t (amid work) (amid served) at member
  less = record { nodes = nodes; up = subst (λ (k : ℕ). base.up k ≡ true) (sym here_is) on; others = others; own = own_less }

  -- ---- what the machine has of it

  own_test : same_tid d.tid t ≡ true
  own_test = ap (λ (u : Tid). same_tid u t) own ∙ same_tid-self t

  stands : broken (book_amid n stamp before work) (entry_of n stamp (acts.Serve d.tid member d.from d.number reply)) ≡ None → (tx : TransactionValue) → find_transaction (book_amid n stamp before work) t ≡ Some tx → is_some (standing_request tx at member) ≡ true
  stands h tx found = served_stands (book_amid n stamp before work) n stamp d.tid member d.from d.number reply h tx (ap (find_transaction (book_amid n stamp before work)) own ∙ found)

  -- ---- served, and lent

  abbrev lent : Work
  lent = make_loan d.tid (lent_to d.op) served

  module _ (inc_is : inc_at (book_amid n stamp before work) (record { 0 = n }) ≡ base.inc n) where
    present : IsPresent (amid served) (life member (inc_at (book_amid n stamp before work) (record { 0 = n })))
    present = record { in_run = subst (λ (k : ℕ). k < base.size) (sym here_is) n_in; up = subst (λ (k : ℕ). base.up k ≡ true) (sym here_is) on; now = inc_is ∙ ap base.inc (sym here_is) }

    by_server : (kind : nat_lt server.0 7 ≡ true) → IsLawful before (entries t base knows n stamp before i served) → PlacedAmid t base knows n stamp before work → PlacedAmid t base knows n stamp before served
    by_server kind lawful placed = act_on t base knows n stamp before i work served (acts.Serve d.tid member d.from d.number reply) entries_are lawful
        (λ h. serve_obliged t (amid work) (amid served) (book_amid n stamp before work) n d.tid member d.from d.number own_test stamp reply less (inl kind) present (stands h) (λ is. low_class server.0 kind is)) placed

    by_client : (client : ClientNo) → nat_lt client.0 224 ≡ true → server.0 ≡ client_no client.0 → IsLawful before (entries t base knows n stamp before i (make_loan d.tid (Some client) served)) → PlacedAmid t base knows n stamp before work
        → PlacedAmid t base knows n stamp before (make_loan d.tid (Some client) served)
    by_client client small is lawful placed = subst (λ (book : BookValue). Here t (OpenPlaced t (amid made)) book) (sym (book_is t base knows n stamp before i work made (first_act ∷ second ∷ []) both_are))
        (λ tx found. open_grown t (amid served) (amid made) made_grows tx (lent_here tx found))
      where
        made : Work
        made = make_loan d.tid (Some client) served

        first_act : Act
        first_act = acts.Serve d.tid member d.from d.number reply

        second : Act
        second = acts.Loan d.tid client

        joined : (xs : List Act) (x y : Act) → (xs ++ x ∷ []) ++ y ∷ [] ≡ xs ++ x ∷ y ∷ []
        joined [] x y = refl
        joined (z ∷ xs) x y = ap (λ (rest : List Act). z ∷ rest) (joined xs x y)

        both_are : made.out.entries ≡ work.out.entries ++ first_act ∷ second ∷ []
        both_are = ap (λ (es : List Act). es ++ second ∷ []) entries_are ∙ joined work.out.entries first_act second

        allowed : IsLawful (book_amid n stamp before work) (entry_of n stamp first_act ∷ entry_of n stamp second ∷ [])
        allowed = rest_of t base knows n stamp before i work made (first_act ∷ second ∷ []) both_are lawful

        after : BookValue
        after = effect (book_amid n stamp before work) (entry_of n stamp first_act)

        inv_after : Inv after
        inv_after = (ran (entry_of n stamp first_act ∷ []) (book_amid n stamp before work) (inv_amid t base knows n stamp before i work (lawful_then t base knows n stamp before i work made (first_act ∷ second ∷ []) both_are lawful)) (allowed.0, tt)).inv

        Was : TransactionValue → Type 0
        Was later = WasServed t (amid work) (amid served) (book_amid n stamp before work) n d.tid member d.from d.number own_test stamp (is_done reply) later

        class : class_of member.server.0 ≡ classes.Activity
        class = ap class_of is ∙ client_class client.0

        borrower_is : borrower_at client n ≡ Some member
        borrower_is = (rw small refl) ∙ (ap (λ (k : ℕ). Some (member_as n k)) (sym is) ∙ ap (λ (a : ℕ). Some (member_as a server.0)) (sym here_is))
          where
            member_as : ℕ → ℕ → Member
            member_as a k = record { node = record { 0 = a }; server = record { 0 = k } }

        -- the loan itself changes nothing of the field
        made_grows : Grows t (amid served) (amid made)
        made_grows = more_grows t base knows n served made (λ k s. eq_le (counted t k s served.node) (counted t k s served.node) refl) (λ q s number. eq_le (asked t s number (sent_to q served.out.messages)) (asked t s number (sent_to q served.out.messages)) refl)

        lent_here : Here t (OpenPlaced t (amid served)) (effect after (entry_of n stamp second))
        lent_here = step_here t Was (OpenPlaced t (amid served)) after (entry_of n stamp second) inv_after allowed.1.0
            (loan_obliged t (amid work) (amid served) (book_amid n stamp before work) n d.tid member d.from d.number own_test after stamp (is_done reply) client less (inr (client, small, is)) present class
            ((paced d.tid (record { 0 = n }) (book_amid n stamp before work) (entry_of n stamp first_act) allowed.0).still (record { 0 = n }) (and_false (n == n))) borrower_is)
            (λ label k ticks act. absurd (cc act))
            (step_here t (OpenPlaced t (amid work)) Was (book_amid n stamp before work) (entry_of n stamp first_act) (inv_amid t base knows n stamp before i work (lawful_then t base knows n stamp before i work made (first_act ∷ second ∷ []) both_are lawful)) allowed.0
            (client_obliged t (amid work) (amid served) (book_amid n stamp before work) n d.tid member d.from d.number own_test stamp reply (stands allowed.0)) (λ label k ticks act. absurd (cc act)) placed)

    given : LeavesPlaces t lent (serve server d reply left)
    given = if_leaves t (same_node d.from (here lent)) (reply_came d.tid member d.number reply lent) (if d.stale then lent else send d.from (messages.Answered d.tid member d.number reply) lent) lent
        (reply_leaves t d.tid member d.number reply lent)
        (if_leaves t d.stale lent (send d.from (messages.Answered d.tid member d.number reply) lent) lent (itself_leaves t lent) (send_leaves t d.from (messages.Answered d.tid member d.number reply) lent (λ s k. refl)))

    by_lent : (o : Option ClientNo) → Kind o server → IsLawful before (entries t base knows n stamp before i (make_loan d.tid o served)) → PlacedAmid t base knows n stamp before work → PlacedAmid t base knows n stamp before (make_loan d.tid o served)
    by_lent None kind = by_server kind
    by_lent (Some client) kind = by_client client kind.0 kind.1

    pub serve_placed : IsLawful before (entries t base knows n stamp before i (serve server d reply left)) → PlacedAmid t base knows n stamp before work → PlacedAmid t base knows n stamp before (serve server d reply left)
    serve_placed lawful placed = left_on t base knows n stamp before i lent (serve server d reply left) given lawful
        (by_lent (lent_to d.op) (kind_of server d.op fits) (lawful_then t base knows n stamp before i lent (serve server d reply left) given.more given.entries lawful) placed)
