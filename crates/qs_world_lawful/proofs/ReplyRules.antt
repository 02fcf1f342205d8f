-- Whatever a server here replies is the reply by the rules of its kind, whether its transaction is crossed there or not.
use Rattle.qs_world_lawful.proofs.Words.{◌≡◌, ◌⊎◌, inl, inr, ℕ, ◌==◌, ◌+◌, Bool, true, false, List, [], ◌∷◌, Option, Some, None, refl, sym, ap, subst, ◌∙◌, arith, nat_lt, nat_le, true≢false, nat_tests, not, ◌&&◌, ◌||◌, length, if◌then◌else◌, same_tid, Member, NodeNo, ServerNo, Tid, same_tid-self, same_tid-true, BookValue, find_transaction, is_reply, takes_lock, TransactionValue, is_crossed, standing_request, ServerValue, reply_of, names_no, windows_no, scratch_no, client_no, is_client_no}
use Rattle.qs_world_lawful.proofs.Words.{TableValue, reply_to, share_of, Op, Put, Append, Del, Get, Listing, Note, Notes, Bind, Find, Timer, Left, Window, Title, Keep, Fetch, Lend, Extra, Reply, ServerKind, server_at, is_client, reply_here, at_server, face_of, part_or_new, Holds, HoldsTable, is_seen, seen_in, HoldsWaitsAt, IsWithin, standing_ops, is_idle, Delivery, broken, Request, RequestNo, Participant, entry_of, eqb-true, or_left, or_right, some_same}
use Rattle.std.proofs.lemmas.Bool.{not-false}
use Rattle.qs_ipc.specs.Queue.{is_for}
use Rattle.qs_book_machine.specs.Clauses.{has_reply, is_server_reply, is_crossed_busy, may_hold, holds_as}
use Rattle.qs_book_machine.specs.Transaction.{part_of}
use Rattle.qs_ops.specs.Files.{text_reply}
use Rattle.qs_ops.specs.Operations.{server_of, borrower}
use Rattle.qs_ops.specs.Server.{reply_in}
use Rattle.qs_ops.specs.Servers.{files_no, audit_no, timers_no, extra_no}
use Rattle.qs_ops.specs.Table.{is_due, size_reply, del_reply}
use Rattle.qs_ops.specs.Timers.{timer_reply_to, timer_share_of, left_reply}
use Rattle.qs_ops.specs.declared.reply.Reply.TheVariants as replies
use Rattle.qs_ops.specs.declared.server.ServerKind.TheVariants as kinds
use Rattle.qs_node_step.specs.State.{NodeValue}
use Rattle.qs_world_lawful.proofs.RepliesHere.{IsBusyWith, refused_has, reply_itself, table_reply}
use Rattle.qs_world_lawful.proofs.Tables.{own_timers}
use Rattle.qs_book_journal.specs.declared.entry.Act.TheVariants as acts
use Rattle.qs_tm.specs.Manager as tm
use Rattle.qs_world_lawful.proofs.Clauses.{may_serve}
use Rattle.qs_world_lawful.proofs.Stands.{alone, one_stands}
use Rattle.qs_world_lawful.proofs.Steps.{waits_of}

size_has : (text : List ℕ) → has_reply files_no (size_reply text) ≡ true
size_has text = by (nat_lt 65536 (length text))
  where
    by : (b : Bool) → has_reply files_no (if b then replies.TooLong else replies.Done) ≡ true
    by true = refl
    by false = refl

del_has : (o : Option (List ℕ)) → has_reply files_no (del_reply o) ≡ true
del_has None = refl
del_has (Some text) = refl

text_has : (n : ℕ) → has_reply n replies.Absent ≡ true → has_reply n (replies.Value []) ≡ true → (o : Option (List ℕ)) → has_reply n (text_reply o) ≡ true
text_has n absent value None = absent
text_has n absent value (Some text) = value

timer_has : (b : Bool) (free : Reply) → has_reply timers_no free ≡ true → has_reply timers_no (if b then replies.TooMany else free) ≡ true
timer_has true free has = refl
timer_has false free has = has

left_has : (ticks : ℕ) (o : Option ℕ) → has_reply timers_no (left_reply ticks o) ≡ true
left_has ticks None = refl
left_has ticks (Some at) = refl

module _ (stamp : ℕ) (book : BookValue) (node : NodeValue) (h : Holds stamp book node) (tid : Tid) (tx : TransactionValue) (found : find_transaction book tid ≡ Some tx) where
  abbrev here : NodeNo
  here = node.setting.node

  abbrev at_number : ℕ → Member
  at_number n = record { node = here; server = record { 0 = n } }

  abbrev IsRight : Member → Op → Reply → Type 0
  IsRight member op reply = is_reply here.0 h.state book.transactions tid tx member op reply ≡ true

  seen_as : (n : ℕ) (b : Bool) → is_crossed tx (at_number n) ≡ b → is_seen book here n tid ≡ not b
  seen_as n b is = ap (seen_in here n) found ∙ ap not is

  -- any that the server has where it is crossed, else that of its rules
  right : (n : ℕ) (op : Op) (reply : Reply) → has_reply n reply ≡ true
      → (is_seen book here n tid ≡ true → (is_server_reply h.state n tid op reply ≡ true) ⊎ (((n == files_no) && is_crossed_busy here.0 h.state book.transactions tid op reply) ≡ true)) → IsRight (at_number n) op reply
  right n op reply has rule = by (is_crossed tx (at_number n)) refl
    where
      of : (is_server_reply h.state n tid op reply ≡ true) ⊎ (((n == files_no) && is_crossed_busy here.0 h.state book.transactions tid op reply) ≡ true)
          → (is_server_reply h.state n tid op reply || ((n == files_no) && is_crossed_busy here.0 h.state book.transactions tid op reply)) ≡ true
      of (inl is) = or_left _ _ is
      of (inr is) = or_right _ _ is

      by : (b : Bool) → is_crossed tx (at_number n) ≡ b
          → (if b then has_reply n reply else is_server_reply h.state n tid op reply || ((n == files_no) && is_crossed_busy here.0 h.state book.transactions tid op reply)) ≡ true
      by true is = has
      by false is = of (rule (seen_as n false is))

  due_itself : (o : Option Reply) (reply : Reply) → o ≡ Some reply → is_due o reply ≡ true
  due_itself o reply is = rw is (reply_itself reply)

  -- ---- busy with one that is crossed

  may_hold_on : (t : Tid) → is_seen book here files_no t ≡ false → is_idle (share_of node.servers.files.table t) ≡ false → may_hold here.0 h.state book.transactions t ≡ true
  may_hold_on t hidden busy = by (find_transaction book t) refl (h.waits t)
    where
      by : (o : Option TransactionValue) → find_transaction book t ≡ o → HoldsWaitsAt here node.setting.inc t o (face_of node t).waiting node.servers → holds_as (find_transaction book t) (at_number files_no) h.state.inc ≡ true
      by None is k = absurd (true≢false (sym k ∙ busy))
      by (Some other) is k =
          let at_files : is_crossed other (at_number files_no) ≡ true = not-false _ (sym (ap (seen_in here files_no) is) ∙ hidden) in
          ap (λ (o : Option TransactionValue). holds_as o (at_number files_no) h.state.inc) is ∙ rw at_files (ap (λ (i : ℕ). (part_of other (at_number files_no) i).due) h.same.inc ∙ k.due busy)

  busy_right : (mine : is_seen book here files_no tid ≡ true) (op : Op) (reply : Reply) (t : Tid) → IsBusyWith (is_seen book here files_no) h.state.files node.servers.files.table h.servers.files tid mine op reply t
      → is_crossed_busy here.0 h.state book.transactions tid op reply ≡ true
  busy_right mine op reply t k = subst (λ (r : Reply). is_crossed_busy here.0 h.state book.transactions tid op r ≡ true) (sym k.busy) (all _ _ _ _ k.locks k.few (other (same_tid t tid) refl) (may_hold_on t k.hides.hidden k.hides.busy))
    where
      all : (a b c d : Bool) → a ≡ true → b ≡ true → c ≡ false → d ≡ true → ((a && b) && (not c && d)) ≡ true
      all a b c d p q r s = rw (p, q, r, s) refl

      other : (b : Bool) → same_tid t tid ≡ b → b ≡ false
      other false is = refl
      other true is = absurd (true≢false (sym (subst (λ (u : Tid). same_tid tid u ≡ true) (sym (same_tid-true t tid is)) (same_tid-self tid)) ∙ k.hides.other))

  -- ---- servers with a table

  at_table : (n : ℕ) (kept held : TableValue) → HoldsTable (is_seen book here n) kept held → (op : Op) (reply : Reply) → is_server_reply h.state n tid op reply ≡ is_due (reply_to kept tid op) reply → takes_lock op ≡ false → has_reply n reply ≡ true
      → reply_to held tid op ≡ Some reply → IsRight (at_number n) op reply
  at_table n kept held t op reply rule free has says = right n op reply has (λ mine. inl (rule ∙ of mine (table_reply (is_seen book here n) kept held t tid mine op reply says)))
    where
      of : (mine : is_seen book here n tid ≡ true) → (reply_to kept tid op ≡ Some reply) ⊎ ((u : Tid) × IsBusyWith (is_seen book here n) kept held t tid mine op reply u) → is_due (reply_to kept tid op) reply ≡ true
      of mine (inl same) = due_itself (reply_to kept tid op) reply same
      of mine (inr busy) = absurd (true≢false (sym busy.1.locks ∙ free))

  at_files : (op : Op) (reply : Reply) → has_reply files_no reply ≡ true → reply_to node.servers.files.table tid op ≡ Some reply → IsRight (at_number files_no) op reply
  at_files op reply has says = right files_no op reply has (λ mine. of mine (table_reply (is_seen book here files_no) h.state.files node.servers.files.table h.servers.files tid mine op reply says))
    where
      of : (mine : is_seen book here files_no tid ≡ true) → (reply_to h.state.files tid op ≡ Some reply) ⊎ ((u : Tid) × IsBusyWith (is_seen book here files_no) h.state.files node.servers.files.table h.servers.files tid mine op reply u)
          → (is_server_reply h.state files_no tid op reply ≡ true) ⊎ (is_crossed_busy here.0 h.state book.transactions tid op reply ≡ true)
      of mine (inl same) = inl (due_itself (reply_to h.state.files tid op) reply same)
      of mine (inr busy) = inr (busy_right mine op reply busy.0 busy.1)

  -- ---- timers

  same_timers : is_seen book here timers_no tid ≡ true → (op : Op) → timer_reply_to h.state.timers tid op ≡ timer_reply_to node.servers.timers.timers tid op
  same_timers mine op = by op
    where
      shares : timer_share_of h.state.timers tid ≡ timer_share_of node.servers.timers.timers tid
      shares = own_timers (is_seen book here timers_no) h.state.timers node.servers.timers.timers h.servers.timers tid mine

      by : (o : Op) → timer_reply_to h.state.timers tid o ≡ timer_reply_to node.servers.timers.timers tid o
      by (Timer name ticks) = rw shares refl
      by (Left name) = rw (shares, h.servers.timers.ticks) refl
      by o = refl

  at_timers : (op : Op) (reply : Reply) → has_reply timers_no reply ≡ true → timer_reply_to node.servers.timers.timers tid op ≡ Some reply → IsRight (at_number timers_no) op reply
  at_timers op reply has says = right timers_no op reply has (λ mine. inl (due_itself (timer_reply_to h.state.timers tid op) reply (same_timers mine op ∙ says)))

  -- ---- each operation at its own server

  its : (server : ServerNo) (n : ℕ) (op : Op) (reply : Reply) → server_of op ≡ Some (record { 0 = n }) → (reply_here (record { 0 = n }) tid op node ≡ Some reply → IsRight (at_number n) op reply) → reply_here server tid op node ≡ Some reply → IsRight (at_server here server) op reply
  its server n op reply own rule says = by (is_for server op) refl says
    where
      fits : is_for server op ≡ true → n ≡ server.0
      fits is = eqb-true n server.0 (sym (ap (λ (o : Option ServerNo). elim o [ None ↦ false | Some s ↦ s.0 == server.0 ]) own) ∙ is)

      by : (b : Bool) → is_for server op ≡ b → (if not b then None else if is_client server then Some replies.Done else reply_of (server_at node.servers server) tid op) ≡ Some reply → IsRight (at_server here server) op reply
      by false is e = absurd (cc e)
      by true is e = subst (λ (m : ℕ). reply_here (record { 0 = m }) tid op node ≡ Some reply → IsRight (at_number m) op reply) (fits is) rule says

  kind_reply : (server : ServerValue) (k : ServerKind) (op : Op) (reply : Reply) → server.kind ≡ k → reply_of server tid op ≡ Some reply → reply_in server k tid op ≡ Some reply
  kind_reply server k op reply is says = subst (λ (x : ServerKind). reply_in server x tid op ≡ Some reply) is says

  -- whatever it replies is right
  pub reply_is_right : (server : ServerNo) (op : Op) (reply : Reply) → reply_here server tid op node ≡ Some reply → IsRight (at_server here server) op reply
  reply_is_right server (Put name text) reply = its server files_no (Put name text) reply refl (λ says. at_files (Put name text) reply (subst (λ (r : Reply). has_reply files_no r ≡ true) (some_same (kind_reply node.servers.files (kinds.Files h.servers.kinds.quota) (Put name text) reply h.servers.kinds.files says)) (refused_has (has_reply files_no) node.servers.files.table tid (Put name text) _ refl (λ t e. refl) (size_has text))) (kind_reply node.servers.files (kinds.Files h.servers.kinds.quota) (Put name text) reply h.servers.kinds.files says))
  reply_is_right server (Append name text) reply = its server files_no (Append name text) reply refl (λ says. at_files (Append name text) reply (subst (λ (r : Reply). has_reply files_no r ≡ true) (some_same (kind_reply node.servers.files (kinds.Files h.servers.kinds.quota) (Append name text) reply h.servers.kinds.files says)) (refused_has (has_reply files_no) node.servers.files.table tid (Append name text) _ refl (λ t e. refl) (size_has _))) (kind_reply node.servers.files (kinds.Files h.servers.kinds.quota) (Append name text) reply h.servers.kinds.files says))
  reply_is_right server (Del name) reply = its server files_no (Del name) reply refl (λ says. at_files (Del name) reply (subst (λ (r : Reply). has_reply files_no r ≡ true) (some_same (kind_reply node.servers.files (kinds.Files h.servers.kinds.quota) (Del name) reply h.servers.kinds.files says)) (refused_has (has_reply files_no) node.servers.files.table tid (Del name) _ refl (λ t e. refl) (del_has _))) (kind_reply node.servers.files (kinds.Files h.servers.kinds.quota) (Del name) reply h.servers.kinds.files says))
  reply_is_right server (Get name) reply = its server files_no (Get name) reply refl (λ says. at_files (Get name) reply (subst (λ (r : Reply). has_reply files_no r ≡ true) (some_same (kind_reply node.servers.files (kinds.Files h.servers.kinds.quota) (Get name) reply h.servers.kinds.files says)) (refused_has (has_reply files_no) node.servers.files.table tid (Get name) _ refl (λ t e. refl) (text_has files_no refl refl _))) (kind_reply node.servers.files (kinds.Files h.servers.kinds.quota) (Get name) reply h.servers.kinds.files says))
  reply_is_right server Listing reply = its server files_no Listing reply refl (λ says. at_files Listing reply (subst (λ (r : Reply). has_reply files_no r ≡ true) (some_same (kind_reply node.servers.files (kinds.Files h.servers.kinds.quota) Listing reply h.servers.kinds.files says)) (refused_has (has_reply files_no) node.servers.files.table tid Listing _ refl (λ t e. refl) (refl))) (kind_reply node.servers.files (kinds.Files h.servers.kinds.quota) Listing reply h.servers.kinds.files says))
  reply_is_right server (Note text) reply = its server audit_no (Note text) reply refl (λ says. at_table audit_no h.state.audit node.servers.audit.table h.servers.audit (Note text) reply refl refl (subst (λ (r : Reply). has_reply audit_no r ≡ true) (some_same (kind_reply node.servers.audit kinds.Audit (Note text) reply h.servers.kinds.audit says)) (refused_has (has_reply audit_no) node.servers.audit.table tid (Note text) _ refl (λ t e. absurd (cc e)) (refl))) (kind_reply node.servers.audit kinds.Audit (Note text) reply h.servers.kinds.audit says))
  reply_is_right server Notes reply = its server audit_no Notes reply refl (λ says. at_table audit_no h.state.audit node.servers.audit.table h.servers.audit Notes reply refl refl (subst (λ (r : Reply). has_reply audit_no r ≡ true) (some_same (kind_reply node.servers.audit kinds.Audit Notes reply h.servers.kinds.audit says)) (refused_has (has_reply audit_no) node.servers.audit.table tid Notes _ refl (λ t e. absurd (cc e)) (refl))) (kind_reply node.servers.audit kinds.Audit Notes reply h.servers.kinds.audit says))
  reply_is_right server (Bind name text) reply = its server names_no (Bind name text) reply refl (λ says. at_table names_no h.state.names node.servers.names.table h.servers.names (Bind name text) reply refl refl (subst (λ (r : Reply). has_reply names_no r ≡ true) (some_same (kind_reply node.servers.names kinds.Names (Bind name text) reply h.servers.kinds.names says)) (refused_has (has_reply names_no) node.servers.names.table tid (Bind name text) _ refl (λ t e. absurd (cc e)) (refl))) (kind_reply node.servers.names kinds.Names (Bind name text) reply h.servers.kinds.names says))
  reply_is_right server (Find name) reply = its server names_no (Find name) reply refl (λ says. at_table names_no h.state.names node.servers.names.table h.servers.names (Find name) reply refl refl (subst (λ (r : Reply). has_reply names_no r ≡ true) (some_same (kind_reply node.servers.names kinds.Names (Find name) reply h.servers.kinds.names says)) (refused_has (has_reply names_no) node.servers.names.table tid (Find name) _ refl (λ t e. absurd (cc e)) (text_has names_no refl refl _))) (kind_reply node.servers.names kinds.Names (Find name) reply h.servers.kinds.names says))
  reply_is_right server (Window name text) reply = its server windows_no (Window name text) reply refl (λ says. at_table windows_no h.state.windows node.servers.windows.table h.servers.windows (Window name text) reply refl refl (subst (λ (r : Reply). has_reply windows_no r ≡ true) (some_same (kind_reply node.servers.windows kinds.Windows (Window name text) reply h.servers.kinds.windows says)) (refused_has (has_reply windows_no) node.servers.windows.table tid (Window name text) _ refl (λ t e. absurd (cc e)) (refl))) (kind_reply node.servers.windows kinds.Windows (Window name text) reply h.servers.kinds.windows says))
  reply_is_right server (Title name) reply = its server windows_no (Title name) reply refl (λ says. at_table windows_no h.state.windows node.servers.windows.table h.servers.windows (Title name) reply refl refl (subst (λ (r : Reply). has_reply windows_no r ≡ true) (some_same (kind_reply node.servers.windows kinds.Windows (Title name) reply h.servers.kinds.windows says)) (refused_has (has_reply windows_no) node.servers.windows.table tid (Title name) _ refl (λ t e. absurd (cc e)) (text_has windows_no refl refl _))) (kind_reply node.servers.windows kinds.Windows (Title name) reply h.servers.kinds.windows says))
  reply_is_right server (Keep name text) reply = its server scratch_no (Keep name text) reply refl (λ says. at_table scratch_no h.state.scratch node.servers.scratch.table h.servers.scratch (Keep name text) reply refl refl (subst (λ (r : Reply). has_reply scratch_no r ≡ true) (some_same (kind_reply node.servers.scratch kinds.Scratch (Keep name text) reply h.servers.kinds.scratch says)) (refused_has (has_reply scratch_no) node.servers.scratch.table tid (Keep name text) _ refl (λ t e. absurd (cc e)) (refl))) (kind_reply node.servers.scratch kinds.Scratch (Keep name text) reply h.servers.kinds.scratch says))
  reply_is_right server (Fetch name) reply = its server scratch_no (Fetch name) reply refl (λ says. at_table scratch_no h.state.scratch node.servers.scratch.table h.servers.scratch (Fetch name) reply refl refl (subst (λ (r : Reply). has_reply scratch_no r ≡ true) (some_same (kind_reply node.servers.scratch kinds.Scratch (Fetch name) reply h.servers.kinds.scratch says)) (refused_has (has_reply scratch_no) node.servers.scratch.table tid (Fetch name) _ refl (λ t e. absurd (cc e)) (text_has scratch_no refl refl _))) (kind_reply node.servers.scratch kinds.Scratch (Fetch name) reply h.servers.kinds.scratch says))
  reply_is_right server (Timer name ticks) reply = its server timers_no (Timer name ticks) reply refl (λ says. at_timers (Timer name ticks) reply (subst (λ (r : Reply). has_reply timers_no r ≡ true) (some_same (kind_reply node.servers.timers kinds.Timers (Timer name ticks) reply h.servers.kinds.timers says)) (timer_has (nat_le 1024 (timer_share_of node.servers.timers.timers tid).operations) replies.Done refl)) (kind_reply node.servers.timers kinds.Timers (Timer name ticks) reply h.servers.kinds.timers says))
  reply_is_right server (Left name) reply = its server timers_no (Left name) reply refl (λ says. at_timers (Left name) reply (subst (λ (r : Reply). has_reply timers_no r ≡ true) (some_same (kind_reply node.servers.timers kinds.Timers (Left name) reply h.servers.kinds.timers says)) (timer_has (nat_le 1024 (timer_share_of node.servers.timers.timers tid).operations) _ (left_has _ _))) (kind_reply node.servers.timers kinds.Timers (Left name) reply h.servers.kinds.timers says))
  reply_is_right server (Extra code text) reply = its server extra_no (Extra code text) reply refl (λ says. subst (λ (r : Reply). IsRight (at_number extra_no) (Extra code text) r) (some_same (kind_reply node.servers.extra kinds.Nothing (Extra code text) reply h.servers.kinds.extra says))
      (right extra_no (Extra code text) replies.Absent refl (λ mine. inl refl)))
  reply_is_right server (Lend client) reply = lent (nat_lt client.0 224) refl
    where
      own : (b : Bool) → nat_lt client.0 224 ≡ b → borrower client.0 ≡ (if b then Some (record { 0 = client_no client.0 }) else None)
      own b is = rw is refl

      no : (k n : ℕ) → is_client_no (k + 32) ≡ true → is_client_no n ≡ false → (k + 32 == n) ≡ false
      no k n e f = grind (arith, nat_tests, e, f)

      is_one : (k : ℕ) → nat_lt 31 (k + 32) ≡ true
      is_one k = grind (arith, nat_tests)

      says_done : (n : ℕ) → is_client_no n ≡ true → (b : Bool) → (if not b then None else if is_client_no n then Some replies.Done else reply_of (server_at node.servers (record { 0 = n })) tid (Lend client)) ≡ Some reply → reply ≡ replies.Done
      says_done n is true e = sym (some_same (rw is at e))
      says_done n is false e = absurd (cc e)

      done_right : IsRight (at_number (client_no client.0)) (Lend client) replies.Done
      done_right = right (client_no client.0) (Lend client) replies.Done (rw (no client.0 extra_no (is_one client.0) refl) refl)
          (λ mine. inl (rw (no client.0 timers_no (is_one client.0) refl, no client.0 extra_no (is_one client.0) refl, is_one client.0) refl))

      lent : (b : Bool) → nat_lt client.0 224 ≡ b → reply_here server tid (Lend client) node ≡ Some reply → IsRight (at_server here server) (Lend client) reply
      lent true is = its server (client_no client.0) (Lend client) reply (own true is)
          (λ says. subst (λ (r : Reply). IsRight (at_number (client_no client.0)) (Lend client) r) (sym (says_done (client_no client.0) (is_one client.0) (is_for (record { 0 = client_no client.0 }) (Lend client)) says)) done_right)
      lent false is = nothing (own false is)
        where
          nothing : server_of (Lend client) ≡ None → reply_here server tid (Lend client) node ≡ Some reply → IsRight (at_server here server) (Lend client) reply
          nothing none says = absurd (never (ap (λ (o : Option ServerNo). elim o [ None ↦ false | Some s ↦ s.0 == server.0 ]) none) says)
            where
              never : is_for server (Lend client) ≡ false → reply_here server tid (Lend client) node ≡ Some reply → ⊥
              never is e = cc (rw is at e)

-- a request that waits first is served lawfully where its transaction is not known to be decided
pub may_serve_first : (stamp : ℕ) (book : BookValue) (node : NodeValue) (h : Holds stamp book node) (server : ServerNo) (delivery : Delivery) (ops : List Op) (reply : Reply) (part : Participant) (tx : TransactionValue) → find_transaction book delivery.tid ≡ Some tx
    → tm.part_of delivery.tid node.manager ≡ Some part → part.outcome ≡ None → reply_here server delivery.tid delivery.op node ≡ Some reply
    → IsWithin (delivery.op ∷ ops) (standing_ops tx (record { link = record { from = delivery.from; to = node.setting.node }; number = delivery.number }) node.setting.node server)
    → broken book (entry_of node.setting.node.0 stamp (acts.Serve delivery.tid (at_server node.setting.node server) delivery.from delivery.number reply)) ≡ None
may_serve_first stamp book node h server delivery ops reply part tx found known unknown says first =
    by (is_crossed tx (at_server node.setting.node server)) refl
  where
    at : RequestNo
    at = record { link = record { from = delivery.from; to = node.setting.node }; number = delivery.number }

    right_op : is_reply node.setting.node.0 h.state book.transactions delivery.tid tx (at_server node.setting.node server) delivery.op reply ≡ true
    right_op = reply_is_right stamp book node h delivery.tid tx found server delivery.op reply says

    served : (request : Request) → standing_request tx at (at_server node.setting.node server) ≡ Some request → is_reply node.setting.node.0 h.state book.transactions delivery.tid tx (at_server node.setting.node server) request.op reply ≡ true
        → broken book (entry_of node.setting.node.0 stamp (acts.Serve delivery.tid (at_server node.setting.node server) delivery.from delivery.number reply)) ≡ None
    served request stands is = may_serve stamp book node h delivery.tid tx found (at_server node.setting.node server) delivery.from delivery.number reply request refl stands is (ap (λ (o : Option Participant). (part_or_new o).outcome) known ∙ unknown)

    -- whatever the operation, where it is crossed
    any_op : is_crossed tx (at_server node.setting.node server) ≡ true → (op other : Op) → is_reply node.setting.node.0 h.state book.transactions delivery.tid tx (at_server node.setting.node server) op reply ≡ true
        → is_reply node.setting.node.0 h.state book.transactions delivery.tid tx (at_server node.setting.node server) other reply ≡ true
    any_op is op other e = rw is (rw is at e)

    by : (b : Bool) → is_crossed tx (at_server node.setting.node server) ≡ b → broken book (entry_of node.setting.node.0 stamp (acts.Serve delivery.tid (at_server node.setting.node server) delivery.from delivery.number reply)) ≡ None
    by true is = let it = one_stands delivery.op ops tx at node.setting.node server first in served it.0 it.1 (any_op is delivery.op it.0.op right_op)
    by false is =
        let it = alone delivery.op ops tx at node.setting.node server first ((waits_of stamp book node h delivery.tid tx found).once server at is) in
        served it.0 it.1 (subst (λ (op : Op). is_reply node.setting.node.0 h.state book.transactions delivery.tid tx (at_server node.setting.node server) op reply ≡ true) (sym it.2) right_op)
