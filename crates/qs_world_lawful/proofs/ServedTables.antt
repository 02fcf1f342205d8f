-- What a served request, an ending and a tick do at the servers, they do alike at the machine's tables.
use Rattle.qs_world_lawful.proofs.Words.{◌≡◌, ℕ, ◌+◌, ◌==◌, Bool, true, false, List, ◌∷◌, refl, sym, ap, subst, ◌∙◌, arith, map, nat_tests, ◌&&◌, if◌then◌else◌, filter, ServerNo, Tid, server_serve, crossed_serve, end_node, tick_node, with_table, with_doubts, with_names, bound_names, Request, ServerValue, after_serving, served_by, after_notice, noted_by, names_no, windows_no, scratch_no, is_client_no, TableValue, served, share_of, after_serve, TimersValue, timer_served, timers_ended, ticked, Op}
use Rattle.qs_world_lawful.proofs.Words.{Reply, ServerKind, ServersValue, with_server, HoldsDoubts, HoldsTable, HoldsTimers, HoldsServers, IsWithin, op_in, eqb-true}
use Rattle.qs_book_machine.specs.Book.{is_done}
use Rattle.qs_book_machine.specs.Nodes as machine
use Rattle.qs_ops.specs.Servers.{files_no, audit_no, timers_no}
use Rattle.qs_ops.specs.declared.server.ServerKind.TheVariants as kinds
use Rattle.qs_ops.specs.declared.vote.Notice.TheVariants as notices
use Rattle.qs_node_servers.specs.Servers as numbers
use Rattle.qs_ipc.specs.Queue.{is_for}
use Rattle.qs_world_lawful.proofs.Doubting.{hidden_doubts, more_in_doubt, served_doubts}
use Rattle.qs_world_lawful.proofs.Alike.{is_tabled, changed_servers, other_state, table_itself}
use Rattle.qs_world_lawful.proofs.Tables.{hide_table, serve_table, end_timers, serve_timers, hide_timers}

-- ---- timers alone are changed

module _ (seen : ℕ → Tid → Bool) (state : machine.NodeValue) (servers : ServersValue) (h : HoldsServers seen state servers) (server : ServerNo) (at : server.0 ≡ timers_no) (u : ServerValue → ServerValue) (kept : TimersValue)
    (kind : (u servers.timers).kind ≡ servers.timers.kind) (timed : HoldsTimers (seen timers_no) kept (u servers.timers).timers) where
  pub changed_timers : HoldsServers seen (record state { timers = kept }) (with_server server u servers)
  changed_timers = subst (λ (n : ℕ). HoldsServers seen (record state { timers = kept }) (with_server (record { 0 = n }) u servers)) (sym at) (record {
    kinds = record { quota = h.kinds.quota; files = h.kinds.files; audit = h.kinds.audit; names = h.kinds.names; timers = kind ∙ h.kinds.timers; windows = h.kinds.windows; scratch = h.kinds.scratch; extra = h.kinds.extra };
    files = h.files;
    audit = h.audit;
    names = h.names;
    timers = timed;
    windows = h.windows;
    scratch = h.scratch;
    doubts = h.doubts;
  })

-- ---- an ending, and a tick

module _ (seen : ℕ → Tid → Bool) (state : machine.NodeValue) (servers : ServersValue) (h : HoldsServers seen state servers) where
  pub ended_servers : (server : ServerNo) → server.0 ≡ timers_no → (tid : Tid) → HoldsServers seen (end_node tid state) (with_server server (λ value. after_notice value tid notices.Ending) servers)
  ended_servers server at tid =
      changed_timers seen state servers h server at (λ value. after_notice value tid notices.Ending) (timers_ended state.timers tid) (ap (λ (k : ServerKind). (noted_by k notices.Ending tid servers.timers).kind) h.kinds.timers)
      (subst (λ (k : ServerKind). HoldsTimers (seen timers_no) (timers_ended state.timers tid) (noted_by k notices.Ending tid servers.timers).timers) (sym h.kinds.timers) (end_timers (seen timers_no) state.timers servers.timers.timers h.timers tid))

  pub ticked_servers : (stamp : ℕ) → HoldsServers seen (tick_node stamp state) (with_server numbers.timers_no (λ value. record value { timers = ticked value.timers }) servers)
  ticked_servers stamp = other_state seen (record state { timers = ticked state.timers }) (tick_node stamp state) (with_server numbers.timers_no (λ value. record value { timers = ticked value.timers }) servers) refl refl refl refl refl refl h.doubts
      (changed_timers seen state servers h numbers.timers_no refl (λ value. record value { timers = ticked value.timers }) (ticked state.timers) refl (record { ticks = ap (λ n. n + 1) h.timers.ticks; shares = h.timers.shares; rising = h.timers.rising }))

  -- ---- a served request

  module _ (server : ServerNo) (tid : Tid) (op : Op) (reply : Reply) where
    abbrev serving : ServerValue → ServerValue
    serving value = after_serving value tid op reply

    tabled : (value : ServerValue) (k : ServerKind) → is_tabled k ≡ true → (served_by k tid op reply value).table ≡ served value.table tid op reply
    tabled value (kinds.Files quota) is = refl
    tabled value kinds.Audit is = refl
    tabled value kinds.Names is = refl
    tabled value kinds.Timers is = absurd (cc is)
    tabled value kinds.Windows is = refl
    tabled value kinds.Scratch is = refl
    tabled value kinds.Nothing is = absurd (cc is)

    kind_on : (value : ServerValue) (k : ServerKind) → (served_by k tid op reply value).kind ≡ value.kind
    kind_on value (kinds.Files quota) = refl
    kind_on value kinds.Audit = refl
    kind_on value kinds.Names = refl
    kind_on value kinds.Timers = refl
    kind_on value kinds.Windows = refl
    kind_on value kinds.Scratch = refl
    kind_on value kinds.Nothing = refl

    differ : (a b : ℕ) → (a == b) ≡ false → a ≡ b → ⊥
    differ a b e is = grind (arith, nat_tests, e, is)

    apart_from : (n a b : ℕ) → (n == a) ≡ true → (n == b) ≡ true → (a == b) ≡ false → ⊥
    apart_from n a b p q r = grind (arith, nat_tests, p, q, r)

    at_tables : (s : machine.NodeValue) → HoldsServers seen s servers → (g : TableValue → TableValue) → (server.0 == timers_no) ≡ false → ((a b : TableValue) → HoldsTable (seen server.0) a b → HoldsTable (seen server.0) (g a) (served b tid op reply))
        → (server.0 ≡ names_no → HoldsDoubts (seen names_no) s.doubts (served servers.names.table tid op reply)) → HoldsServers seen (with_table server.0 g s) (with_server server serving servers)
    at_tables s k g far both doubted =
        changed_servers seen s servers k server g (λ table. served table tid op reply) serving (λ value is. tabled value value.kind is) (λ value. kind_on value value.kind) (λ at value is. absurd (differ server.0 timers_no far at)) both doubted

    at_timers : (kept : TimersValue) → server.0 ≡ timers_no → HoldsTimers (seen timers_no) kept (timer_served servers.timers.timers tid op reply) → HoldsServers seen (record state { timers = kept }) (with_server server serving servers)
    at_timers kept at timed =
        changed_timers seen state servers h server at serving kept (kind_on servers.timers servers.timers.kind) (subst (λ (k : ServerKind). HoldsTimers (seen timers_no) kept (served_by k tid op reply servers.timers).timers) (sym h.kinds.timers) timed)

    -- an operation of names where names serve
    at_names : is_for server op ≡ true → server.0 ≡ names_no → is_for (record { 0 = names_no }) op ≡ true
    at_names fits at = subst (λ (n : ℕ). is_for (record { 0 = n }) op ≡ true) at fits

    pub served_seen : is_for server op ≡ true → seen server.0 tid ≡ true → HoldsServers seen (server_serve server.0 tid op reply state) (with_server server serving servers)
    served_seen fits mine = by (server.0 == timers_no) refl
      where
        by : (b : Bool) → (server.0 == timers_no) ≡ b → HoldsServers seen (if b then record state { timers = timer_served state.timers tid op reply } else with_table server.0 (λ table. served table tid op reply) state) (with_server server serving servers)
        by true is =
            let at : server.0 ≡ timers_no = eqb-true server.0 timers_no is in
            at_timers (timer_served state.timers tid op reply) at (serve_timers (seen timers_no) state.timers servers.timers.timers h.timers tid (subst (λ (n : ℕ). seen n tid ≡ true) at mine) op reply)
        by false is = at_tables state h (λ table. served table tid op reply) is (λ a b t. serve_table (seen server.0) a b t tid mine op reply)
            (λ at. served_doubts (seen names_no) state.doubts servers.names.table h.doubts tid op reply (at_names fits at) (subst (λ (n : ℕ). seen n tid ≡ true) at mine))

    pub served_hidden : is_for server op ≡ true → seen server.0 tid ≡ false → (ops : List Op) (p : Request → Bool) (requests : List Request) → IsWithin (op ∷ ops) (map op_in (filter p requests)) → HoldsServers seen (crossed_serve server.0 tid requests reply state) (with_server server serving servers)
    served_hidden fits other ops p requests first = by (server.0 == timers_no) refl (server.0 == names_no) refl (is_done reply) refl
      where
        names : List (List ℕ)
        names = bound_names (map op_in requests)

        at_crossed : (s : machine.NodeValue) → HoldsServers seen s servers → (server.0 == timers_no) ≡ false → (server.0 ≡ names_no → HoldsDoubts (seen names_no) s.doubts (served servers.names.table tid op reply)) → HoldsServers seen s (with_server server serving servers)
        at_crossed s k is doubted = subst (λ (n : machine.NodeValue). HoldsServers seen n (with_server server serving servers)) (table_itself server.0 s)
            (at_tables s k (λ table. table) is (λ a b t. hide_table (seen server.0) a b t tid other (after_serve (share_of b tid) op reply)) doubted)

        -- what may be bound is in doubt first
        doubting : (b : Bool) → HoldsServers seen (if b then with_doubts tid names state else state) servers
        doubting true = other_state seen state (with_doubts tid names state) servers refl refl refl refl refl refl (more_in_doubt (seen names_no) state.doubts servers.names.table h.doubts tid names) h
        doubting false = h

        of_names : (b : Bool) → is_done reply ≡ b → server.0 ≡ names_no → HoldsDoubts (seen names_no) (if b then with_doubts tid names state else state).doubts (served servers.names.table tid op reply)
        of_names b done at = subst (λ (ds : List (Tid × List (List ℕ))). HoldsDoubts (seen names_no) ds (served servers.names.table tid op reply)) (of b done)
            (hidden_doubts (seen names_no) state.doubts servers.names.table h.doubts tid op reply (at_names fits at) ops p requests first)
          where
            of : (c : Bool) → is_done reply ≡ c → (if is_done reply then with_names tid names state.doubts else state.doubts) ≡ (if c then with_doubts tid names state else state).doubts
            of true e = rw e refl
            of false e = rw e refl

        by : (a : Bool) → (server.0 == timers_no) ≡ a → (b : Bool) → (server.0 == names_no) ≡ b → (c : Bool) → is_done reply ≡ c → HoldsServers seen (if b && c then with_doubts tid names state else state) (with_server server serving servers)
        by true is true at c done = absurd (apart_from server.0 timers_no names_no is at refl)
        by true is false far c done =
            let at : server.0 ≡ timers_no = eqb-true server.0 timers_no is in
            at_timers state.timers at (hide_timers (seen timers_no) state.timers servers.timers.timers h.timers tid (subst (λ (n : ℕ). seen n tid ≡ false) at other) op reply)
        by false is true at c done = at_crossed (if c then with_doubts tid names state else state) (doubting c) is (of_names c done)
        by false is false far c done = at_crossed state h is (λ at. absurd (differ server.0 names_no far at))

    -- a client has nothing
    pub served_client : is_client_no server.0 ≡ true → (HoldsServers seen (server_serve server.0 tid op reply state) servers) × ((requests : List Request) → HoldsServers seen (crossed_serve server.0 tid requests reply state) servers)
    served_client is = (rw (no timers_no refl, no files_no refl, no audit_no refl, no names_no refl, no windows_no refl, no scratch_no refl) h, λ requests. rw (no names_no refl) h)
      where
        far : (n k : ℕ) → is_client_no n ≡ true → is_client_no k ≡ false → (n == k) ≡ false
        far n k e f = grind (arith, nat_tests, e, f)

        no : (k : ℕ) → is_client_no k ≡ false → (server.0 == k) ≡ false
        no k f = far server.0 k is f
