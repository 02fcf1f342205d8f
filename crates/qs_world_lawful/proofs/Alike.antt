-- What a vote, a notice and a served request do at one server, they do alike at the machine's table of it.
use Rattle.qs_world_lawful.proofs.Words.{◌≡◌, ℕ, ◌==◌, Bool, true, false, [], refl, sym, ap, subst, ◌∙◌, arith, nat_tests, not, if◌then◌else◌, Outcome, ServerNo, Tid, vote_node, learn_node, doubts_after, with_table, ServerValue, after_vote, voted_by, voted_in, after_notice, noted_by, noted_in, names_no, windows_no, scratch_no, TableValue, released, committed, share_of, TimersValue, ServerKind, Notice, Vote, ServersValue, with_server, notice_of, HoldsDoubts, HoldsTable, HoldsTimers, HoldsServers}
use Rattle.qs_world_lawful.proofs.Words.{eqb-true}
use Rattle.qs_base.specs.declared.identifiers.Outcome.TheVariants as outcomes
use Rattle.qs_book_machine.specs.Nodes as machine
use Rattle.qs_book_machine.specs.Nodes.{without_doubts}
use Rattle.qs_ops.specs.Servers.{files_no, audit_no, timers_no}
use Rattle.qs_ops.specs.Table.{with_vote}
use Rattle.qs_ops.specs.declared.server.ServerKind.TheVariants as kinds
use Rattle.qs_ops.specs.declared.vote.Notice.TheVariants as notices
use Rattle.qs_ops.specs.declared.vote.Vote.TheVariants as votes
use Rattle.qs_world_lawful.proofs.Doubting.{doubts_gone, noted_doubts, noted_gone, voted_doubts}
use Rattle.qs_world_lawful.proofs.Tables.{release_table, hide_table, vote_table, commit_table}

-- it has a table
abbrev pub is_tabled : ServerKind → Bool
is_tabled kinds.Timers = false
is_tabled kinds.Nothing = false
is_tabled kind = true

apart : (n a b : ℕ) → (n == a) ≡ true → (n == b) ≡ true → (a == b) ≡ false → ⊥
apart n a b p q r = grind (arith, nat_tests, p, q, r)

-- ---- one server is changed

module _ (seen : ℕ → Tid → Bool) (state : machine.NodeValue) (servers : ServersValue) (h : HoldsServers seen state servers) (server : ServerNo) (g held : TableValue → TableValue) (u : ServerValue → ServerValue)
    (tabled : (value : ServerValue) → is_tabled value.kind ≡ true → (u value).table ≡ held value.table) (kind : (value : ServerValue) → (u value).kind ≡ value.kind)
    (timed : server.0 ≡ timers_no → (value : ServerValue) → value.kind ≡ kinds.Timers → (u value).timers ≡ value.timers)
    (both : (a b : TableValue) → HoldsTable (seen server.0) a b → HoldsTable (seen server.0) (g a) (held b))
    (doubted : server.0 ≡ names_no → HoldsDoubts (seen names_no) state.doubts (held servers.names.table)) where
  here : (n : ℕ) (kept : TableValue) (value : ServerValue) (k : ServerKind) → server.0 ≡ n → value.kind ≡ k → is_tabled k ≡ true → HoldsTable (seen n) kept value.table → HoldsTable (seen n) (g kept) (u value).table
  here n kept value k at is has t =
      subst (λ (x : TableValue). HoldsTable (seen n) (g kept) x) (sym (tabled value (ap is_tabled is ∙ has)))
      (subst (λ (m : ℕ). HoldsTable (seen m) kept value.table → HoldsTable (seen m) (g kept) (held value.table)) at (both kept value.table) t)

  pub changed_servers : HoldsServers seen (with_table server.0 g state) (with_server server u servers)
  changed_servers = by (server.0 == files_no) (server.0 == audit_no) (server.0 == names_no) (server.0 == timers_no) (server.0 == windows_no) (server.0 == scratch_no) refl refl refl refl refl refl
    where
      by : (a b c d e i : Bool) → (server.0 == files_no) ≡ a → (server.0 == audit_no) ≡ b → (server.0 == names_no) ≡ c → (server.0 == timers_no) ≡ d → (server.0 == windows_no) ≡ e → (server.0 == scratch_no) ≡ i
          → HoldsServers seen (if a then record state { files = g state.files } else if b then record state { audit = g state.audit } else if c then record state { names = g state.names } else if e then record state { windows = g state.windows } else if i then record state { scratch = g state.scratch } else state)
          (if a then record servers { files = u servers.files } else if b then record servers { audit = u servers.audit } else if c then record servers { names = u servers.names } else if d then record servers { timers = u servers.timers } else if e then record servers { windows = u servers.windows } else if i then record servers { scratch = u servers.scratch } else record servers { extra = u servers.extra })
      by true b c d e i at _ _ _ _ _ = record { kinds = record { quota = h.kinds.quota; files = kind servers.files ∙ h.kinds.files; audit = h.kinds.audit; names = h.kinds.names; timers = h.kinds.timers; windows = h.kinds.windows; scratch = h.kinds.scratch; extra = h.kinds.extra }; files = here files_no state.files servers.files (kinds.Files h.kinds.quota) (eqb-true server.0 files_no at) h.kinds.files refl h.files; audit = h.audit; names = h.names; timers = h.timers; windows = h.windows; scratch = h.scratch; doubts = h.doubts }
      by false true c d e i _ at _ _ _ _ = record { kinds = record { quota = h.kinds.quota; files = h.kinds.files; audit = kind servers.audit ∙ h.kinds.audit; names = h.kinds.names; timers = h.kinds.timers; windows = h.kinds.windows; scratch = h.kinds.scratch; extra = h.kinds.extra }; files = h.files; audit = here audit_no state.audit servers.audit (kinds.Audit) (eqb-true server.0 audit_no at) h.kinds.audit refl h.audit; names = h.names; timers = h.timers; windows = h.windows; scratch = h.scratch; doubts = h.doubts }
      by false false true d e i _ _ at _ _ _ = record { kinds = record { quota = h.kinds.quota; files = h.kinds.files; audit = h.kinds.audit; names = kind servers.names ∙ h.kinds.names; timers = h.kinds.timers; windows = h.kinds.windows; scratch = h.kinds.scratch; extra = h.kinds.extra }; files = h.files; audit = h.audit; names = here names_no state.names servers.names (kinds.Names) (eqb-true server.0 names_no at) h.kinds.names refl h.names; timers = h.timers; windows = h.windows; scratch = h.scratch; doubts = subst (λ (x : TableValue). HoldsDoubts (seen names_no) state.doubts x) (sym (tabled servers.names (ap is_tabled h.kinds.names))) (doubted (eqb-true server.0 names_no at)) }
      by false false false true true i _ _ _ at also _ = absurd (apart server.0 timers_no windows_no at also refl)
      by false false false true false true _ _ _ at _ also = absurd (apart server.0 timers_no scratch_no at also refl)
      by false false false true false false _ _ _ at _ _ = record { kinds = record { quota = h.kinds.quota; files = h.kinds.files; audit = h.kinds.audit; names = h.kinds.names; timers = kind servers.timers ∙ h.kinds.timers; windows = h.kinds.windows; scratch = h.kinds.scratch; extra = h.kinds.extra }; files = h.files; audit = h.audit; names = h.names; timers = subst (λ (t : TimersValue). HoldsTimers (seen timers_no) state.timers t) (sym (timed (eqb-true server.0 timers_no at) servers.timers h.kinds.timers)) h.timers; windows = h.windows; scratch = h.scratch; doubts = h.doubts }
      by false false false false true i _ _ _ _ at _ = record { kinds = record { quota = h.kinds.quota; files = h.kinds.files; audit = h.kinds.audit; names = h.kinds.names; timers = h.kinds.timers; windows = kind servers.windows ∙ h.kinds.windows; scratch = h.kinds.scratch; extra = h.kinds.extra }; files = h.files; audit = h.audit; names = h.names; timers = h.timers; windows = here windows_no state.windows servers.windows (kinds.Windows) (eqb-true server.0 windows_no at) h.kinds.windows refl h.windows; scratch = h.scratch; doubts = h.doubts }
      by false false false false false true _ _ _ _ _ at = record { kinds = record { quota = h.kinds.quota; files = h.kinds.files; audit = h.kinds.audit; names = h.kinds.names; timers = h.kinds.timers; windows = h.kinds.windows; scratch = kind servers.scratch ∙ h.kinds.scratch; extra = h.kinds.extra }; files = h.files; audit = h.audit; names = h.names; timers = h.timers; windows = h.windows; scratch = here scratch_no state.scratch servers.scratch (kinds.Scratch) (eqb-true server.0 scratch_no at) h.kinds.scratch refl h.scratch; doubts = h.doubts }
      by false false false false false false _ _ _ _ _ _ = record { kinds = record { quota = h.kinds.quota; files = h.kinds.files; audit = h.kinds.audit; names = h.kinds.names; timers = h.kinds.timers; windows = h.kinds.windows; scratch = h.kinds.scratch; extra = kind servers.extra ∙ h.kinds.extra }; files = h.files; audit = h.audit; names = h.names; timers = h.timers; windows = h.windows; scratch = h.scratch; doubts = h.doubts }

-- nothing is changed
pub table_itself : (n : ℕ) (state : machine.NodeValue) → with_table n (λ table. table) state ≡ state
table_itself n state = by (n == files_no) (n == audit_no) (n == names_no) (n == windows_no) (n == scratch_no)
  where
    by : (a b c e i : Bool) → (if a then record state { files = state.files } else if b then record state { audit = state.audit } else if c then record state { names = state.names } else if e then record state { windows = state.windows } else if i then record state { scratch = state.scratch } else state) ≡ state
    by true b c e i = refl
    by false true c e i = refl
    by false false true e i = refl
    by false false false true i = refl
    by false false false false true = refl
    by false false false false false = refl

-- what is held of tables alone stands whatever else the machine has of the node
pub other_state : (seen : ℕ → Tid → Bool) (state new : machine.NodeValue) (servers : ServersValue) → new.files ≡ state.files → new.audit ≡ state.audit → new.names ≡ state.names → new.timers ≡ state.timers → new.windows ≡ state.windows → new.scratch ≡ state.scratch
    → HoldsDoubts (seen names_no) new.doubts servers.names.table → HoldsServers seen state servers → HoldsServers seen new servers
other_state seen state new servers a b c d e i doubts h = record {
  kinds = h.kinds;
  files = subst (λ (t : TableValue). HoldsTable (seen files_no) t servers.files.table) (sym a) h.files;
  audit = subst (λ (t : TableValue). HoldsTable (seen audit_no) t servers.audit.table) (sym b) h.audit;
  names = subst (λ (t : TableValue). HoldsTable (seen names_no) t servers.names.table) (sym c) h.names;
  timers = subst (λ (t : TimersValue). HoldsTimers (seen timers_no) t servers.timers.timers) (sym d) h.timers;
  windows = subst (λ (t : TableValue). HoldsTable (seen windows_no) t servers.windows.table) (sym e) h.windows;
  scratch = subst (λ (t : TableValue). HoldsTable (seen scratch_no) t servers.scratch.table) (sym i) h.scratch;
  doubts = doubts;
}

-- ---- votes and notices

module _ (seen : ℕ → Tid → Bool) (state : machine.NodeValue) (servers : ServersValue) (h : HoldsServers seen state servers) (server : ServerNo) (tid : Tid) where
  abbrev voting : Vote → ServerValue → ServerValue
  voting ballot value = after_vote value tid ballot

  vote_tabled : (ballot : Vote) (value : ServerValue) (k : ServerKind) → is_tabled k ≡ true → (voted_by k tid ballot value).table ≡ voted_in value.table tid ballot
  vote_tabled ballot value (kinds.Files quota) is = refl
  vote_tabled ballot value kinds.Audit is = refl
  vote_tabled ballot value kinds.Names is = refl
  vote_tabled ballot value kinds.Timers is = refl
  vote_tabled ballot value kinds.Windows is = refl
  vote_tabled ballot value kinds.Scratch is = refl
  vote_tabled ballot value kinds.Nothing is = absurd (cc is)

  vote_kind : (ballot : Vote) (value : ServerValue) (k : ServerKind) → ((voted_by k tid ballot value).kind ≡ value.kind) × ((voted_by k tid ballot value).timers ≡ value.timers)
  vote_kind ballot value (kinds.Files quota) = (refl, refl)
  vote_kind ballot value kinds.Audit = (refl, refl)
  vote_kind ballot value kinds.Names = (refl, refl)
  vote_kind ballot value kinds.Timers = (refl, refl)
  vote_kind ballot value kinds.Windows = (refl, refl)
  vote_kind ballot value kinds.Scratch = (refl, refl)
  vote_kind ballot value kinds.Nothing = (refl, refl)

  voted_as : (ballot : Vote) (g : TableValue → TableValue) → ((a b : TableValue) → HoldsTable (seen server.0) a b → HoldsTable (seen server.0) (g a) (voted_in b tid ballot)) → HoldsServers seen (with_table server.0 g state) (with_server server (voting ballot) servers)
  voted_as ballot g both =
      changed_servers seen state servers h server g (λ table. voted_in table tid ballot) (voting ballot) (λ value is. vote_tabled ballot value value.kind is) (λ value. (vote_kind ballot value value.kind).0) (λ at value is. (vote_kind ballot value value.kind).1) both
      (λ at. voted_doubts (seen names_no) state.doubts servers.names.table h.doubts tid h.names.rising ballot)

  voted_hidden : (ballot : Vote) → ((a b : TableValue) → HoldsTable (seen server.0) a b → HoldsTable (seen server.0) a (voted_in b tid ballot)) → HoldsServers seen state (with_server server (voting ballot) servers)
  voted_hidden ballot both = subst (λ (s : machine.NodeValue). HoldsServers seen s (with_server server (voting ballot) servers)) (table_itself server.0 state) (voted_as ballot (λ table. table) both)

  pub voted_servers : (ballot : Vote) (count covers : ℕ) (crossed : Bool) → seen server.0 tid ≡ not crossed → HoldsServers seen (vote_node count crossed tid server.0 ballot covers state) (with_server server (voting ballot) servers)
  voted_servers votes.ReadOnly count covers crossed is = voted_as votes.ReadOnly (λ table. released table tid) (λ a b t. release_table (seen server.0) a b t tid)
  voted_servers votes.Recoverable count covers crossed is =
      let same_tables : HoldsServers seen state (with_server server (voting votes.Recoverable) servers) = voted_hidden votes.Recoverable (λ a b t. t) in
      other_state seen state (vote_node count crossed tid server.0 votes.Recoverable covers state) (with_server server (voting votes.Recoverable) servers) refl refl refl refl refl refl same_tables.doubts same_tables
  voted_servers votes.Volatile count covers true is = voted_hidden votes.Volatile (λ a b t. hide_table (seen server.0) a b t tid is (record (share_of b tid) { voted = true }))
  voted_servers votes.Volatile count covers false is = voted_as votes.Volatile (λ table. with_vote table tid true) (λ a b t. vote_table (seen server.0) a b t tid is true)
  voted_servers (votes.Abort reason) count covers true is = voted_hidden (votes.Abort reason) (λ a b t. hide_table (seen server.0) a b t tid is (record (share_of b tid) { voted = false }))
  voted_servers (votes.Abort reason) count covers false is = voted_as (votes.Abort reason) (λ table. with_vote table tid false) (λ a b t. vote_table (seen server.0) a b t tid is false)

  abbrev noting : Notice → ServerValue → ServerValue
  noting notice value = after_notice value tid notice

  note_tabled : (notice : Notice) (value : ServerValue) (k : ServerKind) → is_tabled k ≡ true → (noted_by k notice tid value).table ≡ noted_in notice tid value.table
  note_tabled notice value (kinds.Files quota) is = refl
  note_tabled notice value kinds.Audit is = refl
  note_tabled notice value kinds.Names is = refl
  note_tabled notice value kinds.Timers is = absurd (cc is)
  note_tabled notice value kinds.Windows is = refl
  note_tabled notice value kinds.Scratch is = refl
  note_tabled notice value kinds.Nothing is = absurd (cc is)

  note_kind : (notice : Notice) (value : ServerValue) (k : ServerKind) → (noted_by k notice tid value).kind ≡ value.kind
  note_kind notice value (kinds.Files quota) = refl
  note_kind notice value kinds.Audit = refl
  note_kind notice value kinds.Names = refl
  note_kind notice value kinds.Timers = refl
  note_kind notice value kinds.Windows = refl
  note_kind notice value kinds.Scratch = refl
  note_kind notice value kinds.Nothing = refl

  noted_as : (outcome : Outcome) (g : TableValue → TableValue) → ((a b : TableValue) → HoldsTable (seen server.0) a b → HoldsTable (seen server.0) (g a) (noted_in (notice_of outcome) tid b)) → HoldsServers seen (with_table server.0 g state) (with_server server (noting (notice_of outcome)) servers)
  noted_as outcome g both =
      changed_servers seen state servers h server g (λ table. noted_in (notice_of outcome) tid table) (noting (notice_of outcome)) (λ value is. note_tabled (notice_of outcome) value value.kind is) (λ value. note_kind (notice_of outcome) value value.kind)
      (λ at value is. ap (λ (k : ServerKind). (noted_by k (notice_of outcome) tid value).timers) is ∙ untimed outcome value) both
      (λ at. noted_doubts (seen names_no) state.doubts servers.names.table h.doubts tid h.names.rising outcome)
    where
      untimed : (o : Outcome) (value : ServerValue) → (noted_by kinds.Timers (notice_of o) tid value).timers ≡ value.timers
      untimed outcomes.Commit value = refl
      untimed outcomes.Abort value = refl

  -- what is crossed is never committed
  pub learnt_servers : (outcome : Outcome) → (outcome ≡ outcomes.Commit → seen server.0 tid ≡ true) → HoldsServers seen (doubts_after tid server.0 (learn_node outcome tid server.0 state)) (with_server server (noting (notice_of outcome)) servers)
  learnt_servers outcome whole = doubtless (server.0 == names_no) refl (learn_node outcome tid server.0 state) (of outcome whole)
    where
      now : ServersValue
      now = with_server server (noting (notice_of outcome)) servers

      -- names hold nothing of it then
      none : (server.0 == names_no) ≡ true → (share_of now.names.table tid).changes ≡ []
      none is = subst (λ (n : ℕ). (share_of (with_server (record { 0 = n }) (noting (notice_of outcome)) servers).names.table tid).changes ≡ []) (sym (eqb-true server.0 names_no is))
          (ap (λ (t : TableValue). (share_of t tid).changes) (note_tabled (notice_of outcome) servers.names servers.names.kind (ap is_tabled h.kinds.names)) ∙ noted_gone (seen names_no) state.doubts servers.names.table h.doubts tid h.names.rising outcome)

      doubtless : (b : Bool) → (server.0 == names_no) ≡ b → (s : machine.NodeValue) → HoldsServers seen s now → HoldsServers seen (if b then without_doubts tid s else s) now
      doubtless true is s k = other_state seen s (without_doubts tid s) now refl refl refl refl refl refl (doubts_gone (seen names_no) s.doubts now.names.table k.doubts tid (none is)) k
      doubtless false is s k = k

      of : (o : Outcome) → (o ≡ outcomes.Commit → seen server.0 tid ≡ true) → HoldsServers seen (learn_node o tid server.0 state) (with_server server (noting (notice_of o)) servers)
      of outcomes.Commit mine =
          let held : HoldsServers seen (with_table server.0 (λ table. committed table tid) state) (with_server server (noting notices.Commit) servers) =
          noted_as outcomes.Commit (λ table. committed table tid) (λ a b t. commit_table (seen server.0) a b t tid (mine refl)) in
          other_state seen (with_table server.0 (λ table. committed table tid) state) (learn_node outcomes.Commit tid server.0 state) (with_server server (noting notices.Commit) servers) refl refl refl refl refl refl held.doubts held
      of outcomes.Abort mine = noted_as outcomes.Abort (λ table. released table tid) (λ a b t. release_table (seen server.0) a b t tid)
