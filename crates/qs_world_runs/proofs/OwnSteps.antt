-- A step leaves only changes of their own pending at the servers whose votes a log keeps, and appends no Prepare with others.
use Rattle.qs_world_runs.proofs.Words.{◌≡◌, ℕ, ◌==◌, ◌||◌, ◌++◌, not, Bool, true, false, List, [], ◌∷◌, refl, sym, ap, subst, ◌∙◌, if◌then◌else◌, eqb-true, or_right, list_all-append, list_all, ⊤, ServerNo, Tid, is_recoverable, ServerValue, after_notice, after_serving, after_vote, changes_in, Op, Message, Record, ServersValue, server_at, with_server, begin_incarnation, settle, Work, work_on, happen, step_work, Event, is_own_vote, IsNoVote, MayAsk, store_of}
use Rattle.qs_world_runs.specs.Stores.{IsKeptStore}
use Rattle.qs_ipc.specs.Queue.{is_for}
use Rattle.qs_ops.specs.Servers as servers
use Rattle.qs_packet.specs.declared.message.Message.TheVariants as messages
use Rattle.qs_record.specs.declared.record.Record.TheVariants as records
use Rattle.qs_restart.specs.Recovery.{audit_no, files_no}
use Rattle.qs_node_step.specs.State.{NodeValue}
use Rattle.qs_node_step.specs.declared.event.Event.TheVariants as events
use Rattle.qs_world_runs.specs.OwnChanges.{HasNone, HasOwn, HasOwnStore, HaveOwn}
use Rattle.qs_world_runs.proofs.OwnShares.{changes_none, for_same, notice_none, notice_own, serving_none, serving_own, share_own, voting_none, voting_own}
use Rattle.qs_world_runs.proofs.StoreStages.{answers_keep, begin_incarnation_keeps, happens_keep, settle_keeps}

-- ---- one server of a node changes

pub changed_own : (server : ServerNo) (f : ServerValue → ServerValue) (values : ServersValue) → ((server.0 == servers.files_no) ≡ true → HasOwn files_no (f values.files).table) → ((server.0 == servers.audit_no) ≡ true → HasOwn audit_no (f values.audit).table)
    → HasNone (f values.extra) → HaveOwn values → HaveOwn (with_server server f values)
changed_own server f values files audit extra own = by (server.0 == servers.files_no) refl (server.0 == servers.audit_no) refl (server.0 == servers.names_no) (server.0 == servers.timers_no) (server.0 == servers.windows_no) (server.0 == servers.scratch_no)
  where
    by : (a : Bool) → (server.0 == servers.files_no) ≡ a → (b : Bool) → (server.0 == servers.audit_no) ≡ b → (c d e g : Bool) → HaveOwn (if a then record values { files = f values.files } else if b then record values { audit = f values.audit } else if c then record values { names = f values.names }
        else if d then record values { timers = f values.timers } else if e then record values { windows = f values.windows } else if g then record values { scratch = f values.scratch } else record values { extra = f values.extra })
    by true is b ib c d e g = record { files = files is; audit = own.audit; extra = own.extra }
    by false is true ib c d e g = record { files = own.files; audit = audit ib; extra = own.extra }
    by false is false ib true d e g = record { files = own.files; audit = own.audit; extra = own.extra }
    by false is false ib false true e g = record { files = own.files; audit = own.audit; extra = own.extra }
    by false is false ib false false true g = record { files = own.files; audit = own.audit; extra = own.extra }
    by false is false ib false false false true = record { files = own.files; audit = own.audit; extra = own.extra }
    by false is false ib false false false false = record { files = own.files; audit = own.audit; extra = extra }

-- what is pending goes into a vote
module _ (values : ServersValue) (tid : Tid) (own : HaveOwn values) where
  abbrev IsOwnAt : ℕ → Type 0
  IsOwnAt k = list_all (is_for (record { 0 = k })) (changes_in (server_at values (record { 0 = k })) tid) ≡ true

  files_own : IsOwnAt servers.files_no
  files_own = share_own files_no values.files.table tid own.files

  audit_own : IsOwnAt servers.audit_no
  audit_own = share_own audit_no values.audit.table tid own.audit

  extra_own : IsOwnAt servers.extra_no
  extra_own = ap (list_all (is_for (record { 0 = servers.extra_no }))) (changes_none values.extra own.extra tid)

  pub vote_own : (server : ServerNo) (covers : ℕ) → is_own_vote (records.Prepare tid server covers (changes_in (server_at values server) tid)) ≡ true
  vote_own server covers = by (server.0 == servers.files_no) refl (server.0 == servers.audit_no) refl (server.0 == servers.extra_no) refl
    where
      at : (k : ℕ) → (server.0 == k) ≡ true → IsOwnAt k → (not (is_recoverable server.0) || list_all (is_for server) (changes_in (server_at values server) tid)) ≡ true
      at k same is = or_right (not (is_recoverable server.0)) _ (subst IsOwnAt (sym (eqb-true server.0 k same)) is)

      by : (a : Bool) → (server.0 == servers.files_no) ≡ a → (b : Bool) → (server.0 == servers.audit_no) ≡ b → (c : Bool) → (server.0 == servers.extra_no) ≡ c
          → (not (is_recoverable server.0) || list_all (is_for server) (changes_in (server_at values server) tid)) ≡ true
      by true files b audit c extra = at servers.files_no files files_own
      by false files true audit c extra = at servers.audit_no audit audit_own
      by false files false audit true extra = at servers.extra_no extra extra_own
      by false files false audit false extra = rw (files, audit, extra) refl

-- ---- all that a rule does

no_vote_own : (rec : Record) → IsNoVote rec → is_own_vote rec ≡ true
no_vote_own (records.Prepare tid server covers changes) none = absurd none
no_vote_own (records.Commit tid told) none = refl
no_vote_own (records.Aborted tid) none = refl
no_vote_own (records.End tid) none = refl

one_more : (recs : List Record) (rec : Record) → list_all is_own_vote recs ≡ true → is_own_vote rec ≡ true → list_all is_own_vote (recs ++ rec ∷ []) ≡ true
one_more recs rec all own = list_all-append is_own_vote recs (rec ∷ []) ∙ rw (all, own) refl

its_own : (server me : ServerNo) (op : Op) → is_for server op ≡ true → (server.0 == me.0) ≡ true → is_for me op ≡ true
its_own server me op own same = sym (for_same server me same op) ∙ own

own_kept : IsKeptStore (λ (tid : Tid). ⊤) HasOwnStore
own_kept = record {
  serves = λ s server tid op reply own says h. record {
    servers = changed_own server (λ value. after_serving value tid op reply) s.servers (λ is. serving_own files_no s.servers.files tid op reply (its_own server files_no op own is) h.servers.files)
        (λ is. serving_own audit_no s.servers.audit tid op reply (its_own server audit_no op own is) h.servers.audit) (serving_none s.servers.extra h.servers.extra tid op reply) h.servers;
    records = h.records;
  };
  votes = λ s server tid ballot h. record {
    servers = changed_own server (λ value. after_vote value tid ballot) s.servers (λ is. voting_own files_no s.servers.files tid ballot h.servers.files) (λ is. voting_own audit_no s.servers.audit tid ballot h.servers.audit)
        (voting_none s.servers.extra h.servers.extra tid ballot) h.servers;
    records = h.records;
  };
  notices = λ s server tid notice h. record {
    servers = changed_own server (λ value. after_notice value tid notice) s.servers (λ is. notice_own files_no s.servers.files tid notice h.servers.files) (λ is. notice_own audit_no s.servers.audit tid notice h.servers.audit)
        (notice_none s.servers.extra h.servers.extra tid notice) h.servers;
    records = h.records;
  };
  ticks = λ s h. record { servers = record { files = h.servers.files; audit = h.servers.audit; extra = h.servers.extra }; records = h.records };
  logs = λ s rec none h. record { servers = h.servers; records = one_more s.records rec h.records (no_vote_own rec none) };
  prepares = λ s tid server covers h. record { servers = h.servers; records = one_more s.records (records.Prepare tid server covers (changes_in (server_at s.servers server) tid)) h.records (vote_own s.servers tid h.servers server covers) };
  parts = λ s tid f same h. record { servers = h.servers; records = h.records };
  asks = λ s tid may h. record { servers = h.servers; records = h.records };
  begins = λ s client h. record { servers = h.servers; records = h.records };
  meets = λ s tid h. record { servers = h.servers; records = h.records };
  aborts = λ s tid h. record { servers = h.servers; records = h.records };
  forgets = λ s tid h. record { servers = h.servers; records = h.records };
}

-- ---- a whole step

may_any : (event : Event) (work : Work) → MayAsk (λ (tid : Tid). ⊤) event work
may_any (events.Command client line label command) work = λ begun tid found of own. tt
may_any (events.Received peer message) work = by message
  where
    by : (m : Message) → MayAsk (λ (tid : Tid). ⊤) (events.Received peer m) work
    by messages.Hello = tt
    by (messages.Request tid label member number issuer op) = tt
    by (messages.Answered tid member number reply) = tt
    by (messages.AskVote tid) = tt
    by (messages.Covered tid up_to) = tt
    by (messages.VotedYes tid up_to names) = tt
    by (messages.VotedAbort tid cause) = tt
    by (messages.Tell tid outcome) = tt
    by (messages.Told tid further) = tt
    by (messages.Inquire tid) = tt
may_any events.ServeAll work = tt
may_any (events.PeerRestarted peer old new) work = tt
may_any events.Tick work = tt

pub step_own : (node : NodeValue) (event : Event) (free : ℕ) → HaveOwn node.servers → HasOwnStore (store_of (step_work node event free))
step_own node event free own = answers_keep (λ (tid : Tid). ⊤) HasOwnStore own_kept (settle (happen event first))
    (settle_keeps (λ (tid : Tid). ⊤) HasOwnStore own_kept (happen event first) (happens_keep (λ (tid : Tid). ⊤) HasOwnStore own_kept event first (may_any event first)
    (begin_incarnation_keeps (λ (tid : Tid). ⊤) HasOwnStore own_kept (work_on node free) (record { servers = own; records = refl }))))
  where
    first : Work
    first = begin_incarnation (work_on node free)
