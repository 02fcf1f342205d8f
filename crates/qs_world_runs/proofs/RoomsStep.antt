-- A step keeps few changes at files, and few in its votes; and it leaves commit asked for of none but those of which it may be.
use Rattle.qs_world_runs.proofs.Words.{◌≡◌, ◌⊎◌, inl, inr, ℕ, ◌+◌, ◌≤◌, ◌<◌, ◌^◌, ◌==◌, arith, Bool, true, false, [], ◌∷◌, Option, Some, None, refl, sym, subst, ◌∙◌, length, if◌then◌else◌, is_at, lookup, set_value, ⊤, tid_exact, tid_cmp, ServerNo, Tid, at_exact, ServerValue, after_notice, after_serving, after_vote, changes_in, reply_of, Record, ServersValue, server_at, tid_of, aborted_participant, new_participant, Manager, Participant, Every, every_append, AreFew, HasRoom}
use Rattle.qs_world_runs.proofs.Words.{IsNoVote}
use Rattle.qs_world_runs.specs.Stores.{IsKeptStore, Store}
use Rattle.qs_ops.specs.Servers as servers
use Rattle.qs_record.specs.declared.record.Record.TheVariants as records
use Rattle.qs_tm.specs.Manager as tm
use Rattle.qs_tm.specs.Outcomes as outcome_rules
use Rattle.qs_tm.specs.Participant as participant
use Rattle.qs_world_runs.specs.Rooms.{AreAsked, IsAskedOf, IsFewVote}
use Rattle.qs_world_runs.proofs.FewShares.{FewAt, each_left, each_put, each_set, few_share, files_changed, notice_few, serving_few, voting_few}

-- ---- changes

module _ (T : Tid → Type 0) where
  no_vote_few : (rec : Record) → IsNoVote rec → IsFewVote T rec
  no_vote_few (records.Prepare tid server covers changes) none = absurd none
  no_vote_few (records.Commit tid told) none = tt
  no_vote_few (records.Aborted tid) none = tt
  no_vote_few (records.End tid) none = tt

  -- what is pending at files goes into a vote
  pub vote_few : (values : ServersValue) (tid : Tid) (server : ServerNo) → AreFew T values.files.table → T tid → (server.0 == servers.files_no) ≡ true → length (changes_in (server_at values server) tid) < 2 ^ 64
  vote_few values tid server each at is = subst (λ (b : Bool). length (changes_in (if b then values.files else other) tid) < 2 ^ 64) (sym is) (let few = few_share T values.files.table tid each at in less (length (changes_in values.files tid)) _ few.counted few.few)
    where
      other : ServerValue
      other = if server.0 == servers.audit_no then values.audit
          else if server.0 == servers.names_no then values.names
          else if server.0 == servers.timers_no then values.timers
          else if server.0 == servers.windows_no then values.windows
          else if server.0 == servers.scratch_no then values.scratch
          else values.extra

      less : (a b : ℕ) → a ≤ b → b < 2 ^ 64 → a < 2 ^ 64
      less a b p q = omega arith

  pub room_kept : IsKeptStore (λ (tid : Tid). ⊤) (HasRoom T)
  room_kept = record {
    serves = λ s server tid op reply fits says h. record { shares = files_changed (FewAt T) server (λ value. after_serving value tid op reply) s.servers (λ is. serving_few T s.servers.files tid op reply (own s.servers server (λ (v : ServerValue). reply_of v tid op ≡ Some reply) is says) h.shares) h.shares; records = h.records };
    votes = λ s server tid ballot h. record { shares = files_changed (FewAt T) server (λ value. after_vote value tid ballot) s.servers (λ is. voting_few T s.servers.files tid ballot h.shares) h.shares; records = h.records };
    notices = λ s server tid notice h. record { shares = files_changed (FewAt T) server (λ value. after_notice value tid notice) s.servers (λ is. notice_few T s.servers.files tid notice h.shares) h.shares; records = h.records };
    ticks = λ s h. record { shares = h.shares; records = h.records };
    logs = λ s rec none h. record { shares = h.shares; records = every_append (IsFewVote T) s.records (rec ∷ []) h.records (no_vote_few rec none, tt) };
    prepares = λ s tid server covers h. record { shares = h.shares; records = every_append (IsFewVote T) s.records (records.Prepare tid server covers (changes_in (server_at s.servers server) tid) ∷ []) h.records (vote_few s.servers tid server h.shares, tt) };
    parts = λ s tid f same h. record { shares = h.shares; records = h.records };
    asks = λ s tid may h. record { shares = h.shares; records = h.records };
    begins = λ s client h. record { shares = h.shares; records = h.records };
    meets = λ s tid h. record { shares = h.shares; records = h.records };
    aborts = λ s tid h. record { shares = h.shares; records = h.records };
    forgets = λ s tid h. record { shares = h.shares; records = h.records };
  }
    where
      -- the server of that number is files
      own : (values : ServersValue) (server : ServerNo) (Q : ServerValue → Type 0) → (server.0 == servers.files_no) ≡ true → Q (server_at values server) → Q values.files
      own values server Q is q = by (server.0 == servers.files_no) is q
        where
          by : (b : Bool) → b ≡ true → Q (if b then values.files
              else if server.0 == servers.audit_no then values.audit
              else if server.0 == servers.names_no then values.names
              else if server.0 == servers.timers_no then values.timers
              else if server.0 == servers.windows_no then values.windows
              else if server.0 == servers.scratch_no then values.scratch
              else values.extra) → Q values.files
          by true e q = q
          by false e q = absurd (cc e)

-- ---- what commit was asked for

module _ (A : Tid → Type 0) where
  abbrev pub Asked : Store → Type 0
  Asked s = AreAsked A s.manager

  changed_asked : (manager : Manager) (tid : Tid) (f : Participant → Participant) → ((part : Participant) → (f part).asked ≡ true → (part.asked ≡ true) ⊎ A tid) → AreAsked A manager → AreAsked A (tm.with_part tid f manager)
  changed_asked manager tid f goes each = by (lookup (is_at (tid_cmp tid)) manager.known) refl
    where
      goes_at : (k : Tid) (part : Participant) → is_at (tid_cmp tid) k ≡ true → IsAskedOf A (k, part) → IsAskedOf A (k, f part)
      goes_at k part at had asked = of (goes part asked)
        where
          of : (part.asked ≡ true) ⊎ A tid → A k
          of (inl was) = had was
          of (inr may) = subst A (at_exact tid k at) may

      by : (o : Option Participant) → lookup (is_at (tid_cmp tid)) manager.known ≡ o → Every (IsAskedOf A) (elim o [ None ↦ manager.known | Some v ↦ set_value (is_at (tid_cmp tid)) manager.known (f v) ])
      by None none = each
      by (Some part) there = each_set (IsAskedOf A) (is_at (tid_cmp tid)) f goes_at manager.known each part there

  put_asked : (manager : Manager) (tid : Tid) (part : Participant) → part.asked ≡ false → AreAsked A manager → AreAsked A (tm.put_part tid part manager)
  put_asked manager tid part unasked each = each_put (IsAskedOf A) tid_cmp tid_exact tid part manager.known (λ asked. absurd (cc (asked, unasked))) each

  put_new : (manager : Manager) (tid : Tid) (part : Participant) → part.asked ≡ false → AreAsked A manager → (b : Bool) → AreAsked A (if b then manager else tm.put_part tid part manager)
  put_new manager tid part unasked each true = each
  put_new manager tid part unasked each false = put_asked manager tid part unasked each

  pub asked_kept : IsKeptStore A Asked
  asked_kept = record {
    serves = λ s server tid op reply fits says h. h;
    votes = λ s server tid ballot h. h;
    notices = λ s server tid notice h. h;
    ticks = λ s h. h;
    logs = λ s rec none h. changed_asked s.manager (tid_of rec) (outcome_rules.logged rec) (λ part asked. inl asked) h;
    prepares = λ s tid server covers h. changed_asked s.manager tid (outcome_rules.logged (records.Prepare tid server covers (changes_in (server_at s.servers server) tid))) (λ part asked. inl asked) h;
    parts = λ s tid f same h. changed_asked s.manager tid f (λ part asked. inl (sym (same part) ∙ asked)) h;
    asks = λ s tid may h. changed_asked s.manager tid participant.ask (λ part asked. inr may) h;
    begins = λ s client h. put_asked (record s.manager { begun = s.manager.begun + 1 }) (tm.next_tid s.manager) (participant.begun_participant client s.manager.ticks) refl h;
    meets = λ s tid h. put_new s.manager tid (new_participant (tm.is_home tid s.manager)) refl h (tm.knows tid s.manager);
    aborts = λ s tid h. put_new s.manager tid (aborted_participant (tm.is_home tid s.manager)) refl h (tm.knows tid s.manager);
    forgets = λ s tid h. each_left (IsAskedOf A) (is_at (tid_cmp tid)) s.manager.known h;
  }
