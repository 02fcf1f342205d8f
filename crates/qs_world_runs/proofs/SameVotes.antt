-- Each vote that a step puts on record is of what its server had pending as the step began: a server that serves a request of a transaction in the step casts
-- no vote on it then, and by a vote or a notice all that is pending stays, or nothing is left to vote on.
use Rattle.qs_world_runs.proofs.Words.{◌≡◌, ◌⊎◌, inl, inr, ℕ, ◌==◌, Bool, true, false, List, [], ◌∷◌, ◌++◌, Option, refl, sym, ap, subst, ◌∙◌, if◌then◌else◌, is_at, unwrap_or, tid_exact, or-true, tid_cmp, ServerNo, Tid, tid_itself, IsRising, is_empty, ServerValue, after_notice, after_serving, after_vote, changes_in, is_logged, ticked, Op, ServerKind, Record, ServersValue, server_at, with_server, is_put_off, no_doings, work_on, Doings, Opening, World, Every, HoldsStill, same_or_apart, every_append}
use Rattle.qs_world_runs.proofs.Words.{StepMay, step_may, book_in, IsNoVote}
use Rattle.qs_book_laws.proofs.Maps.{lookup_put, lookup_put_apart}
use Rattle.qs_ops.specs.Servers as numbers
use Rattle.qs_record.specs.declared.record.Record.TheVariants as records
use Rattle.qs_node_servers.specs.Servers.{timers_no}
use Rattle.qs_node_step.specs.State.{NodeValue}
use Rattle.qs_world_lawful.specs.Tables.{HoldsKinds, HoldsServers, is_seen}
use Rattle.qs_world_lawful.proofs.Apart.{Apart}
use Rattle.qs_world_refine.proofs.ServerKinds.{notice_kind, serving_kind, vote_kind}
use Rattle.qs_world_runs.specs.Stocks.{IsKeptStock, KeepsOff, Stock, doings_in, noted, stock_of}
use Rattle.qs_world_runs.specs.VotesSame.{EachVoteSame, IsVoteSame}
use Rattle.qs_world_runs.proofs.SameShares.{StaysAt, either_at, notice_at, serving_at, vote_at}
use Rattle.qs_world_runs.proofs.StockStages.{step_stocked}

-- ---- what was noted

abbrev IsDue : Stock → Tid → Type 0
IsDue s t = is_put_off (doings_in t s) ≡ false

noted_is : (s : Stock) (tid : Tid) (f : Doings → Doings) → doings_in tid (noted tid f s) ≡ f (doings_in tid s)
noted_is s tid f = ap (λ (o : Option Doings). unwrap_or o no_doings) (lookup_put tid_cmp tid (f (doings_in tid s)) (tid_itself tid) s.doings)

due_before : (s : Stock) (tid : Tid) (f : Doings → Doings) → KeepsOff f → (t : Tid) → IsDue (noted tid f s) t → IsDue s t
due_before s tid f keeps t due = either (same_or_apart tid t)
  where
    of : (b : Bool) → is_put_off (doings_in tid s) ≡ b → IsDue (noted tid f s) tid → is_put_off (doings_in tid s) ≡ false
    of false is now = is
    of true is now = absurd (let off : is_put_off (f (doings_in tid s)) ≡ true = keeps (doings_in tid s) is in let open_now : is_put_off (f (doings_in tid s)) ≡ false = sym (ap is_put_off (noted_is s tid f)) ∙ now in cc (off, open_now))

    either : (tid ≡ t) ⊎ Apart tid t → IsDue s t
    either (inl same) = subst (λ (u : Tid). IsDue (noted tid f s) u → IsDue s u) same (of (is_put_off (doings_in tid s)) refl) due
    either (inr far) = subst (λ (o : Option Doings). is_put_off (unwrap_or o no_doings) ≡ false) (lookup_put_apart tid_cmp tid (f (doings_in tid s)) (tid_exact tid) (is_at (tid_cmp t)) far.at s.doings) due

-- what was served puts a vote off
put_off : (doings : Doings) → is_put_off (record doings { served = true }) ≡ true
put_off doings = or-true doings.asked

never_due : (s : Stock) (tid : Tid) → IsDue (noted tid (λ doings. record doings { served = true }) s) tid → ⊥
never_due s tid due = let off : is_put_off (doings_in tid (noted tid (λ doings. record doings { served = true }) s)) ≡ true = ap is_put_off (noted_is s tid (λ doings. record doings { served = true })) ∙ put_off (doings_in tid s) in cc (off, due)

module _ (node : NodeValue) where
  -- a server whose changes a log keeps has pending, of what it may still vote on, what it had as the step began, or nothing
  record IsAsBegun (s : Stock) (first now : ServerValue) : Type 0 where
    pub kind : now.kind ≡ first.kind
    pub rises : is_logged first.kind ≡ true → IsRising tid_cmp now.table.shares
    pub same : is_logged first.kind ≡ true → (t : Tid) → IsDue s t → is_empty (changes_in now t) ≡ false → changes_in now t ≡ changes_in first t

  record AsBegun (s : Stock) : Type 0 where
    pub servers : (server : ServerNo) → IsAsBegun s (server_at node.servers server) (server_at s.servers server)
    pub votes : Every (IsVoteSame node) s.records

  -- ---- one server is changed, or none

  still : (s e : Stock) → ((t : Tid) → IsDue e t → IsDue s t) → (first now : ServerValue) → IsAsBegun s first now → IsAsBegun e first now
  still s e before first now i = record { kind = i.kind; rises = i.rises; same = λ logged t due has. i.same logged t (before t due) has }

  module _ (s : Stock) (server : ServerNo) (f : ServerValue → ServerValue) (doings : List (Tid × Doings)) where
    abbrev after : Stock
    after = record { servers = with_server server f s.servers; records = s.records; doings = doings }

    module _ (before : (t : Tid) → IsDue after t → IsDue s t) (kinds : (value : ServerValue) → (f value).kind ≡ value.kind)
        (stays : (value : ServerValue) → IsRising tid_cmp value.table.shares → is_logged value.kind ≡ true → StaysAt (IsDue after) value (f value)) where
      goes : (first now : ServerValue) → IsAsBegun s first now → IsAsBegun after first (f now)
      goes first now i = record {
        kind = kinds now ∙ i.kind;
        rises = λ logged. (stays now (i.rises logged) (ap is_logged i.kind ∙ logged)).rises;
        same = λ logged t due has. let same : changes_in (f now) t ≡ changes_in now t = (stays now (i.rises logged) (ap is_logged i.kind ∙ logged)).stays t due has in
            same ∙ i.same logged t (before t due) (subst (λ (ops : List Op). is_empty ops ≡ false) same has);
      }

      changed_goes : AsBegun s → AsBegun after
      changed_goes as_begun = record {
        servers = λ other. either other (either_at f s.servers server other);
        votes = as_begun.votes;
      }
        where
          either : (other : ServerNo) → (server_at (with_server server f s.servers) other ≡ server_at s.servers other) ⊎ (server_at (with_server server f s.servers) other ≡ f (server_at s.servers other))
              → IsAsBegun after (server_at node.servers other) (server_at (with_server server f s.servers) other)
          either other (inl same) = subst (IsAsBegun after (server_at node.servers other)) (sym same) (still s after before (server_at node.servers other) (server_at s.servers other) (as_begun.servers other))
          either other (inr new) = subst (IsAsBegun after (server_at node.servers other)) (sym new) (goes (server_at node.servers other) (server_at s.servers other) (as_begun.servers other))

  noted_goes : (s : Stock) (tid : Tid) (f : Doings → Doings) → KeepsOff f → AsBegun s → AsBegun (noted tid f s)
  noted_goes s tid f keeps as_begun = record {
    servers = λ other. still s (noted tid f s) (due_before s tid f keeps) (server_at node.servers other) (server_at s.servers other) (as_begun.servers other);
    votes = as_begun.votes;
  }

  -- ---- a record

  recorded_goes : (s : Stock) (rec : Record) → IsVoteSame node rec → AsBegun s → AsBegun (record s { records = s.records ++ rec ∷ [] })
  recorded_goes s rec same as_begun = record { servers = λ other. still s _ (λ t due. due) (server_at node.servers other) (server_at s.servers other) (as_begun.servers other); votes = every_append (IsVoteSame node) s.records (rec ∷ []) as_begun.votes (same, tt) }

  no_vote : (rec : Record) → IsNoVote rec → IsVoteSame node rec
  no_vote (records.Prepare tid server covers changes) none = absurd none
  no_vote (records.Commit tid told) none = tt
  no_vote (records.Aborted tid) none = tt
  no_vote (records.End tid) none = tt

  begun_kept : IsKeptStock AsBegun
  begun_kept = record {
    serves = λ s server tid op reply as_begun. let served : Doings → Doings = λ doings. record doings { served = true } in
        changed_goes s server (λ value. after_serving value tid op reply) (noted tid served s).doings (due_before s tid served (λ doings off. put_off doings)) (λ value. serving_kind value tid op reply)
        (λ value rises logged. serving_at value tid rises logged (IsDue (noted tid served s)) op reply (never_due s tid)) as_begun;
    notes = noted_goes;
    votes = λ s server tid ballot. changed_goes s server (λ value. after_vote value tid ballot) s.doings (λ t due. due) (λ value. vote_kind value tid ballot) (λ value rises logged. vote_at value tid rises logged (IsDue s) ballot);
    notices = λ s server tid notice. changed_goes s server (λ value. after_notice value tid notice) s.doings (λ t due. due) (λ value. notice_kind value tid notice) (λ value rises logged. notice_at value tid rises logged (IsDue s) notice);
    ticks = λ s. changed_goes s timers_no (λ value. record value { timers = ticked value.timers }) s.doings (λ t due. due) (λ value. refl) (λ value rises logged. record { rises = rises; stays = λ t due has. refl });
    logs = λ s rec none. recorded_goes s rec (no_vote rec none);
    prepares = λ s tid server covers may as_begun. let i : IsAsBegun s (server_at node.servers server) (server_at s.servers server) = as_begun.servers server in
        recorded_goes s (records.Prepare tid server covers (changes_in (server_at s.servers server) tid)) (i.same (ap is_logged (sym i.kind) ∙ may.logged) tid may.due may.has) as_begun;
  }

  -- ---- as a step begins

  -- the server of a number, as its tests choose it
  abbrev tested : (a b c d e g : Bool) → ServersValue → ServerValue
  tested a b c d e g v = if a then v.files else if b then v.audit else if c then v.names else if d then v.timers else if e then v.windows else if g then v.scratch else v.extra

  begun_first : (free : ℕ) → HoldsKinds node.servers → IsRising tid_cmp node.servers.files.table.shares → IsRising tid_cmp node.servers.audit.table.shares → AsBegun (stock_of (work_on node free))
  begun_first free k files audit = record {
    servers = λ server. record { kind = refl; rises = rising server; same = λ logged t due has. refl };
    votes = tt;
  }
    where
      other : (kind its : ServerKind) → kind ≡ its → is_logged its ≡ false → is_logged kind ≡ true → ⊥
      other kind its is none logged = let off : is_logged kind ≡ false = ap is_logged is ∙ none in cc (off, logged)

      rising : (server : ServerNo) → is_logged (server_at node.servers server).kind ≡ true → IsRising tid_cmp (server_at node.servers server).table.shares
      rising server = by (server.0 == numbers.files_no) (server.0 == numbers.audit_no) (server.0 == numbers.names_no) (server.0 == numbers.timers_no) (server.0 == numbers.windows_no) (server.0 == numbers.scratch_no)
        where
          by : (a b c d e g : Bool) → is_logged (tested a b c d e g node.servers).kind ≡ true → IsRising tid_cmp (tested a b c d e g node.servers).table.shares
          by true b c d e g logged = files
          by false true c d e g logged = audit
          by false false true d e g logged = absurd (other node.servers.names.kind _ k.names refl logged)
          by false false false true e g logged = absurd (other node.servers.timers.kind _ k.timers refl logged)
          by false false false false true g logged = absurd (other node.servers.windows.kind _ k.windows refl logged)
          by false false false false false true logged = absurd (other node.servers.scratch.kind _ k.scratch refl logged)
          by false false false false false false logged = absurd (other node.servers.extra.kind _ k.extra refl logged)

pub each_vote_same : (P : Opening → World → Type 0) → EachVoteSame P
each_vote_same P o world n stamp free source event j makes = (step_stocked (AsBegun node) (begun_kept node) node event free
    (begun_first node free h.kinds h.files.rising h.audit.rising)).votes
  where
    node : NodeValue
    node = (world.hosts n).node

    its : StepMay world n source
    its = step_may world n stamp source makes.may

    still : HoldsStill (book_in o world) node
    still = ((j.held.nodes n its.low).runs its.runs).still

    h : HoldsServers (is_seen (book_in o world) node.setting.node) still.state node.servers
    h = still.servers
