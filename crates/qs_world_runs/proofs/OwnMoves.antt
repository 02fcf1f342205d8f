-- Each Prepare in a log has operations of its own server: as a run begins, and after each move; a restart finds what the log has.
use Rattle.qs_world_runs.proofs.Words.{◌≡◌, ℕ, ◌<◌, ◌==◌, ◌||◌, ◌++◌, not, Bool, true, false, List, [], ◌∷◌, fold, Option, Some, None, refl, sym, subst, ◌∙◌, if◌then◌else◌, eqb-true, or_right, list_all-append, Global, filter, list_all, NodeNo, Tid, no_kept, is_recoverable, after_keeping, Record, Prepared, Recovery, found_record, mark_committed, nothing_said, recovery, ServersValue, recovered_of, after_step, effects_of, step_work, Event, Setting, Cut, Meet, Move, Rise, Step, Stop, cut_log}
use Rattle.qs_world_runs.proofs.Words.{cut_with, event_of, log_after, moved, risen_host, step_with, stepped_host, stopped_host, waiting_after, IsOpening, is_earlier, is_record, Run, Host, Opening, World, start, Every, every_of, every_append, every_filter, every_map, is_own_vote, store_of}
use Rattle.qs_ipc.specs.Queue.{is_for}
use Rattle.qs_node_kept.specs.declared.kept.Kept.{Kept}
use Rattle.qs_ops.specs.Servers as servers
use Rattle.qs_record.specs.declared.record.Record.TheVariants as records
use Rattle.qs_restart.specs.Recovery.{audit_no, files_no, is_in_doubt, is_of, is_vote_of, prepare_of, with_list}
use Rattle.qs_node_step.specs.Opening.{keep_changes, opened_node, opened_servers}
use Rattle.qs_world_refine.proofs.SoundBegin.{all_implied}
use Rattle.qs_world_refine.proofs.SoundParts.{and_both}
use Rattle.qs_world_lawful.proofs.CoherentOpenings.{each_is}
use Rattle.qs_world_runs.specs.OwnChanges.{EachHasOwnChanges, HasOwnChanges, HasOwnStore, HaveOwn, OwnChangesAt}
use Rattle.qs_world_runs.proofs.OwnShares.{all_for, keeping_none, keeping_own}
use Rattle.qs_world_runs.proofs.OwnSteps.{changed_own, step_own}

-- ---- what a log says

abbrev IsOwn : Record → Type 0
IsOwn rec = is_own_vote rec ≡ true

abbrev IsOwnPrepared : Prepared → Type 0
IsOwnPrepared vote = IsOwn (prepare_of vote)

marked_own : (tid : Tid) (vote : Prepared) → IsOwnPrepared vote → IsOwnPrepared (mark_committed tid vote)
marked_own tid vote own = by (is_of tid vote)
  where
    by : (b : Bool) → IsOwnPrepared (if b then record vote { committed = true } else vote)
    by true = own
    by false = own

listed_own : (tid : Tid) (told : List NodeNo) (said : Recovery) → Every IsOwnPrepared said.prepared → Every IsOwnPrepared (with_list tid told said).prepared
listed_own tid [] said own = every_filter IsOwnPrepared (λ (vote : Prepared). not (is_of tid vote)) said.prepared own
listed_own tid (node ∷ nodes) said own = every_map IsOwnPrepared IsOwnPrepared (mark_committed tid) (marked_own tid) said.prepared own

found_own : (said : Recovery) (rec : Record) → IsOwn rec → Every IsOwnPrepared said.prepared → Every IsOwnPrepared (found_record said rec).prepared
found_own said (records.Prepare tid server covers changes) new own =
    every_append IsOwnPrepared (filter (λ (other : Prepared). not (is_vote_of tid server other)) said.prepared) (record { tid = tid; server = server; covers = covers; changes = changes; committed = false } ∷ [])
    (every_filter IsOwnPrepared (λ (other : Prepared). not (is_vote_of tid server other)) said.prepared own) (new, tt)
found_own said (records.Commit tid told) new own = listed_own tid told _ own
found_own said (records.Aborted tid) new own = every_filter IsOwnPrepared (λ (vote : Prepared). not (is_of tid vote)) said.prepared own
found_own said (records.End tid) new own = every_filter IsOwnPrepared (λ (vote : Prepared). not (is_of tid vote)) said.prepared own

all_found : (log : List Record) (said : Recovery) → Every IsOwn log → Every IsOwnPrepared said.prepared → Every IsOwnPrepared (fold found_record said log).prepared
all_found [] said each own = own
all_found (rec ∷ log) said each own = all_found log (found_record said rec) each.1 (found_own said rec each.0 own)

-- ---- a node that opens

keeps_own : (values : ServersValue) (rec : Record) → IsOwn rec → HaveOwn values → HaveOwn (keep_changes values rec)
keeps_own values (records.Prepare tid server covers changes) own have = changed_own server (λ value. after_keeping value tid changes) values
    (λ is. keeping_own files_no values.files tid changes (sym (all_for server files_no is changes) ∙ its (is_recoverable server.0) (rw is refl) own) have.files)
    (λ is. keeping_own audit_no values.audit tid changes (sym (all_for server audit_no is changes) ∙ its (is_recoverable server.0) (at_audit (server.0 == servers.files_no) (server.0 == servers.audit_no) (server.0 == servers.extra_no) is) own) have.audit)
    (keeping_none values.extra have.extra tid changes) have
  where
    its : (b : Bool) → b ≡ true → (not b || list_all (is_for server) changes) ≡ true → list_all (is_for server) changes ≡ true
    its true on is = is
    its false on is = absurd (cc on)

    at_audit : (a b c : Bool) → b ≡ true → (a || (b || c)) ≡ true
    at_audit true b c on = refl
    at_audit false b c on = rw on refl
keeps_own values (records.Commit tid told) own have = have
keeps_own values (records.Aborted tid) own have = have
keeps_own values (records.End tid) own have = have

keep_all : (recs : List Record) (values : ServersValue) → Every IsOwn recs → HaveOwn values → HaveOwn (fold keep_changes values recs)
keep_all [] values each own = own
keep_all (rec ∷ recs) values each own = keep_all recs (keep_changes values rec) each.1 (keeps_own values rec each.0 own)

opened_own : (alloc : Global) (setting : Setting) (log : List Record) (kept : Kept) → list_all is_own_vote log ≡ true → HaveOwn (opened_node alloc setting (recovered_of log) kept).servers
opened_own alloc setting log kept all = keep_all (recovered_of log).in_doubt (opened_servers setting.quota (recovered_of log))
    (every_map IsOwnPrepared IsOwn prepare_of (λ vote own. own) (filter is_in_doubt (recovery log).prepared) (every_filter IsOwnPrepared is_in_doubt (recovery log).prepared (all_found log nothing_said (every_of is_own_vote log all) tt)))
    (record { files = refl; audit = refl; extra = record { kind = refl; none = refl } })

-- ---- a step

both_own : (xs ys : List Record) → list_all is_own_vote xs ≡ true → list_all is_own_vote ys ≡ true → list_all is_own_vote (xs ++ ys) ≡ true
both_own xs ys x y = list_all-append is_own_vote xs ys ∙ rw (x, y) refl

module _ (host : Host) (event : Event) (free : ℕ) (own : HasOwnChanges host) where
  after : HasOwnStore (store_of (step_work host.node event free))
  after = step_own host.node event free own.servers

  log_own : list_all is_own_vote (log_after host (effects_of host.node event free)) ≡ true
  log_own = by (effects_of host.node event free).force
    where
      by : (b : Bool) → list_all is_own_vote (if b then host.log ++ (host.waiting ++ (effects_of host.node event free).records) else host.log) ≡ true
      by true = both_own host.log (host.waiting ++ (effects_of host.node event free).records) own.logged (both_own host.waiting (effects_of host.node event free).records own.waits after.records)
      by false = own.logged

  waits_own : list_all is_own_vote (waiting_after host (effects_of host.node event free)) ≡ true
  waits_own = by (effects_of host.node event free).force
    where
      by : (b : Bool) → list_all is_own_vote (if b then [] else host.waiting ++ (effects_of host.node event free).records) ≡ true
      by true = refl
      by false = both_own host.waiting (effects_of host.node event free).records own.waits after.records

  stepped_own : (stamp : ℕ) → HasOwnChanges (stepped_host stamp (after_step host.node event free) (effects_of host.node event free) host)
  stepped_own stamp = record { servers = after.servers; logged = log_own; waits = waits_own }

  cut_own : (is_kept : Bool) → list_all is_own_vote (cut_log host is_kept (effects_of host.node event free)) ≡ true
  cut_own true = log_own
  cut_own false = own.logged

-- ---- each move

at_one : (world : World) (n : ℕ) (host : Host) → OwnChangesAt world → (n < world.size → HasOwnChanges host) → (k : ℕ) → k < world.size → HasOwnChanges (if k == n then host else world.hosts k)
at_one world n host all own k low = by (k == n) refl
  where
    by : (b : Bool) → (k == n) ≡ b → HasOwnChanges (if b then host else world.hosts k)
    by true same = own (subst (λ (i : ℕ). i < world.size) (eqb-true k n same) low)
    by false apart = all k low

pub own_moved : (world : World) (move : Move) → OwnChangesAt world → OwnChangesAt (moved move world)
own_moved world (Step n stamp free source) all = by (event_of world n stamp source)
  where
    by : (e : Option Event) → OwnChangesAt (step_with world n stamp free source e)
    by None = all
    by (Some event) = at_one world n (stepped_host stamp (after_step (world.hosts n).node event free) (effects_of (world.hosts n).node event free) (world.hosts n)) all (λ low. stepped_own (world.hosts n) event free (all n low) stamp)
own_moved world (Cut n stamp free source is_kept cause) all = by (event_of world n stamp source)
  where
    by : (e : Option Event) → OwnChangesAt (cut_with world n stamp free is_kept cause e)
    by None = all
    by (Some event) = at_one world n (stopped_host stamp (cut_log (world.hosts n) is_kept (effects_of (world.hosts n).node event free)) (world.hosts n)) all
        (λ low. record { servers = (all n low).servers; logged = cut_own (world.hosts n) event free (all n low) is_kept; waits = refl })
own_moved world (Stop n stamp cause) all = at_one world n (stopped_host stamp (world.hosts n).log (world.hosts n)) all (λ low. record { servers = (all n low).servers; logged = (all n low).logged; waits = refl })
own_moved world (Rise n stamp inc) all = at_one world n (risen_host stamp inc (recovered_of (world.hosts n).log) (world.hosts n)) all (λ low. record {
  servers = opened_own (world.hosts n).node.manager.alloc (record (world.hosts n).node.setting { inc = inc }) (world.hosts n).log (world.hosts n).node.kept.saved (all n low).logged;
  logged = (all n low).logged;
  waits = (all n low).waits;
})
own_moved world (Meet n stamp m inc) all = at_one world n (record (world.hosts n) { stamp = stamp }) all (λ low. record { servers = (all n low).servers; logged = (all n low).logged; waits = (all n low).waits })

-- ---- a run

own_start : (o : Opening) → IsOpening o → OwnChangesAt (start o)
own_start o opens n low = record { servers = opened_own o.alloc (o.settings n) (o.logs n) no_kept own; logged = own; waits = refl }
  where
    of_record : (rec : Record) → is_record o n rec ≡ true → is_own_vote rec ≡ true
    of_record (records.Prepare tid server covers changes) is = or_right (not (is_recoverable server.0)) _ (and_both (is_recoverable server.0) _ (and_both (is_earlier o tid) _ is).1).1
    of_record (records.Commit tid told) is = refl
    of_record (records.Aborted tid) is = refl
    of_record (records.End tid) is = refl

    own : list_all is_own_vote (o.logs n) ≡ true
    own = all_implied (is_record o n) is_own_vote of_record (o.logs n) (each_is o.size (λ m. list_all (is_record o m) (o.logs m)) opens.logs n low)

own_over : (moves : List Move) (old new : World) → Run old moves new → OwnChangesAt old → OwnChangesAt new
own_over [] old new run all = subst OwnChangesAt (sym run) all
own_over (move ∷ moves) old new run all = own_over moves (moved move old) new run.1 (own_moved old move all)

pub each_has_own_changes : EachHasOwnChanges
each_has_own_changes o moves world opens run = own_over moves (start o) world run (own_start o opens)
