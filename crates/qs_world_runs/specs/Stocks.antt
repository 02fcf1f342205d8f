-- What a step has of its servers and of its records, together with what it noted of each transaction. Each thing that a rule does to these is named here:
-- a server serves where that is noted, and a vote is put on record only where nothing was noted that puts it off. What all of them keep, a whole step keeps.
use Rattle.std.specs.Prelude.{◌≡◌, ℕ, true, false, List, [], ◌∷◌, ◌++◌, unwrap_or}
use Rattle.std.specs.BTreeMap.{insert_entry, is_at}
use Rattle.std.specs.Map.{lookup}
use Rattle.qs_base.specs.Order.{tid_cmp}
use Rattle.qs_base.specs.declared.identifiers.ServerNo.{ServerNo}
use Rattle.qs_base.specs.declared.identifiers.Tid.{Tid}
use Rattle.qs_book_machine.specs.Transaction.{is_empty}
use Rattle.qs_ops.specs.Server.{ServerValue, after_notice, after_serving, after_vote, changes_in, is_logged}
use Rattle.qs_ops.specs.Timers.{ticked}
use Rattle.qs_ops.specs.declared.operation.Op.{Op}
use Rattle.qs_ops.specs.declared.reply.Reply.{Reply}
use Rattle.qs_ops.specs.declared.vote.Notice.{Notice}
use Rattle.qs_ops.specs.declared.vote.Vote.{Vote}
use Rattle.qs_record.specs.declared.record.Record.{Record}
use Rattle.qs_record.specs.declared.record.Record.TheVariants as records
use Rattle.qs_node_servers.specs.Servers.{ServersValue, server_at, timers_no, with_server}
use Rattle.qs_node_step.specs.Settling.{is_put_off}
use Rattle.qs_node_step.specs.State.{Work, no_doings}
use Rattle.qs_node_step.specs.declared.state.Doings.{Doings}
use Rattle.qs_world_runs.specs.Stores.{IsNoVote}

pub record Stock : Type 0 where
  pub servers : ServersValue
  pub records : List Record
  pub doings : List (Tid × Doings)

abbrev pub stock_of : Work → Stock
stock_of work = record { servers = work.node.servers; records = work.out.records; doings = work.doings }

abbrev pub doings_in : Tid → Stock → Doings
doings_in tid s = unwrap_or (lookup (is_at (tid_cmp tid)) s.doings) no_doings

-- ---- what a rule does

abbrev pub changed : ServerNo → (ServerValue → ServerValue) → Stock → Stock
changed server f s = record s { servers = with_server server f s.servers }

-- the record is appended
abbrev pub recorded : Record → Stock → Stock
recorded rec s = record s { records = s.records ++ rec ∷ [] }

abbrev pub noted : Tid → (Doings → Doings) → Stock → Stock
noted tid f s = record s { doings = insert_entry tid_cmp s.doings tid (f (doings_in tid s)) }

-- what was noted that puts a vote off stays noted
abbrev pub KeepsOff : (Doings → Doings) → Type 0
KeepsOff f = (doings : Doings) → is_put_off doings ≡ true → is_put_off (f doings) ≡ true

-- a vote of that server may be put on record: it is not put off, and is of some changes that a log keeps
pub record MayPrepare (s : Stock) (tid : Tid) (server : ServerNo) : Type 0 where
  pub due : is_put_off (doings_in tid s) ≡ false
  pub logged : is_logged (server_at s.servers server).kind ≡ true
  pub has : is_empty (changes_in (server_at s.servers server) tid) ≡ false

-- ---- what all that keep

pub record IsKeptStock (P : Stock → Type 0) : Type 0 where
  pub serves : (s : Stock) (server : ServerNo) (tid : Tid) (op : Op) (reply : Reply) → P s → P (noted tid (λ doings. record doings { served = true }) (changed server (λ value. after_serving value tid op reply) s))
  pub notes : (s : Stock) (tid : Tid) (f : Doings → Doings) → KeepsOff f → P s → P (noted tid f s)
  pub votes : (s : Stock) (server : ServerNo) (tid : Tid) (ballot : Vote) → P s → P (changed server (λ value. after_vote value tid ballot) s)
  pub notices : (s : Stock) (server : ServerNo) (tid : Tid) (notice : Notice) → P s → P (changed server (λ value. after_notice value tid notice) s)
  pub ticks : (s : Stock) → P s → P (changed timers_no (λ value. record value { timers = ticked value.timers }) s)
  pub logs : (s : Stock) (rec : Record) → IsNoVote rec → P s → P (recorded rec s)
  pub prepares : (s : Stock) (tid : Tid) (server : ServerNo) (covers : ℕ) → MayPrepare s tid server → P s → P (recorded (records.Prepare tid server covers (changes_in (server_at s.servers server) tid)) s)
