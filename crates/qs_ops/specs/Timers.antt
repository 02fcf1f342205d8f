-- What a timers server of a node keeps. A timer is never committed: it belongs to its transaction until that ends.
use Rattle.std.specs.Prelude.{ℕ, ◌+◌, ◌-◌, List, [], Option, Some, None, unwrap_or, nat_le, if◌then◌else◌}
use Rattle.std.specs.Map.{lookup, remove_entry}
use Rattle.std.specs.BTreeMap.{insert_entry, is_at}
use Rattle.qs_base.specs.Order.{bytes_cmp, tid_cmp}
use Rattle.qs_base.specs.declared.identifiers.Tid.{Tid}
use Rattle.qs_ops.specs.declared.operation.Op.{Op}
use Rattle.qs_ops.specs.declared.operation.Op.TheVariants.{Timer, Left}
use Rattle.qs_ops.specs.declared.reply.Reply.{Reply}
use Rattle.qs_ops.specs.declared.reply.Reply.TheVariants as replies

-- the timers of a transaction: under each name the tick at which it stands at 0; and how many operations count
pub record TimerShareValue : Type 0 where
  pub timers : List (List ℕ × ℕ)
  pub operations : ℕ

pub record TimersValue : Type 0 where
  pub ticks : ℕ  -- of the node so far
  pub shares : List (Tid × TimerShareValue)

abbrev pub no_timers : TimersValue
no_timers = record { ticks = 0; shares = [] }

abbrev pub no_timer_share : TimerShareValue
no_timer_share = record { timers = []; operations = 0 }

abbrev pub timer_share_in : List (Tid × TimerShareValue) → Tid → TimerShareValue
timer_share_in shares tid = unwrap_or (lookup (is_at (tid_cmp tid)) shares) no_timer_share

abbrev pub timer_share_of : TimersValue → Tid → TimerShareValue
timer_share_of table tid = timer_share_in table.shares tid

-- ---- replies

-- a timer counts down by one with each tick, to 0
abbrev pub left_reply : ℕ → Option ℕ → Reply
left_reply ticks None = replies.Absent
left_reply ticks (Some at) = replies.Left (at - ticks)

abbrev pub free_timer_reply : TimersValue → Tid → Op → Option Reply
free_timer_reply table tid (Timer name ticks) = Some replies.Done
free_timer_reply table tid (Left name) =
    Some (left_reply table.ticks (lookup (is_at (bytes_cmp name)) (timer_share_of table tid).timers))
free_timer_reply table tid _ = None

-- too many operations, else this reply
abbrev pub timer_reply_to : TimersValue → Tid → Op → Option Reply
timer_reply_to table tid op = elim (free_timer_reply table tid op) [
  | None ↦ None
  | Some free ↦ Some (if nat_le 1024 (timer_share_of table tid).operations then replies.TooMany else free)
]

-- ---- what serving does

abbrev pub after_timer : ℕ → TimerShareValue → Op → Reply → TimerShareValue
after_timer now share op replies.TooMany = share
after_timer now share (Timer name ticks) replies.Done =
    record share { timers = insert_entry bytes_cmp share.timers name (now + ticks); operations = share.operations + 1 }
after_timer now share op reply = record share { operations = share.operations + 1 }

abbrev pub timer_served : TimersValue → Tid → Op → Reply → TimersValue
timer_served table tid op reply =
    record table { shares = insert_entry tid_cmp table.shares tid (after_timer table.ticks (timer_share_of table tid) op reply) }

-- the transaction's timers are dropped
abbrev pub timers_ended : TimersValue → Tid → TimersValue
timers_ended table tid = record table { shares = remove_entry (is_at (tid_cmp tid)) table.shares }

abbrev pub ticked : TimersValue → TimersValue
ticked table = record table { ticks = table.ticks + 1 }
