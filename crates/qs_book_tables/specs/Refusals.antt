-- Why an operation is refused.
use Rattle.std.specs.Prelude.{Option, Some, if◌then◌else◌, nat_le}
use Rattle.std.specs.Option.{option_map}
use Rattle.qs_base.specs.declared.identifiers.Tid.{Tid}
use Rattle.qs_ops.specs.declared.operation.Op.{Op}
use Rattle.qs_ops.specs.declared.reply.Reply.{Reply}
use Rattle.qs_ops.specs.declared.reply.Reply.TheVariants.{Busy, TooMany}
use Rattle.qs_book_tables.specs.declared.refusal.RequestRefusal.{RequestRefusal}
use Rattle.qs_book_tables.specs.declared.refusal.RequestRefusal.TheVariants.{Full, Held}
use Rattle.qs_ops.specs.Table.{TableValue, share_of, holder}

-- the first refusal that holds
abbrev pub refusal_of : TableValue → Tid → Op → Option RequestRefusal
refusal_of table tid op = if nat_le 1024 (share_of table tid).operations then Some Full else option_map (λ other. Held other) (holder table tid op)

-- the reply that says it
abbrev pub refusal_reply : RequestRefusal → Reply
refusal_reply Full = TooMany
refusal_reply (Held other) = Busy other
