-- What a node knows ends as, where a `&mut` to what is kept of a transaction is returned.
use Rattle.std.specs.Prelude.{List, Option}
use Rattle.std.specs.Borrow.{LendsIf, Fml, MutBor}
use Rattle.std.specs.BTreeMap.{is_at}
use Rattle.std.specs.Map.{set_value}
use Rattle.qs_base.specs.Order.{tid_cmp}
use Rattle.qs_base.specs.declared.identifiers.Tid.{Tid}
use Rattle.qs_tm.specs.contracts.known.Known.{the_row}
use Rattle.qs_tm.specs.contracts.participant.Participant.{the_row as part_row}
use Rattle.qs_tm.specs.declared.participant.Participant.{Participant}

-- what is kept of that transaction is the last value written through r; where r is `None`, nothing changes
abbrev pub lends_part : MutBor (List (Tid × Participant)) → Tid → Option (MutBor Participant) → Fml
lends_part m tid r = LendsIf the_row part_row m r (λ w. set_value (is_at (tid_cmp tid)) m.now w) m.now
