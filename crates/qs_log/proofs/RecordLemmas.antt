-- How long a record may be.
use Rattle.std.proofs.Common.{◌≤◌, ◌<◌, ◌*◌, ◌^◌, List, length, arith}
use Rattle.std.specs.Prelude.{sum_by}
use Rattle.std.proofs.lemmas.List.Sums.{sum_by-le}
use Rattle.qs_ops.specs.Spelled.{IsSpelled, AreChanges, op_length}
use Rattle.qs_ops.specs.declared.operation.Op.{Op}
use Rattle.qs_ops.specs.declared.operation.Op.TheVariants.{Put, Append, Del, Get, Listing, Note, Notes, Bind, Find, Timer, Left, Window, Title, Keep, Fetch, Lend, Extra}
use Rattle.qs_record.specs.Grammar.{IsRecord, record_length}
use Rattle.qs_record.specs.declared.record.Record.{Record}
use Rattle.qs_record.specs.declared.record.Record.TheVariants.{Prepare, Commit, Aborted, End}
use Rattle.qs_record.proofs.Nodes.{rising_few}

op_short : (op : Op) → IsSpelled op → op_length op ≤ 4169
op_short (Put name text) s = omega (arith, s.0.fits, s.1.fits)
op_short (Append name text) s = omega (arith, s.0.fits, s.1.fits)
op_short (Del name) s = omega (arith, s.fits)
op_short (Get name) s = omega (arith, s.fits)
op_short Listing s = omega arith
op_short (Note text) s = omega (arith, s.fits)
op_short Notes s = omega arith
op_short (Bind name text) s = omega (arith, s.0.fits, s.1.fits)
op_short (Find name) s = omega (arith, s.fits)
op_short (Timer name ticks) s = omega (arith, s.fits)
op_short (Left name) s = omega (arith, s.fits)
op_short (Window name text) s = omega (arith, s.0.fits, s.1.fits)
op_short (Title name) s = omega (arith, s.fits)
op_short (Keep name text) s = omega (arith, s.0.fits, s.1.fits)
op_short (Fetch name) s = omega (arith, s.fits)
op_short (Lend client) s = omega arith
op_short (Extra code text) s = omega (arith, s.fits)

changes_small : (changes : List Op) → AreChanges changes → sum_by op_length changes < 2 ^ 46
changes_small changes are =
    let each : sum_by op_length changes ≤ length changes * 4169 = sum_by-le op_length 4169 changes (λ k op within. op_short _ (are.each k op within).spelled) in
    omega (arith, each, are.few)

-- a record that has a spelling is far shorter than a number of 64 bits can tell
pub record_small : (r : Record) → IsRecord r → record_length r < 2 ^ 62
record_small (Prepare tid server covers changes) v = omega (arith, changes_small changes v.2)
record_small (Commit tid told) v = omega (arith, rising_few told v.1)
record_small (Aborted tid) v = omega arith
record_small (End tid) v = omega arith
