use Rattle.std.proofs.Common.{refl}
use Rattle.std.specs.Fmt.{digits}
use Rattle.qs_book_conformance.proofs.rows.file_rows.Goals as goal

pub returns : goal.returns
unfolding digits
returns c = record {
  quota = record {
    refused = refl;
    limit = refl;
    recoverable = refl;
    room = refl;
    within = refl;
    no_room_within = refl;
    other = refl;
    default = refl;
    bytes = refl;
  };
  note = record { whole = refl; elsewhere = refl; no_audit = refl; unnoted = refl; unserved = refl; not_asked_for = refl; issuer = refl };
  found = record { found = refl; unnoted = refl; unserved = refl; noted = refl; over = refl; recorded = refl };
  crossed = record { crossed = refl; found = refl; lost = refl; lost_found = refl };
}
