use Rattle.std.proofs.Common.{refl}
use Rattle.qs_book_conformance.proofs.rows.owner_rows.Goals as goal

pub returns : goal.returns
returns c = record {
  commit = record {
    whole = refl;
    empty = refl;
    label = refl;
    by_other = refl;
    no_begin = refl;
    skipped = refl;
    op = refl;
    twice = refl;
    early = refl;
    other = refl;
    not_ended = refl;
    ask = refl;
    abort = refl;
    undecided = refl;
    cell = refl;
    unlawful = refl;
    past = refl;
  };
  abort = record { whole = refl; again = refl; other_cause = refl; late_request = refl; not_ended = refl };
  full = record {
    whole = refl;
    room = refl;
    need = refl;
    begun_too = refl;
    begun_later = refl;
    ended = refl;
    other_label = refl;
    old = refl;
  };
}
