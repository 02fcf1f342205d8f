use Rattle.std.proofs.Common.{refl}
use Rattle.qs_book_conformance.proofs.rows.loan_rows.Goals as goal

pub returns : goal.returns
returns c = record {
  lent = record {
    whole = refl;
    early = refl;
    not_yours = refl;
    not_ended = refl;
    untaken = refl;
    no_yield = refl;
    twice = refl;
    ok = refl;
    ended = refl;
    issued = refl;
  };
  two = record { whole = refl; between = refl; told = refl; second = refl };
  ended = record { waiting = refl; served = refl; yielded = refl; early = refl; unserved = refl; known = refl; not_yours = refl };
  far = record {
    whole = refl;
    untaken = refl;
    taken = refl;
    not_yours = refl;
    ok = refl;
    elsewhere = refl;
    begun_elsewhere = refl;
    loan = refl;
  };
  again = record { second = refl; first = refl; none = refl };
}
